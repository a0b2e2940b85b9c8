use Rattle.regex_lite_engine.proofs.Common.{◌≡◌, ℕ, suc, ◌+◌, ◌<◌, ◌≤◌, true, List, [], ◌∷◌, ◌++◌}
use Rattle.regex_lite_engine.proofs.Common.{length, drop, replicate, Some, None, sym, refl, ap, ◌∙◌}
use Rattle.regex_lite_engine.proofs.Common.{subst, arith, drop-cons, state_relabelled, best_again}
use Rattle.regex_lite_engine.proofs.Common.{Thread, thread_at, KeepsPosition, best_of, StepsAt}
use Rattle.regex_lite_engine.proofs.Common.{begun, with_starts, Reported, no_start, StaysCounted}
use Rattle.regex_lite_engine.proofs.Common.{Best, Row, Start, all_relabelled, inl, inr}
use Rattle.std.specs.Prelude.{not, ◌==◌}
use Rattle.regex_lite_engine.specs.Pikevm.Machine.{BestState, State}
use Rattle.std.proofs.Math.ListN.{drop_of_length-le}
use Rattle.regex_lite_engine.specs.Pikevm.Capacity.{explores}
use Rattle.regex_lite_engine.specs.Pikevm.Searching.{ways_at}
use Rattle.regex_lite_engine.specs.Pikevm.Stepping.{StepsTo}
use Rattle.regex_lite_engine.proofs.search.CountLemmas.{counted_at_first, still_counted}
use Rattle.regex_lite_engine.proofs.pikevm.StateLemmas.{takes_up}
use Rattle.regex_lite_engine.proofs.pikevm.StepLemmas.{follows_on, room_pushed, HasFollowed}
use Rattle.regex_lite_engine.proofs.pikevm.GenerationLemmas.{begun_below, start_begun, start_taken}
use Rattle.regex_lite_engine.proofs.pikevm.cache.Cache.follow.Given as given
use Rattle.regex_lite_engine.proofs.pikevm.cache.Cache.follow.Goals as goal
use Rattle.regex_lite_engine.proofs.pikevm.cache.Cache.follow.Goals.{After-explore}

-- the best match with a row that is the same
has_row : (best : Best) (i : Reported) (at : ℕ) (row row' : Row) → best ≡ Some (i, at, row) → row
    ≡ row' → best ≡ Some (i, at, row')
has_row best i at row row' is same = cc

-- the k-th of the ways is loaded
module _ (starts : List Start) (reported : ℕ → Reported) (best : Best) (m w : State) (k : ℕ)
    (kept : KeepsPosition m w) where
  abbrev ways : List Thread
  ways = with_starts starts reported best (length m.row) m.threads

  taken_at : k < length ways → (thread : Thread)
      → thread_at (w.threads ++ begun reported (replicate (length w.row) None) starts) k ≡ thread
      → thread_at ways k ≡ thread
  taken_at lt thread is =
      (start_taken starts reported (length m.row) best m.threads k lt).1
      ∙ ap (λ ts. thread_at (ts ++ begun reported (replicate (length m.row) None) starts) k)
      (sym kept.threads)
      ∙ ap (λ n. thread_at (w.threads ++ begun reported (replicate n None) starts) k) (sym kept.row)
      ∙ is

  taken_first : k < length ways → (thread : Thread)
      → thread_at (w.threads ++ begun reported (replicate (length w.row) None) starts) k ≡ thread
      → drop k ways ≡ thread ∷ drop (k + 1) ways
  taken_first lt thread is =
      let next : suc k ≡ k + 1 = omega arith in
      drop-cons ways k (0, no_start, []) lt
      ∙ ap (λ t. t ∷ drop (suc k) ways) (taken_at lt thread is)
      ∙ ap (λ j. thread ∷ drop j ways) next

pub load_thread-place-requires : goal.load_thread-place-requires
load_thread-place-requires g c =
    let a = c.args in let i = a.self.now.walk.memory in let v = c.ways.invariant in
    let lt : c.ways.k < length
    (ways_at (g.P.Patterns.starts a.patterns.now) (g.S.ThreadStart.reported_of a.here.at)
    a.self.now) =
    (let t = c.ways-test.true in let e = c.ways-k-end.ensures
    (g.S.ThreadStart.reported_of a.here.at) in
    omega (arith, t, e)) in
    let taken = start_taken (g.P.Patterns.starts a.patterns.now)
    (g.S.ThreadStart.reported_of a.here.at) (length i.row) (best_of a.self.now.best) i.threads
    c.ways.k lt in
    let few = taken.0 in let same = ap (λ (ts : List Thread). length ts) v.followed.kept.threads in
    omega (arith, few, same)

pub explore-requires : goal.explore-requires
explore-requires g c =
    let a = c.args in let i = a.self.now.walk.memory in let w = c.ways.self.walk in
    let v = c.ways.invariant in let up = c.load_thread-place.ensures in
    let x = c.load_thread-place.new.self in let table = g.P.Patterns.table a.patterns.now in
    let starts = g.P.Patterns.starts a.patterns.now in let reported = g.S.ThreadStart.reported_of
    a.here.at in
    let ws = ways_at starts reported a.self.now in
    let lt : c.ways.k < length ws =
    (let t = c.ways-test.true in let e = c.ways-k-end.ensures reported in omega (arith, t, e)) in
    let at = taken_at starts reported (best_of a.self.now.best) i w.memory c.ways.k v.followed.kept
    lt (
      c.load_thread-place.result.0,
      g.S.ThreadStart.reported c.load_thread-place.result.1,
      x.memory.row,
    ) up.thread in
    let below = begun_below (length table) (best_of a.self.now.best) starts reported i.threads ws
    c.requires.inside c.requires.placed.below
    (start_begun starts reported (length i.row) (best_of a.self.now.best) i.threads) in
    let budget = c.requires.placed.budget in let spent = v.followed.spent in
    room_pushed table w x c.load_thread-place.result.0
    (takes_up w.memory x.memory up.memory v.followed.empty)
    up.steps (subst (λ (t : Thread). t.0 < length table) at (below c.ways.k lt))
    c.requires.placed.stack_room (omega (arith, budget, spent, lt)) v.room

pub ways-init : goal.ways-init
ways-init g c = record {
  room = c.requires.room;
  followed = record {
    steps = λ at same is u. u;
    again = λ all tell there b at same alike is u. u;
    kept = record { threads = refl; room = refl; row = refl };
    spent = omega arith;
    spent_entries = omega arith;
    empty = c.requires.placed.stack_empty;
  };
  best = refl;
  counts = counted_at_first;
}

-- the k-th of the ways was followed
went : (g : given.Over) (c : After-explore g) → HasFollowed
    (g.P.Patterns.table c.args.patterns.now) (not (g.row.WHOLE == 0)) c.args.here
    (ways_at (g.P.Patterns.starts c.args.patterns.now) (g.S.ThreadStart.reported_of c.args.here.at)
    c.args.self.now) (best_of c.args.self.now.best) c.args.self.now.walk
    (g.S.ThreadStart.reported c.load_thread-place.result.1) c.explore.new.self (c.ways.k + 1)
    c.explore.result
went g c =
    let a = c.args in let i = a.self.now.walk in let v = c.ways.invariant in
    let up = c.load_thread-place.ensures in let more = c.explore.ensures in
    let starts = g.P.Patterns.starts a.patterns.now in let reported = g.S.ThreadStart.reported_of
    a.here.at in
    let lt : c.ways.k < length (ways_at starts reported a.self.now) =
    (let t = c.ways-test.true in let e = c.ways-k-end.ensures reported in omega (arith, t, e)) in
    follows_on {whole = not (g.row.WHOLE == 0)} {ways = ways_at starts reported a.self.now}
    v.followed (taken_first starts reported (best_of a.self.now.best) i.memory
    c.ways.self.walk.memory c.ways.k v.followed.kept lt (
      c.load_thread-place.result.0,
      g.S.ThreadStart.reported c.load_thread-place.result.1,
      c.load_thread-place.new.self.memory.row,
    ) up.thread)
    up.memory up.row up.steps more.explored more.empty more.kept

pub ways-preserved : goal.ways-preserved
ways-preserved g c =
    let a = c.args in let v = c.ways.invariant in let up = c.load_thread-place.ensures in
    let y = c.explore.new.self in let more = c.explore.ensures in
    let reported = g.S.ThreadStart.reported_of a.here.at in
    let w = subst (HasFollowed (g.P.Patterns.table a.patterns.now) (not (g.row.WHOLE == 0)) a.here
    (ways_at (g.P.Patterns.starts a.patterns.now) reported a.self.now) (best_of a.self.now.best)
    a.self.now.walk (g.S.ThreadStart.reported c.load_thread-place.result.1) y (c.ways.k + 1))
    c.if-explore.false (went g (goal.at.ways-preserved g c).After-explore) in
    record {
      room = more.room;
      followed = record {
        steps = w.steps;
        again = w.again;
        kept = w.kept;
        spent = w.spent;
        spent_entries = w.spent_entries;
        empty = w.empty;
      };
      best = v.best;
      counts = still_counted v.counts
          (subst (λ s. StaysCounted s y.steps) up.steps more.counts);
    }

-- it comes to a match, and nothing is left
matched : (g : given.Over) (c : After-explore g) → c.explore.result ≡ true → HasFollowed
    (g.P.Patterns.table c.args.patterns.now) (not (g.row.WHOLE == 0)) c.args.here
    (ways_at (g.P.Patterns.starts c.args.patterns.now) (g.S.ThreadStart.reported_of c.args.here.at)
    c.args.self.now) (best_of c.args.self.now.best) c.args.self.now.walk
    (g.S.ThreadStart.reported c.load_thread-place.result.1) c.explore.new.self (c.ways.k + 1) true
matched g c is = rw is at (went g c)

pub returns-then-explore-clause-followed : goal.returns-then-explore-clause-followed
returns-then-explore-clause-followed g c =
    let a = c.args in let y = c.explore.new.self in
    let reported = g.S.ThreadStart.reported_of a.here.at in
    let ws = ways_at (g.P.Patterns.starts a.patterns.now) reported a.self.now in
    let lt : c.ways.k < length ws =
    (let t = c.ways-test.true in let e = c.ways-k-end.ensures reported in omega (arith, t, e)) in
    let w = matched g (goal.at.returns-then-explore-clause-followed g c).After-explore
    c.if-explore.true in
    let spent = w.spent in let idle = ap (λ fs. explores fs) w.empty in
    let found = has_row (best_of c.set.new.self)
    (g.S.ThreadStart.reported c.load_thread-place.result.1) a.here.at c.row.result.now y.memory.row
    c.set.ensures.found c.row.ensures in
    record {
      steps =
          subst (λ z. StepsTo (g.P.Patterns.table a.patterns.now) (not (g.row.WHOLE == 0)) a.here
          a.self.now.walk.memory ws
          (best_of a.self.now.best) y.memory [] z) (sym found) w.steps;
      spent = omega (arith, spent, idle, lt);
      spent_entries = w.spent_entries;
      stack_empty = w.empty;
      kept = w.kept;
      best_width =
          c.set.ensures.width ∙ ap (λ (b : BestState). length b.row) c.ways.invariant.best;
    }

pub returns-then-explore-clause-again : goal.returns-then-explore-clause-again
returns-then-explore-clause-again g c = λ all tell there b at same alike.
    let a = c.args in let y = c.explore.new.self in
    let reported = g.S.ThreadStart.reported_of a.here.at in
    let ws = ways_at (g.P.Patterns.starts a.patterns.now) reported a.self.now in
    let w = matched g (goal.at.returns-then-explore-clause-again g c).After-explore
    c.if-explore.true in
    let found = has_row (best_of c.set.new.self)
    (g.S.ThreadStart.reported c.load_thread-place.result.1) a.here.at c.row.result.now y.memory.row
    c.set.ensures.found c.row.ensures in
    subst (λ z. StepsAt (g.P.Patterns.table a.patterns.now) at there
    (state_relabelled tell a.self.now.walk.memory) (all_relabelled tell ws) b
    (state_relabelled tell y.memory) [] (best_again tell there.at true z b)) (sym found)
    (w.again all tell there b at same alike)

pub returns-clause-followed : goal.returns-clause-followed
returns-clause-followed g c =
    let a = c.args in let v = c.ways.invariant in
    let table = g.P.Patterns.table a.patterns.now in
    let reported = g.S.ThreadStart.reported_of a.here.at in
    let ws = ways_at (g.P.Patterns.starts a.patterns.now) reported a.self.now in
    let e = c.ways-k-end.ensures reported in
    let far : c.ways.k ≤ c.ways-k-end.result = search in
    let spent = v.followed.spent in
    record {
      steps =
          subst (λ b. StepsTo table (not (g.row.WHOLE == 0)) a.here a.self.now.walk.memory ws
          (best_of a.self.now.best)
          c.ways.self.walk.memory [] b) (sym (ap best_of v.best))
          (subst (λ ts. StepsTo table (not (g.row.WHOLE == 0)) a.here a.self.now.walk.memory ws
          (best_of a.self.now.best)
          c.ways.self.walk.memory ts (best_of a.self.now.best))
          (drop_of_length-le ws (omega (arith, c.ways-test.false, e))) v.followed.steps);
      spent = omega (arith, e, far, spent);
      spent_entries = v.followed.spent_entries;
      stack_empty = v.followed.empty;
      kept = v.followed.kept;
      best_width = ap (λ (b : BestState). length b.row) v.best;
    }

pub returns-clause-again : goal.returns-clause-again
returns-clause-again g c = λ all tell there b at same alike.
    let a = c.args in let i = a.self.now.walk.memory in
    let reported = g.S.ThreadStart.reported_of a.here.at in
    let ws = ways_at (g.P.Patterns.starts a.patterns.now) reported a.self.now in
    let e = c.ways-k-end.ensures reported in
    subst (λ (ts : List Thread). StepsAt (g.P.Patterns.table a.patterns.now) at there
    (state_relabelled tell i) (all_relabelled tell ws) b
    (state_relabelled tell c.ways.self.walk.memory) (all_relabelled tell ts) b)
    (drop_of_length-le ws (omega (arith, c.ways-test.false, e)))
    (c.ways.invariant.followed.again all tell there b at same alike)

pub returns-then-explore-clause-match_flag : goal.returns-then-explore-clause-match_flag
returns-then-explore-clause-match_flag g c = λ none.
    absurd (let both = sym c.set.ensures.found ∙ none in cc)

pub returns-then-explore-clause-room : goal.returns-then-explore-clause-room
returns-then-explore-clause-room g c = c.explore.ensures.room

pub returns-then-explore-clause-ends : goal.returns-then-explore-clause-ends
returns-then-explore-clause-ends g c =
    inr (
      g.S.ThreadStart.reported c.load_thread-place.result.1,
      c.row.result.now,
      c.set.ensures.found,
    )

pub returns-then-explore-clause-kept : goal.returns-then-explore-clause-kept
returns-then-explore-clause-kept g c = λ none.
    absurd (let both = sym c.set.ensures.found ∙ none in cc)

pub returns-then-explore-clause-counts : goal.returns-then-explore-clause-counts
returns-then-explore-clause-counts g c =
    let y = c.explore.new.self in
    still_counted c.ways.invariant.counts
    (subst (λ s. StaysCounted s y.steps) c.load_thread-place.ensures.steps c.explore.ensures.counts)

pub returns-then-explore-clause-entry : goal.returns-then-explore-clause-entry
returns-then-explore-clause-entry g c = inr (c.explore.ensures.entry c.if-explore.true)

pub returns-clause-match_flag : goal.returns-clause-match_flag
returns-clause-match_flag g c = ap best_of c.ways.invariant.best

pub returns-clause-room : goal.returns-clause-room
returns-clause-room g c = c.ways.invariant.room

pub returns-clause-ends : goal.returns-clause-ends
returns-clause-ends g c = inl (ap best_of c.ways.invariant.best)

pub returns-clause-kept : goal.returns-clause-kept
returns-clause-kept g c = λ none. sym (ap best_of c.ways.invariant.best) ∙ none

pub returns-clause-counts : goal.returns-clause-counts
returns-clause-counts g c = c.ways.invariant.counts

pub returns-clause-entry : goal.returns-clause-entry
returns-clause-entry g c = inl (ap best_of c.ways.invariant.best)

pub ways-k-end-requires : goal.ways-k-end-requires
ways-k-end-requires g c = c.requires.few_ways

pub set-requires : goal.set-requires
set-requires g c =
    ap length c.row.ensures ∙ c.explore.ensures.kept.row ∙ c.load_thread-place.ensures.row
    ∙ c.ways.invariant.followed.kept.row ∙ sym c.requires.placed.best_width
    ∙ sym (ap (λ (b : BestState). length b.row) c.ways.invariant.best)

use Rattle.regex_lite_engine.proofs.Common.{◌≡◌, ℕ, ◌+◌, List, length, sym, ap, ◌∙◌, subst, arith}
use Rattle.regex_lite_engine.proofs.Common.{Text, row_of, arrow_count, all_relabelled}
use Rattle.regex_lite_engine.proofs.Common.{state_relabelled, reading_count, Bool, false}
use Rattle.std.specs.Prelude.{not, ◌==◌}
use Rattle.regex_lite_engine.proofs.Common.{best_again, ThreadsBelow, best_of, IsComing, IsComingTo}
use Rattle.regex_lite_engine.proofs.Common.{refl}
use Rattle.regex_lite_engine.proofs.Common.{with_starts, SearchAt, Reported, lone}
use Rattle.regex_lite_engine.specs.Pikevm.Capacity.{explores}
use Rattle.regex_lite_engine.proofs.pikevm.AgainLemmas.{best_kept, start_relabelled}
use Rattle.regex_lite_engine.proofs.pikevm.OwnPartLemmas.{left_outside, length_row}
use Rattle.regex_lite_engine.proofs.pikevm.CapacityLemmas.{left_most}
use Rattle.regex_lite_engine.proofs.pikevm.StateLemmas.{begins_position, swaps_lists}
use Rattle.regex_lite_engine.proofs.pikevm.GenerationLemmas.{begins_with, fit_first, none_entered}
use Rattle.regex_lite_engine.proofs.pikevm.GenerationLemmas.{sum_lone, begun_len, start_begun}
use Rattle.regex_lite_engine.proofs.pikevm.ThreadLemmas.{Begun}
use Rattle.regex_lite_engine.proofs.pikevm.SteppingLemmas.{starts_up_to, stepped_all}
use Rattle.regex_lite_engine.proofs.pikevm.SteppingLemmas.{stepped_within}
use Rattle.regex_lite_engine.proofs.pikevm.cache.Cache.step.Goals as goal

-- a search at the position, before any start is added there
abbrev search_at : Text → (entries : List ℕ) → (whole : Bool) → (first last p : ℕ) → SearchAt
search_at haystack entries whole first last p = record {
  haystack = haystack;
  entries = entries;
  whole = whole;
  first = first;
  last = last;
  p = p;
  from = p;
}

pub follow-match_flag-requires-clause-room : goal.follow-match_flag-requires-clause-room
follow-match_flag-requires-clause-room g c =
    let a = c.args in let r = c.requires in
    fit_first (g.P.Patterns.table a.patterns.now) a.self.now.walk c.begin_position.new.self
    a.self.now.best r.ready c.begin_position.ensures
    (let few = r.few_tries in omega (arith, few)) (let few = r.few_entries in omega (arith, few))

pub follow-match_flag-requires-clause-placed : goal.follow-match_flag-requires-clause-placed
follow-match_flag-requires-clause-placed g c =
    let a = c.args in let m = a.self.now.walk.memory in let r = c.requires in
    let n = c.begin_position.new.self in let generation = begins_position m n
    c.begin_position.ensures in
    let starts = g.P.Patterns.starts a.patterns.now in let reported = g.S.ThreadStart.reported_of
    a.here.at in
    let best = best_of a.self.now.best in
    let none : length n.next ≡ 0 = ap length generation.next ∙ ap length r.ready.none_next in
    let idle : explores n.frames ≡ 0 =
    ap (λ fs. explores fs) (generation.frames ∙ r.ready.stack_empty) in
    let one = begun_len best starts reported m.threads
    (with_starts starts reported best (length n.row) n.threads)
    (begins_with m n starts reported best generation) in
    let most = left_most arrow_count n.entered (g.P.Patterns.table a.patterns.now) in
    record {
      stack_empty = generation.frames ∙ r.ready.stack_empty;
      stack_room = r.ready.stack_room;
      below =
          subst (ThreadsBelow (length (g.P.Patterns.table a.patterns.now))) (sym generation.threads)
          r.ready.below;
      best_width = r.ready.best_width ∙ sym (ap length generation.row);
      budget = omega (arith, r.few_tries, none, idle, one, most);
    }

pub returns-clause-tries : goal.returns-clause-tries
returns-clause-tries g c =
    let a = c.args in let m = a.self.now.walk.memory in let r = c.requires in
    let n = c.begin_position.new.self in let generation = begins_position m n
    c.begin_position.ensures in
    let starts = g.P.Patterns.starts a.patterns.now in let reported = g.S.ThreadStart.reported_of
    a.here.at in
    let best = best_of a.self.now.best in
    let none : length n.next ≡ 0 = ap length generation.next ∙ ap length r.ready.none_next in
    let idle : explores n.frames ≡ 0 =
    ap (λ fs. explores fs) (generation.frames ∙ r.ready.stack_empty) in
    let one = begun_len best starts reported m.threads
    (with_starts starts reported best (length n.row) n.threads)
    (begins_with m n starts reported best generation) in
    let most = left_most arrow_count n.entered (g.P.Patterns.table a.patterns.now) in
    let over = ap length
    (swaps_lists c.follow-match_flag.new.self.walk.memory c.swap_lists.new.self
    c.swap_lists.ensures) in
    omega (arith, none, idle, one, most, c.follow-match_flag.ensures.followed.spent, over)

pub returns-clause-entries : goal.returns-clause-entries
returns-clause-entries g c =
    let a = c.args in let n = c.begin_position.new.self in
    let most = left_most lone n.entered (g.P.Patterns.table a.patterns.now) in
    let all = sum_lone (g.P.Patterns.table a.patterns.now) in
    omega (arith, most, all, c.follow-match_flag.ensures.followed.spent_entries)

pub returns-clause-comes : goal.returns-clause-comes
returns-clause-comes g c = λ haystack entries p first last is low are coming.
    let a = c.args in let m = a.self.now.walk.memory in let r = c.requires in
    let n = c.begin_position.new.self in let generation = begins_position m n
    c.begin_position.ensures in
    let starts = g.P.Patterns.starts a.patterns.now in let reported = g.S.ThreadStart.reported_of
    a.here.at in
    let best = best_of a.self.now.best in let f = c.follow-match_flag.new.self in
    subst (λ z. IsComingTo (g.P.Patterns.table a.patterns.now) haystack entries
    (not (g.row.WHOLE == 0)) first last (p + 1) z (best_of f.best))
    (sym (swaps_lists f.walk.memory c.swap_lists.new.self c.swap_lists.ensures))
    (stepped_all (g.P.Patterns.table a.patterns.now)
    (search_at haystack entries (not (g.row.WHOLE == 0)) first last p) a.here
    m.threads best f.walk.memory (best_of f.best) (record {
      is = is;
      low = low;
      first_state = n;
      new = none_entered m n generation;
      empty = generation.next ∙ r.ready.none_next;
      starts = starts;
      are = are;
      reported = reported;
      tells = g.met.S.ThreadStart.tells a.here.at;
      ways = with_starts starts reported best (length n.row) n.threads;
      begins = begins_with m n starts reported best generation;
      steps = λ from.
          c.follow-match_flag.ensures.followed.steps
          (record (search_at haystack entries (not (g.row.WHOLE == 0)) first last p) {
            from = from;
          }) refl;
      kept = c.follow-match_flag.ensures.kept;
    }) coming)

pub returns-clause-own : goal.returns-clause-own
returns-clause-own g c = λ haystack entries p first last begin len is low are coming part.
    let a = c.args in let m = a.self.now.walk.memory in let r = c.requires in
    let n = c.begin_position.new.self in let generation = begins_position m n
    c.begin_position.ensures in
    let table = g.P.Patterns.table a.patterns.now in
    let starts = g.P.Patterns.starts a.patterns.now in let reported = g.S.ThreadStart.reported_of
    a.here.at in
    let best = best_of a.self.now.best in let f = c.follow-match_flag.new.self in
    let followed = c.follow-match_flag.ensures in let left = f.walk.memory in
    let ways = with_starts starts reported best (length n.row) n.threads in
    let begins = begins_with m n starts reported best generation in
    let only =
    stepped_within table (search_at haystack entries (not (g.row.WHOLE == 0)) first last p) a.here
    m.threads best left
    (best_of f.best) (record {
      is = is;
      low = low;
      first_state = n;
      new = none_entered m n generation;
      empty = generation.next ∙ r.ready.none_next;
      starts = starts;
      are = are;
      reported = reported;
      tells = g.met.S.ThreadStart.tells a.here.at;
      ways = ways;
      begins = begins;
      steps = λ from.
          followed.followed.steps
          (record (search_at haystack entries (not (g.row.WHOLE == 0)) first last p) {
            from = from;
          }) refl;
      kept = followed.kept;
    }) coming begin len part in
    let outside =
    left_outside arrow_count left.entered table begin len followed.room.all_seen only in
    let others =
    left_outside lone left.entered table begin len followed.room.all_seen only in
    let readers =
    left_outside reading_count left.entered table begin len followed.room.all_seen only in
    let none : length n.next ≡ 0 = ap length generation.next ∙ ap length r.ready.none_next in
    let idle : explores n.frames ≡ 0 =
    ap (λ fs. explores fs) (generation.frames ∙ r.ready.stack_empty) in
    let one = begun_len best starts reported m.threads ways begins in
    let most = left_most arrow_count n.entered table in
    let each = left_most lone n.entered table in
    let over = ap length (swaps_lists left c.swap_lists.new.self c.swap_lists.ensures) in
    record {
      tries = omega (arith, none, idle, one, most, followed.followed.spent, over, outside);
      entries = omega (
        arith,
        each,
        others,
        followed.followed.spent_entries,
        sum_lone (row_of table begin len),
        length_row table begin len,
      );
      few = omega (arith, followed.room.next_room, readers, over);
    }

pub returns-clause-again : goal.returns-clause-again
returns-clause-again g c =
    λ all tell there best tells to back haystack entries p first last alike is low high are coming.
    let a = c.args in let m = a.self.now.walk.memory in let r = c.requires in
    let n = c.begin_position.new.self in let generation = begins_position m n
    c.begin_position.ensures in
    let table = g.P.Patterns.table a.patterns.now in
    let starts = g.P.Patterns.starts a.patterns.now in let reported = g.S.ThreadStart.reported_of
    a.here.at in
    let relabels : ℕ → Reported = λ k. tell (reported k) in
    let ws = with_starts starts reported (best_of a.self.now.best) (length n.row) n.threads in
    let ts = all_relabelled tell m.threads in
    let same : all_relabelled tell ws ≡ with_starts starts relabels best 0 ts =
    start_relabelled tell starts reported (best_of a.self.now.best) best (length n.row) n.threads
    back to ∙ ap (λ z. with_starts starts relabels best 0 (all_relabelled tell z))
    generation.threads in
    let f = c.follow-match_flag.new.self in
    let found = best_again tell there.at c.follow-match_flag.result (best_of f.best) best in
    subst (λ z. IsComing table haystack entries first last (p + 1) (all_relabelled tell z) found)
    (sym (swaps_lists f.walk.memory c.swap_lists.new.self c.swap_lists.ensures))
    (stepped_all table (search_at haystack entries false first last p) there ts best
    (state_relabelled tell f.walk.memory) found (record {
      is = is;
      low = low;
      first_state = state_relabelled tell n;
      new = none_entered m n generation;
      empty = ap (all_relabelled tell) generation.next ∙ ap (all_relabelled tell) r.ready.none_next;
      starts = starts;
      are = starts_up_to high are;
      reported = relabels;
      tells = tells;
      ways = all_relabelled tell ws;
      begins =
          subst (Begun starts relabels best ts) (sym same) (start_begun starts relabels 0 best ts);
      steps = λ from.
          c.follow-match_flag.ensures.again all tell there best
          (record (search_at haystack entries false first last p) { from = from }) refl alike;
      kept = best_kept tell there.at c.follow-match_flag.result (best_of f.best) best;
    }) coming)

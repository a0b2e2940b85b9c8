-- A search that the PikeVM continues where no transition is cached.
use Rattle.regex_lite_meta.proofs.Common.{◌≡◌, ℕ, zero, suc, ◌<◌, ◌≤◌, Bool, true, false, ◌⊎◌, List}
use Rattle.regex_lite_meta.proofs.Common.{[], ◌∷◌, map, length, ◌==◌, slice_get, Some, None, All}
use Rattle.regex_lite_meta.proofs.Common.{Option, MatchOption, sym, refl, ap, ◌∙◌, subst, inl, inr}
use Rattle.regex_lite_meta.proofs.Common.{arith, nat_tests, length-map, Text, Thread, best_of}
use Rattle.regex_lite_meta.proofs.Common.{IsComing, Best, offset, Row, Cache, Here, Way, Automaton}
use Rattle.regex_lite_meta.proofs.Common.{reported_by, threads_of, ways_of, Suits, FitsTable}
use Rattle.regex_lite_meta.proofs.Common.{IsFirstStart, IsIn, IsOnItsWay, Stands, best_reported}
use Rattle.regex_lite_meta.proofs.Common.{IsHere, IsStartStateAt, IsScanning, way_in, DfaPosition}
use Rattle.regex_lite_meta.proofs.Common.{StoredWay}
use Rattle.regex_lite_engine.specs.Graph.Places.{Place, reading_of}
use Rattle.regex_lite_meta.specs.LazyDfa.Automaton.{IsEmptyState, began, match_start_of}
use Rattle.regex_lite_meta.specs.LazyDfa.Automaton.{reported_if}
use Rattle.regex_lite_meta.specs.LazyDfa.Running.{GoesOnWith, NoneStartsBeforeOf, thread_from}
use Rattle.std.proofs.Common.{⊎_elim, true≢false}
use Rattle.regex_lite_engine.specs.Pikevm.Machine.{thread_at}
use Rattle.regex_lite_engine.specs.Pikevm.Capacity.{ThreadsBelow}
use Rattle.regex_lite_engine.specs.Pikevm.Searching.{IsBetween}
use Rattle.regex_lite_engine.specs.Pikevm.Walking.{WayReported, ThreadsHold}
use Rattle.regex_lite_engine.specs.Search.ThreadStarts.{Reported, IsReported}
use Rattle.regex_lite_engine.specs.Search.Bounds.{StepCounts}
use Rattle.regex_lite_engine.specs.Search.Pending.{Node, PendingNode}
use Rattle.regex_lite_meta.proofs.Common.{IsCharBoundary, IsSince, IsUtf8, chars, context_of}
use Rattle.regex_lite_meta.proofs.Common.{position_at}
use Rattle.regex_lite_engine.proofs.OffsetLemmas.{boundary_at}
use Rattle.regex_lite_engine.proofs.PositionLemmas.{position_of}
use Rattle.regex_lite_meta.proofs.lazy_dfa.RunLemmas.{maybe_in_empty, moved_on, own_first}
use Rattle.regex_lite_syntax.proofs.OptionLemmas.{not_there}
use Rattle.regex_lite_engine.proofs.ReadingCountLemmas.{reads_within}
use Rattle.regex_lite_engine.proofs.pikevm.ComingLemmas.{none_coming}

eq_there : (a b : ℕ) → (a == b) ≡ true → a ≡ b
eq_there a b e = grind (arith, nat_tests)

-- less is known of a thread, and no slots are kept
module _ (first : ℕ) where
  start_less : (reported : Option ℕ) (j : ℕ) → IsReported reported j
      → IsReported (reported_if (began first reported) first) j
  start_less None j is = tt
  start_less (Some s) j is = by_test (s == first) refl
    where
      by_test : (b : Bool) → (s == first) ≡ b → IsReported (reported_if b first) j
      by_test true e = sym (eq_there s first e) ∙ is
      by_test false e = tt

  module _ (table : List (Place ℕ)) (h : Text) (entries : List ℕ) where
    way_less : (i : Reported) (row : Row) (n : Node) (w : List ℕ) → WayReported table h entries i
        row n w → WayReported table h entries (reported_by first (match_start_of first i)) [] n w
    way_less i row n w (j, number, entry, ks, tells, is_entry, is, leads, slots) = (
      j,
      number,
      entry,
      ks,
      record {
        start_reported = start_less i.at (offset h j) tells.start_reported;
        number_reported = tells.number_reported;
      },
      is_entry,
      is,
      leads,
      λ k slot at. absurd (not_there at),
    )

    hold_less : (p : ℕ) (ts : List Thread) (os : List (PendingNode Node))
        → ThreadsHold table h entries p ts os
        → ThreadsHold table h entries p (threads_of first (ways_of first ts)) os
    hold_less p [] [] held = tt
    hold_less p [] (o ∷ os) held = absurd held
    hold_less p (t ∷ ts) [] held = absurd held
    hold_less p (t ∷ ts) (o ∷ os) (there, way, rest) =
        (there, way_less t.1 t.2 o.0 o.1 way, hold_less p ts os rest)

    pub coming_less : (low last p : ℕ) (ts : List Thread) (best : Best)
        → IsComing table h entries low last p ts best
        → IsComing table h entries low last p (threads_of first (ways_of first ts)) best
    coming_less low last p ts best u = record {
      recorded = u.recorded;
      coming = u.coming;
      way = u.way;
      from = u.from;
      in_step = u.in_step;
      before = u.before;
      hold = hold_less p ts u.coming u.hold;
      best_holds = u.best_holds;
      from_is = u.from_is;
    }

-- the threads of ways that all began at the first start
module _ (first : ℕ) where
  reported_first : (w : StoredWay) → w.is_first ≡ true → (λ (b : Bool). ◌≡◌ {A = Thread} (
    w.place,
    reported_by first (record { first = b; number = Some w.number }),
    [],
  ) (thread_from first w)) w.is_first
  reported_first w e = ap (λ b. (
    w.place,
    reported_by first (record { first = b; number = Some w.number }),
    [],
  )) e

  pub threads_first : (ws : List StoredWay) → All (λ way. way.is_first ≡ true) ws
      → threads_of first (map way_in ws) ≡ map (thread_from first) ws
  threads_first [] all = refl
  threads_first (w ∷ ws) all =
      ap (λ (t : Thread). t ∷ threads_of first (map way_in ws))
      (reported_first w (all 0 w (omega arith)))
      ∙ ap (λ (ts : List Thread). thread_from first w ∷ ts)
      (threads_first ws (λ k d lt. all (suc k) d (omega (arith, lt))))

  same_test : (first == first) ≡ true
  same_test = grind (arith, nat_tests)

  way_first : (w : StoredWay) → w.is_first ≡ true
      → ◌≡◌ {A = Way}
      (record {
        place = w.place;
        match_start = record { first = first == first; number = Some w.number };
      })
      (way_in w)
  way_first w e =
      ap (λ b. record {
        place = w.place;
        match_start = record {
          first = b;
          number = Some w.number;
        };
      }) (same_test ∙ sym e)

  pub ways_first : (ws : List StoredWay) → All (λ way. way.is_first ≡ true) ws
      → ways_of first (map (thread_from first) ws) ≡ map way_in ws
  ways_first [] all = refl
  ways_first (w ∷ ws) all =
      ap (λ (x : Way). x ∷ ways_of first (map (thread_from first) ws))
      (way_first w (all 0 w (omega arith)))
      ∙ ap (λ (xs : List Way). way_in w ∷ xs)
      (ways_first ws (λ k d lt. all (suc k) d (omega (arith, lt))))

below_at : (n first : ℕ) (ws : List StoredWay) (ways : List Way) → map way_in ws ≡ ways
    → ((k : ℕ) (way : Way) → slice_get ways k ≡ Some way → way.place < n) → (k : ℕ)
    → k < length (map (thread_from first) ws) → (thread_at (map (thread_from first) ws) k).0 < n
below_at n first ws ways e below =
    from_stored ws
    (subst (λ (all : List Way). (k : ℕ) (way : Way) → slice_get all k ≡ Some way → way.place < n)
    (sym e) below)
  where
    from_stored : (ws : List StoredWay)
        → ((k : ℕ) (way : Way) → slice_get (map way_in ws) k ≡ Some way → way.place < n) → (k : ℕ)
        → k < length (map (thread_from first) ws) → (thread_at (map (thread_from first) ws) k).0 < n
    from_stored [] below k lt = absurd (omega (arith, lt))
    from_stored (w ∷ ws) below zero lt = below 0 (way_in w) refl
    from_stored (w ∷ ws) below (suc k) lt =
        from_stored ws (λ j way at. below (suc j) way at) k (omega (arith, lt))

-- another first start is a position without thread and match
module _ {table : List (Place ℕ)} {entries : List ℕ} (bs : List ℕ) (u : IsUtf8 bs)
    {low p before first : ℕ} (since : IsSince table entries (chars bs) low p before first)
    (other : first ≡ before → ⊥) where
  pub there_start_state : IsStartStateAt table entries (chars bs) low p first
  there_start_state = by_first since
    where
      by_first : IsSince table entries (chars bs) low p before first
          → IsStartStateAt table entries (chars bs) low p first
      by_first (inl e) = absurd (other e)
      by_first (inr in_start) = in_start

  pub start_state_edge : IsCharBoundary bs first
  start_state_edge = boundary_at bs there_start_state.r first u there_start_state.is

  pub start_state_is : (here : Here) → IsHere (chars bs) (position_at bs first) here
      → IsHere (chars bs) there_start_state.r here
  start_state_is here is =
      subst (λ z. IsHere (chars bs) z here)
      (position_of bs u there_start_state.r first there_start_state.is) is

module _ (table : List (Place ℕ)) (h : Text) (entries : List ℕ) (s from p : ℕ)
    (automaton : Automaton)
    {S : Type 0} (old new : Cache S) (on : IsOnItsWay table h entries s from p old)
    (begun : NoneStartsBeforeOf table h entries s from) (anew : Bool)
    (own_from : anew ≡ false → from ≡ s)
    (kept : GoesOnWith old new) where
  between_again : ((best_of new.best ≡ None → ⊥) → 0 < new.walk.steps.entered)
      → length new.walk.memory.threads ≤ reading_of table
      → ThreadsBelow (length table) new.walk.memory.threads → IsBetween table new
  between_again entered few below = record {
    all_seen = kept.entered ∙ on.ready.all_seen;
    cap = subst (λ n. reading_of table < n) (sym kept.room) on.ready.cap;
    few = few;
    below = below;
    none_next = kept.next;
    stack_room = on.ready.stack_room;
    stack_empty = kept.frames;
    best_width = kept.best_row ∙ on.ready.best_width ∙ sym kept.row;
    entered_tried =
        subst (λ (c : StepCounts). c.entered ≤ c.tried) (sym kept.steps) on.ready.entered_tried;
    looked_entered =
        subst (λ (c : StepCounts). c.looked ≤ c.entered) (sym kept.steps) on.ready.looked_entered;
    match_entered = entered;
  }

  -- it goes on with the ways of the state, and with the match that was found
  module _ (q : ℕ) (stuck : DfaPosition)
      (scanning : IsScanning table entries h from q automaton stuck) (later : p < q)
      (ws : List StoredWay) (ways : map way_in ws ≡ scanning.state.ways)
      (all : All (λ way. way.is_first ≡ true) ws)
      (fits : FitsTable table entries scanning.state.ways)
      (best : best_of new.best ≡ best_reported stuck.best)
      (entered : (stuck.best ≡ None) ⊎ (0 < old.walk.steps.entered))
      (threads : new.walk.memory.threads ≡ map (thread_from stuck.first) ws) where
    match_entered : (best_of new.best ≡ None → ⊥) → 0 < new.walk.steps.entered
    match_entered some =
        ⊎_elim (λ none. absurd (some (best ∙ ap best_reported none)))
        (λ more. subst (λ (counts : StepCounts). 0 < counts.entered) (sym kept.steps) more) entered

    each_way : length new.walk.memory.threads ≡ length scanning.state.ways
    each_way =
        let same = ap (λ (ts : List Thread). length ts) threads in
        let n = length-map ws (thread_from stuck.first) in let m = length-map ws way_in in
        let w = ap (λ (xs : List Way). length xs) ways in omega (arith, same, n, m, w)

    few_threads : length new.walk.memory.threads ≤ reading_of table
    few_threads = let few = fits.few in let same = each_way in omega (arith, same, few)

    loaded : IsOnItsWay table h entries s from q new
    loaded =
        moved_on table h entries s from p q old new on
        (between_again match_entered few_threads (subst (ThreadsBelow (length table)) (sym threads)
        (below_at (length table) stuck.first ws scanning.state.ways ways fits.below)))
        kept.steps later scanning.later (let few = few_threads in let more = reads_within
        table in
        omega (arith, few, more)) (λ low len part. (let fit = fits.own low len part in
        let same = each_way in
        omega (arith, fit, same))) kept.row
        (subst (λ ts. IsComing table h entries from (length h) q ts (best_of new.best)) (sym
        threads)
        (subst (λ b. IsComing table h entries from (length h) q (map (thread_from stuck.first) ws)
        b)
        (sym best)
        (subst (λ ts. IsComing table h entries from (length h) q ts (best_reported stuck.best))
        (threads_first stuck.first ws all)
        (subst (λ xs. IsComing table h entries from (length h) q (threads_of stuck.first xs)
        (best_reported stuck.best)) (sym ways) scanning.coming))))

    is_in_stuck : (here : Here) → IsHere h q here
        → IsIn automaton stuck.state stuck.first here.before new
    is_in_stuck here is = record {
      state = scanning.state;
      is_state = scanning.is_state;
      ways = ap (ways_of stuck.first) threads ∙ ways_first stuck.first ws all ∙ ways;
      suits = subst (Suits scanning.state.searching) (sym best) scanning.suits;
      sees = λ looks. ap context_of (is.behind ∙ sym scanning.is.behind) ∙ scanning.sees looks;
    }

    first_stuck : (ws ≡ []) ⊎ (stuck.first < stuck.at)
        → (stuck.first ≤ stuck.at) × IsFirstStart stuck.first stuck.at new.walk.memory.threads
    first_stuck (inl empty) =
        let own = scanning.own (sym ways ∙ ap (map way_in) empty) in (
          omega (arith, own),
          subst (IsFirstStart stuck.first stuck.at)
              (sym (threads ∙ ap (map (thread_from stuck.first)) empty)) own,
        )
    first_stuck (inr below) = (
      omega (arith, below),
      subst (IsFirstStart stuck.first stuck.at) (sym threads) (by_ways ws ways),
    )
      where
        by_ways : (vs : List StoredWay) → map way_in vs ≡ scanning.state.ways
            → IsFirstStart stuck.first stuck.at (map (thread_from stuck.first) vs)
        by_ways [] e = scanning.own (sym e)
        by_ways (v ∷ vs) e = λ f. omega (arith, f, below)

    pub stands_stuck : (here : Here) → IsHere h q here → here.at ≡ stuck.at
        → (ws ≡ []) ⊎ (stuck.first < stuck.at) → (until : ℕ) →
        Stands table h entries s automaton (record {
          here = here;
          state = Some stuck.state;
          first = stuck.first;
          until = until;
          anew = anew;
        }) new
    stands_stuck here is there before until = let first = first_stuck before in record {
      p = q;
      is = is;
      from = from;
      begun = begun;
      own_from = own_from;
      on = loaded;
      first = subst (λ z. stuck.first ≤ z) (sym there) first.0;
      own = subst (λ z. IsFirstStart stuck.first z new.walk.memory.threads) (sym there) first.1;
      state = is_in_stuck here is;
    }

  -- or from nothing
  is_reset : {at : ℕ} (in_start : IsStartStateAt table entries h from p at) → p < in_start.r
      → best_of new.best ≡ None → new.walk.memory.threads ≡ []
      → IsOnItsWay table h entries s from in_start.r new
  is_reset in_start later none threads =
      moved_on table h entries s from p in_start.r old new on
      (between_again (λ some. absurd (some none))
      (let n = ap (λ (ts : List Thread). length ts) threads in omega (arith, n))
      (subst (ThreadsBelow (length table)) (sym threads) (λ k lt. absurd (omega (arith, lt)))))
      kept.steps later (let after = on.after in omega (arith, after, later))
      (let n = ap (λ (ts : List Thread). length ts) threads in omega (arith, n))
      (λ low len part. (let n = ap (λ (ts : List Thread). length ts) threads in
      omega (arith, n))) kept.row
      (subst (λ ts. IsComing table h entries from (length h) in_start.r ts (best_of new.best))
      (sym threads)
      (subst (λ b. IsComing table h entries from (length h) in_start.r [] b) (sym none)
      in_start.coming))

  pub stands_gone : {at : ℕ} (here : Here) (in_start : IsStartStateAt table entries h from p at)
      → IsHere h in_start.r here → p < in_start.r → best_of new.best ≡ None
      → new.walk.memory.threads ≡ [] → (state : Option ℕ)
      → MatchOption state (Unit {0}) (λ y. IsEmptyState automaton y here.before) → (until : ℕ) →
      Stands table h entries s automaton
      (record {
        here = here;
        state = state;
        first = here.at;
        until = until;
        anew = anew;
      }) new
  stands_gone here in_start is later none threads state empty until = record {
    p = in_start.r;
    is = is;
    from = from;
    begun = begun;
    own_from = own_from;
    on = is_reset in_start later none threads;
    first = omega arith;
    own = own_first here.at new.walk.memory.threads threads;
    state = maybe_in_empty automaton state here.at here.before new empty threads none;
  }

  -- or anew from a later start, before which no match starts
  pub stands_anew : (r : ℕ) (here : Here) → IsHere h r here → p < r
      → NoneStartsBeforeOf table h entries s r → best_of new.best ≡ None
      → new.walk.memory.threads ≡ [] → (until : ℕ) →
      Stands table h entries s automaton (record {
        here = here;
        state = None;
        first = here.at;
        until = until;
        anew = true;
      }) new
  stands_anew r here is later before none threads until = record {
    p = r;
    is = is;
    from = r;
    begun = before;
    own_from = λ e. absurd (true≢false e);
    on = moved_on table h entries s r p r old new on
        (between_again (λ some. absurd (some none))
        (let n = ap (λ (ts : List Thread). length ts) threads in omega (arith, n))
        (subst (ThreadsBelow (length table)) (sym threads) (λ k lt. absurd (omega (arith, lt)))))
        kept.steps later (omega arith)
        (let n = ap (λ (ts : List Thread). length ts) threads in omega (arith, n))
        (λ low len part. (let n = ap (λ (ts : List Thread). length ts) threads in
        omega (arith, n))) kept.row
        (subst (λ b. IsComing table h entries r (length h) r new.walk.memory.threads b) (sym none)
        (none_coming table h entries r (length h) false new.walk.memory.threads threads));
    first = omega arith;
    own = own_first here.at new.walk.memory.threads threads;
    state = tt;
  }

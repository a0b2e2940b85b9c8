-- From one position to the next: its threads are followed, and after them its starts.
use Rattle.regex_lite_engine.proofs.Common.{◌≡◌, ℕ, suc, ◌+◌, ◌<◌, ◌≤◌, ◌⊎◌, List, [], ◌∷◌, ◌++◌}
use Rattle.regex_lite_engine.proofs.Common.{Some, None, Option, sym, refl, ap, ◌∙◌, subst, inl, inr}
use Rattle.regex_lite_engine.proofs.Common.{arith, cases_lt, IsWithin, IsOwnPart, Thread, StepsAt}
use Rattle.regex_lite_engine.proofs.Common.{IsComingTo, begun, ThreadsHold, SearchAt, Reported}
use Rattle.regex_lite_engine.proofs.Common.{IsDead, numbered_step, is_wanted_end, InStep, StartsOf}
use Rattle.regex_lite_engine.proofs.Common.{Best, Node, PendingNode, StartsBelow, IsPreferred, Row}
use Rattle.regex_lite_engine.proofs.Common.{IsBlank, IsHere, IsDeadAt, AreStartsAt, Here, Start}
use Rattle.regex_lite_engine.proofs.Common.{true, false, slice_index_or, append-nil, Text}
use Rattle.regex_lite_engine.specs.Pikevm.Stepping.{Between, FromIs}
use Rattle.regex_lite_engine.specs.Search.Starts.{IsAmong, AreFrom, AreStartsUpTo}
use Rattle.regex_lite_engine.specs.Graph.Places.{Place}
use Rattle.regex_lite_engine.specs.Search.Pending as pending_node
use Rattle.regex_lite_engine.specs.Pikevm.Machine.{State}
use Rattle.regex_lite_engine.specs.Search.ThreadStarts.{TellsStart}
use Rattle.regex_lite_syntax.proofs.OptionLemmas.{not_there}
use Rattle.regex_lite_engine.proofs.pikevm.OwnPartLemmas.{recorded_within}
use Rattle.regex_lite_engine.proofs.pikevm.ThreadLemmas.{Begun}
use Rattle.regex_lite_engine.proofs.pikevm.InStepNextLemmas as deep
use Rattle.regex_lite_engine.proofs.pikevm.WalkLemmas.{held_append, none_held}
use Rattle.regex_lite_engine.proofs.search.WantedLemmas.{still_dead}

-- where matches may start at the position, its starts are those up to the last
pub starts_up_to : {table : List (Place ℕ)} {haystack : Text} {entries : List ℕ} {last p : ℕ}
    {starts : List Start} → p ≤ last → AreStartsAt table haystack entries p starts
    → AreStartsUpTo table haystack entries last p starts
starts_up_to high are =
    record { up_to = λ _. are; none_after = λ later. absurd (omega (arith, high, later)) }

-- the pending nodes of a position's starts
abbrev begun_pending : (p : ℕ) → List Start → List (PendingNode Node)
begun_pending p [] = []
begun_pending p (start ∷ starts) =
    ((start.place, p), p ∷ (start.number ∷ [])) ∷ begun_pending p starts

module _ (table : List (Place ℕ)) (at : SearchAt) where
  open at use {haystack, entries as s, first, last, p}

  -- what is among the pending nodes of a position's starts
  begun_own_way : (from : ℕ) (starts : List Start) → AreFrom s from starts → first ≤ p → p ≤ last
      → (m : Node) (v : List ℕ) → pending_node.In Node m v (begun_pending p starts) →
      StartsOf s first last v m × (m.1 ≡ p) × ((rest : List ℕ) × (v ≡ p ∷ rest))
      × ((number : ℕ) × (from ≤ number) × (v ≡ p ∷ (number ∷ [])))
  begun_own_way from [] are low high m v i = absurd i
  begun_own_way from (start ∷ starts) are low high m v (inl e) = (
    (p, start.number, start.place, low, high, are.1, e.1, e.0),
    ap (λ (z : Node). z.1) e.0,
    (start.number ∷ [], e.1),
    (start.number, are.0, e.1),
  )
  begun_own_way from (start ∷ starts) are low high m v (inr i) =
      let r = begun_own_way (suc start.number) starts are.2 low high m v i in
      (r.0, r.1, r.2, (r.3.0, omega (arith, are.0, r.3.1), r.3.2))

  begun_ordered : (from : ℕ) (starts : List Start) → AreFrom s from starts → first ≤ p → p ≤ last
      → pending_node.Ordered Node (begun_pending p starts)
  begun_ordered from [] are low high = tt
  begun_ordered from (start ∷ starts) are low high = (
    λ m v i. (let r = begun_own_way (suc start.number) starts are.2 low high m v i in
        subst (λ z. IsPreferred (p ∷ (start.number ∷ [])) z) (sym r.3.2)
        (inr (refl, inl (omega (arith, r.3.1))))),
    begun_ordered (suc start.number) starts are.2 low high,
  )

  among_pending : (number entry : ℕ) (starts : List Start) → IsAmong number entry starts
      → pending_node.In Node (entry, p) (p ∷ (number ∷ [])) (begun_pending p starts)
  among_pending number entry [] is = absurd is
  among_pending number entry (start ∷ starts) (inl e) =
      inl ((λ t. (e.1 t, p)), (λ t. p ∷ (e.0 t ∷ [])))
  among_pending number entry (start ∷ starts) (inr is) =
      inr (among_pending number entry starts is)

-- The position's threads are followed, and after them these starts, where they are not left out. No
-- place was entered there yet, and no thread goes on
pub record IsStep (table : List (Place ℕ)) (at : SearchAt) (here : Here) (cur : List Thread)
    (best : Best) (after : State) (best' : Best) : Type 0 where
  pub is : IsHere at.haystack at.p here
  pub low : at.first ≤ at.p
  pub first_state : State
  pub new : (q : ℕ) → slice_index_or first_state.entered q false ≡ true → ⊥
  pub empty : first_state.next ≡ []
  pub starts : List Start
  pub are : AreStartsUpTo table at.haystack at.entries at.last at.p starts
  pub reported : ℕ → Reported
  pub tells : (number : ℕ) → TellsStart (reported number) here.at number
  pub ways : List Thread
  pub begins : Begun starts reported best cur ways
  pub steps : (from : ℕ)
      → StepsAt table (record at { from = from }) here first_state ways best after [] best'
  pub kept : best' ≡ None → best ≡ None

module _ (table : List (Place ℕ)) (at : SearchAt) (here : Here) (cur : List Thread) (best : Best)
    (after : State) (best' : Best) (step : IsStep table at here cur best after best') where
  open at use {haystack, entries as s, whole, first, last, p}

  abbrev Coming : Best → Type 0
  Coming b = IsComingTo table haystack s whole first last p cur b

  abbrev Holds : ℕ → List Thread → List (PendingNode Node) → Type 0
  Holds = ThreadsHold table haystack s

  abbrev Steps : ℕ → (Node → Option (List ℕ)) → List (PendingNode Node) → List (PendingNode Node)
      → Option (List ℕ) → Type 0
  Steps from recorded now next way =
      InStep table haystack s whole first last p from recorded now next way

  abbrev Dead : Node → Type 0
  Dead n = IsDead Node (numbered_step table haystack) (is_wanted_end table haystack whole) n

  none_next : Holds (suc p) step.first_state.next []
  none_next = subst (λ ts. Holds (suc p) ts []) (sym step.empty) tt

  -- without an own start
  begun_alone : (from : ℕ) (b : Best) (known : Coming b)
      → Steps from known.recorded known.coming [] known.way
      → step.ways ≡ cur → Between table (record at { from = from }) step.first_state step.ways b
  begun_alone from b known state same = record {
    recorded = known.recorded;
    under = [];
    later = known.coming;
    coming = [];
    way = known.way;
    in_step = state;
    seen = λ r v e. absurd (let lt = known.before (r, p) v e in omega (arith, lt));
    met = λ r e. absurd (step.new r e);
    frames_hold = refl;
    ways_hold = subst (λ ts. Holds p ts known.coming) (sym same) known.hold;
    coming_hold = none_next;
    best_holds = known.best_holds;
  }

  begun_held : (from : ℕ) (blank : Row) → IsBlank blank → (starts : List Start)
      → AreFrom s from starts → Holds p (begun step.reported blank starts) (begun_pending p starts)
  begun_held from blank blanks [] are = tt
  begun_held from blank blanks (start ∷ starts) are = (
    refl,
    (
      p,
      start.number,
      start.place,
      [],
      subst (λ z. TellsStart (step.reported start.number) z start.number) step.is.bytes
          (step.tells start.number),
      are.1,
      refl,
      refl,
      blanks,
    ),
    begun_held (suc start.number) blank blanks starts are.2,
  )

  -- after the last start, where it has none
  begun_after : (blank : Row) → step.ways ≡ cur ++ begun step.reported blank step.starts → last < p
      → Coming None → Between table (record at { from = suc p }) step.first_state step.ways None
  begun_after blank pushed later u =
      begun_alone (suc p) None u
      (subst (λ z. Steps (suc p) u.recorded u.coming [] z) (sym u.best_holds)
      (deep.in_step_skip Node (numbered_step table haystack) (StartsOf s first last)
      (is_wanted_end table haystack whole) (λ x. x.1) (omega arith) sooner
      (subst (λ z. Steps z u.recorded u.coming [] None) u.from_is
      (subst (λ z. Steps u.from u.recorded u.coming [] z) u.best_holds u.in_step))))
      (pushed ∙ ap (λ z. cur ++ begun step.reported blank z) (step.are.none_after later)
      ∙ append-nil cur)
    where
      sooner : (front : List ℕ) (n : Node) → StartsOf s first last front n
          → StartsBelow (suc p) front → StartsBelow p front ⊎ Dead n
      sooner front n (i, number, entry, low, high, is, e, f) below =
          inl (subst (StartsBelow p) (sym e) (omega (arith, high, later)))

  -- with its own starts
  begun_own : (blank : Row) → IsBlank blank → step.ways ≡ cur ++ begun step.reported blank
      step.starts → p ≤ last → AreStartsAt table haystack s p step.starts
      → Coming None → Between table (record at { from = suc p }) step.first_state step.ways None
  begun_own blank blanks pushed high are u = record {
    recorded = u.recorded;
    under = [];
    later = u.coming ++ begun_pending p step.starts;
    coming = [];
    way = None;
    in_step =
        deep.in_step_begin Node (numbered_step table haystack) (StartsOf s first last)
        (is_wanted_end table haystack whole) (λ x. x.1) (begun_pending p step.starts)
        (λ m v i. (let r = begun_own_way table at 0 step.starts are.in_order step.low high m v i in
        (r.0, r.1, r.2)))
        (begun_ordered table at 0 step.starts are.in_order step.low high) is_pending u.before
        (subst (λ z. Steps z u.recorded u.coming [] None) u.from_is
        (subst (λ z. Steps u.from u.recorded u.coming [] z) u.best_holds u.in_step));
    seen = λ r v e. absurd (let lt = u.before (r, p) v e in omega (arith, lt));
    met = λ r e. absurd (step.new r e);
    frames_hold = refl;
    ways_hold =
        subst (λ ts. Holds p ts (u.coming ++ begun_pending p step.starts)) (sym pushed)
        (held_append table haystack s p cur (begun step.reported blank step.starts) u.coming
        (begun_pending p step.starts) u.hold
        (begun_held 0 blank blanks step.starts are.in_order));
    coming_hold = none_next;
    best_holds = refl;
  }
    where
      is_pending : (front : List ℕ) (n : Node) → StartsOf s first last front n
          → StartsBelow (suc p) front → StartsBelow p front
          ⊎ (pending_node.In Node n front (begun_pending p step.starts) ⊎ Dead n)
      is_pending front n (i, number, entry, low, high, is, e, f) below = elim (cases_lt i p) [
        | inl less ↦ inl (subst (StartsBelow p) (sym e) less)
        | inr le ↦
            let own : i < suc p = subst (StartsBelow (suc p)) e below in
            let same : i ≡ p = omega (arith, own, le) in
            inr (by_each same (are.each number entry is))
      ]
        where
          by_each : i ≡ p → IsAmong number entry step.starts ⊎ IsDeadAt table haystack entry p
              → pending_node.In Node n front (begun_pending p step.starts) ⊎ Dead n
          by_each same (inl among) =
              inl (subst (λ z. pending_node.In Node z front (begun_pending p step.starts))
              (sym (f ∙ ap (λ z. (entry, z)) same))
              (subst (λ z. pending_node.In Node (entry, p) z (begun_pending p step.starts))
              (sym (e ∙ ap (λ z. z ∷ (number ∷ [])) same))
              (among_pending table at number entry step.starts among)))
          by_each same (inr gone) =
              inr (subst Dead (sym (f ∙ ap (λ z. (entry, z)) same))
              (still_dead table haystack whole (entry, p) gone))

  abbrev Stepped : Type 0
  Stepped =
      (from : ℕ) × FromIs (p + 1) from best'
      × Between table (record at { from = from }) after [] best'

  stepped : Coming best → Stepped
  stepped u = go best step.begins refl u
    where
      from_kept : (b b' : Best) (from : ℕ) → FromIs (p + 1) from b → (b' ≡ None → b ≡ None)
          → FromIs (p + 1) from b'
      from_kept b (Some x) from f kept = tt
      from_kept None None from f kept = f
      from_kept (Some x) None from f kept =
          let e : ◌≡◌ {A = Best} (Some x) None = kept refl in absurd (not_there (sym e))

      on : (from : ℕ) (b : Best) → best ≡ b → FromIs (p + 1) from b
          → Between table (record at { from = from }) step.first_state step.ways b → Stepped
      on from b e from_is w = (
        from,
        from_kept best best' from (subst (FromIs (p + 1) from) (sym e) from_is) step.kept,
        step.steps from step.is
            (subst (Between table (record at { from = from }) step.first_state step.ways) (sym e)
            w),
      )

      go : (b : Best) → Begun step.starts step.reported b cur step.ways → best ≡ b → Coming b
          → Stepped
      go None (inl (none, (blank, blanks, pushed))) e u =
          on (suc p) None e (omega arith) (elim (cases_lt last p) [
            | inl later ↦ begun_after blank pushed later u
            | inr high ↦ begun_own blank blanks pushed high (step.are.up_to high) u
          ])
      go None (inr (some, same)) e u = absurd (some refl)
      go (Some b) (inl (none, pushed)) e u = absurd (not_there (sym none))
      go (Some b) (inr (why, same)) e u =
          on u.from (Some b) e tt (begun_alone u.from (Some b) u u.in_step same)

  pub stepped_all : Coming best → IsComingTo table haystack s whole first last (p + 1) after.next
      best'
  stepped_all u =
      let (from, is, w) = stepped u in
      let one_more : suc p ≡ p + 1 = omega arith in
      subst (λ z. IsComingTo table haystack s whole first last z after.next best') one_more
      (record {
        recorded = w.recorded;
        coming = w.coming;
        way = w.way;
        from = from;
        in_step =
            deep.in_step_next_alone Node (numbered_step table haystack) (StartsOf s first last)
            (is_wanted_end table haystack whole) (λ x. x.1)
            (subst (λ z. Steps from w.recorded ([] ++ z) w.coming w.way)
            (none_held table haystack s p w.later w.ways_hold)
            (subst (λ z. Steps from w.recorded (z ++ w.later) w.coming w.way) w.frames_hold
            w.in_step));
        before = λ m v r. (let le = w.in_step.past m v r in omega (arith, le));
        hold = w.coming_hold;
        best_holds = w.best_holds;
        from_is = subst (λ z. FromIs z from best') (sym one_more) is;
      })

  -- just places of the part were entered
  pub stepped_within : Coming best → (begin len : ℕ) → IsOwnPart table s begin len → (q : ℕ)
      → slice_index_or after.entered q false ≡ true → IsWithin begin len q
  stepped_within u begin len part q e =
      let (from, is, w) = stepped u in
      let (v, known) = w.met q e in
      recorded_within table (record at { from = from }) begin len part w.recorded
      (w.under ++ w.later) w.coming w.way w.in_step (q, p) v known

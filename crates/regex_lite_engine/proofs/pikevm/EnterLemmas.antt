-- Entering a place, by what stands there.
use Rattle.regex_lite_engine.proofs.Common.{◌≡◌, ℕ, zero, suc, ◌+◌, ◌<◌, Bool, true, false, List}
use Rattle.regex_lite_engine.proofs.Common.{[], ◌∷◌, ◌++◌, map, length, set, if◌then◌else◌, IsTrue}
use Rattle.regex_lite_engine.proofs.Common.{slice_get, slice_index_or, slice_set, Some}
use Rattle.regex_lite_engine.proofs.Common.{None, Option, sym, refl, ap, ◌∙◌, subst, inl, inr}
use Rattle.regex_lite_engine.proofs.Common.{arith, length-map, set-get_or, in_ranges, Set, just}
use Rattle.regex_lite_engine.proofs.Common.{after, holds_between, ClassRange, Arrow, with_arrows}
use Rattle.regex_lite_engine.proofs.Common.{read_past, go, go_marking, go_holding, go_reading}
use Rattle.regex_lite_engine.proofs.Common.{one_of, arrived, step_from, arrow_count, place_of}
use Rattle.regex_lite_engine.proofs.Common.{reads, pushing, reading_on, Thread, WayReported}
use Rattle.regex_lite_engine.proofs.Common.{ThreadsHold, SearchAt, Reported, Marks, marked, over}
use Rattle.regex_lite_engine.proofs.Common.{mark_of, place_with, is_complete, numbered_step, Best}
use Rattle.regex_lite_engine.proofs.Common.{are_wanted_before, is_wanted_end}
use Rattle.regex_lite_engine.proofs.Common.{Node, PendingNode, HasSlots, Row, IsHere, Here}
use Rattle.std.proofs.lemmas.List.{set-set}
use Rattle.regex_lite_engine.specs.declared.nfa.place.Place as code
use Rattle.regex_lite_engine.specs.declared.nfa.place.Place.TheVariants as stored
use Rattle.regex_lite_engine.specs.Graph.Places.{Place}
use Rattle.regex_lite_engine.specs.Pikevm.Entering.{Enters}
use Rattle.regex_lite_engine.specs.Pikevm.Machine.{Job, explore, restore, State}
use Rattle.regex_lite_engine.specs.Pikevm.Walking.{FramesHold, IsWalking}
use Rattle.regex_lite_engine.proofs.search.MarkLemmas.{slots_set, slots_past}
use Rattle.regex_lite_syntax.proofs.OptionLemmas.{not_there, same_some}
use Rattle.regex_lite_engine.proofs.search.PlaceLemmas.{free_stays, free_marks, hops, no_second}
use Rattle.regex_lite_engine.proofs.search.PlaceLemmas.{none_is_pending, one_blocked, one}
use Rattle.regex_lite_engine.proofs.search.PlaceLemmas.{wide, is_pending_by}
use Rattle.regex_lite_engine.proofs.pikevm.WalkLemmas.{marked_in, holds_on, held_append}
use Rattle.regex_lite_engine.proofs.pikevm.WalkLemmas.{walk_entered, walk_read, walk_complete}
use Rattle.regex_lite_engine.proofs.search.WantedLemmas.{open_wanted}

-- nothing is read of the empty set
pub reads_none : (o : Option ℕ) → reads (in_ranges []) o ≡ false
reads_none None = refl
reads_none (Some c) = refl

module _ (table : List (Place ℕ)) (at : SearchAt) (state : State) (i : Reported)
    (ways : List Thread) (best : Best) (q : ℕ) (short : q < length state.entered)
    (walking : IsWalking table at (record state { frames = explore q ∷ state.frames }) i ways best)
    (new : slice_index_or state.entered q false ≡ true → ⊥) where
  open at use {haystack, whole, p}

  abbrev Reported_way : Row → Node → List ℕ → Type 0
  Reported_way = WayReported table haystack at.entries i

  abbrev Frames_hold : Row → List Job → List (PendingNode Node) → Type 0
  Frames_hold = FramesHold table haystack at.entries p i

  abbrev step : ℕ → Option Node
  step = numbered_step table haystack (q, p)

  abbrev listed : List ℕ → ℕ → List (PendingNode Node)
  listed w c = is_pending_by table haystack (place_with table q) p w c 0

  -- the place was entered, and the walk goes on from there
  abbrev Walks : State → Type 0
  Walks e = IsWalking table at e i ways best

  abbrev n : State
  n = marked_in state q

  -- nothing leads on from there, and no match that is wanted is complete
  walk_stuck : (IsTrue (is_wanted_end table haystack whole (q, p)) → ⊥)
      → ((a : ℕ) → step a ≡ None) → Walks n
  walk_stuck open_still blocked =
      walk_entered table at state i ways best q short walking new state.row state.frames open_still
      (λ a l hops. absurd (not_there (sym (blocked a) ∙ hops)))
      (λ w rest held waits. subst (λ z. Frames_hold state.row state.frames (z ++ rest))
      (sym (none_is_pending table haystack q p blocked w (wide table haystack (q, p)) 0)) waits)

  -- no arrow fits
  walk_blocked : (arrows : List (Arrow ℕ)) → place_with table q ≡ with_arrows arrows
      → ((a : ℕ) → step a ≡ None) → Walks n
  walk_blocked arrows e blocked =
      walk_stuck (open_wanted table haystack whole q p arrows e) blocked

  -- free arrows
  walk_choice : (to : List ℕ) → place_with table q ≡ with_arrows (map go to)
      → Walks (pushing n (map (λ l. explore l) to))
  walk_choice to e =
      walk_entered table at state i ways best q short walking new state.row
      (map (λ l. explore l) to ++ state.frames) (open_wanted table haystack whole q p (map go to) e)
      (λ a l hops. free_stays haystack to p a l (sym (ap (λ x. step_from haystack x p a) e) ∙ hops))
      (λ w rest held waits.
      subst (λ c. Frames_hold state.row (map (λ l. explore l) to ++ state.frames)
      (listed w c ++ rest))
      (sym (length-map to go) ∙ sym (ap arrow_count e))
      (all_listed to 0 w rest (hops table haystack q p to e) held waits))
    where
      all_listed : (qs : List ℕ) (j : ℕ) (w : List ℕ) (rest : List (PendingNode Node))
          → ((t l : ℕ) → slice_get qs t ≡ Some l → step (j + t) ≡ Some (l, p))
          → Reported_way state.row (q, p) w → Frames_hold state.row state.frames rest
          → Frames_hold state.row (map (λ l. explore l) qs ++ state.frames)
          (is_pending_by table haystack (place_with table q) p w (length qs) j ++ rest)
      all_listed [] j w rest hops held waits = waits
      all_listed (l ∷ qs) j w rest hops held waits =
          let same : j + 0 ≡ j = omega arith in
          let here : step j ≡ Some (l, p) =
          subst (λ z. step z ≡ Some (l, p)) same (hops 0 l refl) in
          subst
          (λ o. Frames_hold state.row (explore l ∷ (map (λ l. explore l) qs ++ state.frames))
          ((one table haystack o (w ++ j ∷ []) ++ is_pending_by table haystack (place_with table q)
          p w (length qs) (suc j)) ++ rest)) (sym here) (
            w ++ j ∷ [],
            is_pending_by table haystack (place_with table q) p w (length qs) (suc j) ++ rest,
            refl,
            holds_on table haystack at.entries i state.row state.row (q, p) w j (l, p) held here
                (λ ms has. subst (λ z. HasSlots haystack state.row (over (marked z p) ms))
                (sym (ap (λ x. mark_of x j) e ∙ free_marks to j)) has),
            all_listed qs (suc j) w rest
                (λ t o at. (let next : j + suc t ≡ suc j + t = omega arith in subst
                (λ z. step z ≡ Some (o, p)) next (hops (suc t) o at)))
                held waits,
          )

  -- one arrow that stays at the position
  walk_single : (a : Arrow ℕ) (to : ℕ) (row : Row) (frames : List Job)
      → place_with table q ≡ with_arrows (a ∷ []) → step 0 ≡ Some (to, p) →
      ((ms : Marks) → HasSlots haystack state.row ms
      → HasSlots haystack row (over (marked (mark_of (place_with table q) 0) p) ms)) →
      ((os : List (PendingNode Node)) → Frames_hold state.row state.frames os → Frames_hold row
      frames os) →
      Walks (record n { row = row; frames = explore to ∷ frames })
  walk_single a to row frames e here marks waits' =
      walk_entered table at state i ways best q short walking new row (explore to ∷ frames)
      (open_wanted table haystack whole q p (a ∷ []) e) stays
      (λ w rest held waits. subst (λ c. Frames_hold row (explore to ∷ frames) (listed w c ++ rest))
      (sym (ap arrow_count e))
      (subst (λ o. Frames_hold row (explore to ∷ frames) ((one table haystack o (w ++ 0 ∷ []) ++ [])
      ++ rest)) (sym here) (
        w ++ 0 ∷ [],
        rest,
        refl,
        holds_on table haystack at.entries i state.row row (q, p) w 0 (to, p) held here marks,
        waits' rest waits,
      )))
    where
      stays : (b : ℕ) (l : Node) → step b ≡ Some l → l.1 ≡ p
      stays zero l hops = sym (ap (λ (z : Node). z.1) (same_some (sym here ∙ hops)))
      stays (suc b) l hops = absurd (not_there (sym (no_second table haystack q p a e b) ∙ hops))

  -- one arrow that leads to the next position
  walk_reads : (a : Arrow ℕ) (to : ℕ) → place_with table q ≡ with_arrows (a ∷ [])
      → step 0 ≡ Some (to, suc p) → mark_of (place_with table q) 0 ≡ None
      → Walks (reading_on true n (to, i, state.row))
  walk_reads a to e here unmarked =
      walk_read table at state i ways best q short walking new
      (state.next ++ (to, i, state.row) ∷ [])
      (open_wanted table haystack whole q p (a ∷ []) e) moves
      (λ w coming held all_held. held_append table haystack at.entries (suc p) state.next
      ((to, i, state.row) ∷ []) coming (listed w (wide table haystack (q, p))) all_held
      (subst (λ c. Held (listed w c)) (sym (ap arrow_count e))
      (subst (λ o. Held (one table haystack o (w ++ 0 ∷ []) ++ [])) (sym here) (
        refl,
        holds_on table haystack at.entries i state.row state.row (q, p) w 0 (to, suc p) held here
            (λ ms has. subst (λ z. HasSlots haystack state.row (over (marked z p) ms))
            (sym unmarked) has),
        tt,
      ))))
    where
      Held : List (PendingNode Node) → Type 0
      Held os = ThreadsHold table haystack at.entries (suc p) ((to, i, state.row) ∷ []) os

      moves : (b : ℕ) (l : Node) → step b ≡ Some l → l.1 ≡ suc p
      moves zero l hops = sym (ap (λ (z : Node). z.1) (same_some (sym here ∙ hops)))
      moves (suc b) l hops = absurd (not_there (sym (no_second table haystack q p a e b) ∙ hops))

  module _ (here : Here) (is : IsHere haystack p here) where
    -- what is true after a place is entered
    abbrev Entered : State → Bool → Type 0
    Entered e done =
        IsWalking table at (record e { frames = if done then [] else e.frames }) i
        (if done then [] else ways) (if done then Some (i, here.at, e.row) else best)

    settle : (e e' : State) (done : Bool) → Walks e → e' ≡ e → done ≡ false → Entered e' done
    settle e e' done w same ed = subst (Entered e') (sym ed) (subst Walks (sym same) w)

    settle_reads : (set : Set) (to : ℕ)
        → place_with table q ≡ with_arrows (go_reading set to ∷ [])
        → Walks (reading_on (reads set here.after) n (to, i, state.row))
    settle_reads set to e = by_test (reads set here.after) refl
      where
        went : (o : Option ℕ) → reads set o ≡ true
            → arrived {A = ℕ} to (read_past set p o) ≡ Some (to, suc p)
        went None d = cc
        went (Some c) d = ap (λ b. arrived to (if b then Some (suc p) else None)) d

        stuck : (o : Option ℕ) → reads set o ≡ false → arrived {A = ℕ} to (read_past set p o) ≡ None
        stuck None d = refl
        stuck (Some c) d = ap (λ b. arrived to (if b then Some (suc p) else None)) d

        blocked : reads set here.after ≡ false → (a : ℕ)
            → step_from haystack (with_arrows (go_reading set to ∷ [])) p a ≡ None
        blocked d zero = stuck (after haystack p) (ap (reads set) (sym is.ahead) ∙ d)
        blocked d (suc a) = refl

        by_test : (b : Bool) → reads set here.after ≡ b → Walks (reading_on b n (to, i, state.row))
        by_test true d =
            walk_reads (go_reading set to) to e
            (ap (λ x. step_from haystack x p 0) e
            ∙ went (after haystack p) (ap (reads set) (sym is.ahead) ∙ d))
            (ap (λ x. mark_of x 0) e)
        by_test false d =
            walk_blocked (go_reading set to ∷ []) e
            (λ a. ap (λ x. step_from haystack x p a) e ∙ blocked d a)

    -- nothing is read of the empty set, which has no arrow
    settle_class : (ranges : List ClassRange) (to : ℕ) → place_with table q ≡ one_of ranges to
        → Walks (reading_on (reads (in_ranges ranges) here.after) n (to, i, state.row))
    settle_class [] to e =
        subst (λ b. Walks (reading_on b n (to, i, state.row))) (sym (reads_none here.after))
        (walk_blocked [] e (λ a. ap (λ x. step_from haystack x p a) e))
    settle_class (r ∷ rs) to e = settle_reads (in_ranges (r ∷ rs)) to e

    settle_look : (b : Bool) (arrow : Arrow ℕ) (to : ℕ)
        → place_with table q ≡ with_arrows (arrow ∷ [])
        → step 0 ≡ arrived to (if b then Some p else None) → mark_of (place_with table q) 0 ≡ None
        → Walks (if b then pushing n (explore to ∷ []) else n)
    settle_look true arrow to e hops unmarked =
        walk_single arrow to state.row state.frames e hops (λ ms has.
        subst (λ z. HasSlots haystack state.row (over (marked z p) ms)) (sym unmarked) has)
        (λ os w. w)
    settle_look false arrow to e hops unmarked =
        walk_blocked (arrow ∷ []) e (one_blocked table haystack q p arrow e hops)

    -- a slot is marked
    walk_marked : (slot to : ℕ) (frames : List Job)
        → place_with table q ≡ with_arrows (go_marking slot to ∷ [])
        → ((os : List (PendingNode Node)) → Frames_hold state.row state.frames os
        → Frames_hold (slice_set state.row slot (Some here.at)) frames os)
        → Walks (record n {
          row = slice_set state.row slot (Some here.at);
          frames = explore to ∷ frames;
        })
    walk_marked slot to frames e waits =
        walk_single (go_marking slot to) to (slice_set state.row slot (Some here.at)) frames e
        (ap (λ x. step_from haystack x p 0) e)
        (λ ms has.
        subst (λ z. HasSlots haystack (slice_set state.row slot (Some here.at))
        (over (marked z p) ms))
        (sym (ap (λ x. mark_of x 0) e))
        (subst (λ z. HasSlots haystack (slice_set state.row slot (Some z))
        (over (marked (Some slot) p) ms))
        (sym is.bytes) (slots_set haystack state.row ms slot p has)))
        waits

    -- the walk goes on from the pending nodes that the place adds, or it has a match
    pub walk_enters : (x : code.Place) (e : State) (done : Bool) → place_with table q ≡ place_of x
        → Enters whole here i x n e done → Entered e done
    walk_enters (stored.Empty to) e done here_at (same, ed) =
        settle (pushing n (explore to ∷ [])) e done (walk_choice (to ∷ []) here_at) same ed
    walk_enters (stored.Char c to) e done here_at (same, ed) =
        settle (reading_on (reads (just c) here.after) n (to, i, state.row)) e done
        (settle_reads (just c) to here_at) same ed
    walk_enters (stored.Class to set) e done here_at (same, ed) =
        settle (reading_on (reads (in_ranges set) here.after) n (to, i, state.row)) e done
        (settle_class set to here_at) same ed
    walk_enters (stored.Look l to) e done here_at (same, ed) =
        let b = holds_between l here.before here.after in
        settle (if b then pushing n (explore to ∷ []) else n) e done
        (settle_look b (go_holding l to) to here_at
        (ap (λ x. step_from haystack x p 0) here_at
        ∙ ap (λ b. arrived to (if b then Some p else None))
        (ap (λ o. holds_between l o (after haystack p)) (sym is.behind)
        ∙ ap (λ o. holds_between l here.before o) (sym is.ahead)))
        (ap (λ x. mark_of x 0) here_at)) same ed
    walk_enters (stored.Slot slot to) e done here_at (inl (within, inr (none, same)), ed) =
        let row = slice_set state.row slot (Some here.at) in
        settle (record n { row = row; frames = explore to ∷ state.frames }) e done
        (walk_marked slot to state.frames here_at
        (λ os w. subst (λ z. Frames_hold row z os) (sym none)
        (subst (λ z. Frames_hold state.row z os) none w))) same ed
    walk_enters (stored.Slot slot to) e done here_at (inl (within, inl same), ed) =
        let old = slice_index_or state.row slot None in
        let frames = restore slot old ∷ state.frames in
        settle (record n {
          row = slice_set state.row slot (Some here.at);
          frames = explore to ∷ frames;
        }) e done
        (walk_marked slot to frames here_at (λ os w. subst (λ z. Frames_hold z state.frames os)
        (sym (set-set state.row slot (Some here.at) old ∙ set-get_or state.row slot None)) w)) same
        ed
    walk_enters (stored.Slot slot to) e done here_at (inr (past, same), ed) =
        settle (pushing n (explore to ∷ [])) e done
        (walk_single (go_marking slot to) to state.row state.frames here_at
        (ap (λ x. step_from haystack x p 0) here_at)
        (λ ms has. subst (λ z. HasSlots haystack state.row (over (marked z p) ms))
        (sym (ap (λ x. mark_of x 0) here_at)) (slots_past haystack state.row ms slot p past has))
        (λ os w. w))
        same ed
    walk_enters (stored.Choice a b) e done here_at (same, ed) =
        settle (pushing n (explore a ∷ (explore b ∷ []))) e done
        (walk_choice (a ∷ (b ∷ [])) here_at)
        same ed
    walk_enters (stored.Branches all) e done here_at (same, ed) =
        settle (pushing n (map (λ l. explore l) all.items)) e done
        (walk_choice all.items here_at) same
        ed
    walk_enters stored.Match e done here_at (same, ed) =
        by_wanted (are_wanted_before whole here.after) (ap (are_wanted_before whole) is.ahead) ed
      where
        ends : Bool → Type 0
        ends wanted = IsTrue (if wanted then is_complete (place_with table q) else false)

        by_wanted : (wanted : Bool) → wanted ≡ are_wanted_before whole (after haystack p)
            → done ≡ wanted → Entered e done
        by_wanted true known ed =
            subst (Entered e) (sym ed) (subst (λ z. Entered z true) (sym same)
            (subst
            (λ z. IsWalking table at (record n { frames = [] }) i [] (Some (i, z, state.row)))
            (sym is.bytes)
            (walk_complete table at state i ways best q short walking new
            (subst ends known (subst (λ x. IsTrue (is_complete x)) (sym here_at) refl)))))
        by_wanted false known ed =
            settle n e done
            (walk_stuck (λ complete. never (subst ends (sym known) complete))
            (λ a. ap (λ x. step_from haystack x p a) here_at))
            same ed
          where
            never : IsTrue false → ⊥
            never complete = cc

-- Entering a place in a depth-first walk, by what stands there.
use Rattle.regex_lite_engine.proofs.Common.{◌≡◌, ℕ, zero, suc, ◌+◌, ◌<◌, ◌≤◌, Bool, true, false}
use Rattle.regex_lite_engine.proofs.Common.{List, [], ◌∷◌, ◌++◌, map, length, if◌then◌else◌, IsTrue}
use Rattle.regex_lite_engine.proofs.Common.{slice_get, slice_index_or, slice_set, Some, None}
use Rattle.regex_lite_engine.proofs.Common.{Option, sym, refl, ap, ◌∙◌, subst, inl, inr, arith}
use Rattle.regex_lite_engine.proofs.Common.{length-map, set-get_or, slice_get_within, len_utf8}
use Rattle.regex_lite_engine.proofs.Common.{in_ranges, Set, just, after, holds_between, ClassRange}
use Rattle.regex_lite_engine.proofs.Common.{Pairs, pair_number, was_entered, Held, WayHolds}
use Rattle.regex_lite_engine.proofs.Common.{SearchFrom, Arrow, with_arrows, read_past, go}
use Rattle.regex_lite_engine.proofs.Common.{go_marking, go_holding, go_reading, one_of, arrived}
use Rattle.regex_lite_engine.proofs.Common.{step_from, arrow_count, place_of, Marks, marked, over}
use Rattle.regex_lite_engine.proofs.Common.{mark_of, place_with, is_complete, numbered_step}
use Rattle.regex_lite_engine.proofs.Common.{IsNumberedOutcome, Node, PendingNode, offset, IsOffset}
use Rattle.regex_lite_engine.proofs.Common.{HasSlots, Row}
use Rattle.std.proofs.lemmas.List.{set-set}
use Rattle.regex_lite_syntax.specs.Text.{before}
use Rattle.regex_lite_engine.specs.declared.nfa.place.Place as code
use Rattle.regex_lite_engine.specs.declared.nfa.place.Place.TheVariants as stored
use Rattle.regex_lite_engine.specs.Backtrack.Entering.{Enters, read_on}
use Rattle.regex_lite_engine.specs.Backtrack.Machine.{Frame, explore, restore}
use Rattle.regex_lite_engine.specs.Backtrack.Walking as walk
use Rattle.regex_lite_engine.specs.Graph.Places.{Place}
use Rattle.regex_lite_engine.specs.Backtrack.Walking.{IsWalking}
use Rattle.regex_lite_engine.proofs.OffsetLemmas.{offset_next}
use Rattle.regex_lite_engine.proofs.backtrack.WalkLemmas.{walk_entered, walk_complete}
use Rattle.regex_lite_engine.proofs.search.PlaceLemmas.{free_marks, hops, none_is_pending}
use Rattle.regex_lite_engine.proofs.search.PlaceLemmas.{one_blocked, open_at, one, is_pending_by}
use Rattle.regex_lite_engine.proofs.search.MarkLemmas.{slots_set, slots_past}
use Rattle.regex_lite_engine.proofs.backtrack.NumberedLemmas.{holds_on}

-- nothing is read of the empty set
read_none : (at to : ℕ) (o : Option ℕ) (frames : List Frame)
    → read_on at (in_ranges []) o to frames ≡ frames
read_none at to None frames = refl
read_none at to (Some c) frames = refl

module _ (table : List (Place ℕ)) (search : SearchFrom) (pairs : Pairs) (held : Held) (q p at : ℕ)
    (inside : q < length table) (low : search.first ≤ p) (is_offset : IsOffset search.haystack p at)
    (u : IsWalking table search pairs (record held { frames = explore q at ∷ held.frames }))
    (new : was_entered pairs q at ≡ false) (all : pairs.places ≡ length table)
    (begins : pairs.first ≡ offset search.haystack search.first)
    (short : pair_number pairs.places pairs.first q at < length pairs.entered) where
  open search use {haystack}
  open held use {row, frames}

  abbrev pairs_now : Pairs
  pairs_now = record pairs {
    entered = slice_set pairs.entered (pair_number pairs.places pairs.first q at) true;
  }

  abbrev Walks : Row → List Frame → Type 0
  Walks row' frames' =
      IsWalking table search pairs_now (record held { row = row'; frames = frames' })

  abbrev FramesHold : Row → List Frame → List (PendingNode Node) → Type 0
  FramesHold = walk.FramesHold table haystack search.entry search.i

  abbrev Holds : Row → Node → List ℕ → Type 0
  Holds = WayHolds table haystack search.entry search.i

  abbrev listed : List ℕ → ℕ → ℕ → List (PendingNode Node)
  listed = is_pending_by table haystack (place_with table q) p

  -- the row then has what arrow k marks
  abbrev Marking : ℕ → Row → Type 0
  Marking k row' =
      (marks : Marks) → HasSlots haystack row marks
      → HasSlots haystack row' (over (marked (mark_of (place_with table q) k) p) marks)

  unmarked : (k : ℕ) → mark_of (place_with table q) k ≡ None → Marking k row
  unmarked k e marks has =
      subst (λ z. HasSlots haystack row (over (marked z p) marks)) (sym e) has

  goes_on : (arrows : List (Arrow ℕ)) (row' : Row) (frames' : List Frame)
      → place_with table q ≡ with_arrows arrows
      → ((w : List ℕ) (rest : List (PendingNode Node)) → Holds row (q, p) w → FramesHold row frames
      rest → FramesHold row' frames' (listed w (length arrows) 0 ++ rest))
      → Walks row' frames'
  goes_on arrows row' frames' e hold' =
      walk_entered table search pairs held q p at inside low is_offset u new all begins short
      (record held { row = row'; frames = frames' }) (open_at table haystack q p arrows e)
      (λ w rest holds waits. subst (λ c. FramesHold row' frames' (listed w c 0 ++ rest))
      (sym (ap arrow_count e)) (hold' w rest holds waits))

  -- no arrow fits
  walk_blocked : (arrows : List (Arrow ℕ)) → place_with table q ≡ with_arrows arrows
      → ((k : ℕ) → numbered_step table haystack (q, p) k ≡ None) → Walks row frames
  walk_blocked arrows e blocked =
      goes_on arrows row frames e
      (λ w rest holds waits. subst (λ z. FramesHold row frames (z ++ rest))
      (sym (none_is_pending table haystack q p blocked w (length arrows) 0)) waits)

  -- free arrows
  walk_choice : (to : List ℕ) → place_with table q ≡ with_arrows (map go to)
      → Walks row (map (λ l. explore l at) to ++ frames)
  walk_choice to e =
      goes_on (map go to) row (map (λ l. explore l at) to ++ frames) e
      (λ w rest holds waits. subst
      (λ c. FramesHold row (map (λ l. explore l at) to ++ frames) (listed w c 0 ++ rest))
      (sym (length-map to go)) (each to 0 w rest (hops table haystack q p to e) holds waits))
    where
      each : (qs : List ℕ) (k : ℕ) (w : List ℕ) (rest : List (PendingNode Node))
          → ((t l : ℕ) → slice_get qs t ≡ Some l
          → numbered_step table haystack (q, p) (k + t) ≡ Some (l, p))
          → Holds row (q, p) w → FramesHold row frames rest
          → FramesHold row (map (λ l. explore l at) qs ++ frames)
          (listed w (length qs) k ++ rest)
      each [] k w rest hops holds waits = waits
      each (l ∷ qs) k w rest hops holds waits =
          subst (λ o. FramesHold row (explore l at ∷ (map (λ l. explore l at) qs ++ frames))
          ((one table haystack o (w ++ k ∷ []) ++ listed w (length qs) (suc k)) ++ rest))
          (sym here) (
            p,
            w ++ k ∷ [],
            listed w (length qs) (suc k) ++ rest,
            is_offset,
            refl,
            holds_on table haystack search.entry search.i row row (q, p) w k (l, p) holds here
                (unmarked k (ap (λ x. mark_of x k) e ∙ free_marks to k)),
            each qs (suc k) w rest
                (λ t o got. subst (λ z. numbered_step table haystack (q, p) z ≡ Some (o, p))
                (next t) (hops (suc t) o got)) holds waits,
          )
        where
          here : numbered_step table haystack (q, p) k ≡ Some (l, p)
          here =
              let same : k + 0 ≡ k = omega arith in
              subst (λ z. numbered_step table haystack (q, p) z ≡ Some (l, p)) same
              (hops 0 l refl)

          next : (t : ℕ) → k + suc t ≡ suc k + t
          next t = omega arith

  -- one arrow
  walk_single : (arrow : Arrow ℕ) (to j last : ℕ) (row' : Row) (frames' : List Frame)
      → place_with table q ≡ with_arrows (arrow ∷ [])
      → numbered_step table haystack (q, p) 0 ≡ Some (to, j) → IsOffset haystack j last
      → Marking 0 row'
      → ((rest : List (PendingNode Node)) → FramesHold row frames rest → FramesHold row' frames'
      rest) → Walks row' (explore to last ∷ frames')
  walk_single arrow to j last row' frames' e here is_last marking waits' =
      goes_on (arrow ∷ []) row' (explore to last ∷ frames') e
      (λ w rest holds waits. subst
      (λ o. FramesHold row' (explore to last ∷ frames')
      ((one table haystack o (w ++ 0 ∷ []) ++ []) ++ rest)) (sym here) (
        j,
        w ++ 0 ∷ [],
        rest,
        is_last,
        refl,
        holds_on table haystack search.entry search.i row row' (q, p) w 0 (to, j) holds here
            marking,
        waits' rest waits,
      ))

  -- where a character of the set comes next, the walk goes on after it
  walk_reads : (set : Set) (to : ℕ) → place_with table q ≡ with_arrows (go_reading set to ∷ [])
      → Walks row (read_on at set (after haystack p) to frames)
  walk_reads set to e = by_next (after haystack p) refl
    where
      first_step : numbered_step table haystack (q, p) 0
          ≡ arrived to (read_past set p (after haystack p))
      first_step = ap (λ x. step_from haystack x p 0) e

      blocked : arrived {A = ℕ} to (read_past set p (after haystack p)) ≡ None → (k : ℕ)
          → numbered_step table haystack (q, p) k ≡ None
      blocked none zero = first_step ∙ none
      blocked none (suc k) = ap (λ x. step_from haystack x p (suc k)) e

      by_next : (o : Option ℕ) → after haystack p ≡ o → Walks row (read_on at set o to frames)
      by_next None none =
          walk_blocked (go_reading set to ∷ []) e
          (blocked (ap (λ z. arrived to (read_past set p z)) none))
      by_next (Some c) some = by_test (set c) refl
        where
          fits : (b : Bool) → set c ≡ b
              → arrived {A = ℕ} to (read_past set p (after haystack p))
              ≡ arrived to (if b then Some (suc p) else None)
          fits b d =
              ap (λ z. arrived to (read_past set p z)) some
              ∙ ap (λ z. arrived to (if z then Some (suc p) else None)) d

          by_test : (b : Bool) → set c ≡ b
              → Walks row (if b then explore to (at + len_utf8 c) ∷ frames else frames)
          by_test false d = walk_blocked (go_reading set to ∷ []) e (blocked (fits false d))
          by_test true d =
              let within = slice_get_within haystack p c some in
              let next = offset_next haystack p c some in
              walk_single (go_reading set to) to (suc p) (at + len_utf8 c) row frames e
              (first_step ∙ fits true d) (omega (arith, within), omega (arith, next, is_offset.1))
              (unmarked 0 (ap (λ x. mark_of x 0) e)) (λ rest waits. waits)

  -- the empty set has no arrow
  walk_class : (ranges : List ClassRange) (to : ℕ) → place_with table q ≡ one_of ranges to
      → Walks row (read_on at (in_ranges ranges) (after haystack p) to frames)
  walk_class [] to e =
      subst (Walks row) (sym (read_none at to (after haystack p) frames))
      (walk_blocked [] e (λ k. ap (λ x. step_from haystack x p k) e))
  walk_class (range ∷ ranges) to e = walk_reads (in_ranges (range ∷ ranges)) to e

  walk_look : (b : Bool) (arrow : Arrow ℕ) (to : ℕ) → place_with table q ≡ with_arrows (arrow ∷ [])
      → numbered_step table haystack (q, p) 0 ≡ arrived to (if b then Some p else None)
      → mark_of (place_with table q) 0 ≡ None
      → Walks row (if b then explore to at ∷ frames else frames)
  walk_look true arrow to e here none =
      walk_single arrow to p at row frames e here is_offset (unmarked 0 none)
      (λ rest waits. waits)
  walk_look false arrow to e here none =
      walk_blocked (arrow ∷ []) e (one_blocked table haystack q p arrow e here)

  -- the slot holds the offset until the way is left
  walk_marks : (slot to : ℕ) → place_with table q ≡ with_arrows (go_marking slot to ∷ [])
      → Walks (slice_set row slot (Some at))
      (explore to at ∷ (restore slot (slice_index_or row slot None) ∷ frames))
  walk_marks slot to e =
      walk_single (go_marking slot to) to p at (slice_set row slot (Some at))
      (restore slot (slice_index_or row slot None) ∷ frames) e
      (ap (λ x. step_from haystack x p 0) e) is_offset
      (λ marks has. subst (λ z. HasSlots haystack (slice_set row slot (Some at))
      (over (marked z p) marks)) (sym (ap (λ x. mark_of x 0) e))
      (subst (λ z. HasSlots haystack (slice_set row slot (Some z))
      (over (marked (Some slot) p) marks)) (sym is_offset.1)
      (slots_set haystack row marks slot p has)))
      (λ rest waits. subst (λ z. FramesHold z frames rest)
      (sym (set-set row slot (Some at) (slice_index_or row slot None) ∙ set-get_or row slot None))
      waits)

  -- a slot after the row is not kept
  walk_past : (slot to : ℕ) → length row ≤ slot
      → place_with table q ≡ with_arrows (go_marking slot to ∷ [])
      → Walks row (explore to at ∷ frames)
  walk_past slot to past e =
      walk_single (go_marking slot to) to p at row frames e
      (ap (λ x. step_from haystack x p 0) e) is_offset
      (λ marks has. subst (λ z. HasSlots haystack row (over (marked z p) marks))
      (sym (ap (λ x. mark_of x 0) e)) (slots_past haystack row marks slot p past has))
      (λ rest waits. waits)

  -- what is true after a place is entered
  abbrev pub Entered : Held → Bool → Type 0
  Entered held' false = IsWalking table search pairs_now held'
  Entered held' true =
      IsNumberedOutcome table haystack search.entry search.first (Some (search.i, at, held'.row))

  settle : (row' : Row) (frames' : List Frame) (held' : Held) (done : Bool) → Walks row' frames'
      → held' ≡ record held { row = row'; frames = frames' } → done ≡ false → Entered held' done
  settle row' frames' held' done w same open_still =
      subst (Entered held') (sym open_still) (subst (λ h. Entered h false) (sym same) w)

  -- the walk goes on from the pending nodes that the place adds, or a match is complete
  pub walk_enters : (x : code.Place) (held' : Held) (done : Bool)
      → place_with table q ≡ place_of x
      → Enters haystack p at x held held' done → Entered held' done
  walk_enters (stored.Empty to) held' done e (same, ed) =
      settle row (explore to at ∷ frames) held' done (walk_choice (to ∷ []) e) same ed
  walk_enters (stored.Char c to) held' done e (same, ed) =
      settle row (read_on at (just c) (after haystack p) to frames) held' done
      (walk_reads (just c) to e) same ed
  walk_enters (stored.Class to set) held' done e (same, ed) =
      settle row (read_on at (in_ranges set) (after haystack p) to frames) held' done
      (walk_class set to e) same ed
  walk_enters (stored.Look test to) held' done e (same, ed) =
      let b = holds_between test (before haystack p) (after haystack p) in
      settle row (if b then explore to at ∷ frames else frames) held' done
      (walk_look b (go_holding test to) to e (ap (λ x. step_from haystack x p 0) e)
      (ap (λ x. mark_of x 0) e)) same ed
  walk_enters (stored.Slot slot to) held' done e (inl (within, same), ed) =
      settle (slice_set row slot (Some at))
      (explore to at ∷ (restore slot (slice_index_or row slot None) ∷ frames)) held' done
      (walk_marks slot to e) same ed
  walk_enters (stored.Slot slot to) held' done e (inr (past, same), ed) =
      settle row (explore to at ∷ frames) held' done (walk_past slot to past e) same ed
  walk_enters (stored.Choice a b) held' done e (same, ed) =
      settle row (explore a at ∷ (explore b at ∷ frames)) held' done (walk_choice (a ∷ (b ∷ [])) e)
      same ed
  walk_enters (stored.Branches entries) held' done e (same, ed) =
      settle row (map (λ l. explore l at) entries.items ++ frames) held' done
      (walk_choice entries.items e) same ed
  walk_enters stored.Match held' done e (same, ed) =
      subst (Entered held') (sym ed) (subst (λ h. Entered h true) (sym same)
      (walk_complete table search pairs held q p at inside low is_offset u new
      (subst (λ x. IsTrue (is_complete x)) (sym e) refl)))

-- What entering a place adds to what is left to do.
use Rattle.regex_lite_engine.proofs.Common.{◌≡◌, ℕ, zero, suc, ◌+◌, ◌<◌, ◌≤◌, Bool, true, false}
use Rattle.regex_lite_engine.proofs.Common.{List, [], ◌∷◌, ◌++◌, map, length, if◌then◌else◌}
use Rattle.regex_lite_engine.proofs.Common.{slice_index_or, slice_set, Some, None, IsUtf8, Option}
use Rattle.regex_lite_engine.proofs.Common.{chars, IsCharBoundary, sym, refl, ap, ◌∙◌, subst, inl}
use Rattle.regex_lite_engine.proofs.Common.{inr, arith, length-append, length-set, length-map}
use Rattle.regex_lite_engine.proofs.Common.{slice_get_within, len_utf8, in_ranges, Set, just, Text}
use Rattle.regex_lite_engine.proofs.Common.{after, holds_between, ClassRange, Held, with_arrows, go}
use Rattle.regex_lite_engine.proofs.Common.{go_marking, one_of, stack_bound_with, arrow_count}
use Rattle.regex_lite_engine.proofs.Common.{place_of, LeadBelow, LeadsBelow, position_at}
use Rattle.regex_lite_syntax.specs.Text.{before}
use Rattle.regex_lite_engine.specs.declared.nfa.place.Place as code
use Rattle.regex_lite_engine.specs.declared.nfa.place.Place.TheVariants as stored
use Rattle.regex_lite_engine.specs.Backtrack.Entering.{Enters, read_on}
use Rattle.regex_lite_engine.specs.Backtrack.Machine.{Frame, explore, restore}
use Rattle.regex_lite_engine.specs.Backtrack.Capacity.{explores, FramesBelow}
use Rattle.regex_lite_engine.specs.Graph.Places.{Place}
use Rattle.regex_lite_engine.proofs.OffsetLemmas.{boundary_at, offset_next}
use Rattle.regex_lite_engine.proofs.PositionLemmas.{position_is}

explores_map : (qs : List ℕ) (at : ℕ) (frames : List Frame)
    → explores (map (λ q. explore q at) qs ++ frames) ≡ explores frames + length qs
explores_map [] at frames = omega arith
explores_map (q ∷ qs) at frames = let more = explores_map qs at frames in omega (arith, more)

length_pushed : (qs : List ℕ) (at : ℕ) (frames : List Frame)
    → length (map (λ q. explore q at) qs ++ frames) ≡ length qs + length frames
length_pushed qs at frames =
    length-append (map (λ q. explore q at) qs) frames
    ∙ ap (λ n. n + length frames) (length-map qs (λ q. explore q at))

-- of arrows that mark nothing, all but one are left for later
entries_left : (slots : ℕ) (qs : List ℕ)
    → length qs ≤ stack_bound_with slots (with_arrows (map (λ q. go q) qs)) + 1
entries_left slots [] = omega arith
entries_left slots (q ∷ qs) = let size = length-map qs (λ (q : ℕ). go q) in omega (arith, size)

-- what is left to do, and the slots
to_do : {h h' : Held} → h' ≡ h → h'.frames ≡ h.frames
to_do e = ap (λ (z : Held). z.frames) e

slots : {h h' : Held} → h' ≡ h → h'.row ≡ h.row
slots e = ap (λ (z : Held). z.row) e

module _ (haystack : Text) (p at : ℕ) (held held' : Held) (done : Bool) where
  open held use {row, frames}
  open held' use {row as row', frames as frames'}

  -- this many arrows, and this stack bound
  abbrev pub IsFew : (arrows kept : ℕ) → Type 0
  IsFew arrows kept =
      (explores frames' ≤ explores frames + arrows)
      × (length frames' ≤ length frames + (arrows + 1))
      × (length frames' ≤ length frames + (kept + 1)) × (length row' ≡ length row)

  few_pushed : (qs : List ℕ) (arrows kept : ℕ) → frames' ≡ map (λ q. explore q at) qs ++ frames
      → row' ≡ row → length qs ≤ arrows → length qs ≤ kept + 1 → IsFew arrows kept
  few_pushed qs arrows kept is same few few_kept =
      let found : explores frames' ≡ explores frames + length qs =
      ap explores is ∙ explores_map qs at frames in
      let size : length frames' ≡ length qs + length frames =
      ap length is ∙ length_pushed qs at frames in (
        omega (arith, found, few),
        omega (arith, size, few),
        omega (arith, size, few_kept),
        ap length same,
      )

  few_read : (set : Set) (next : Option ℕ) (to : ℕ) → frames' ≡ read_on at set next to frames
      → row' ≡ row → IsFew 1 0
  few_read set None to is same = few_pushed [] 1 0 is same (omega arith) (omega arith)
  few_read set (Some c) to is same = by_test (set c) is
    where
      by_test : (b : Bool) → frames' ≡ (if b then explore to (at + len_utf8 c) ∷ frames else frames)
          → IsFew 1 0
      by_test true e =
          let found : explores frames' ≡ explores frames + 1 = ap explores e in
          let size : length frames' ≡ length frames + 1 = ap length e ∙ omega arith in
          (omega (arith, found), omega (arith, size), omega (arith, size), ap length same)
      by_test false e = few_pushed [] 1 0 e same (omega arith) (omega arith)

  few_class : (ranges : List ClassRange) (next : Option ℕ) (to : ℕ)
      → frames' ≡ read_on at (in_ranges ranges) next to frames → row' ≡ row
      → IsFew (arrow_count (one_of ranges to)) (stack_bound_with (length row) (one_of ranges to))
  few_class [] None to is same = few_pushed [] 0 0 is same (omega arith) (omega arith)
  few_class [] (Some c) to is same = few_pushed [] 0 0 is same (omega arith) (omega arith)
  few_class (range ∷ ranges) next to is same = few_read (in_ranges (range ∷ ranges)) next to is same

  -- the first of them marks a slot, where this many are kept
  few_marked : (width slot to : ℕ) → slot < width
      → frames' ≡ explore to at ∷ (restore slot (slice_index_or row slot None) ∷ frames)
      → row' ≡ slice_set row slot (Some at)
      → IsFew 1 (stack_bound_with width (with_arrows (go_marking slot to ∷ [])))
  few_marked zero slot to lt is marked = absurd (omega (arith, lt))
  few_marked (suc width) slot to lt is marked =
      let found : explores frames' ≡ explores frames + 1 = ap explores is in
      let size : length frames' ≡ length frames + 2 = ap length is ∙ omega arith in (
        omega (arith, found),
        omega (arith, size),
        omega (arith, size),
        ap length marked ∙ length-set row slot (Some at),
      )

  -- it adds no more frames than the place has arrows, or than its stack bound
  pub enters_few : (x : code.Place) → Enters haystack p at x held held' done
      → IsFew (arrow_count (place_of x)) (stack_bound_with (length row) (place_of x))
  enters_few (stored.Empty to) (e, going) =
      few_pushed (to ∷ []) 1 0 (to_do e) (slots e) (omega arith) (omega arith)
  enters_few (stored.Char c to) (e, going) =
      few_read (just c) (after haystack p) to (to_do e) (slots e)
  enters_few (stored.Class to set) (e, going) =
      few_class set (after haystack p) to (to_do e) (slots e)
  enters_few (stored.Look test to) (e, going) =
      by_test (holds_between test (before haystack p) (after haystack p)) (to_do e)
    where
      by_test : (b : Bool) → frames' ≡ (if b then explore to at ∷ frames else frames) → IsFew 1 0
      by_test true is = few_pushed (to ∷ []) 1 0 is (slots e) (omega arith) (omega arith)
      by_test false is = few_pushed [] 1 0 is (slots e) (omega arith) (omega arith)
  enters_few (stored.Slot slot to) (inl (within, e), going) =
      few_marked (length row) slot to within (to_do e) (slots e)
  enters_few (stored.Slot slot to) (inr (past, e), going) =
      few_pushed (to ∷ []) 1 (stack_bound_with (length row) (place_of (stored.Slot slot to)))
      (to_do e) (slots e) (omega arith) (omega arith)
  enters_few (stored.Choice first second) (e, going) =
      few_pushed (first ∷ (second ∷ [])) 2 1 (to_do e) (slots e) (omega arith) (omega arith)
  enters_few (stored.Branches entries) (e, going) =
      few_pushed entries.items (length (map (λ q. go q) entries.items))
      (stack_bound_with (length row) (place_of (stored.Branches entries))) (to_do e) (slots e)
      (let size = length-map entries.items (λ (q : ℕ). go q) in omega (arith, size))
      (entries_left (length row) entries.items)
  enters_few stored.Match (e, ends) =
      few_pushed [] 0 0 (to_do e) (slots e) (omega arith) (omega arith)

module _ (table : List (Place ℕ)) (haystack : List ℕ) (utf8 : IsUtf8 haystack) (first at : ℕ)
    (low : first ≤ at) (edge : IsCharBoundary haystack at) (held held' : Held) (done : Bool)
    (below : FramesBelow table haystack first (length held.row) held.frames) where
  open held use {row, frames}
  open held' use {row as row', frames as frames'}

  abbrev Within : Type 0
  Within = FramesBelow table haystack first (length row') frames'

  all_below : (qs : List ℕ) → LeadBelow (length table) (map (λ q. go q) qs)
      → FramesBelow table haystack first (length row) (map (λ q. explore q at) qs ++ frames)
  all_below [] inside = below
  all_below (q ∷ qs) inside = (inside.0, low, edge, all_below qs inside.1)

  -- these frames, with the row as it was
  within_row : (now : List Frame) → frames' ≡ now → row' ≡ row
      → FramesBelow table haystack first (length row) now → Within
  within_row now is same inside =
      subst (λ z. FramesBelow table haystack first (length z) frames') (sym same)
      (subst (λ z. FramesBelow table haystack first (length row) z) (sym is) inside)

  within_read : (set : Set) (next : Option ℕ)
      → next ≡ after (chars haystack) (position_at haystack at) → (to : ℕ)
      → to < length table → frames' ≡ read_on at set next to frames → row' ≡ row → Within
  within_read set None there to inside is same = within_row frames is same below
  within_read set (Some c) there to inside is same = by_test (set c) is
    where
      p : ℕ
      p = position_at haystack at

      next_boundary : IsCharBoundary haystack (at + len_utf8 c)
      next_boundary =
          let is_at = (position_is haystack at utf8 edge).1 in
          let inside_text = slice_get_within (chars haystack) p c (sym there) in
          let next = offset_next (chars haystack) p c (sym there) in
          boundary_at haystack (suc p) (at + len_utf8 c) utf8
          (omega (arith, inside_text), omega (arith, is_at, next))

      by_test : (b : Bool)
          → frames' ≡ (if b then explore to (at + len_utf8 c) ∷ frames else frames) → Within
      by_test true e =
          within_row (explore to (at + len_utf8 c) ∷ frames) e same
          (inside, omega (arith, low), next_boundary, below)
      by_test false e = within_row frames e same below

  within_class : (ranges : List ClassRange) (next : Option ℕ)
      → next ≡ after (chars haystack) (position_at haystack at) → (to : ℕ)
      → LeadsBelow (length table) (one_of ranges to)
      → frames' ≡ read_on at (in_ranges ranges) next to frames → row' ≡ row → Within
  within_class [] None there to inside is same = within_row frames is same below
  within_class [] (Some c) there to inside is same = within_row frames is same below
  within_class (range ∷ ranges) next there to inside is same =
      within_read (in_ranges (range ∷ ranges)) next there to inside.0 is same

  -- what it adds leads to pairs of the search
  pub enters_within : (x : code.Place) → LeadsBelow (length table) (place_of x)
      → Enters (chars haystack) (position_at haystack at) at x held held' done → Within
  enters_within (stored.Empty to) inside (e, going) =
      within_row _ (to_do e) (slots e) (all_below (to ∷ []) inside)
  enters_within (stored.Char c to) inside (e, going) =
      within_read (just c) _ refl to inside.0 (to_do e) (slots e)
  enters_within (stored.Class to set) inside (e, going) =
      within_class set _ refl to inside (to_do e) (slots e)
  enters_within (stored.Look test to) inside (e, going) =
      by_test (holds_between test (before (chars haystack) (position_at haystack at))
      (after (chars haystack) (position_at haystack at))) (to_do e)
    where
      by_test : (b : Bool) → frames' ≡ (if b then explore to at ∷ frames else frames) → Within
      by_test true is = within_row _ is (slots e) (all_below (to ∷ []) (inside.0, tt))
      by_test false is = within_row _ is (slots e) below
  enters_within (stored.Slot slot to) inside (inl (lt, e), going) =
      subst (λ z. FramesBelow table haystack first z frames')
      (sym (ap (λ (z : Held). length z.row) e ∙ length-set row slot (Some at)))
      (subst (λ z. FramesBelow table haystack first (length row) z) (sym (to_do e))
      (inside.0, low, edge, (lt, below)))
  enters_within (stored.Slot slot to) inside (inr (past, e), going) =
      within_row _ (to_do e) (slots e) (all_below (to ∷ []) (inside.0, tt))
  enters_within (stored.Choice one other) inside (e, going) =
      within_row _ (to_do e) (slots e) (all_below (one ∷ (other ∷ [])) inside)
  enters_within (stored.Branches entries) inside (e, going) =
      within_row _ (to_do e) (slots e) (all_below entries.items inside)
  enters_within stored.Match inside (e, ends) = within_row frames (to_do e) (slots e) below

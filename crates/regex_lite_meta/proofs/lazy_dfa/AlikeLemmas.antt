-- Positions that no place of a graph distinguishes.
use Rattle.regex_lite_meta.proofs.Common.{◌≡◌, ℕ, Bool, true, false, not, List, [], ◌∷◌}
use Rattle.regex_lite_meta.proofs.Common.{map, ◌==◌, slice_get, Some, None, All, Option, sym, refl}
use Rattle.regex_lite_meta.proofs.Common.{ap, ◌∙◌, subst, arith, place_of, AreAlike, Here}
use Rattle.regex_lite_meta.proofs.Common.{Intervals, interval_of, class_of, IsBoundary}
use Rattle.regex_lite_meta.proofs.Common.{IsBoundedPlace, character_bounds, look_bounds}
use Rattle.regex_lite_meta.proofs.Common.{AreIntervalsOf, context_of, take, drop, ◌-◌}
use Rattle.regex_lite_engine.specs.Graph.Places.{Place, go}
use Rattle.regex_lite_meta.specs.declared.lazy_dfa.state.LookContext.{LookContext}
use Rattle.std.proofs.Common.{◌&&◌, ◌||◌}
use Rattle.regex_lite_syntax.specs.Ranges.{in_ranges}
use Rattle.regex_lite_syntax.specs.Sets.{Set, just}
use Rattle.regex_lite_syntax.specs.declared.hir.look.Look.{Look}
use Rattle.regex_lite_engine.specs.Pikevm.Entering.{reads}
use Rattle.regex_lite_syntax.specs.declared.hir.look.Look.TheVariants.{Start, End, StartLF, EndLF}
use Rattle.regex_lite_syntax.specs.declared.hir.look.Look.TheVariants.{StartCRLF, EndCRLF, Word}
use Rattle.regex_lite_syntax.specs.declared.hir.look.Look.TheVariants.{WordNegate, WordStart}
use Rattle.regex_lite_syntax.specs.declared.hir.look.Look.TheVariants.{WordEnd, WordStartHalf}
use Rattle.regex_lite_syntax.specs.declared.hir.look.Look.TheVariants.{WordEndHalf}
use Rattle.regex_lite_syntax.specs.Characters.{is_between}
use Rattle.regex_lite_syntax.specs.Tree.Looks.{holds_between, is_word}
use Rattle.regex_lite_engine.specs.declared.nfa.place.Place as code
use Rattle.regex_lite_engine.specs.declared.nfa.place.Place.TheVariants as stored
use Rattle.regex_lite_meta.specs.LazyDfa.Intervals.{LooksAlike}
use Rattle.regex_lite_engine.specs.Pikevm.Again.{FitAlike, FitsAlike}
use Rattle.regex_lite_meta.proofs.lazy_dfa.IntervalLemmas.{interval_within, same_between, same_char}
use Rattle.regex_lite_meta.proofs.lazy_dfa.IntervalLemmas.{same_set}
use Rattle.regex_lite_meta.proofs.lazy_dfa.PartLemmas.{in_row, stored_at}
use Rattle.regex_lite_meta.specs.LazyDfa.Parts.{IsPartOf}
use Rattle.regex_lite_meta.specs.declared.lazy_dfa.part.PlaceRange.{PlaceRange}

-- the look, by what it sees of both neighbours
abbrev holds_by : Look → LookContext → LookContext → Bool
holds_by Start b a = b.is_none
holds_by End b a = a.is_none
holds_by StartLF b a = b.is_none || b.is_line_feed
holds_by EndLF b a = a.is_none || a.is_line_feed
holds_by StartCRLF b a = b.is_none || b.is_line_feed || (b.is_carriage_return && not a.is_line_feed)
holds_by EndCRLF b a =
    a.is_none || a.is_carriage_return || (a.is_line_feed && not b.is_carriage_return)
holds_by Word b a = (b.is_word && not a.is_word) || (not b.is_word && a.is_word)
holds_by WordNegate b a = (b.is_word && a.is_word) || (not b.is_word && not a.is_word)
holds_by WordStart b a = not b.is_word && a.is_word
holds_by WordEnd b a = b.is_word && not a.is_word
holds_by WordStartHalf b a = not b.is_word
holds_by WordEndHalf b a = not a.is_word

mutual
  unfolding holds_between

  pub by_contexts : (l : Look) (b a : Option ℕ)
      → holds_between l b a ≡ holds_by l (context_of b) (context_of a)
  by_contexts Start b a = refl
  by_contexts End b a = refl
  by_contexts StartLF b a = refl
  by_contexts EndLF b a = refl
  by_contexts StartCRLF b a = refl
  by_contexts EndCRLF b a = refl
  by_contexts Word b a = refl
  by_contexts WordNegate b a = refl
  by_contexts WordStart b a = refl
  by_contexts WordEnd b a = refl
  by_contexts WordStartHalf b a = refl
  by_contexts WordEndHalf b a = refl

-- looks see the same
pub same_look : (b b' a a' : Option ℕ) → context_of b ≡ context_of b' → context_of a ≡ context_of a'
    → (l : Look) → holds_between l b a ≡ holds_between l b' a'
same_look b b' a a' eb ea l =
    by_contexts l b a ∙ ap (λ (z : LookContext). holds_by l z (context_of a)) eb
    ∙ ap (λ (z : LookContext). holds_by l (context_of b') z) ea ∙ sym (by_contexts l b' a')

same_word : (bs : List ℕ) (c d : ℕ) → interval_of bs c ≡ interval_of bs d
    → All (IsBoundary bs) look_bounds → is_word (Some c) ≡ is_word (Some d)
same_word bs c d e bounds =
    let lower =
    same_between bs c d e 97 122 (bounds 10 0 (omega arith)) (bounds 11 0 (omega arith)) in
    let upper = same_between bs c d e 65 90 (bounds 6 0 (omega arith)) (bounds 7 0 (omega arith)) in
    let digits =
    same_between bs c d e 48 57 (bounds 4 0 (omega arith)) (bounds 5 0 (omega arith)) in
    let low_line = same_char bs c d e 95 (bounds 8 0 (omega arith)) (bounds 9 0 (omega arith)) in
    ap (λ x. (x || is_between 65 90 c) || is_between 48 57 c || c == 95) lower
    ∙ ap (λ x. (is_between 97 122 d || x) || is_between 48 57 c || c == 95) upper
    ∙ ap (λ x. (is_between 97 122 d || is_between 65 90 d) || x || c == 95) digits
    ∙ ap (λ x. (is_between 97 122 d || is_between 65 90 d) || is_between 48 57 d || x) low_line

abbrev context_with : Bool → Bool → Bool → LookContext
context_with feed carriage word =
    record { is_none = false; is_line_feed = feed; is_carriage_return = carriage; is_word = word }

-- looks see the same of all characters of a class
pub same_context_of : (bs : List ℕ) (a b : Option ℕ) → class_of bs a ≡ class_of bs b
    → All (IsBoundary bs) look_bounds → context_of a ≡ context_of b
same_context_of bs None None e bounds = refl
same_context_of bs None (Some d) e bounds =
    absurd (let most = interval_within bs d in omega (arith, most, e))
same_context_of bs (Some c) None e bounds =
    absurd (let most = interval_within bs c in omega (arith, most, e))
same_context_of bs (Some c) (Some d) e bounds =
    let feed = same_char bs c d e 10 (bounds 0 0 (omega arith)) (bounds 1 0 (omega arith)) in
    let carriage = same_char bs c d e 13 (bounds 2 0 (omega arith)) (bounds 3 0 (omega arith)) in
    ap (λ x. context_with x (c == 13) (is_word (Some c))) feed
    ∙ ap (λ x. context_with (d == 10) x (is_word (Some c))) carriage
    ∙ ap (λ x. context_with (d == 10) (d == 13) x) (same_word bs c d e bounds)

module _ (intervals : Intervals) (here there : Here) (alike : LooksAlike intervals here there)
    (characters : All (IsBoundary intervals.boundaries) character_bounds)
    (contexts : intervals.looks ≡ true → All (IsBoundary intervals.boundaries) look_bounds) where
  abbrev bs : List ℕ
  bs = intervals.boundaries

  read_alike : (set : Set) → ((c d : ℕ) → interval_of bs c ≡ interval_of bs d → set c ≡ set d)
      → reads set here.after ≡ reads set there.after
  read_alike set f = by_class here.after there.after alike.ahead
    where
      by_class : (a b : Option ℕ) → class_of bs a ≡ class_of bs b → reads set a ≡ reads set b
      by_class None None e = refl
      by_class None (Some d) e = absurd (let most = interval_within bs d in omega (arith, most, e))
      by_class (Some c) None e = absurd (let most = interval_within bs c in omega (arith, most, e))
      by_class (Some c) (Some d) e = f c d e

  go_alike : (qs : List ℕ) → FitAlike (map go qs) here there
  go_alike [] = tt
  go_alike (q ∷ qs) = (refl, go_alike qs)

  fits : (x : code.Place) → IsBoundedPlace intervals x → FitsAlike (place_of x) here there
  fits (stored.Empty to) b = (refl, tt)
  fits (stored.Char k to) (low, high) =
      (read_alike (just k) (λ c d e. same_char bs c d e k low high), tt)
  fits (stored.Class to []) b = tt
  fits (stored.Class to (r ∷ rs)) b =
      (read_alike (in_ranges (r ∷ rs)) (λ c d e. same_set bs c d e characters (r ∷ rs) b), tt)
  fits (stored.Look l to) b = (
    same_look here.before there.before here.after there.after (alike.behind b)
        (same_context_of bs here.after there.after alike.ahead (contexts b)) l,
    tt,
  )
  fits (stored.Slot slot to) b = (refl, tt)
  fits (stored.Choice one two) b = (refl, (refl, tt))
  fits (stored.Branches entries) b = go_alike entries.items
  fits stored.Match b = tt

-- places in a row don't distinguish positions that look alike
pub alike_at : (places : List code.Place) (entries : List ℕ) (part : PlaceRange)
    → IsPartOf (map place_of places) entries part → (row : List code.Place)
    → row ≡ take (part.end - part.low) (drop part.low places) → (intervals : Intervals)
    → AreIntervalsOf row intervals → (here there : Here) → LooksAlike intervals here there
    → AreAlike (map place_of places) entries here there
alike_at places entries part is row cut intervals are here there looks = record {
  low = part.low;
  len = part.end - part.low;
  part = is.own;
  each = λ q place within at.
      let (own, stored, same) = stored_at places q place at in
      subst (λ (z : Place ℕ). FitsAlike z here there) same
      (fits intervals here there looks are.characters are.contexts own
      (are.each (q - part.low) own
      (ap (λ z. slice_get z (q - part.low)) cut
      ∙ in_row places part.low (part.end - part.low) (q - part.low) q
      (let above = within.0 in omega (arith, above))
      (let above = within.0 in let below = within.1 in omega (arith, above, below)) ∙ stored)));
}

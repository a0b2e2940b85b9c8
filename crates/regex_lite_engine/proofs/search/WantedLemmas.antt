-- Where a match that is wanted is complete, and where a match may end.
use Rattle.regex_lite_engine.proofs.Common.{◌≡◌, ℕ, ◌≤◌, Bool, true, false, List, IsTrue, ap, subst}
use Rattle.regex_lite_engine.proofs.Common.{if◌then◌else◌, length, refl, sym, ◌∙◌, arith, Option}
use Rattle.regex_lite_engine.proofs.Common.{None}
use Rattle.regex_lite_engine.proofs.Common.{Some, inl, inr, Text, Arrow, after}
use Rattle.regex_lite_engine.proofs.Common.{with_arrows, place_with, is_end, is_wanted_end}
use Rattle.regex_lite_engine.proofs.Common.{are_wanted_before, IsDead, Node, numbered_step}
use Rattle.std.proofs.lemmas.Option.{slice_get_cases, slice_get_past}
use Rattle.regex_lite_syntax.specs.Tree.Matches.{IsPosition}
use Rattle.regex_lite_engine.specs.Graph.Places.{Place}
use Rattle.regex_lite_engine.specs.Search.AnswerAt.{MayEndAt}
use Rattle.regex_lite_engine.proofs.search.PlaceLemmas.{open_at}
use Rattle.regex_lite_syntax.proofs.OptionLemmas.{not_there}

-- those matches are wanted that may end where they do
module _ (haystack : Text) where
  pub wanted_where_ends : (whole : Bool) (j : ℕ) → MayEndAt whole haystack j
      → are_wanted_before whole (after haystack j) ≡ true
  wanted_where_ends false j may = refl
  wanted_where_ends true j last =
      ap (are_wanted_before true) (slice_get_past haystack j (omega (arith, last)))

  pub ends_where_wanted : (whole : Bool) (j : ℕ) → IsPosition haystack j
      → are_wanted_before whole (after haystack j) ≡ true → MayEndAt whole haystack j
  ends_where_wanted false j inside wanted = tt
  ends_where_wanted true j inside wanted = by_next (after haystack j) refl wanted
    where
      past : after haystack j ≡ None → length haystack ≤ j
      past none = elim ((slice_get_cases haystack j).1) [
        | inl (x, low, some, same) ↦ absurd (not_there (sym none ∙ some))
        | inr (le, is) ↦ le
      ]

      by_next : (next : Option ℕ) → after haystack j ≡ next → are_wanted_before true next ≡ true
          → j ≡ length haystack
      by_next None none wanted = omega (arith, past none, inside)
      by_next (Some c) some wanted = absurd cc

module _ (table : List (Place ℕ)) (haystack : Text) (whole : Bool) where
  abbrev ends_if : Node → (wanted : Bool) → Type 0
  ends_if n wanted = IsTrue (if wanted then is_end table haystack n else false)

  -- where a match that is wanted is complete, one is
  pub complete_there : (n : Node) → IsTrue (is_wanted_end table haystack whole n)
      → IsTrue (is_end table haystack n)
  complete_there n ends = by_wanted (are_wanted_before whole (after haystack n.1)) ends
    where
      by_wanted : (wanted : Bool) → ends_if n wanted → IsTrue (is_end table haystack n)
      by_wanted true ends = ends
      by_wanted false never = absurd cc

  -- and one is wanted
  pub wanted_there : (n : Node) → IsTrue (is_wanted_end table haystack whole n)
      → are_wanted_before whole (after haystack n.1) ≡ true
  wanted_there n ends = by_wanted (are_wanted_before whole (after haystack n.1)) ends
    where
      by_wanted : (wanted : Bool) → ends_if n wanted → wanted ≡ true
      by_wanted true ends = refl
      by_wanted false never = absurd cc

  pub wanted_and_complete : (n : Node) → are_wanted_before whole (after haystack n.1) ≡ true
      → IsTrue (is_end table haystack n) → IsTrue (is_wanted_end table haystack whole n)
  wanted_and_complete n wanted ends = subst (ends_if n) (sym wanted) ends

  -- where no match can start, none that is wanted can
  pub still_dead : (n : Node) → IsDead Node (numbered_step table haystack) (is_end table haystack) n
      → IsDead Node (numbered_step table haystack) (is_wanted_end table haystack whole) n
  still_dead n dead arrows end ends along = dead arrows end (complete_there end ends) along

  -- none is where a place has arrows
  pub open_wanted : (q p : ℕ) (arrows : List (Arrow ℕ)) → place_with table q ≡ with_arrows arrows
      → IsTrue (is_wanted_end table haystack whole (q, p)) → ⊥
  open_wanted q p arrows e ends =
      open_at table haystack q p arrows e (complete_there (q, p) ends)

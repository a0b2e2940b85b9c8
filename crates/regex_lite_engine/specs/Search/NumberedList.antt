-- The answer of a search for several patterns in a graph whose places have numbers. Each pattern is
-- entered at a place of its own.
use Rattle.std.specs.Prelude.{◌≡◌, ◌≤◌, ◌<◌, ◌⊎◌, ℕ, Bool, false, List, [], ◌∷◌, Option, Some}
use Rattle.std.specs.Prelude.{None, slice_get}
use Rattle.regex_lite_syntax.specs.Text.{Text}
use Rattle.regex_lite_engine.specs.Graph.Places.{Place}
use Rattle.regex_lite_engine.specs.Search.Answer.{Found}
use Rattle.regex_lite_engine.specs.Search.NumberedAnswer.{IsWantedMatch, IsWantedFound}

-- the pattern with this number is entered at this place
abbrev pub IsEntry : (entries : List ℕ) → (number entry : ℕ) → Type 0
IsEntry entries number entry = slice_get entries number ≡ Some entry

-- There is a start of each pattern at each position from the first to the last; its numbers are the
-- position and the pattern's number
abbrev pub StartsOf : (entries : List ℕ) → (first last : ℕ) → (front : List ℕ) → ℕ × ℕ → Type 0
StartsOf entries first last front n =
    (i : ℕ) × (number : ℕ) × (entry : ℕ) × (first ≤ i) × (i ≤ last)
    × IsEntry entries number entry × (front ≡ i ∷ (number ∷ [])) × (n ≡ (entry, i))

module _ (table : List (Place ℕ)) (haystack : Text) (entries : List ℕ) where
  module _ (whole : Bool) where
    -- a match of any pattern, which is wanted, from a position at or after s
    pub record IsWantedOfAny (s i number : ℕ) (way : List ℕ) (q j : ℕ) : Type 0 where
      pub entry : ℕ
      pub is_entry : IsEntry entries number entry
      pub is_match : IsWantedMatch table haystack whole entry s i way q j

    -- the pattern's answer; all such matches of the patterns start later, or start there and have
    -- no lower number
    pub record IsWantedFoundOf (s number : ℕ) (found : Found) : Type 0 where
      pub entry : ℕ
      pub is_entry : IsEntry entries number entry
      pub answer : IsWantedFound table haystack whole entry s found
      pub first : (i k : ℕ) (way : List ℕ) (q j : ℕ) → IsWantedOfAny s i k way q j
          → (found.start < i) ⊎ ((found.start ≡ i) × (number ≤ k))

    -- the answer of a search from position s on for matches that start at position `last` at the
    -- latest
    abbrev pub IsWantedAnswerTo : (s last : ℕ) → Option (ℕ × Found) → Type 0
    IsWantedAnswerTo s last None =
        (i k : ℕ) (way : List ℕ) (q j : ℕ) → i ≤ last → IsWantedOfAny s i k way q j → ⊥
    IsWantedAnswerTo s last (Some reported) =
        (reported.1.start ≤ last) × IsWantedFoundOf s reported.0 reported.1

  -- the definitions above if all matches are wanted
  abbrev pub IsMatchOfAny : (s i number : ℕ) → (way : List ℕ) → (q j : ℕ) → Type 0
  IsMatchOfAny = IsWantedOfAny false

  abbrev pub IsNumberedFoundOf : (s number : ℕ) → Found → Type 0
  IsNumberedFoundOf = IsWantedFoundOf false

  abbrev pub IsNumberedAnswerTo : (s last : ℕ) → Option (ℕ × Found) → Type 0
  IsNumberedAnswerTo = IsWantedAnswerTo false

  -- the answer of a search from position s on
  abbrev pub IsNumberedAnswerOf : (s : ℕ) → Option (ℕ × Found) → Type 0
  IsNumberedAnswerOf s None =
      (i k : ℕ) (way : List ℕ) (q j : ℕ) → IsMatchOfAny s i k way q j → ⊥
  IsNumberedAnswerOf s (Some reported) = IsNumberedFoundOf s reported.0 reported.1

  -- the least position at which a match of any pattern ends that starts at or after s
  pub record IsNumberedShortestOf (s end : ℕ) : Type 0 where
    pub start : ℕ
    pub number : ℕ
    pub way : List ℕ
    pub last : ℕ
    pub is_match : IsMatchOfAny s start number way last end
    pub least : (i k : ℕ) (way : List ℕ) (q j : ℕ) → IsMatchOfAny s i k way q j → end ≤ j

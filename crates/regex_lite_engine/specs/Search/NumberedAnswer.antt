-- The answer of a search in a graph whose places have numbers.
use Rattle.std.specs.Prelude.{◌≡◌, ◌≤◌, ◌⊎◌, ℕ, Bool, true, false, IsTrue, List, []}
use Rattle.std.specs.Prelude.{Option, Some, None, if◌then◌else◌, slice_get, unwrap_or}
use Rattle.regex_lite_syntax.specs.Text.{Text, after}
use Rattle.regex_lite_syntax.specs.Tree.Matches.{IsPosition}
use Rattle.regex_lite_engine.specs.Graph.Places.{Place, complete, with_arrows, step}
use Rattle.regex_lite_engine.specs.Graph.Ways.{IsWay}
use Rattle.regex_lite_engine.specs.Search.Marks.{marks_along}
use Rattle.regex_lite_engine.specs.Search.Preference.{IsPreferred}
use Rattle.regex_lite_engine.specs.Search.Answer.{Found}

-- the place with a number; if there is none, a place without arrows
abbrev pub place_with : List (Place ℕ) → ℕ → Place ℕ
place_with table q = unwrap_or (slice_get table q) (with_arrows [])

abbrev pub is_complete : {A : Type 0} → Place A → Bool
is_complete complete = true
is_complete (with_arrows arrows) = false

-- whether matches that end before this character are wanted: all are or, if `whole`, only those
-- before no character
abbrev pub are_wanted_before : (whole : Bool) → (after : Option ℕ) → Bool
are_wanted_before false next = true
are_wanted_before true None = true
are_wanted_before true (Some c) = false

module _ (table : List (Place ℕ)) (haystack : Text) where
  -- the place and position that arrow k leads to
  abbrev pub numbered_step : ℕ × ℕ → ℕ → Option (ℕ × ℕ)
  numbered_step = step haystack (place_with table)

  -- a match is complete there
  abbrev pub is_end : ℕ × ℕ → Bool
  is_end pair = is_complete (place_with table pair.0)

  -- a match that is wanted is complete there
  abbrev pub is_wanted_end : (whole : Bool) → ℕ × ℕ → Bool
  is_wanted_end whole pair =
      if are_wanted_before whole (after haystack pair.1) then is_end pair else false

  module _ (whole : Bool) (start : ℕ) where
    -- a way from position i to position j, where a match that is wanted is complete at place q
    pub record IsWantedWay (i : ℕ) (way : List ℕ) (q j : ℕ) : Type 0 where
      pub is_way : IsWay (ℕ × ℕ) numbered_step (start, i) way (q, j)
      pub ends : IsTrue (is_wanted_end whole (q, j))

    -- such a way that begins at a position at or after s
    pub record IsWantedMatch (s i : ℕ) (way : List ℕ) (q j : ℕ) : Type 0 where
      pub from : s ≤ i
      pub inside : IsPosition haystack i
      pub leads : IsWantedWay i way q j

    pub record IsWantedFound (s : ℕ) (found : Found) : Type 0 where
      pub from : s ≤ found.start
      pub inside : IsPosition haystack found.start
      pub least : (i q j : ℕ) (way : List ℕ) → IsWantedMatch s i way q j → found.start ≤ i
      pub way : List ℕ
      pub last : ℕ
      pub is_way : IsWantedWay found.start way last found.end
      pub preferred : (other : List ℕ) (q j : ℕ) → IsWantedWay found.start other q j
          → (way ≡ other) ⊎ IsPreferred way other
      pub marks : found.marks
          ≡ marks_along haystack (place_with table) (Some (start, found.start)) way

  -- the definitions above if all matches are wanted
  module _ (start : ℕ) where
    abbrev pub IsNumberedWay : (i : ℕ) → (way : List ℕ) → (q j : ℕ) → Type 0
    IsNumberedWay = IsWantedWay false start

    abbrev pub IsNumberedMatch : (s i : ℕ) → (way : List ℕ) → (q j : ℕ) → Type 0
    IsNumberedMatch = IsWantedMatch false start

    abbrev pub IsNumberedFound : (s : ℕ) → Found → Type 0
    IsNumberedFound = IsWantedFound false start

    -- the answer of a search from position s on
    abbrev pub IsNumberedAnswer : (s : ℕ) → Option Found → Type 0
    IsNumberedAnswer s None =
        (i q j : ℕ) (way : List ℕ) → IsNumberedMatch s i way q j → ⊥
    IsNumberedAnswer s (Some found) = IsNumberedFound s found

  -- position m is s or a later one, and no match from s on starts before it
  pub record NoneStartsBefore (start s m : ℕ) : Type 0 where
    pub from : s ≤ m
    pub least : (i q j : ℕ) (way : List ℕ) → IsNumberedMatch start s i way q j → m ≤ i

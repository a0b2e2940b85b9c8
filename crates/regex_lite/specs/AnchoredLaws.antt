-- Laws of what anchored searches return, in terms of unanchored searches and of the offsets at
-- which patterns match.
use Rattle.std.specs.Prelude.{◌≡◌, ◌≤◌, ◌↔◌, ℕ, List, IsUtf8, Option, Some, None, chars}
use Rattle.std.specs.Prelude.{slice_get}
use Rattle.regex_lite_syntax.specs.Grammar.{HasTree}
use Rattle.regex_lite.specs.declared.string.matches.Match.{Match}
use Rattle.regex_lite.specs.Anchored.{TellsGroupsAt, TellsGroupsAtOfList, TellsLocationsAt}
use Rattle.regex_lite.specs.Anchored.{TellsLocationsAtOfList, TellsMatchAt, TellsMatchAtOfList}
use Rattle.regex_lite.specs.Expression.{Expression}
use Rattle.regex_lite.specs.Groups.{Groups, whole_span}
use Rattle.regex_lite.specs.MatchOffsets.{HaveTrees, MatchesAt, MatchesSpan, PrefersSpan}
use Rattle.regex_lite.specs.MatchOffsets.{SomeMatchesAt}
use Rattle.regex_lite.specs.MatchViews.{haystack_of_match, span_of_match}
use Rattle.regex_lite.specs.RegexListSearches.{TellsGroupsOfList, TellsLocationsOfList}
use Rattle.regex_lite.specs.RegexListSearches.{TellsMatchOfList}
use Rattle.regex_lite.specs.Searches.{CanStartAt, TellsGroups, TellsLocations, TellsMatch}

-- an anchored search for a pattern at this offset returns what the search from there returns,
-- exactly if that match starts there
pub record IsSearchAt (re : Expression) (haystack : List ℕ) (start : ℕ) : Type 0 where
  pub match : (reported : Match) → TellsMatchAt re haystack start (Some reported)
      ↔ (TellsMatch re haystack start (Some reported) × ((span_of_match reported).0 ≡ start))
  pub groups : (reported : Groups) → TellsGroupsAt re haystack start (Some reported)
      ↔ (TellsGroups re haystack start (Some reported) × ((whole_span reported).0 ≡ start))
  pub locations : (spans : List (Option (ℕ × ℕ))) (reported : Match)
      → TellsLocationsAt re haystack start spans (Some reported)
      ↔ (TellsLocations re haystack start spans (Some reported)
      × ((span_of_match reported).0 ≡ start))

abbrev pub AnchoredSearchesAreSearches : Type 0
AnchoredSearchesAreSearches =
    (re : Expression) (haystack : List ℕ) (start : ℕ) → IsUtf8 haystack
    → CanStartAt haystack start → IsSearchAt re haystack start

-- an anchored search for several patterns at this offset returns what the search from there
-- returns, exactly if that match starts there
pub record IsListSearchAt (list : List Expression) (haystack : List ℕ) (start : ℕ)
    : Type 0 where
  pub match : (reported : ℕ × Match) → TellsMatchAtOfList list haystack start (Some reported)
      ↔ (TellsMatchOfList list haystack start (Some reported)
      × ((span_of_match reported.1).0 ≡ start))
  pub groups : (reported : ℕ × Groups) → TellsGroupsAtOfList list haystack start (Some reported)
      ↔ (TellsGroupsOfList list haystack start (Some reported)
      × ((whole_span reported.1).0 ≡ start))
  pub locations : (spans : List (Option (ℕ × ℕ))) (reported : ℕ × Match)
      → TellsLocationsAtOfList list haystack start spans (Some reported)
      ↔ (TellsLocationsOfList list haystack start spans (Some reported)
      × ((span_of_match reported.1).0 ≡ start))

abbrev pub AnchoredListSearchesAreSearches : Type 0
AnchoredListSearchesAreSearches =
    (list : List Expression) (haystack : List ℕ) (start : ℕ) → IsUtf8 haystack
    → CanStartAt haystack start → IsListSearchAt list haystack start

-- of the matches that begin at this offset, the pattern prefers this one
pub record IsMatchAt (re : Expression) (haystack : List ℕ) (start : ℕ) (span : ℕ × ℕ)
    : Type 0 where
  pub begins : span.0 ≡ start
  pub matches : MatchesSpan re haystack span
  pub preferred : PrefersSpan re haystack span

-- the anchored searches for a pattern at this offset, in terms of the offsets at which it matches
pub record FindsAt (re : Expression) (haystack : List ℕ) (start : ℕ) : Type 0 where
  -- a match may be returned exactly if it is the one that the pattern prefers there
  pub found : (reported : Match) → TellsMatchAt re haystack start (Some reported)
      ↔ ((haystack_of_match reported ≡ haystack)
      × IsMatchAt re haystack start (span_of_match reported))
  -- nothing is returned exactly if the pattern has a tree and no match begins there
  pub none : TellsMatchAt re haystack start None
      ↔ (HasTree re.flags (chars re.pattern) × (MatchesAt re haystack start → ⊥))
  -- the search for groups finds the preferred match, or nothing if none begins there
  pub groups : (reported : Groups) → TellsGroupsAt re haystack start (Some reported)
      → IsMatchAt re haystack start (whole_span reported)
  pub no_groups : TellsGroupsAt re haystack start None
      ↔ (HasTree re.flags (chars re.pattern) × (MatchesAt re haystack start → ⊥))

abbrev pub AnchoredSearchesFindAt : Type 0
AnchoredSearchesFindAt =
    (re : Expression) (haystack : List ℕ) (start : ℕ) → IsUtf8 haystack
    → CanStartAt haystack start → FindsAt re haystack start

-- of the patterns that match from this offset this number is the lowest, and the pattern with this
-- number prefers this match there
pub record IsMatchAtOfList (list : List Expression) (haystack : List ℕ) (start number : ℕ)
    (span : ℕ × ℕ) : Type 0 where
  pub re : Expression
  pub numbered : slice_get list number ≡ Some re
  pub at : IsMatchAt re haystack start span
  pub lowest : (k : ℕ) (other : Expression) → slice_get list k ≡ Some other
      → MatchesAt other haystack start → number ≤ k

-- the anchored searches for several patterns at this offset, in terms of the offsets at which they
-- match
pub record ListFindsAt (list : List Expression) (haystack : List ℕ) (start : ℕ) : Type 0 where
  pub found : (number : ℕ) (reported : Match)
      → TellsMatchAtOfList list haystack start (Some (number, reported))
      ↔ (HaveTrees list × (haystack_of_match reported ≡ haystack)
      × IsMatchAtOfList list haystack start number (span_of_match reported))
  pub none : TellsMatchAtOfList list haystack start None
      ↔ (HaveTrees list × (SomeMatchesAt list haystack start → ⊥))
  pub groups : (number : ℕ) (reported : Groups)
      → TellsGroupsAtOfList list haystack start (Some (number, reported))
      → IsMatchAtOfList list haystack start number (whole_span reported)
  pub no_groups : TellsGroupsAtOfList list haystack start None
      ↔ (HaveTrees list × (SomeMatchesAt list haystack start → ⊥))

abbrev pub AnchoredListSearchesFindAt : Type 0
AnchoredListSearchesFindAt =
    (list : List Expression) (haystack : List ℕ) (start : ℕ) → IsUtf8 haystack
    → CanStartAt haystack start → ListFindsAt list haystack start

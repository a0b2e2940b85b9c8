-- Laws of what the result of a single search shows.
use Rattle.std.specs.Prelude.{◌≡◌, ◌↔◌, ℕ, Bool, false, IsTrue, List, Option, Some, is_some}
use Rattle.std.specs.Prelude.{length, slice_get, slice_index_or}
use Rattle.regex_lite.specs.declared.string.matches.Match.{Match}
use Rattle.regex_lite.specs.Expression.{Expression}
use Rattle.regex_lite.specs.Groups.{Groups}
use Rattle.regex_lite.specs.MatchOffsets.{HaveTrees}
use Rattle.regex_lite.specs.RegexListSearches.{AnyMatches, TellsGroupsOfList}
use Rattle.regex_lite.specs.RegexListSearches.{TellsLocationsOfList, TellsMatchOfList}
use Rattle.regex_lite.specs.RegexListSearches.{TellsWhichMatch}
use Rattle.regex_lite.specs.Searches.{MatchesFrom, TellsEnd, TellsGroups, TellsLocations}
use Rattle.regex_lite.specs.Searches.{TellsMatch}

-- each search for a pattern shows whether the pattern matches from this offset on
pub record EachShows (re : Expression) (haystack : List ℕ) (start : ℕ) : Type 0 where
  pub match : (reported : Option Match) → TellsMatch re haystack start reported
      → IsTrue (is_some reported) ↔ MatchesFrom re haystack start
  pub groups : (reported : Option Groups) → TellsGroups re haystack start reported
      → IsTrue (is_some reported) ↔ MatchesFrom re haystack start
  pub end : (reported : Option ℕ) → TellsEnd re haystack start reported
      → IsTrue (is_some reported) ↔ MatchesFrom re haystack start
  -- a search that writes to locations returns the match
  pub locations : (spans : List (Option (ℕ × ℕ))) (reported : Option Match)
      → TellsLocations re haystack start spans reported → TellsMatch re haystack start reported

abbrev pub EachSearchShows : Type 0
EachSearchShows =
    (re : Expression) (haystack : List ℕ) (start : ℕ) → EachShows re haystack start

-- the result says for each of several patterns whether it matches from this offset on
pub record IsReportedOfEach (list : List Expression) (haystack : List ℕ) (start : ℕ)
    (matched : List Bool) : Type 0 where
  pub all : length matched ≡ length list
  pub each : (number : ℕ) (re : Expression) → slice_get list number ≡ Some re
      → IsTrue (slice_index_or matched number false) ↔ MatchesFrom re haystack start

-- each search for several patterns shows whether one of them matches from this offset on
pub record EachShowsOfList (list : List Expression) (haystack : List ℕ) (start : ℕ)
    : Type 0 where
  pub match : (reported : Option (ℕ × Match)) → TellsMatchOfList list haystack start reported
      → IsTrue (is_some reported) ↔ AnyMatches list haystack start
  pub groups : (reported : Option (ℕ × Groups)) → TellsGroupsOfList list haystack start reported
      → IsTrue (is_some reported) ↔ AnyMatches list haystack start
  pub which : (matched : List Bool) → TellsWhichMatch list haystack start matched
      ↔ (HaveTrees list × IsReportedOfEach list haystack start matched)
  pub locations : (spans : List (Option (ℕ × ℕ))) (reported : Option (ℕ × Match))
      → TellsLocationsOfList list haystack start spans reported
      → TellsMatchOfList list haystack start reported

abbrev pub EachListSearchShows : Type 0
EachListSearchShows =
    (list : List Expression) (haystack : List ℕ) (start : ℕ) → EachShowsOfList list haystack start

-- Laws of groups: group 0 is the match, and the groups have known names and a known least number.
use Rattle.std.specs.Prelude.{◌≡◌, ◌<◌, ◌↔◌, ℕ, List, IsSome, IsUtf8, Option, Some, chars, length}
use Rattle.std.specs.Prelude.{map, option_map, slice_get}
use Rattle.regex_lite_engine.specs.Search.Answer.{Found}
use Rattle.regex_lite.specs.declared.string.matches.Match.{Match}
use Rattle.regex_lite.specs.Ahead.{Ahead, AreAhead}
use Rattle.regex_lite.specs.Expression.{AreNames, Expression, OfTree}
use Rattle.regex_lite.specs.Groups.{AreGroups, Groups, group_span, whole_span}
use Rattle.regex_lite.specs.MatchViews.{haystack_of_match, span_of_match}
use Rattle.regex_lite.specs.Pieces.{found_span}
use Rattle.regex_lite.specs.RegexListSearches.{TellsGroupsOfList, TellsMatchOfList}
use Rattle.regex_lite.specs.Replacements.{AreGroupsOfEach}
use Rattle.regex_lite.specs.Searches.{TellsGroups, TellsMatch}

-- group 0 of the groups that a search returns is the match that the search for the match returns
abbrev pub MatchIsGroup0 : Type 0
MatchIsGroup0 =
    (re : Expression) (haystack : List ℕ) (start : ℕ) (groups : Groups)
    → TellsGroups re haystack start (Some groups) → (reported : Match)
    → TellsMatch re haystack start (Some reported)
    ↔ ((haystack_of_match reported ≡ groups.haystack)
    × (group_span groups 0 ≡ Some (span_of_match reported)))

-- for several patterns group 0 is the match too, and both searches return the same number
abbrev pub ListMatchIsGroup0 : Type 0
ListMatchIsGroup0 =
    (list : List Expression) (haystack : List ℕ) (start number : ℕ) (groups : Groups)
    → TellsGroupsOfList list haystack start (Some (number, groups)) → (other : ℕ) (reported : Match)
    → TellsMatchOfList list haystack start (Some (other, reported))
    ↔ ((other ≡ number) × (haystack_of_match reported ≡ groups.haystack)
    × (group_span groups 0 ≡ Some (span_of_match reported)))

-- group 0 of each match ahead has the span of the match
abbrev pub GroupsHaveTheirSpans : Type 0
GroupsHaveTheirSpans =
    (ahead : Ahead) (found : List Found) (groups : List Groups) → AreAhead ahead found
    → AreGroupsOfEach ahead.sought ahead.haystack found groups
    → map whole_span groups ≡ map (found_span (chars ahead.haystack)) found

-- if the number of groups known to take part is the number of groups, each took part
abbrev pub AllGroupsTakePart : Type 0
AllGroupsTakePart =
    (groups : Groups) → AreGroups groups
    → groups.static_captures_len ≡ Some (length groups.spans)
    → (index : ℕ) → index < length groups.spans → IsSome (group_span groups index)

-- each of these names is a text
abbrev pub AreTexts : List (Option (List ℕ)) → Type 0
AreTexts names =
    (index : ℕ) (name : List ℕ) → slice_get names index ≡ Some (Some name) → IsUtf8 name

-- two lists of the names of one pattern's groups have the same characters, and are equal where
-- the names are texts
pub record AreEqualNames (names others : List (Option (List ℕ))) : Type 0 where
  pub characters : map (option_map chars) names ≡ map (option_map chars) others
  pub bytes : AreTexts names → AreTexts others → names ≡ others

abbrev pub OneNameList : Type 0
OneNameList =
    (re : Expression) (names others : List (Option (List ℕ))) → OfTree re (AreNames names)
    → OfTree re (AreNames others) → AreEqualNames names others

-- the groups of a match have the names of the pattern's groups
abbrev pub GroupsHaveNames : Type 0
GroupsHaveNames =
    (re : Expression) (haystack : List ℕ) (start : ℕ) (groups : Groups)
    → TellsGroups re haystack start (Some groups) → OfTree re (AreNames groups.names)

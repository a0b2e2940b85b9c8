-- What anchored searches return, as offsets: their matches start where the search starts. A whole
-- match is one that an anchored search from the haystack's start finds among the matches that end
-- where the haystack does.
use Rattle.std.specs.Prelude.{◌≡◌, ℕ, Bool, true, false, List, Option, chars, length}
use Rattle.regex_lite_syntax.specs.Tree.{Tree}
use Rattle.regex_lite_syntax.specs.Tree.Properties.{captures_len}
use Rattle.regex_lite_engine.specs.Graph.SideBySide.{HasTree}
use Rattle.regex_lite_engine.specs.Search.Answer.{Found}
use Rattle.regex_lite_engine.specs.Search.AnswerAt.{IsAnswerAt, IsAnswerAtOfList}
use Rattle.regex_lite_engine.specs.Search.Offsets.{search_start}
use Rattle.regex_lite.specs.declared.string.matches.Match.{Match}
use Rattle.regex_lite.specs.Answers.{TellsOfAnswer}
use Rattle.regex_lite.specs.Expression.{Expression, OfTree}
use Rattle.regex_lite.specs.Groups.{Groups, resized}
use Rattle.regex_lite.specs.RegexList.{OfTrees}
use Rattle.regex_lite.specs.Searches.{AreGroupsOf, IsMatchOf, spans_from}

-- what an anchored search for the pattern at this offset returns, with `whole` for matches that end
-- where the haystack does: `None` if no such match starts there, and otherwise a value of which
-- `says` holds for what is found
abbrev pub TellsAnswerAt : {A : Type 0} → (whole : Bool) → (says : Tree → Found → A → Type 0)
    → Expression → (haystack : List ℕ) → (start : ℕ) → Option A → Type 0
TellsAnswerAt whole says re haystack start reported =
    OfTree re (λ tree. TellsOfAnswer (IsAnswerAt whole tree (chars haystack)) (says tree)
    (search_start haystack start) reported)

-- the anchored search returns the match
abbrev pub TellsMatchAt : Expression → (haystack : List ℕ) → (start : ℕ) → Option Match → Type 0
TellsMatchAt re haystack start reported =
    TellsAnswerAt false (λ tree. IsMatchOf haystack) re haystack start reported

-- the anchored search returns the groups
abbrev pub TellsGroupsAt : Expression → (haystack : List ℕ) → (start : ℕ) → Option Groups → Type 0
TellsGroupsAt re haystack start reported =
    TellsAnswerAt false (λ tree. AreGroupsOf tree haystack) re haystack start reported

-- the anchored search returns the match, and these are the spans of its first groups
abbrev pub TellsLocationsAt : Expression → (haystack : List ℕ) → (start : ℕ)
    → List (Option (ℕ × ℕ)) → Option Match → Type 0
TellsLocationsAt re haystack start spans reported =
    TellsAnswerAt false (λ tree found m. IsMatchOf haystack found m
    × (spans ≡ spans_from (chars haystack) found.marks 0 (length spans)))
    re haystack start reported

-- the search for a whole match returns the match
abbrev pub TellsWholeMatch : Expression → (haystack : List ℕ) → Option Match → Type 0
TellsWholeMatch re haystack reported =
    TellsAnswerAt true (λ tree. IsMatchOf haystack) re haystack 0 reported

-- the search for a whole match returns the groups
abbrev pub TellsWholeGroups : Expression → (haystack : List ℕ) → Option Groups → Type 0
TellsWholeGroups re haystack reported =
    TellsAnswerAt true (λ tree. AreGroupsOf tree haystack) re haystack 0 reported

-- what is returned of an answer for several patterns: the number of its pattern, and a value of
-- which `says` holds for the tree with this number and what was found
pub record IsReportedOfNumbered {A : Type 0} (says : Tree → Found → A → Type 0) (trees : List Tree)
    (answer : ℕ × Found) (reported : ℕ × A) : Type 0 where
  pub number : reported.0 ≡ answer.0
  pub tree : Tree
  pub numbered : HasTree trees answer.0 tree
  pub value : says tree answer.1 reported.1

-- what an anchored search for the patterns at this offset returns, with `whole` for matches that
-- end where the haystack does: `None` if no such match of any starts there, and otherwise the
-- lowest number of a pattern that has one, and a value of which `says` holds for what is found
abbrev pub TellsAnswerAtOfList : {A : Type 0} → (whole : Bool)
    → (says : Tree → Found → A → Type 0) → List Expression → (haystack : List ℕ) → (start : ℕ)
    → Option (ℕ × A) → Type 0
TellsAnswerAtOfList whole says list haystack start reported =
    OfTrees list (λ trees. TellsOfAnswer (IsAnswerAtOfList whole trees (chars haystack))
    (IsReportedOfNumbered says trees) (search_start haystack start) reported)

-- the anchored search returns the match, with the number of its pattern
abbrev pub TellsMatchAtOfList : List Expression → (haystack : List ℕ) → (start : ℕ)
    → Option (ℕ × Match) → Type 0
TellsMatchAtOfList list haystack start reported =
    TellsAnswerAtOfList false (λ tree. IsMatchOf haystack) list haystack start reported

-- the anchored search returns the groups, with the number of their pattern
abbrev pub TellsGroupsAtOfList : List Expression → (haystack : List ℕ) → (start : ℕ)
    → Option (ℕ × Groups) → Type 0
TellsGroupsAtOfList list haystack start reported =
    TellsAnswerAtOfList false (λ tree. AreGroupsOf tree haystack) list haystack start reported

-- the anchored search returns the match, with the number of its pattern, and these are the spans of
-- that pattern's groups by index: those of its first groups where it has more than there are spans,
-- and none after its last one where it has fewer
abbrev pub TellsLocationsAtOfList : List Expression → (haystack : List ℕ) → (start : ℕ)
    → List (Option (ℕ × ℕ)) → Option (ℕ × Match) → Type 0
TellsLocationsAtOfList list haystack start spans reported =
    TellsAnswerAtOfList false (λ tree found m. IsMatchOf haystack found m
    × (spans ≡ resized (length spans)
    (spans_from (chars haystack) found.marks 0 (captures_len tree))))
    list haystack start reported

-- the search for a whole match of one of the patterns returns the match, with the number of its
-- pattern
abbrev pub TellsWholeMatchOfList : List Expression → (haystack : List ℕ) → Option (ℕ × Match)
    → Type 0
TellsWholeMatchOfList list haystack reported =
    TellsAnswerAtOfList true (λ tree. IsMatchOf haystack) list haystack 0 reported

-- the search for a whole match of one of the patterns returns the groups, with the number of their
-- pattern
abbrev pub TellsWholeGroupsOfList : List Expression → (haystack : List ℕ) → Option (ℕ × Groups)
    → Type 0
TellsWholeGroupsOfList list haystack reported =
    TellsAnswerAtOfList true (λ tree. AreGroupsOf tree haystack) list haystack 0 reported

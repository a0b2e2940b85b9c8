-- Laws of match lists.
use Rattle.std.specs.Prelude.{◌≡◌, ◌≤◌, ◌<◌, ◌+◌, ℕ, List, [], ◌∷◌, Option, Some, None, chars}
use Rattle.std.specs.Prelude.{length, min}
use Rattle.regex_lite_syntax.specs.Text.{Text}
use Rattle.regex_lite_engine.specs.Search.Answer.{Found}
use Rattle.regex_lite.specs.Ahead.{Ahead, AreAhead, AreSoManyAhead, whole}
use Rattle.regex_lite.specs.Expression.{Expression}
use Rattle.regex_lite.specs.MatchList.{AreMatches}

-- a match starts where the last one ended or later, and ends later
abbrev pub Follows : (ended : Option ℕ) → Found → Type 0
Follows None found = Unit {0}
Follows (Some end) found = (end ≤ found.start) × (end < found.end)

-- no match overlaps the one before it, and the ends strictly increase
abbrev pub AreAnswersApart : {A : Type 0} → (found_of : A → Found) → (ended : Option ℕ) → List A
    → Type 0
AreAnswersApart found_of ended [] = Unit {0}
AreAnswersApart found_of ended (answer ∷ list) =
    Follows ended (found_of answer) × ((found_of answer).start ≤ (found_of answer).end)
    × AreAnswersApart found_of (Some (found_of answer).end) list

abbrev pub AreApart : (ended : Option ℕ) → List Found → Type 0
AreApart ended list = AreAnswersApart (λ own. own) ended list

-- the matches in a haystack are apart, and there is at most one more of them than characters
abbrev pub MatchesAreApart : Type 0
MatchesAreApart =
    (re : Expression) (haystack : Text) (list : List Found) → AreMatches re haystack None list
    → AreApart None list × (length list ≤ length haystack + 1)

-- the list of the matches in a haystack is unique
abbrev pub OneMatchList : Type 0
OneMatchList =
    (re : Expression) (haystack : Text) (list other : List Found)
    → AreMatches re haystack None list → AreMatches re haystack None other → list ≡ other

-- the list of the matches ahead is unique
abbrev pub OneListAhead : Type 0
OneListAhead =
    (ahead : Ahead) (list other : List Found) → AreAhead ahead list → AreAhead ahead other
    → list ≡ other

-- this number, but at most the limit if there is one
abbrev pub number_within : (limit : Option ℕ) → (number : ℕ) → ℕ
number_within None number = number
number_within (Some limit) number = min limit number

-- up to a limit, the number of matches ahead is the number of all matches in the haystack
abbrev pub NumberWithinLimit : Type 0
NumberWithinLimit =
    (re : Expression) (haystack : List ℕ) (limit : Option ℕ) (all : List Found) (count : ℕ)
    → AreMatches re (chars haystack) None all → AreSoManyAhead (whole re haystack limit) count
    → count ≡ number_within limit (length all)

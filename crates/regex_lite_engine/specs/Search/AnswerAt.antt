-- The answer of an anchored search, whose matches start where the search starts. If `whole`, they
-- end where the haystack ends.
use Rattle.std.specs.Prelude.{◌≡◌, ◌≤◌, ◌⊎◌, ℕ, Bool, true, false, List, Option, Some, None, length}
use Rattle.regex_lite_syntax.specs.Text.{Text}
use Rattle.regex_lite_syntax.specs.Tree.{Tree}
use Rattle.regex_lite_syntax.specs.Tree.Matches.{IsPosition, Matches}
use Rattle.regex_lite_engine.specs.Graph.SideBySide.{HasTree}
use Rattle.regex_lite_engine.specs.Graph.WrittenOut.{IsWayThrough}
use Rattle.regex_lite_engine.specs.Search.Answer.{Found, IsOfWay}
use Rattle.regex_lite_engine.specs.Search.Preference.{IsPreferred}

-- a match may end at position j
abbrev pub MayEndAt : (whole : Bool) → Text → (j : ℕ) → Type 0
MayEndAt false haystack j = Unit {0}
MayEndAt true haystack j = j ≡ length haystack

-- the tree matches from position s to a position at which a match may end
abbrev pub HasMatchAt : (whole : Bool) → Tree → Text → (s : ℕ) → Type 0
HasMatchAt whole tree haystack s =
    IsPosition haystack s
    × ((j : ℕ) × MayEndAt whole haystack j × Matches haystack tree s j)

-- a way from position s to a position at which a match may end, preferred to each other such way
pub record IsFoundAt (whole : Bool) (tree : Tree) (haystack : Text) (s : ℕ) (found : Found)
    : Type 0 where
  pub start : found.start ≡ s
  pub ends : MayEndAt whole haystack found.end
  pub of_way : IsOfWay tree haystack found
  pub preferred : (other : List ℕ) (j : ℕ) → MayEndAt whole haystack j
      → IsWayThrough tree haystack s other j
      → (of_way.way ≡ other) ⊎ IsPreferred of_way.way other

-- the answer of an anchored search at position s
abbrev pub IsAnswerAt : (whole : Bool) → Tree → Text → (s : ℕ) → Option Found → Type 0
IsAnswerAt whole tree haystack s None = HasMatchAt whole tree haystack s → ⊥
IsAnswerAt whole tree haystack s (Some found) = IsFoundAt whole tree haystack s found

-- some pattern matches from position s
abbrev pub AnyMatchesAt : (whole : Bool) → List Tree → Text → (s : ℕ) → Type 0
AnyMatchesAt whole trees haystack s =
    (number : ℕ) × (tree : Tree) × HasTree trees number tree
    × HasMatchAt whole tree haystack s

-- the lowest number of a pattern that matches from position s, and that pattern's answer
pub record IsFoundAtInList (whole : Bool) (trees : List Tree) (haystack : Text) (s number : ℕ)
    (found : Found) : Type 0 where
  pub tree : Tree
  pub numbered : HasTree trees number tree
  pub answer : IsFoundAt whole tree haystack s found
  pub lowest : (k : ℕ) (other : Tree) → HasTree trees k other
      → HasMatchAt whole other haystack s → number ≤ k

-- the answer of an anchored search for several patterns at position s: the number of a pattern, and
-- what was found of it
abbrev pub IsAnswerAtOfList : (whole : Bool) → List Tree → Text → (s : ℕ) → Option (ℕ × Found)
    → Type 0
IsAnswerAtOfList whole trees haystack s None = AnyMatchesAt whole trees haystack s → ⊥
IsAnswerAtOfList whole trees haystack s (Some reported) =
    IsFoundAtInList whole trees haystack s reported.0 reported.1

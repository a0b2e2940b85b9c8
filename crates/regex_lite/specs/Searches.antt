-- What searches return, as offsets.
use Rattle.std.specs.Prelude.{◌≡◌, ◌<◌, ◌≤◌, ◌⊎◌, ℕ, zero, suc, List, [], ◌∷◌, Option, Some}
use Rattle.std.specs.Prelude.{None, IsSome, IsCharBoundary, chars, length, option_map}
use Rattle.regex_lite_syntax.specs.Text.{Text}
use Rattle.regex_lite_syntax.specs.Tree.{Tree}
use Rattle.regex_lite_syntax.specs.Tree.Properties.{captures_len, static_captures_len}
use Rattle.regex_lite_engine.specs.declared.steps.Steps.{Steps}
use Rattle.regex_lite_engine.specs.Search.Answer.{Found, HasMatchFrom, IsAnswer}
use Rattle.regex_lite_engine.specs.Search.Marks.{Marks, span}
use Rattle.regex_lite_engine.specs.Search.Offsets.{offset, search_start}
use Rattle.regex_lite_engine.specs.Search.Outcomes.{IsEndOutcome, HasCost}
use Rattle.regex_lite.specs.declared.string.matches.Match.{Match}
use Rattle.regex_lite.specs.Expression.{Expression, OfTree, AreNames}
use Rattle.regex_lite.specs.Groups.{Groups, group_span}
use Rattle.regex_lite.specs.MatchViews.{haystack_of_match, span_of_match}

-- the condition of every search on its start, for a haystack given as bytes: the start is above the
-- length or on a character boundary
abbrev pub CanStartAt : (haystack : List ℕ) → (start : ℕ) → Type 0
CanStartAt haystack start = (length haystack < start) ⊎ IsCharBoundary haystack start

-- the condition of a search that writes to locations: they have no more groups than the regex
abbrev pub CanRead : Expression → (locations : List (Option (ℕ × ℕ))) → Type 0
CanRead re locations = OfTree re (λ tree. length locations ≤ captures_len tree)

-- the pattern matches from some position at or after this offset
abbrev pub MatchesFrom : Expression → (haystack : List ℕ) → (start : ℕ) → Type 0
MatchesFrom re haystack start =
    OfTree re (λ tree. HasMatchFrom tree (chars haystack) (search_start haystack start))

-- two positions as offsets
abbrev pub offsets : Text → ℕ × ℕ → ℕ × ℕ
offsets haystack positions = (offset haystack positions.0, offset haystack positions.1)

-- the spans, as offsets, of this number of groups from this index on
abbrev pub spans_from : Text → Marks → (first count : ℕ) → List (Option (ℕ × ℕ))
spans_from haystack marks first zero = []
spans_from haystack marks first (suc count) =
    option_map (offsets haystack) (span marks first) ∷ spans_from haystack marks (suc first) count

-- what a search from position s on returns: `None` if there is no match, and otherwise a value of
-- which `says` holds for what is found
abbrev pub TellsOf : {A : Type 0} → (says : Found → A → Type 0)
    → Tree → Text → (s : ℕ) → Option A → Type 0
TellsOf says tree haystack s None = IsAnswer tree haystack s None
TellsOf says tree haystack s (Some reported) =
    (found : Found) × IsAnswer tree haystack s (Some found) × says found reported

-- what a search for the pattern from this offset on returns, in the same way
abbrev pub TellsAnswer : {A : Type 0} → (says : Tree → Found → A → Type 0)
    → Expression → (haystack : List ℕ) → (start : ℕ) → Option A → Type 0
TellsAnswer says re haystack start reported =
    OfTree re (λ tree.
    TellsOf (says tree) tree (chars haystack) (search_start haystack start) reported)

-- the match is the one that was found in the haystack
pub record IsMatchOf (bytes : List ℕ) (found : Found) (reported : Match) : Type 0 where
  pub haystack : haystack_of_match reported ≡ bytes
  pub span : span_of_match reported ≡ offsets (chars bytes) (found.start, found.end)

-- the search returns the match
abbrev pub TellsMatch : Expression → (haystack : List ℕ) → (start : ℕ) → Option Match → Type 0
TellsMatch re haystack start reported =
    TellsAnswer (λ tree. IsMatchOf haystack) re haystack start reported

-- the groups are those of what was found, each with its span and its name, and as many as the tree
-- has; group 0 took part
pub record AreGroupsOf (tree : Tree) (bytes : List ℕ) (found : Found) (groups : Groups)
    : Type 0 where
  pub haystack : groups.haystack ≡ bytes
  pub spans : groups.spans ≡ spans_from (chars bytes) found.marks 0 (captures_len tree)
  pub names : AreNames groups.names tree
  pub static_captures : groups.static_captures_len ≡ static_captures_len tree
  pub whole : IsSome (group_span groups 0)

-- the search returns the groups
abbrev pub TellsGroups : Expression → (haystack : List ℕ) → (start : ℕ) → Option Groups → Type 0
TellsGroups re haystack start reported =
    TellsAnswer (λ tree. AreGroupsOf tree haystack) re haystack start reported

-- these are the groups of a match of the pattern
pub record AreOfMatch (re : Expression) (groups : Groups) : Type 0 where
  pub haystack : List ℕ
  pub start : ℕ
  pub reported : TellsGroups re haystack start (Some groups)

-- this is the number of groups that are known to take part in each match
pub record IsStaticNumber (re : Expression) (known : Option ℕ) : Type 0 where
  pub each : (groups : Groups) → AreOfMatch re groups → groups.static_captures_len ≡ known

-- the search returns the match, and these are the spans of its first groups
abbrev pub TellsLocations : Expression → (haystack : List ℕ) → (start : ℕ)
    → List (Option (ℕ × ℕ)) → Option Match → Type 0
TellsLocations re haystack start spans reported =
    TellsAnswer (λ tree found m. IsMatchOf haystack found m
    × (spans ≡ spans_from (chars haystack) found.marks 0 (length spans)))
    re haystack start reported

-- the search returns the end of the match that ends first
abbrev pub TellsEnd : Expression → (haystack : List ℕ) → (start : ℕ) → Option ℕ → Type 0
TellsEnd re haystack start reported = OfTree re (λ tree. IsEndOutcome tree haystack start reported)

-- the cost of the search is within the bound by the places and arrows of the compiled pattern
abbrev pub IsWithinCost : Expression → (haystack : List ℕ) → (start : ℕ) → Steps → Type 0
IsWithinCost re haystack start steps = OfTree re (λ tree. HasCost tree haystack start steps)

-- Where a pattern matches in a haystack, as offsets. The definitions use only the match relation of
-- trees, and no search.
use Rattle.std.specs.Prelude.{◌≡◌, ◌≤◌, ℕ, List, Some, chars, length, slice_get}
use Rattle.regex_lite_syntax.specs.Tree.{Tree}
use Rattle.regex_lite_syntax.specs.Tree.Matches.{Matches}
use Rattle.regex_lite_engine.specs.Search.Offsets.{IsOffset}
use Rattle.regex_lite_engine.specs.Search.Preference.{IsMostPreferred}
use Rattle.regex_lite.specs.Expression.{Expression, OfTree}
use Rattle.regex_lite.specs.RegexList.{AreTrees}

-- the pattern matches the text between these two offsets
abbrev pub MatchesSpan : Expression → (haystack : List ℕ) → (span : ℕ × ℕ) → Type 0
MatchesSpan re haystack span =
    OfTree re (λ tree. (i : ℕ) × (j : ℕ) × IsOffset (chars haystack) i span.0
    × IsOffset (chars haystack) j span.1 × Matches (chars haystack) tree i j)

-- the pattern matches the text between this offset and some other: a match begins there
abbrev pub MatchesAt : Expression → (haystack : List ℕ) → (at : ℕ) → Type 0
MatchesAt re haystack at = (end : ℕ) × MatchesSpan re haystack (at, end)

-- a match begins somewhere in the haystack
abbrev pub MatchesIn : Expression → (haystack : List ℕ) → Type 0
MatchesIn re haystack = (at : ℕ) × MatchesAt re haystack at

-- of all matches that begin at one offset, the pattern prefers the one that ends at the other
abbrev pub PrefersSpan : Expression → (haystack : List ℕ) → (span : ℕ × ℕ) → Type 0
PrefersSpan re haystack span =
    OfTree re (λ tree. (i : ℕ) × (j : ℕ) × (way : List ℕ) × IsOffset (chars haystack) i span.0
    × IsOffset (chars haystack) j span.1 × IsMostPreferred tree (chars haystack) i way j)

-- of the matches that begin at this offset or after it, the pattern has none that begins before
-- this one does, and prefers it to the others that begin there
pub record IsFirstMatch (re : Expression) (haystack : List ℕ) (start : ℕ) (span : ℕ × ℕ)
    : Type 0 where
  pub from : start ≤ span.0
  pub matches : MatchesSpan re haystack span
  pub least : (at : ℕ) → start ≤ at → MatchesAt re haystack at → span.0 ≤ at
  pub preferred : PrefersSpan re haystack span

-- no match begins at this offset or after it
abbrev pub MatchesNowhere : Expression → (haystack : List ℕ) → (start : ℕ) → Type 0
MatchesNowhere re haystack start = (at : ℕ) → start ≤ at → MatchesAt re haystack at → ⊥

-- one of these patterns has a match that begins at this offset
abbrev pub SomeMatchesAt : List Expression → (haystack : List ℕ) → (at : ℕ) → Type 0
SomeMatchesAt list haystack at =
    (number : ℕ) × (re : Expression) × (slice_get list number ≡ Some re)
    × MatchesAt re haystack at

-- one of these patterns matches the whole haystack
abbrev pub SomeMatchesWhole : List Expression → (haystack : List ℕ) → Type 0
SomeMatchesWhole list haystack =
    (number : ℕ) × (re : Expression) × (slice_get list number ≡ Some re)
    × MatchesSpan re haystack (0, length haystack)

-- the grammar gives each of these patterns a tree
abbrev pub HaveTrees : List Expression → Type 0
HaveTrees list = (trees : List Tree) × AreTrees list trees

-- one of these patterns has a match that begins at this offset or after it
abbrev pub SomeMatches : List Expression → (haystack : List ℕ) → (start : ℕ) → Type 0
SomeMatches list haystack start =
    (number : ℕ) × (re : Expression) × (slice_get list number ≡ Some re)
    × ((at : ℕ) × (start ≤ at) × MatchesAt re haystack at)

-- none of these patterns has a match that begins at this offset or after it
abbrev pub NoneMatches : List Expression → (haystack : List ℕ) → (start : ℕ) → Type 0
NoneMatches list haystack start =
    (number : ℕ) (re : Expression) → slice_get list number ≡ Some re
    → MatchesNowhere re haystack start

-- this match is the first of all: no pattern has a match that begins before it, none with a lower
-- number has a match that begins there, and the pattern with this number prefers it
pub record IsFirstOfList (list : List Expression) (haystack : List ℕ) (start number : ℕ)
    (span : ℕ × ℕ) : Type 0 where
  pub re : Expression
  pub numbered : slice_get list number ≡ Some re
  pub first : IsFirstMatch re haystack start span
  pub least : (k at : ℕ) (other : Expression) → slice_get list k ≡ Some other → start ≤ at
      → MatchesAt other haystack at → span.0 ≤ at
  pub lowest : (k : ℕ) (other : Expression) → slice_get list k ≡ Some other
      → MatchesAt other haystack span.0 → number ≤ k

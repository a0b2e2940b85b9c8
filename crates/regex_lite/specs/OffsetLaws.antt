-- Laws of what searches return, in terms of the offsets at which patterns match.
use Rattle.std.specs.Prelude.{◌≡◌, ◌≤◌, ◌↔◌, ℕ, List, IsUtf8, Some, None, chars}
use Rattle.regex_lite_syntax.specs.Grammar.{HasTree}
use Rattle.regex_lite.specs.declared.string.matches.Match.{Match}
use Rattle.regex_lite.specs.Expression.{Expression}
use Rattle.regex_lite.specs.Groups.{Groups, whole_span}
use Rattle.regex_lite.specs.MatchOffsets.{HaveTrees, IsFirstMatch, IsFirstOfList}
use Rattle.regex_lite.specs.MatchOffsets.{MatchesAt, MatchesIn, MatchesNowhere, NoneMatches}
use Rattle.regex_lite.specs.MatchOffsets.{SomeMatches}
use Rattle.regex_lite.specs.MatchViews.{haystack_of_match, span_of_match}
use Rattle.regex_lite.specs.RegexListSearches.{AnyMatches, TellsGroupsOfList, TellsMatchOfList}
use Rattle.regex_lite.specs.Searches.{CanStartAt, MatchesFrom, TellsGroups, TellsMatch}

-- the searches for one pattern from this offset on, in terms of the offsets at which it matches
pub record FindsFirst (re : Expression) (haystack : List ℕ) (start : ℕ) : Type 0 where
  -- the pattern matches from there on exactly if a match begins there or later
  pub matches :
      MatchesFrom re haystack start ↔ ((at : ℕ) × (start ≤ at) × MatchesAt re haystack at)
  -- a match may be returned exactly if it is the first match
  pub found : (reported : Match) → TellsMatch re haystack start (Some reported)
      ↔ ((haystack_of_match reported ≡ haystack)
      × IsFirstMatch re haystack start (span_of_match reported))
  -- nothing is returned exactly if the pattern has a tree and no match begins there or later
  pub none : TellsMatch re haystack start None
      ↔ (HasTree re.flags (chars re.pattern) × MatchesNowhere re haystack start)
  -- the search for groups finds the first match, or nothing if there is none
  pub groups : (reported : Groups) → TellsGroups re haystack start (Some reported)
      → IsFirstMatch re haystack start (whole_span reported)
  pub no_groups : TellsGroups re haystack start None
      ↔ (HasTree re.flags (chars re.pattern) × MatchesNowhere re haystack start)

abbrev pub SearchesFindFirst : Type 0
SearchesFindFirst =
    (re : Expression) (haystack : List ℕ) (start : ℕ) → IsUtf8 haystack
    → CanStartAt haystack start → FindsFirst re haystack start

-- a pattern matches from the haystack's start on exactly if it matches somewhere
abbrev pub MatchesFromStart : Type 0
MatchesFromStart =
    (re : Expression) (haystack : List ℕ) → IsUtf8 haystack
    → MatchesFrom re haystack 0 ↔ MatchesIn re haystack

-- the searches for several patterns from this offset on, in terms of the offsets at which they
-- match
pub record ListFindsFirst (list : List Expression) (haystack : List ℕ) (start : ℕ)
    : Type 0 where
  pub matches : AnyMatches list haystack start
      ↔ (HaveTrees list × SomeMatches list haystack start)
  pub found : (number : ℕ) (reported : Match)
      → TellsMatchOfList list haystack start (Some (number, reported))
      ↔ (HaveTrees list × (haystack_of_match reported ≡ haystack)
      × IsFirstOfList list haystack start number (span_of_match reported))
  pub none : TellsMatchOfList list haystack start None
      ↔ (HaveTrees list × NoneMatches list haystack start)
  pub groups : (number : ℕ) (reported : Groups)
      → TellsGroupsOfList list haystack start (Some (number, reported))
      → IsFirstOfList list haystack start number (whole_span reported)
  pub no_groups : TellsGroupsOfList list haystack start None
      ↔ (HaveTrees list × NoneMatches list haystack start)

abbrev pub ListSearchesFindFirst : Type 0
ListSearchesFindFirst =
    (list : List Expression) (haystack : List ℕ) (start : ℕ) → IsUtf8 haystack
    → CanStartAt haystack start → ListFindsFirst list haystack start

-- Laws of what searches for whole matches return, in terms of the offsets at which patterns match.
use Rattle.std.specs.Prelude.{◌≡◌, ◌≤◌, ◌↔◌, ℕ, List, IfSome, IsUtf8, Some, None, chars, length}
use Rattle.std.specs.Prelude.{slice_get}
use Rattle.regex_lite_syntax.specs.Grammar.{HasTree}
use Rattle.regex_lite.specs.declared.string.matches.Match.{Match}
use Rattle.regex_lite.specs.Anchored.{TellsWholeGroups, TellsWholeGroupsOfList, TellsWholeMatch}
use Rattle.regex_lite.specs.Anchored.{TellsWholeMatchOfList}
use Rattle.regex_lite.specs.Expression.{Expression}
use Rattle.regex_lite.specs.Groups.{Groups, group_span, whole_span}
use Rattle.regex_lite.specs.Laws.{LiesInside}
use Rattle.regex_lite.specs.MatchOffsets.{HaveTrees, MatchesSpan, SomeMatchesWhole}
use Rattle.regex_lite.specs.MatchViews.{haystack_of_match, span_of_match}

-- the pattern matches the whole haystack, and this is the span of the haystack
pub record IsWholeSpan (re : Expression) (haystack : List ℕ) (span : ℕ × ℕ) : Type 0 where
  pub whole : span ≡ (0, length haystack)
  pub matches : MatchesSpan re haystack span

-- the searches for a whole match of a pattern
pub record FindsWhole (re : Expression) (haystack : List ℕ) : Type 0 where
  pub found : (reported : Match) → TellsWholeMatch re haystack (Some reported)
      → (haystack_of_match reported ≡ haystack) × IsWholeSpan re haystack (span_of_match reported)
  -- nothing is returned exactly if a pattern that has a tree doesn't match the whole haystack
  pub none : TellsWholeMatch re haystack None
      ↔ (HasTree re.flags (chars re.pattern)
      × (MatchesSpan re haystack (0, length haystack) → ⊥))
  -- group 0 is the whole haystack, and each group that took part lies in it
  pub groups : (reported : Groups) → TellsWholeGroups re haystack (Some reported)
      → IsWholeSpan re haystack (whole_span reported)
      × ((index : ℕ) → IfSome (group_span reported index)
      (LiesInside haystack (whole_span reported)))
  pub no_groups : TellsWholeGroups re haystack None
      ↔ (HasTree re.flags (chars re.pattern)
      × (MatchesSpan re haystack (0, length haystack) → ⊥))

abbrev pub WholeSearchesFindWhole : Type 0
WholeSearchesFindWhole =
    (re : Expression) (haystack : List ℕ) → IsUtf8 haystack → FindsWhole re haystack

-- the pattern with this number matches the whole haystack, and none with a lower number does
pub record IsWholeOfList (list : List Expression) (haystack : List ℕ) (number : ℕ) (span : ℕ × ℕ)
    : Type 0 where
  pub re : Expression
  pub numbered : slice_get list number ≡ Some re
  pub is : IsWholeSpan re haystack span
  pub lowest : (k : ℕ) (other : Expression) → slice_get list k ≡ Some other
      → MatchesSpan other haystack (0, length haystack) → number ≤ k

-- the searches for a whole match of several patterns
pub record ListFindsWhole (list : List Expression) (haystack : List ℕ) : Type 0 where
  pub found : (number : ℕ) (reported : Match)
      → TellsWholeMatchOfList list haystack (Some (number, reported))
      → (haystack_of_match reported ≡ haystack)
      × IsWholeOfList list haystack number (span_of_match reported)
  pub none : TellsWholeMatchOfList list haystack None
      ↔ (HaveTrees list × (SomeMatchesWhole list haystack → ⊥))
  pub groups : (number : ℕ) (reported : Groups)
      → TellsWholeGroupsOfList list haystack (Some (number, reported))
      → IsWholeOfList list haystack number (whole_span reported)
  pub no_groups : TellsWholeGroupsOfList list haystack None
      ↔ (HaveTrees list × (SomeMatchesWhole list haystack → ⊥))

abbrev pub WholeListSearchesFindWhole : Type 0
WholeListSearchesFindWhole =
    (list : List Expression) (haystack : List ℕ) → IsUtf8 haystack → ListFindsWhole list haystack

-- What an anchored search returns is the match that the pattern prefers there, by offsets.
use Rattle.regex_lite.proofs.Common.{ℕ, List, sym, subst, arith, IsUtf8, Some, Expression}
use Rattle.regex_lite.proofs.Common.{haystack_of_match, span_of_match, whole_span, ◌≡◌, Match, None}
use Rattle.regex_lite.proofs.Common.{chars, ◌↔◌}
use Rattle.regex_lite_syntax.specs.Grammar.{HasTree}
use Rattle.regex_lite.specs.Anchored.{TellsMatchAt, TellsMatchAtOfList}
use Rattle.regex_lite.specs.AnchoredLaws.{FindsAt, IsMatchAt, IsMatchAtOfList, ListFindsAt}
use Rattle.regex_lite.specs.MatchOffsets.{HaveTrees, IsFirstMatch, IsFirstOfList, MatchesAt}
use Rattle.regex_lite.specs.MatchOffsets.{SomeMatchesAt}
use Rattle.regex_lite.specs.Searches.{CanStartAt}
use Rattle.regex_lite.proofs.laws.FirstMatchLemmas.{finds_first}
use Rattle.regex_lite.proofs.laws.FirstOfListLemmas.{list_finds_first}
use Rattle.regex_lite.proofs.string.AnchoredLemmas.{matched_there, search_at, tree_matched_there}
use Rattle.regex_lite.proofs.string.ListAnchoredLemmas.{any_there, list_search_at, some_there}

-- the first match, where it begins at the start
module _ (haystack : List ℕ) (start : ℕ) (span : ℕ × ℕ) where
  at_start : (re : Expression) → IsFirstMatch re haystack start span → span.0 ≡ start
      → IsMatchAt re haystack start span
  at_start re first same =
      record { begins = same; matches = first.matches; preferred = first.preferred }

  from_start : (re : Expression) → IsMatchAt re haystack start span
      → IsFirstMatch re haystack start span
  from_start re is = record {
    from = omega (arith, is.begins);
    matches = is.matches;
    least = λ at later matches. omega (arith, is.begins, later);
    preferred = is.preferred;
  }

  at_start_of_list : (list : List Expression) (number : ℕ)
      → IsFirstOfList list haystack start number span → span.0 ≡ start
      → IsMatchAtOfList list haystack start number span
  at_start_of_list list number first same = record {
    re = first.re;
    numbered = first.numbered;
    at = at_start first.re first.first same;
    lowest = λ k other there matches.
        first.lowest k other there (subst (MatchesAt other haystack) (sym same) matches);
  }

  from_start_of_list : (list : List Expression) (number : ℕ)
      → IsMatchAtOfList list haystack start number span
      → IsFirstOfList list haystack start number span
  from_start_of_list list number is = record {
    re = is.re;
    numbered = is.numbered;
    first = from_start is.re is.at;
    least = λ k at other there later matches. omega (arith, is.at.begins, later);
    lowest = λ k other there matches.
        is.lowest k other there (subst (MatchesAt other haystack) is.at.begins matches);
  }

module _ (haystack : List ℕ) (utf8 : IsUtf8 haystack) (start : ℕ)
    (can : CanStartAt haystack start) where
  found_at_start : (re : Expression) (m : Match) → TellsMatchAt re haystack start (Some m)
      ↔ ((haystack_of_match m ≡ haystack) × IsMatchAt re haystack start (span_of_match m))
  found_at_start re m =
      let by_start = (search_at haystack utf8 start can re).match m in
      let first = (finds_first haystack utf8 start can re).found m in (
        λ reported.
            let from = by_start.0 reported in
            let own = first.0 from.0 in
            (own.0, at_start haystack start (span_of_match m) re own.1 from.1),
        λ (same, is). by_start.1 (
          first.1 (same, from_start haystack start (span_of_match m) re is),
          is.begins,
        ),
      )

  none_at_start : (re : Expression) → TellsMatchAt re haystack start None
      ↔ (HasTree re.flags (chars re.pattern) × (MatchesAt re haystack start → ⊥))
  none_at_start re = (
    λ (tree, given, none). (
      (tree, given),
      λ matches. none (tree_matched_there haystack utf8 start can re tree given matches),
    ),
    λ ((tree, given), none). (
      tree,
      given,
      λ has. none (matched_there haystack utf8 start can re tree given has),
    ),
  )

  pub finds_at : (re : Expression) → FindsAt re haystack start
  finds_at re = record {
    found = found_at_start re;
    none = none_at_start re;
    groups = λ groups reported.
        let from = ((search_at haystack utf8 start can re).groups groups).0 reported in
        at_start haystack start (whole_span groups) re
        ((finds_first haystack utf8 start can re).groups groups from.0) from.1;
    no_groups = none_at_start re;
  }

  -- the same of several patterns
  found_at_start_of_list : (list : List Expression) (number : ℕ) (m : Match)
      → TellsMatchAtOfList list haystack start (Some (number, m))
      ↔ (HaveTrees list × (haystack_of_match m ≡ haystack)
      × IsMatchAtOfList list haystack start number (span_of_match m))
  found_at_start_of_list list number m =
      let by_start = (list_search_at haystack utf8 start can list).match (number, m) in
      let first = (list_finds_first haystack utf8 start can list).found number m in (
        λ reported.
            let from = by_start.0 reported in
            let own = first.0 from.0 in (
              own.0,
              own.1,
              at_start_of_list haystack start (span_of_match m) list number own.2 from.1,
            ),
        λ (trees, same, is). by_start.1 (
          first.1 (
            trees,
            same,
            from_start_of_list haystack start (span_of_match m) list number is,
          ),
          is.at.begins,
        ),
      )

  none_at_start_of_list : (list : List Expression) → TellsMatchAtOfList list haystack start None
      ↔ (HaveTrees list × (SomeMatchesAt list haystack start → ⊥))
  none_at_start_of_list list = (
    λ (trees, given, none). (
      (trees, given),
      λ some. none (any_there haystack utf8 start can list trees given some),
    ),
    λ ((trees, given), none). (
      trees,
      given,
      λ any. none (some_there haystack utf8 start can list trees given any),
    ),
  )

  pub list_finds_at : (list : List Expression) → ListFindsAt list haystack start
  list_finds_at list = record {
    found = found_at_start_of_list list;
    none = none_at_start_of_list list;
    groups = λ number groups reported.
        let from = ((list_search_at haystack utf8 start can list).groups (number, groups)).0
        reported in
        at_start_of_list haystack start (whole_span groups) list number
        ((list_finds_first haystack utf8 start can list).groups number groups from.0) from.1;
    no_groups = none_at_start_of_list list;
  }

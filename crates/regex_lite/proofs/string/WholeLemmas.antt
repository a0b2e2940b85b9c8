-- What searches for whole matches return, by the offsets at which patterns match.
use Rattle.regex_lite.proofs.Common.{◌≡◌, ℕ, Bool, true, ◌↔◌, List, length, IsTrue, Some, None}
use Rattle.regex_lite.proofs.Common.{IsUtf8, chars, unwrap_or, sym, ap, ◌∙◌, subst}
use Rattle.regex_lite.proofs.Common.{inr}
use Rattle.regex_lite.proofs.Common.{arith, IsTree, Text, Tree, captures_len, Found, offset}
use Rattle.regex_lite.proofs.Common.{search_start, Expression, OfTree, Groups, span_at}
use Rattle.regex_lite.proofs.Common.{whole_span, span_of_match, haystack_of_match, AreTrees}
use Rattle.regex_lite.proofs.Common.{offsets}
use Rattle.regex_lite.proofs.Common.{AreGroupsOf, Match, IfSome, IsPatternTree}
use Rattle.regex_lite.proofs.Common.{IsCharBoundary-start, spans_from, group_span}
use Rattle.std.proofs.lemmas.Str.{encodes-chars, IsCharBoundary-end}
use Rattle.regex_lite_syntax.proofs.OptionLemmas.{same_some}
use Rattle.regex_lite_syntax.specs.Grammar.{HasTree}
use Rattle.regex_lite_syntax.specs.Tree.Matches.{IsPosition, Matches}
use Rattle.regex_lite_engine.specs.Search.AnswerAt.{AnyMatchesAt, HasMatchAt, IsFoundAt}
use Rattle.regex_lite_engine.specs.Search.AnswerAt.{IsFoundAtInList}
use Rattle.regex_lite_engine.specs.Search.Answer.{IsOfWay}
use Rattle.regex_lite_engine.proofs.OffsetLemmas.{offset_grows, offset_most}
use Rattle.regex_lite_engine.proofs.PositionLemmas.{position_is, same_position}
use Rattle.regex_lite_engine.proofs.laws.PatternTreeLemmas.{regular_tree}
use Rattle.regex_lite_engine.proofs.laws.PatternWayLemmas.{walk_match}
use Rattle.regex_lite.specs.Anchored.{TellsWholeGroups, TellsWholeGroupsOfList, TellsWholeMatch}
use Rattle.regex_lite.specs.Anchored.{TellsWholeMatchOfList}
use Rattle.regex_lite.specs.Laws.{LiesInside}
use Rattle.regex_lite.specs.MatchOffsets.{HaveTrees, MatchesSpan, SomeMatchesWhole}
use Rattle.regex_lite.specs.RegexList.{OfTrees}
use Rattle.regex_lite.specs.Searches.{CanStartAt}
use Rattle.regex_lite.specs.WholeLaws.{FindsWhole, IsWholeOfList, IsWholeSpan, ListFindsWhole}
use Rattle.regex_lite.proofs.ListBuildLemmas.{numbered_tree, own_tree, pattern_tree}
use Rattle.regex_lite.proofs.OneTreeLemmas.{one_tree}
use Rattle.regex_lite.proofs.string.AnchoredLemmas.{only_start, start_is}
use Rattle.regex_lite.proofs.string.FoundLemmas.{group_0, groups_lie_inside}
use Rattle.regex_lite.proofs.string.ReportedLemmas.{same_pair}

module _ (haystack : List ℕ) (utf8 : IsUtf8 haystack) where
  abbrev h : Text
  h = chars haystack

  abbrev s : ℕ
  s = search_start haystack 0

  can : CanStartAt haystack 0
  can = inr (IsCharBoundary-start haystack utf8)

  -- the last position has the length as its offset
  last_is : offset h (length h) ≡ length haystack
  last_is =
      let end = position_is haystack (length haystack) utf8 (IsCharBoundary-end haystack) in
      let low = offset_grows h _ (length h) end.0 in
      let high = offset_most h (length h) in
      let all = ap (λ bytes. length bytes) (encodes-chars haystack utf8) in
      omega (arith, low, high, all, end.1)

  only_last : (j : ℕ) → IsPosition h j → length haystack ≡ offset h j → j ≡ length h
  only_last j inside ends =
      same_position h j (length h) inside (omega arith) (sym ends ∙ sym last_is)

  -- the pattern matches the whole haystack where its tree does
  matched_whole : (re : Expression) (tree : Tree) → IsTree re.flags (chars re.pattern) tree
      → HasMatchAt true tree h s → MatchesSpan re haystack (0, length haystack)
  matched_whole re tree given (inside, (j, last, matches)) = (
    tree,
    given,
    (
      s,
      j,
      (inside, sym (start_is haystack utf8 0 can inside)),
      (omega (arith, last), sym (ap (offset h) last ∙ last_is)),
      matches,
    ),
  )

  -- and its tree where the pattern does
  tree_matched_whole : (re : Expression) (tree : Tree) → IsTree re.flags (chars re.pattern) tree
      → MatchesSpan re haystack (0, length haystack) → HasMatchAt true tree h s
  tree_matched_whole re tree given (other, given_too, (i, j, starts, ends, matches)) =
      let here = only_start haystack utf8 0 can i starts.0 (sym starts.1) in
      let one = one_tree re.flags (chars re.pattern) other tree given_too given in (
        subst (IsPosition h) here starts.0,
        (
          j,
          only_last j ends.0 ends.1,
          subst (λ i. Matches h tree i j) here (subst (λ t. Matches h t i j) one matches),
        ),
      )

  pub has_reported_whole : (re : Expression) (found : Bool)
      → OfTree re (λ tree. IsTrue found ↔ HasMatchAt true tree h s)
      → IsTrue found ↔ MatchesSpan re haystack (0, length haystack)
  has_reported_whole re found (tree, given, reported) = (
    λ yes_found. matched_whole re tree given (reported.0 yes_found),
    λ matches. reported.1 (tree_matched_whole re tree given matches),
  )

  -- one of several patterns matches it where its tree does
  some_whole : (list : List Expression) (trees : List Tree) → AreTrees list trees
      → AnyMatchesAt true trees h s → SomeMatchesWhole list haystack
  some_whole list trees given (number, tree, there, has) =
      let own = own_tree list trees number tree given there in
      (number, own.0, own.1, matched_whole own.0 tree own.2 has)

  any_whole : (list : List Expression) (trees : List Tree) → AreTrees list trees
      → SomeMatchesWhole list haystack → AnyMatchesAt true trees h s
  any_whole list trees given (number, re, there, matches) =
      let own = numbered_tree list trees number re given there in
      (number, own.0, own.1, tree_matched_whole re own.0 own.2 matches)

  pub any_reported_whole : (list : List Expression) (found : Bool)
      → OfTrees list (λ trees. IsTrue found ↔ AnyMatchesAt true trees h s)
      → IsTrue found ↔ SomeMatchesWhole list haystack
  any_reported_whole list found (trees, given, reported) = (
    λ yes_found. some_whole list trees given (reported.0 yes_found),
    λ matches. reported.1 (any_whole list trees given matches),
  )

  -- what is found lies on the whole haystack, and the pattern matches it
  whole_found : (re : Expression) (tree : Tree) (found : Found)
      → IsTree re.flags (chars re.pattern) tree → IsFoundAt true tree h s found
      → IsWholeSpan re haystack (offsets h (found.start, found.end))
  whole_found re tree found given is =
      let inside = subst (IsPosition h) is.start is.of_way.inside in
      let span : offsets h (found.start, found.end) ≡ (0, length haystack) =
      same_pair (ap (offset h) is.start ∙ start_is haystack utf8 0 can inside)
      (ap (offset h) is.ends ∙ last_is) in
      record {
        whole = span;
        matches = subst (MatchesSpan re haystack) (sym span)
            (matched_whole re tree given (
              inside,
              (
                found.end,
                is.ends,
                subst (λ i. Matches h tree i found.end) is.start
                    (walk_match tree h found.start found.end is.of_way.way
                    (regular_tree tree (re.flags, _, given)) is.of_way.is_way.0),
              ),
            ));
      }

  -- the groups that are returned have its span
  whole_groups : (tree : Tree) (found : Found) (groups : Groups) → IsPatternTree tree
      → IsOfWay tree h found → AreGroupsOf tree haystack found groups
      → whole_span groups ≡ offsets h (found.start, found.end)
  whole_groups tree found groups given way are =
      ap (λ spans. unwrap_or (span_at spans 0) (0, 0)) are.spans
      ∙ ap (λ span. unwrap_or span (0, 0))
      (group_0 h tree found (captures_len tree) given way (omega arith))

  none_whole : (re : Expression) → TellsWholeMatch re haystack None
      ↔ (HasTree re.flags (chars re.pattern)
      × (MatchesSpan re haystack (0, length haystack) → ⊥))
  none_whole re = (
    λ (tree, given, none). (
      (tree, given),
      λ matches. none (tree_matched_whole re tree given matches),
    ),
    λ ((tree, given), none). (
      tree,
      given,
      λ has. none (matched_whole re tree given has),
    ),
  )

  groups_whole : (re : Expression) (reported : Groups) → TellsWholeGroups re haystack
      (Some reported) → IsWholeSpan re haystack (whole_span reported)
      × ((index : ℕ) → IfSome (group_span reported index)
      (LiesInside haystack (whole_span reported)))
  groups_whole re reported (tree, given, (found, is, are)) =
      let of_pattern : IsPatternTree tree = (re.flags, _, given) in
      let span = whole_groups tree found reported of_pattern is.of_way are in (
        subst (IsWholeSpan re haystack) (sym span) (whole_found re tree found given is),
        λ index.
            subst (λ spans. IfSome (span_at spans index)
            (LiesInside haystack (whole_span reported))) (sym are.spans)
            (subst (λ span. IfSome (span_at (spans_from h found.marks 0 (captures_len tree)) index)
            (LiesInside haystack span)) (sym span)
            (groups_lie_inside haystack utf8 tree of_pattern found is.of_way (captures_len tree)
            index)),
      )

  pub finds_whole : (re : Expression) → FindsWhole re haystack
  finds_whole re = record {
    found = λ reported (tree, given, (found, is, of)). (
      of.haystack,
      subst (IsWholeSpan re haystack) (sym of.span) (whole_found re tree found given is),
    );
    none = none_whole re;
    groups = groups_whole re;
    no_groups = none_whole re;
  }

  -- the same of several patterns
  whole_of_list : (list : List Expression) (trees : List Tree) (number : ℕ) (found : Found)
      → AreTrees list trees → (is : IsFoundAtInList true trees h s number found)
      → IsWholeOfList list haystack number (offsets h (found.start, found.end))
  whole_of_list list trees number found given is =
      let own = own_tree list trees number is.tree given is.numbered in
      record {
        re = own.0;
        numbered = own.1;
        is = whole_found own.0 is.tree found own.2 is.answer;
        lowest = λ k other there matches. (
            let tree = numbered_tree list trees k other given there in
            is.lowest k tree.0 tree.1 (tree_matched_whole other tree.0 tree.2 matches));
      }

  none_whole_of_list : (list : List Expression) → TellsWholeMatchOfList list haystack None
      ↔ (HaveTrees list × (SomeMatchesWhole list haystack → ⊥))
  none_whole_of_list list = (
    λ (trees, given, none). (
      (trees, given),
      λ some. none (any_whole list trees given some),
    ),
    λ ((trees, given), none). (
      trees,
      given,
      λ any. none (some_whole list trees given any),
    ),
  )

  found_whole_of_list : (list : List Expression) (number : ℕ) (reported : Match)
      → TellsWholeMatchOfList list haystack (Some (number, reported))
      → (haystack_of_match reported ≡ haystack)
      × IsWholeOfList list haystack number (span_of_match reported)
  found_whole_of_list list number reported (trees, given, (answer, is, own)) = (
    own.value.haystack,
    subst (IsWholeOfList list haystack number) (sym own.value.span)
        (subst (λ n. IsWholeOfList list haystack n (offsets h (answer.1.start, answer.1.end)))
        (sym own.number) (whole_of_list list trees answer.0 answer.1 given is)),
  )

  groups_whole_of_list : (list : List Expression) (number : ℕ) (reported : Groups)
      → TellsWholeGroupsOfList list haystack (Some (number, reported))
      → IsWholeOfList list haystack number (whole_span reported)
  groups_whole_of_list list number reported (trees, given, (answer, is, own)) =
      let same = same_some (sym own.numbered ∙ is.numbered) in
      let span = whole_groups is.tree answer.1 reported
      (pattern_tree list trees given answer.0 is.tree is.numbered) is.answer.of_way
      (subst (λ tree. AreGroupsOf tree haystack answer.1 reported) same own.value) in
      subst (IsWholeOfList list haystack number) (sym span)
      (subst (λ n. IsWholeOfList list haystack n (offsets h (answer.1.start, answer.1.end)))
      (sym own.number) (whole_of_list list trees answer.0 answer.1 given is))

  pub list_finds_whole : (list : List Expression) → ListFindsWhole list haystack
  list_finds_whole list = record {
    found = found_whole_of_list list;
    none = none_whole_of_list list;
    groups = groups_whole_of_list list;
    no_groups = none_whole_of_list list;
  }

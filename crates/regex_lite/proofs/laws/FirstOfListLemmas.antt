-- What a search for several patterns returns is the first match of any by offsets.
use Rattle.regex_lite.proofs.Common.{◌≡◌, ℕ, ◌≤◌, ◌↔◌, List, Some, None, IsUtf8, chars, unwrap_or}
use Rattle.regex_lite.proofs.Common.{sym, ap, ◌∙◌, subst, arith, IsTree, Text, Tree, captures_len}
use Rattle.regex_lite.proofs.Common.{HasTree, Found, IsFound, IsFoundInList, offset, search_start}
use Rattle.regex_lite.proofs.Common.{Expression, OfTree, Groups, span_at, whole_span}
use Rattle.regex_lite.proofs.Common.{haystack_of_match, span_of_match, AreTrees, AnyMatches}
use Rattle.regex_lite.proofs.Common.{TellsMatchOfList, TellsGroupsOfList, offsets, Match}
use Rattle.regex_lite_syntax.specs.Tree.Matches.{Matches}
use Rattle.regex_lite_engine.specs.Search.AnswerOfList.{AnyMatchesFrom}
use Rattle.regex_lite_engine.proofs.OffsetLemmas.{offset_grows, positions_order}
use Rattle.regex_lite_engine.proofs.PositionLemmas.{same_position}
use Rattle.regex_lite_engine.proofs.laws.several.ListAnswerLemmas.{from_its_start}
use Rattle.regex_lite.specs.MatchOffsets.{HaveTrees, IsFirstOfList, MatchesAt}
use Rattle.regex_lite.specs.MatchOffsets.{NoneMatches, SomeMatches}
use Rattle.regex_lite.specs.OffsetLaws.{ListFindsFirst}
use Rattle.regex_lite.specs.Searches.{CanStartAt}
use Rattle.regex_lite.proofs.ListBuildLemmas.{numbered_tree, own_tree, pattern_tree}
use Rattle.regex_lite.proofs.OneTreeLemmas.{one_tree}
use Rattle.regex_lite.proofs.laws.FirstMatchLemmas.{first_found, found_first, match_from}
use Rattle.regex_lite.proofs.laws.FirstMatchLemmas.{matched_at, offset_from, tree_matched}
use Rattle.regex_lite.proofs.string.FoundLemmas.{group_0}
use Rattle.regex_lite_engine.proofs.laws.answer.AnswerAtLemmas.{way_of_found}

module _ (haystack : List ℕ) (utf8 : IsUtf8 haystack) (start : ℕ)
    (can : CanStartAt haystack start) (list : List Expression) where
  abbrev h : Text
  h = chars haystack

  abbrev s : ℕ
  s = search_start haystack start

  -- what is found of the trees is the first match of the patterns
  first_of_trees : (trees : List Tree) (number : ℕ) (found : Found) → AreTrees list trees
      → IsFoundInList trees h s number found
      → IsFirstOfList list haystack start number (offsets h (found.start, found.end))
  first_of_trees trees number found given is =
      let own = own_tree list trees number is.tree given is.numbered in
      let answer : IsFound is.tree h s found =
      record {
        from = is.from;
        inside = is.answer.inside;
        least = λ i j m. is.least number i j is.tree is.numbered m;
        way = is.answer.way;
        most_preferred = is.answer.most_preferred;
        marks = is.answer.marks;
      } in
      record {
        re = own.0;
        numbered = own.1;
        first = first_found haystack utf8 start can own.0 is.tree found own.2 answer;
        least = λ k at other there later matches.
            let tree = numbered_tree list trees k other given there in
            let m = match_from haystack utf8 start can other tree.0 at tree.2 later matches in
            subst (λ n. offset h found.start ≤ n) (sym m.2)
            (offset_grows h found.start m.0 (is.least k m.0 m.1 tree.0 tree.1 m.3));
        lowest = λ k other there matches.
            let tree = numbered_tree list trees k other given there in
            let m = tree_matched haystack utf8 start can other tree.0 (offset h found.start) tree.2
            matches in
            let same : m.0 ≡ found.start =
            same_position h m.0 found.start m.2.0 is.answer.inside (sym m.2.1) in
            is.lowest k m.1 tree.0 tree.1 (subst (λ i. Matches h tree.0 i m.1) same m.3);
      }

  -- and the first match of the patterns is found of their trees
  found_of_trees : (trees : List Tree) (number : ℕ) (span : ℕ × ℕ) → AreTrees list trees
      → IsFirstOfList list haystack start number span
      → (found : Found) × IsFoundInList trees h s number found
      × (span ≡ offsets h (found.start, found.end))
  found_of_trees trees number span given first =
      by_found (found_first haystack utf8 start can first.re span first.first)
    where
      own : (tree : Tree) × HasTree trees number tree
          × IsTree first.re.flags (chars first.re.pattern) tree
      own = numbered_tree list trees number first.re given first.numbered

      by_found : OfTree first.re (λ tree. (found : Found) × IsFound tree h s found
          × (span ≡ offsets h (found.start, found.end)))
          → (found : Found) × IsFoundInList trees h s number found
          × (span ≡ offsets h (found.start, found.end))
      by_found (tree, given_too, (found, is, same)) =
          let one = one_tree first.re.flags (chars first.re.pattern) tree own.0 given_too own.2 in
          let start_is : span.0 ≡ offset h found.start = ap (λ (p : ℕ × ℕ). p.0) same in (
            found,
            record {
              tree = own.0;
              numbered = own.1;
              from = is.from;
              least = λ k i j other there m.
                  let pattern = own_tree list trees k other given there in
                  let low = first.least k (offset h i) pattern.0 pattern.1
                  (offset_from haystack utf8 start can i m.inside m.from)
                  (matched_at haystack utf8 start can pattern.0 other i j pattern.2 m.inside
                  m.matches) in
                  positions_order h found.start i is.inside
                  (subst (λ n. n ≤ offset h i) start_is low);
              lowest = λ k j other there matches.
                  let pattern = own_tree list trees k other given there in
                  first.lowest k pattern.0 pattern.1 (subst (MatchesAt pattern.0 haystack)
                  (sym start_is) (matched_at haystack utf8 start can pattern.0 other found.start j
                  pattern.2 is.inside matches));
              answer = subst (λ t. IsFound t h found.start found) one
                  (from_its_start tree h s found is);
            },
            same,
          )

  reported_first : (number : ℕ) (m : Match) → TellsMatchOfList list haystack start
      (Some (number, m)) → HaveTrees list × (haystack_of_match m ≡ haystack)
      × IsFirstOfList list haystack start number (span_of_match m)
  reported_first number m (trees, given, (found, is, of)) = (
    (trees, given),
    of.haystack,
    subst (IsFirstOfList list haystack start number) (sym of.span)
        (first_of_trees trees number found given is),
  )

  first_reported : (number : ℕ) (m : Match) → HaveTrees list → haystack_of_match m ≡ haystack
      → IsFirstOfList list haystack start number (span_of_match m)
      → TellsMatchOfList list haystack start (Some (number, m))
  first_reported number m (trees, given) same first =
      let own = found_of_trees trees number (span_of_match m) given first in
      (trees, given, (own.0, own.1, record { haystack = same; span = own.2 }))

  -- a pattern that matches does so by its tree
  any_of_trees : (trees : List Tree) → AreTrees list trees → SomeMatches list haystack start
      → AnyMatchesFrom trees h s
  any_of_trees trees given (number, re, there, (at, later, matches)) =
      let own = numbered_tree list trees number re given there in
      let m = match_from haystack utf8 start can re own.0 at own.2 later matches in
      (number, own.0, own.1, (m.0, m.1, m.3))

  some_matches : (trees : List Tree) → AreTrees list trees → AnyMatchesFrom trees h s
      → SomeMatches list haystack start
  some_matches trees given (number, tree, there, (i, j, m)) =
      let own = own_tree list trees number tree given there in (
        number,
        own.0,
        own.1,
        (
          offset h i,
          offset_from haystack utf8 start can i m.inside m.from,
          matched_at haystack utf8 start can own.0 tree i j own.2 m.inside m.matches,
        ),
      )

  from_on : AnyMatches list haystack start ↔ (HaveTrees list × SomeMatches list haystack start)
  from_on = (
    λ (trees, given, any). ((trees, given), some_matches trees given any),
    λ ((trees, given), some). (trees, given, any_of_trees trees given some),
  )

  reported_none : TellsMatchOfList list haystack start None
      ↔ (HaveTrees list × NoneMatches list haystack start)
  reported_none = (
    λ (trees, given, none). (
      (trees, given),
      λ number re there at later matches.
          none (any_of_trees trees given (number, re, there, (at, later, matches))),
    ),
    λ ((trees, given), none). (
      trees,
      given,
      λ any.
          let some = some_matches trees given any in
          none some.0 some.1 some.2 some.3.0 some.3.1 some.3.2,
    ),
  )

  groups_first : (number : ℕ) (groups : Groups)
      → TellsGroupsOfList list haystack start (Some (number, groups))
      → IsFirstOfList list haystack start number (whole_span groups)
  groups_first number groups (trees, given, (found, is, are)) =
      let of_pattern = pattern_tree list trees given number is.tree is.numbered in
      let whole : whole_span groups ≡ offsets h (found.start, found.end) =
      ap (λ spans. unwrap_or (span_at spans 0) (0, 0)) are.spans
      ∙ ap (λ span. unwrap_or span (0, 0))
      (group_0 h is.tree found (captures_len is.tree) of_pattern
      (way_of_found is.tree h found.start found is.answer) (omega arith)) in
      subst (IsFirstOfList list haystack start number) (sym whole)
      (first_of_trees trees number found given is)

  pub list_finds_first : ListFindsFirst list haystack start
  list_finds_first = record {
    matches = from_on;
    found = λ number m. (
      reported_first number m,
      λ (has, same, first). first_reported number m has same first,
    );
    none = reported_none;
    groups = groups_first;
    no_groups = reported_none;
  }

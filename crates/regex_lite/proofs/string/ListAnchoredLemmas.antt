-- What an anchored search for several patterns returns is what the search from there on returns,
-- where that starts there.
use Rattle.regex_lite.proofs.Common.{◌≡◌, ℕ, Bool, false, ◌↔◌, List, length, IsTrue, Some, IsUtf8}
use Rattle.regex_lite.proofs.Common.{Option}
use Rattle.regex_lite.proofs.Common.{chars, sym, refl, ap, ◌∙◌, subst, arith, Tree, captures_len}
use Rattle.regex_lite.proofs.Common.{HasTree, Found, IsFound, IsFoundInList, offset, search_start}
use Rattle.regex_lite.proofs.Common.{IsPatternTree, Expression, resized, whole_span, span_of_match}
use Rattle.regex_lite.proofs.Common.{AreTrees, offsets, spans_from, IsMatchOf, AreGroupsOf}
use Rattle.regex_lite_syntax.proofs.OptionLemmas.{same_some}
use Rattle.regex_lite_syntax.specs.Tree.Matches.{IsPosition, Matches}
use Rattle.regex_lite_engine.specs.Search.AnswerAt.{AnyMatchesAt, IsAnswerAtOfList}
use Rattle.regex_lite_engine.specs.Search.AnswerAt.{IsFoundAtInList}
use Rattle.regex_lite_engine.specs.Search.Outcomes.{IsSpanOutcomeAtOfList, IsSpanOutcomeOfList}
use Rattle.regex_lite_engine.proofs.laws.answer.AnswerAtLemmas.{found_at_in_list, found_from}
use Rattle.regex_lite.specs.Anchored.{TellsAnswerAtOfList}
use Rattle.regex_lite.specs.AnchoredLaws.{IsListSearchAt}
use Rattle.regex_lite.specs.MatchOffsets.{SomeMatchesAt}
use Rattle.regex_lite.specs.RegexList.{OfTrees}
use Rattle.regex_lite.specs.RegexListSearches.{TellsAnswerOfList}
use Rattle.regex_lite.specs.Searches.{CanStartAt}
use Rattle.regex_lite.proofs.ListBuildLemmas.{numbered_tree, own_tree, pattern_tree}
use Rattle.regex_lite.proofs.string.AnchoredLemmas.{matched_there, only_start, start_is}
use Rattle.regex_lite.proofs.string.AnchoredLemmas.{tree_matched_there, whole_of_found}
use Rattle.regex_lite.proofs.string.LawfulLemmas.{patterns_lawful}

-- an anchored answer is the answer from there on
pub found_from_in_list : (trees : List Tree) (haystack : List ℕ) (s number : ℕ) (found : Found)
    → IsFoundAtInList false trees haystack s number found → IsFoundInList trees haystack s number
    found
found_from_in_list trees haystack s number found is = record {
  tree = is.tree;
  numbered = is.numbered;
  from = omega (arith, is.answer.start);
  least = λ k i j other there m. (let low = m.from in omega (arith, low, is.answer.start));
  lowest = λ k j other there m. is.lowest k other there (
    subst (IsPosition haystack) is.answer.start is.answer.of_way.inside,
    (j, tt, subst (λ i. Matches haystack other i j) is.answer.start m),
  );
  answer = subst (λ i. IsFound is.tree haystack i found) (sym is.answer.start)
      (found_from is.tree haystack s found is.answer);
}

-- so is the outcome of an anchored search that of the search from there on
pub list_outcome_from : (trees : List Tree) (haystack : List ℕ) (start : ℕ)
    (slots : List (Option ℕ)) (reported : ℕ × (ℕ × ℕ))
    → IsSpanOutcomeAtOfList false trees haystack start slots (Some reported)
    → IsSpanOutcomeOfList trees haystack start slots (Some reported)
list_outcome_from trees haystack start slots reported (found, is, tells) = (
  found,
  found_from_in_list trees (chars haystack) (search_start haystack start) reported.0 found is,
  tells,
)

-- and what is returned of it
module _ {A : Type 0} (says : Tree → Found → A → Type 0) (list : List Expression)
    (haystack : List ℕ) (start : ℕ) (reported : ℕ × A) where
  pub list_reported_from : TellsAnswerAtOfList false says list haystack start (Some reported)
      → TellsAnswerOfList says list haystack start (Some reported)
  list_reported_from (trees, given, (answer, is, own)) =
      let s = search_start haystack start in
      let listed : IsFoundInList trees (chars haystack) s reported.0 answer.1 =
      subst (λ n. IsFoundInList trees (chars haystack) s n answer.1) (sym own.number)
      (found_from_in_list trees (chars haystack) s answer.0 answer.1 is) in
      let there : HasTree trees reported.0 own.tree =
      subst (λ n. HasTree trees n own.tree) (sym own.number) own.numbered in
      let same = same_some (sym there ∙ listed.numbered) in (
        trees,
        given,
        (
          answer.1,
          listed,
          subst (λ tree. says tree answer.1 reported.1) same
              own.value,
        ),
      )

  -- and where an anchored search finds something, that is what the search from there on finds
  pub list_reported_there : OfTrees list (λ trees. (answer : ℕ × Found)
      × IsAnswerAtOfList false trees (chars haystack) (search_start haystack start) (Some answer))
      → TellsAnswerOfList says list haystack start (Some reported)
      → TellsAnswerAtOfList false says list haystack start (Some reported)
  list_reported_there (others, given_too, (there, is_there)) (trees, given, (found, is, so)) =
      let s = search_start haystack start in
      let own : ℕ × Found = (reported.0, found) in
      let same = same_some ((patterns_lawful list (chars haystack)).one s (Some own) (Some there)
      (trees, given, is) (
        others,
        given_too,
        found_from_in_list others (chars haystack) s there.0 there.1 is_there,
      )) in
      let here = ap (λ (answer : ℕ × Found). answer.1.start) same ∙ is_there.answer.start in (
        trees,
        given,
        (
          own,
          found_at_in_list trees (chars haystack) s reported.0 found is (omega (arith, here)),
          record { number = refl; tree = is.tree; numbered = is.numbered; value = so },
        ),
      )

module _ (haystack : List ℕ) (utf8 : IsUtf8 haystack) (start : ℕ)
    (can : CanStartAt haystack start) (list : List Expression) where
  abbrev s : ℕ
  s = search_start haystack start

  -- a pattern matches there where its tree does
  pub some_there : (trees : List Tree) → AreTrees list trees
      → AnyMatchesAt false trees (chars haystack) s → SomeMatchesAt list haystack start
  some_there trees given (number, tree, there, has) =
      let own = own_tree list trees number tree given there in
      (number, own.0, own.1, matched_there haystack utf8 start can own.0 tree own.2 has)

  -- and its tree where the pattern does
  pub any_there : (trees : List Tree) → AreTrees list trees → SomeMatchesAt list haystack start
      → AnyMatchesAt false trees (chars haystack) s
  any_there trees given (number, re, there, matches) =
      let own = numbered_tree list trees number re given there in
      (number, own.0, own.1, tree_matched_there haystack utf8 start can re own.0 own.2 matches)

  pub any_reported_there : (found : Bool)
      → OfTrees list (λ trees. IsTrue found ↔ AnyMatchesAt false trees (chars haystack) s)
      → IsTrue found ↔ SomeMatchesAt list haystack start
  any_reported_there found (trees, given, reported) = (
    λ yes_found. some_there trees given (reported.0 yes_found),
    λ matches. reported.1 (any_there trees given matches),
  )

  -- what is returned of an anchored search is what the search from there on returns, where its span
  -- starts there
  module _ {A : Type 0} (says : Tree → Found → A → Type 0) (span_of : A → ℕ × ℕ)
      (of_found : (tree : Tree) (p : ℕ) (found : Found) (reported : A) → IsPatternTree tree
      → IsFound tree (chars haystack) p found → says tree found reported
      → span_of reported ≡ offsets (chars haystack) (found.start, found.end)) where
    pub list_reported_by_start : (reported : ℕ × A)
        → TellsAnswerAtOfList false says list haystack start (Some reported)
        ↔ (TellsAnswerOfList says list haystack start (Some reported)
        × ((span_of reported.1).0 ≡ start))
    list_reported_by_start reported = (
      λ at. (list_reported_from says list haystack start reported at, starts at),
      λ (from, same). back from same,
    )
      where
        starts : TellsAnswerAtOfList false says list haystack start (Some reported)
            → (span_of reported.1).0 ≡ start
        starts (trees, given, (answer, is, own)) =
            let same = same_some (sym own.numbered ∙ is.numbered) in
            let span = of_found is.tree s answer.1 reported.1
            (pattern_tree list trees given answer.0 is.tree is.numbered)
            (found_from is.tree (chars haystack) s answer.1 is.answer)
            (subst (λ tree. says tree answer.1 reported.1) same own.value) in
            ap (λ (span : ℕ × ℕ). span.0) span ∙ ap (offset (chars haystack)) is.answer.start
            ∙ start_is haystack utf8 start can
            (subst (IsPosition (chars haystack)) is.answer.start is.answer.of_way.inside)

        back : TellsAnswerOfList says list haystack start (Some reported) → (span_of reported.1).0
            ≡ start → TellsAnswerAtOfList false says list haystack start (Some reported)
        back (trees, given, (found, is, so)) same =
            let span = of_found is.tree found.start found reported.1
            (pattern_tree list trees given reported.0 is.tree is.numbered) is.answer so in
            let here = only_start haystack utf8 start can found.start is.answer.inside
            (sym (ap (λ (span : ℕ × ℕ). span.0) span) ∙ same) in (
              trees,
              given,
              (
                (reported.0, found),
                found_at_in_list trees (chars haystack) s reported.0 found is (omega (arith, here)),
                record { number = refl; tree = is.tree; numbered = is.numbered; value = so },
              ),
            )

  pub list_search_at : IsListSearchAt list haystack start
  list_search_at = record {
    match = list_reported_by_start (λ tree. IsMatchOf haystack) span_of_match
        (λ tree p found m given is of. of.span);
    groups = list_reported_by_start (λ tree. AreGroupsOf tree haystack) whole_span
        (whole_of_found haystack utf8 start can);
    locations = λ spans. list_reported_by_start (λ tree found m. IsMatchOf haystack found m
        × (spans ≡ resized (length spans)
        (spans_from (chars haystack) found.marks 0 (captures_len tree)))) span_of_match
        (λ tree p found m given is of. of.0.span);
  }

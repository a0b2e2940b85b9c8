-- From the outcome of a search for several patterns to what is returned of it.
use Rattle.regex_lite.proofs.Common.{◌≡◌, ℕ, Bool, ◌↔◌, List, is_some, IsTrue, slice_get, Some}
use Rattle.regex_lite.proofs.Common.{None, IsUtf8, Option, chars, sym, refl, ◌∙◌, subst, false≢true}
use Rattle.regex_lite.proofs.Common.{Tree, AreRegularPatterns, IsGraphOfList, Found, IsFoundInList}
use Rattle.regex_lite.proofs.Common.{search_start, IsPatternTree, Outcome}
use Rattle.regex_lite.proofs.Common.{Expression, LiesIn, haystack_of_match, span_of_match, AreTrees}
use Rattle.regex_lite.proofs.Common.{AnyMatches, TellsMatchOfList, offsets, TellsAnswer}
use Rattle.regex_lite.proofs.Common.{CompiledList, Match}
use Rattle.regex_lite_engine.specs.Graph.StoredList.{StoredList}
use Rattle.regex_lite_engine.specs.Search.Answer.{IsAnswer}
use Rattle.regex_lite_engine.specs.Search.AnswerOfList.{AnyMatchesFrom}
use Rattle.regex_lite_engine.specs.Search.Outcomes.{IsSpanOutcomeOfList}
use Rattle.regex_lite_meta.specs.Searching.{ListSearching}
use Rattle.regex_lite_engine.proofs.laws.several.ListAnswerLemmas.{list_answers}
use Rattle.regex_lite_syntax.proofs.OptionLemmas.{same_some}
use Rattle.regex_lite.specs.CompiledList.{IsBuiltList}
use Rattle.regex_lite.specs.Scanning.{SearchesForList, TellsListSpan}
use Rattle.regex_lite.specs.ReportedWays.{TellsOfListedWay}
use Rattle.regex_lite.specs.RegexList.{OfTrees}
use Rattle.regex_lite.specs.RegexListSearches.{TellsAnswerOfList}
use Rattle.regex_lite.proofs.string.FoundLemmas.{found_lies}
use Rattle.regex_lite.proofs.ListBuildLemmas.{one_list, own_tree, pattern_tree}
use Rattle.regex_lite.proofs.ListBuildLemmas.{regular_trees}
use Rattle.regex_lite.proofs.string.ReportedLemmas.{same_pair}
use Rattle.regex_lite_engine.proofs.laws.answer.AnswerAtLemmas.{way_of_found}

-- what is returned of a list is returned of the pattern with the number
pub of_pattern : {A : Type 0} (says : Tree → Found → A → Type 0) (list : List Expression)
    (haystack : List ℕ) (start number : ℕ) (reported : A)
    → TellsAnswerOfList says list haystack start (Some (number, reported))
    → (re : Expression) × (slice_get list number ≡ Some re)
    × TellsAnswer says re haystack start (Some reported)
of_pattern says list haystack start number reported (trees, given, (found, answer, of_found)) =
    let own = own_tree list trees number answer.tree given answer.numbered in
    let all = list_answers trees (chars haystack) (regular_trees list trees given)
    (search_start haystack start) (Some (number, found)) answer in
    let same = all.1 number found refl in
    let is : IsAnswer answer.tree (chars haystack) (search_start haystack start) (Some found) =
    subst (λ tree. IsAnswer tree (chars haystack) (search_start haystack start) (Some found))
    (same_some (sym same.1 ∙ answer.numbered)) same.3 in
    (own.0, own.1, (answer.tree, own.2, (found, is, of_found)))

-- what is returned shows whether something matches
pub list_answer_reported : {A : Type 0} (list : List Expression) (haystack : List ℕ) (start : ℕ)
    (says : Tree → Found → A → Type 0) (reported : Option (ℕ × A))
    → TellsAnswerOfList says list haystack start reported
    → IsTrue (is_some reported) ↔ AnyMatches list haystack start
list_answer_reported list haystack start says None (trees, given, none) = (
  λ some. absurd (false≢true some),
  λ any. absurd (none
      (subst (λ all. AnyMatchesFrom all (chars haystack) (search_start haystack start))
      (one_list list any.0 trees any.1 given) any.2)),
)
list_answer_reported list haystack start says (Some (number, reported))
    (trees, given, (found, is, of)) =
    let all = list_answers trees (chars haystack) (regular_trees list trees given)
    (search_start haystack start) (Some (number, found)) is in
    (λ some. (trees, given, all.0.0 refl), λ matches. refl)

-- what a search of the graph returns that asks whether something matches
pub any_reported : (list : List Expression) (trees : List Tree) (haystack : List ℕ) (start : ℕ)
    (found : Bool) → AreTrees list trees
    → (IsTrue found ↔ AnyMatchesFrom trees (chars haystack) (search_start haystack start))
    → IsTrue found ↔ AnyMatches list haystack start
any_reported list trees haystack start found given reported = (
  λ yes_found. (trees, given, reported.0 yes_found),
  λ any. reported.1 (subst
      (λ own. AnyMatchesFrom own (chars haystack) (search_start haystack start))
      (one_list list any.0 trees any.1 given) any.2),
)

-- what holds for the graph holds for the trees
pub outcome_of_list : (compiled : CompiledList) (built : IsBuiltList compiled) (graph : StoredList)
    (Outcomes : List Tree → Option (ℕ × Outcome) → Type 0) (reported : Option (ℕ × Outcome))
    (outcome : ℕ × Outcome) → graph ≡ compiled.graph
    → ((trees : List Tree) → AreRegularPatterns trees → IsGraphOfList trees graph
    → Outcomes trees reported)
    → reported ≡ Some outcome → Outcomes built.trees (Some outcome)
outcome_of_list compiled built graph Outcomes reported outcome same tells is =
    subst (Outcomes built.trees) is
    (tells built.trees built.regular (subst (IsGraphOfList built.trees) (sym same) built.graph))

-- what a searcher returns holds for the patterns' trees
pub span_of_list : (list : List Expression) (searcher : ListSearching) (bytes : List ℕ) (start : ℕ)
    (slots : List (Option ℕ)) (reported : Option (ℕ × (ℕ × ℕ))) → SearchesForList list searcher
    → ((trees : List Tree) → AreRegularPatterns trees → IsGraphOfList trees searcher.graph
    → IsSpanOutcomeOfList trees bytes start slots reported)
    → OfTrees list (λ trees. IsSpanOutcomeOfList trees bytes start slots reported)
span_of_list list searcher bytes start slots reported (trees, given, (regular, is_graph)) tells =
    (trees, given, tells trees regular is_graph)

-- its span is returned with its slots
pub list_span_reported : (bytes : List ℕ) (start : ℕ) (list : List Expression)
    (kept : List (Option ℕ)) (reported : Option (ℕ × (ℕ × ℕ)))
    → OfTrees list (λ trees. IsSpanOutcomeOfList trees bytes start kept reported)
    → TellsListSpan list bytes start kept reported
list_span_reported bytes start list kept None own = own
list_span_reported bytes start list kept (Some reported) (trees, given, (found, answer, tells)) = (
  (reported.0, found),
  (trees, given, answer),
  record { number = refl; span = same_pair tells.start tells.end; has_slots = tells.slots },
)

module _ (bytes : List ℕ) (utf8 : IsUtf8 bytes) (start : ℕ) (list : List Expression)
    (trees : List Tree) (given : AreTrees list trees) (number : ℕ) (span : ℕ × ℕ)
    (kept : List (Option ℕ))
    (own : IsSpanOutcomeOfList trees bytes start kept (Some (number, span))) where
  abbrev found : Found
  found = own.0

  abbrev answer : IsFoundInList trees (chars bytes) (search_start bytes start) number found
  answer = own.1

  span_is : offsets (chars bytes) (found.start, found.end) ≡ span
  span_is = same_pair (sym own.2.start) (sym own.2.end)

  of_grammar : IsPatternTree answer.tree
  of_grammar = pattern_tree list trees given number answer.tree answer.numbered

  -- the match lies in the haystack
  pub list_span_lies : LiesIn bytes span
  list_span_lies = subst (LiesIn bytes) span_is
      (found_lies bytes utf8 answer.tree of_grammar found
      (way_of_found answer.tree (chars bytes) found.start found answer.answer))

  -- a way is reported
  pub listed_way_reported : TellsOfListedWay list bytes number span kept
  listed_way_reported = record {
    trees = trees;
    given = given;
    tree = answer.tree;
    numbered = answer.numbered;
    found = found;
    reported = record {
      of_way = way_of_found answer.tree (chars bytes) found.start found answer.answer;
      tells = own.2;
    };
  }

  -- it is what is returned
  pub list_match_reported : (m : Match) → haystack_of_match m ≡ bytes → span_of_match m ≡ span
      → TellsMatchOfList list bytes start (Some (number, m))
  list_match_reported m haystack is = (
    trees,
    given,
    (
      found,
      answer,
      record {
        haystack = haystack;
        span = is ∙ sym span_is;
      },
    ),
  )

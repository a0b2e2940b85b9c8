-- What a list of patterns returns, what its patterns return, and lists of one or of none.
use Rattle.regex_lite.proofs.Common.{◌≡◌, ℕ, zero, suc, ◌+◌, ◌*◌, ◌≤◌, Bool, ◌↔◌, List, [], ◌∷◌}
use Rattle.regex_lite.proofs.Common.{is_some, IsTrue, Some, None, Option, option_map, chars, sym}
use Rattle.regex_lite.proofs.Common.{refl, ap, ◌∙◌, subst, arith, false≢true, IsTree, Tree}
use Rattle.regex_lite.proofs.Common.{captures_len, whole_places, HasTree, places_of_all}
use Rattle.regex_lite.proofs.Common.{HasMatchFrom, Found, IsFoundInList, search_start, Expression}
use Rattle.regex_lite.proofs.Common.{IsAccepted, Groups, span_at, group_span, span_of_match}
use Rattle.regex_lite.proofs.Common.{AreAcceptedAs, AreAccepted, AreTrees, AnyMatches}
use Rattle.regex_lite.proofs.Common.{TellsMatchOfList, TellsGroupsOfList, MatchesFrom, offsets}
use Rattle.regex_lite.proofs.Common.{TellsAnswer, IsMatchOf, AreGroupsOf, Settings, Match}
use Rattle.std.proofs.Common.{option_and_then}
use Rattle.regex_lite_engine.specs.declared.steps.Steps.{Steps}
use Rattle.regex_lite_engine.specs.Graph.SideBySide.{tries_of_all}
use Rattle.regex_lite_engine.specs.Graph.PlaceCounts.{whole_arrows}
use Rattle.regex_lite_engine.specs.Search.AnswerOfList.{AnyMatchesFrom, IsAnswerOfList}
use Rattle.regex_lite_engine.specs.Search.Bounds.{IsBoundedBy, characters_left}
use Rattle.regex_lite_engine.specs.Search.Outcomes.{HasCostOfList}
use Rattle.regex_lite_engine.proofs.laws.several.ListAnswerLemmas.{alone_by_itself, alone_in_list}
use Rattle.regex_lite_engine.proofs.laws.several.ListAnswerLemmas.{none_match, one_list_answer}
use Rattle.regex_lite_syntax.proofs.OptionLemmas.{same_some}
use Rattle.regex_lite.specs.RegexListLaws.{AgreeOnList, AnswersAsItsRegex}
use Rattle.regex_lite.specs.RegexListLaws.{FindsNothing, TellsAlike, of_the_only}
use Rattle.regex_lite.specs.RegexListSearches.{IsWithinListCost, TellsAnswerOfList}
use Rattle.regex_lite.specs.Searches.{IsWithinCost}
use Rattle.regex_lite.proofs.AgreementLemmas.{same_truth}
use Rattle.regex_lite.proofs.string.FoundLemmas.{group_0}
use Rattle.regex_lite.proofs.ListBuildLemmas.{one_list, pattern_tree, regular_trees}
use Rattle.regex_lite.proofs.string.ListReportedLemmas.{list_answer_reported}
use Rattle.regex_lite_engine.proofs.laws.answer.AnswerAtLemmas.{way_of_found}

-- a list of one is accepted where its pattern is
pub one_is_accepted : (settings : Settings) → IsAccepted settings ↔ AreAccepted (settings ∷ [])
one_is_accepted settings = (
  λ accepted. (
    accepted.0 ∷ [],
    ((accepted.1, accepted.2), tt),
    (let few = accepted.2.places_fit in omega (arith, few)),
  ),
  λ accepted. back accepted.0 accepted.1,
)
  where
    back : (trees : List Tree) → AreAcceptedAs (settings ∷ []) trees → IsAccepted settings
    back [] accepted = absurd accepted
    back (tree ∷ rest) accepted = (tree, accepted.0.0, accepted.0.1)

module _ (re : Expression) (haystack : List ℕ) (start : ℕ) where
  -- the only tree
  abbrev IsOnly : List Tree → Type 0
  IsOnly trees = (tree : Tree) × IsTree re.flags (chars re.pattern) tree × (trees ≡ tree ∷ [])

  only_tree : (trees : List Tree) → AreTrees (re ∷ []) trees → IsOnly trees
  only_tree [] given = absurd given
  only_tree (tree ∷ []) (own, rest) = (tree, own, refl)
  only_tree (tree ∷ (other ∷ others)) (own, rest) = absurd rest

  abbrev s : ℕ
  s = search_start haystack start

  -- what holds of the list holds of the only tree
  as_alone : (P : List Tree → Type 0) → ((trees : List Tree) × AreTrees (re ∷ []) trees × P trees)
      → (tree : Tree) × IsTree re.flags (chars re.pattern) tree × P (tree ∷ [])
  as_alone P (trees, given, p) =
      let own = only_tree trees given in
      (own.0, own.1, subst P own.2 p)

  any_alone : MatchesFrom re haystack start ↔ AnyMatches (re ∷ []) haystack start
  any_alone = (
    λ (tree, given, has). (tree ∷ [], (given, tt), (0, tree, refl, has)),
    λ any. back (as_alone (λ trees. AnyMatchesFrom trees (chars haystack) s) any),
  )
    where
      first : (tree other : Tree) (number : ℕ) → HasTree (tree ∷ []) number other
          → HasMatchFrom other (chars haystack) s → HasMatchFrom tree (chars haystack) s
      first tree other zero there has =
          subst (λ t. HasMatchFrom t (chars haystack) s) (sym (same_some there)) has
      first tree other (suc number) there has = absurd cc

      back : ((tree : Tree) × IsTree re.flags (chars re.pattern) tree
          × AnyMatchesFrom (tree ∷ []) (chars haystack) s) → MatchesFrom re haystack start
      back (tree, given, (number, other, there, has)) =
          (tree, given, first tree other number there has)

  module _ {A : Type 0} (says : Tree → Found → A → Type 0) where
    -- the number is 0, and the tree the only one
    numbered : (tree : Tree) (number : ℕ) (found : Found)
        → (is : IsFoundInList (tree ∷ []) (chars haystack) s number found)
        → (number ≡ 0) × (is.tree ≡ tree)
    numbered tree zero found is = (refl, sym (same_some is.numbered))
    numbered tree (suc number) found is = absurd (gone tree number is.tree is.numbered)
      where
        gone : (tree : Tree) (number : ℕ) (other : Tree)
            → HasTree (tree ∷ []) (suc number) other → ⊥
        gone tree number other there = cc

    to_list : (reported : Option A) → TellsAnswer says re haystack start reported
        → TellsAnswerOfList says (re ∷ []) haystack start (of_the_only reported)
    to_list None (tree, given, none) =
        (tree ∷ [], (given, tt), alone_in_list tree (chars haystack) s None none)
    to_list (Some reported) (tree, given, (found, is, of_found)) =
        let listed = alone_in_list tree (chars haystack) s (Some found) is in
        let same = (numbered tree 0 found listed).1 in
        let says_so = subst (λ t. says t found reported) (sym same) of_found in
        (tree ∷ [], (given, tt), (found, listed, says_so))

    from_list : (reported : Option A)
        → TellsAnswerOfList says (re ∷ []) haystack start (of_the_only reported)
        → TellsAnswer says re haystack start reported
    from_list None tells =
        let own = as_alone (λ trees. IsAnswerOfList trees (chars haystack) s None) tells in
        (own.0, own.1, alone_by_itself own.0 (chars haystack) s None own.2)
    from_list (Some reported) tells =
        let own = as_alone (λ trees. (found : Found)
        × (answer : IsFoundInList trees (chars haystack) s 0 found)
        × says answer.tree found reported) tells in
        let tree = (numbered own.0 0 own.2.0 own.2.1).1 in (
          own.0,
          own.1,
          (
            own.2.0,
            alone_by_itself own.0 (chars haystack) s (Some own.2.0) own.2.1,
            subst (λ t. says t own.2.0 reported) tree own.2.2,
          ),
        )

    only_reported : (reported : Option (ℕ × A)) → TellsAnswerOfList says (re ∷ []) haystack start
        reported → (own : Option A) × (reported ≡ of_the_only own)
    only_reported None tells = (None, refl)
    only_reported (Some (number, reported)) (trees, given, (found, is, of_found)) =
        let own = only_tree trees given in
        let zeroth = (numbered own.0 number found
        (subst (λ all. IsFoundInList all (chars haystack) s number found) own.2 is)).0 in
        (Some reported, ap (λ n. Some (n, reported)) zeroth)

    tells_alike : TellsAlike (TellsAnswer says re haystack start)
        (TellsAnswerOfList says (re ∷ []) haystack start)
    tells_alike = record {
      same = λ reported. (to_list reported, from_list reported);
      only = only_reported;
    }

  -- these steps are within what as many places and tries allow
  abbrev AreBounded : Steps → (places tries : ℕ) → Type 0
  AreBounded steps places tries =
      IsBoundedBy places tries (chars haystack) s steps.tried steps.entered steps.looked

  places_alone : (tree : Tree) → whole_places tree ≡ places_of_all (tree ∷ [])
  places_alone tree = omega arith

  tries_alone : (tree : Tree) → whole_arrows tree + 1 ≡ tries_of_all (tree ∷ [])
  tries_alone tree = omega arith

  cost_alone : (steps : Steps)
      → IsWithinCost re haystack start steps ↔ IsWithinListCost (re ∷ []) haystack start steps
  cost_alone steps = (
    λ (tree, given, cost). (
      tree ∷ [],
      (given, tt),
      subst (λ n. AreBounded steps n (tries_of_all (tree ∷ []))) (places_alone tree)
          (subst (AreBounded steps (whole_places tree)) (tries_alone tree) cost),
    ),
    λ within. back (as_alone (λ trees. HasCostOfList trees haystack start steps) within),
  )
    where
      back : ((tree : Tree) × IsTree re.flags (chars re.pattern) tree
          × HasCostOfList (tree ∷ []) haystack start steps) → IsWithinCost re haystack start steps
      back (tree, given, cost) = (
        tree,
        given,
        subst (AreBounded steps (whole_places tree)) (sym (tries_alone tree))
            (subst (λ n. AreBounded steps n (tries_of_all (tree ∷ [])))
            (sym (places_alone tree)) cost),
      )

  pub alone : AnswersAsItsRegex re haystack start
  alone = record {
    is_match = any_alone;
    match = tells_alike (λ tree. IsMatchOf haystack);
    groups = tells_alike (λ tree. AreGroupsOf tree haystack);
    cost = cost_alone;
  }

-- a list of none
module _ (haystack : List ℕ) (start : ℕ) where
  no_tree : (trees : List Tree) → AreTrees [] trees → trees ≡ []
  no_tree [] given = refl
  no_tree (tree ∷ trees) given = absurd given

  no_place : (number : ℕ) (tree : Tree) → HasTree [] number tree → ⊥
  no_place number tree there = cc

  none_any : AnyMatches [] haystack start → ⊥
  none_any (trees, given, (number, tree, there, has)) =
      no_place number tree (subst (λ all. HasTree all number tree) (no_tree trees given) there)

  none_reported : {A : Type 0} (says : Tree → Found → A → Type 0) (reported : Option (ℕ × A))
      → TellsAnswerOfList says [] haystack start reported ↔ (reported ≡ None)
  none_reported {A} says reported =
      (to_none reported, λ is. subst (TellsAnswerOfList says [] haystack start) (sym is) none)
    where
      none : TellsAnswerOfList says [] haystack start None
      none = ([], tt, none_match (chars haystack) (search_start haystack start))

      to_none : (reported : Option (ℕ × A)) → TellsAnswerOfList says [] haystack start reported
          → reported ≡ None
      to_none None tells = refl
      to_none (Some (number, own)) (trees, given, (found, is, of_found)) =
          absurd (no_place number is.tree
          (subst (λ all. HasTree all number is.tree) (no_tree trees given) is.numbered))

  none_tried : (steps : Steps) → IsWithinListCost [] haystack start steps → steps.tried ≡ 0
  none_tried steps (trees, given, cost) =
      let all = ap tries_of_all (no_tree trees given) in
      let positions = characters_left (chars haystack) (search_start haystack start) + 1 in
      let few : steps.tried ≤ 0 * positions =
      subst (λ n. steps.tried ≤ n * positions) all cost.few_tried in
      omega (arith, few)

  pub nothing : FindsNothing haystack start
  nothing = record {
    is_match = none_any;
    match = none_reported (λ tree. IsMatchOf haystack);
    groups = none_reported (λ tree. AreGroupsOf tree haystack);
    cost = none_tried;
  }

-- the searches of a list agree
module _ (list : List Expression) (haystack : List ℕ) (start : ℕ) where
  abbrev AgreeOnSpan : (m : Option (ℕ × Match)) (groups : Option (ℕ × Groups)) → Type 0
  AgreeOnSpan m groups =
      (option_map (λ reported. reported.0) m ≡ option_map (λ reported. reported.0) groups)
      × (option_map (λ reported. span_of_match reported.1) m ≡ option_and_then
      (λ reported. group_span reported.1 0) groups)

  -- what is found is group 0, of one pattern
  pub same_found : (m : Option (ℕ × Match)) (groups : Option (ℕ × Groups))
      → is_some m ≡ is_some groups → TellsMatchOfList list haystack start m
      → TellsGroupsOfList list haystack start groups → AgreeOnSpan m groups
  same_found None None same p q = (refl, refl)
  same_found None (Some groups) same p q = absurd (false≢true same)
  same_found (Some m) None same p q = absurd (false≢true (sym same))
  same_found (Some (number, m)) (Some (other, groups)) same (trees, given, (f, is, of))
      (trees_too, given_too, (g, is_too, are)) =
      let s = search_start haystack start in
      let one = one_list list trees_too trees given_too given in
      let moved = subst (λ all. IsFoundInList all (chars haystack) s other g) one is_too in
      let both = same_some (one_list_answer trees (chars haystack) (regular_trees list trees given)
      s (Some (number, f)) (Some (other, g)) is moved) in
      let tree_given = pattern_tree list trees_too given_too other is_too.tree is_too.numbered in
      let span = λ (reported : ℕ × Found). offsets (chars haystack)
      (reported.1.start, reported.1.end) in (
        ap (λ (reported : ℕ × Found). Some reported.0) both,
        ap Some (of.span ∙ ap span both)
            ∙ sym (ap (λ all. span_at all 0) are.spans
            ∙ group_0 (chars haystack) is_too.tree g (captures_len is_too.tree) tree_given
            (way_of_found is_too.tree (chars haystack) g.start g is_too.answer) (omega arith)),
      )

  pub agree_on_list : (found : Bool) (m : Option (ℕ × Match)) (groups : Option (ℕ × Groups))
      → (IsTrue found ↔ AnyMatches list haystack start) → TellsMatchOfList list haystack start m
      → TellsGroupsOfList list haystack start groups → AgreeOnList found m groups
  agree_on_list found m groups reported tells_match tells_groups =
      let by_match = list_answer_reported list haystack start _ m tells_match in
      let by_groups = list_answer_reported list haystack start _ groups tells_groups in
      let Matching : Type 0 = AnyMatches list haystack start in
      let alike = same_truth (is_some m) (is_some groups) Matching by_match by_groups in
      let both = same_found m groups alike tells_match tells_groups in
      record {
        with_match = same_truth (is_some m) found Matching by_match reported;
        with_groups = same_truth (is_some groups) found Matching by_groups reported;
        number = both.0;
        whole = both.1;
      }

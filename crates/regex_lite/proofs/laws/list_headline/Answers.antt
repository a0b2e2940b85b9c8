use Rattle.regex_lite.proofs.Common.{◌≡◌, ◌⊎◌, List, IfOk, subst, inl, IfOk-weaker, out_of_memory}
use Rattle.regex_lite.proofs.Common.{Expression, AreAccepted, TellsGroupsOfList}
use Rattle.std.proofs.lemmas.Result.{IfErr-weaker}
use Rattle.regex_lite.specs.RegexList.{IsDueToAll, IsDueToLowest}
use Rattle.regex_lite.specs.RegexListSearches.{IsWithinListCost}
use Rattle.regex_lite.proofs.laws.list_headline.Goals as goal

pub returns : goal.returns
returns c =
    let all = c.args.builder.now.patterns in
    let haystack = c.args.haystack.now in
    let start = c.args.start in
    let reported = c.captures_counted_at.result in
    let search = c.captures_counted_at.ensures in
    let list_is = c.in_ok-list.ensures.ok in
    record {
      accepted = IfOk-weaker reported _ (λ _. AreAccepted all)
          (λ _ _. c.in_ok-list.ensures.accepted) search.cost;
      complete =
          IfErr-weaker reported (λ e. e ≡ out_of_memory) (λ e. AreAccepted all → e ≡ out_of_memory)
          (λ e is accepted. is) search.refused;
      refused = IfErr-weaker reported (λ e. e ≡ out_of_memory)
          (λ e. (e ≡ out_of_memory) ⊎ (IsDueToLowest all e ⊎ IsDueToAll all e))
          (λ e is. inl is) search.refused;
      answer = subst (λ (list : List Expression).
          IfOk reported (λ t. TellsGroupsOfList list haystack start t.0)) list_is search.found;
      cost = subst (λ (list : List Expression).
          IfOk reported (λ t. IsWithinListCost list haystack start t.1)) list_is search.cost;
    }

use Rattle.regex_lite.proofs.Common.{◌≡◌, IfOk, sym, subst, inl, IfOk-weaker, out_of_memory}
use Rattle.regex_lite.proofs.Common.{Expression, IsAccepted, IsDue, TellsGroups}
use Rattle.std.proofs.lemmas.Result.{IfErr-weaker}
use Rattle.regex_lite.specs.Searches.{IsWithinCost}
use Rattle.regex_lite.proofs.laws.headline.Goals as goal

pub returns : goal.returns
returns c =
    let settings = c.args.builder.now in
    let haystack = c.args.haystack.now in
    let start = c.args.start in
    let reported = c.captures_counted_at.result in
    let search = c.captures_counted_at.ensures in
    let regex_is = c.in_ok-regex.ensures.ok in
    record {
      accepted = IfOk-weaker reported _ (λ _. IsAccepted settings)
          (λ _ _. c.in_ok-regex.ensures.accepted) search.cost;
      complete =
          IfErr-weaker reported (λ e. e ≡ out_of_memory)
          (λ e. IsAccepted settings → e ≡ out_of_memory) (λ e is accepted. is) search.refused;
      refused = IfErr-weaker reported (λ e. e ≡ out_of_memory) (λ e. IsDue settings e)
          (λ e is. subst (IsDue settings) (sym is) (inl tt)) search.refused;
      answer = subst (λ (re : Expression). IfOk reported (λ t. TellsGroups re haystack start t.0))
          regex_is search.found;
      cost = subst (λ (re : Expression). IfOk reported (λ t. IsWithinCost re haystack start t.1))
          regex_is search.cost;
    }

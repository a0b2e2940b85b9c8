use Rattle.regex_lite_engine.proofs.Common.{inl, inr, subst, sym}
use Rattle.regex_lite_meta.specs.ListPass.{StartsNoSooner}
use Rattle.regex_lite_meta.proofs.list_matches.PassLemmas.{no_sooner}
use Rattle.regex_lite_meta.proofs.list_matches.status.Status.rest.Goals as goal

pub returns-in-Some-clause-left : goal.returns-in-Some-clause-left
returns-in-Some-clause-left c = rw c.in-Some.is (λ table bytes entry s q utf8 is passed.
    let known = rw c.in-Open.is at passed in
    elim c.later.ensures [
      | inl same ↦ subst (StartsNoSooner table bytes entry s) (sym same) known.0
      | inr same ↦
          subst (StartsNoSooner table bytes entry s) (sym same)
          (no_sooner table bytes utf8 entry s q c.in-Some.here is known.1)
    ])

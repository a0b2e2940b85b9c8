use Rattle.regex_lite_syntax.proofs.Common.{true, IsTrue, refl, subst, inl, after, FirstSet}
use Rattle.regex_lite_syntax.specs.Text.{before}
use Rattle.regex_lite_syntax.specs.Tree.Looks.{holds_between}
use Rattle.regex_lite_syntax.proofs.prefilter.first_set.StartLemmas.{may_at_start}
use Rattle.regex_lite_syntax.proofs.prefilter.first_set.FirstSet.add_look.Goals as goal

pub returns-in-Start-clause-begins : goal.returns-in-Start-clause-begins
unfolding holds_between
returns-in-Start-clause-begins c =
    let old = c.args.self.now in
    let new : FirstSet = record {
      any = old.any;
      ascii = old.ascii;
      others = old.others;
      at_start = true;
    } in
    λ h i j m. inl (may_at_start new h i refl
    (subst (λ z. IsTrue (holds_between z (before h i) (after h i))) c.in-Start.is m.0))

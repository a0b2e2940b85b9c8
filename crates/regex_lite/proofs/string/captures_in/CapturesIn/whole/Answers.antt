use Rattle.regex_lite.proofs.Common.{◌≡◌, ℕ, Some, sym, ◌∙◌, group_span, AreGroups}
use Rattle.regex_lite.proofs.string.GroupLemmas.{enough_after}
use Rattle.regex_lite.proofs.string.captures_in.CapturesIn.whole.Goals as goal

pub returns-clause-enough : goal.returns-clause-enough
returns-clause-enough g c =
    let groups = c.args.self.now in
    let span : ℕ × ℕ = (c.in-Some.start, c.in-Some.end) in
    let is : group_span groups 0 ≡ Some span = sym c.span.ensures.span ∙ c.in-Some.is in
    let are : AreGroups groups = rw (← c.self.view_is) c.self.invariant in
    enough_after groups span is are.enough

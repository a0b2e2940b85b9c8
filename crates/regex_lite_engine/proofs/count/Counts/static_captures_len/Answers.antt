use Rattle.regex_lite_engine.proofs.Common.{Some, sym, ap, ◌∙◌, arith, sum}
use Rattle.regex_lite_engine.proofs.count.StaticGroupLemmas.{static_held}
use Rattle.regex_lite_engine.proofs.count.Counts.static_captures_len.Goals as goal

pub returns-in_err-self : goal.returns-in_err-self
returns-in_err-self c = λ tree counted few.
    let known = counted.properties.static_groups ∙ static_held tree (omega (arith, few)) in
    c.from_residual.ensures ∙ ap (λ groups. sum (Some 1) groups) (sym c.in_err-self.was ∙ known)

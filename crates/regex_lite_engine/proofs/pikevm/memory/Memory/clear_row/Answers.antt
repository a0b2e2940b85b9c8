use Rattle.regex_lite_engine.proofs.Common.{◌≡◌, ◌<◌, length, set, replicate, None, ap, ◌∙◌, arith}
use Rattle.regex_lite_engine.proofs.Common.{length-set, nth_row, Row}
use Rattle.regex_lite_engine.specs.Pikevm.Machine.{State}
use Rattle.regex_lite_engine.proofs.pikevm.memory.ListLemmas.{first_put}
use Rattle.regex_lite_engine.proofs.pikevm.memory.TogetherLemmas.{together_with}
use Rattle.regex_lite_engine.proofs.pikevm.memory.ViewLemmas.{stands_put}
use Rattle.regex_lite_engine.proofs.pikevm.memory.Memory.clear_row.Goals as goal

pub returns : goal.returns
returns g c =
    let i = c.self.inside in let v = c.self.view_is in let fit = c.self.invariant in
    let blank : Row = replicate (length (nth_row i.rows 0)) None in
    let some : 0 < length i.rows = omega (arith, fit.rows_fit) in
    stands_put g.S.ThreadStart.reported i v fit blank c.clear.ensures
    (first_put i.rows c.clear.new.self blank c.clear.ensures some
    ∙ ap (λ (z : State). replicate (length z.row) None) v)

pub clear-requires : goal.clear-requires
clear-requires g c = omega (arith, c.self.invariant.rows_fit)

pub invariant_of-self : goal.invariant_of-self
invariant_of-self g c =
    let row : Row = replicate (length (nth_row c.self.inside.rows 0)) None in
    let cleared : c.clear.new.self ≡ set c.self.inside.rows 0 row = c.clear.ensures in
    together_with (ap length cleared ∙ length-set c.self.inside.rows 0 row)
    c.self.invariant.frames_fit c.self.invariant

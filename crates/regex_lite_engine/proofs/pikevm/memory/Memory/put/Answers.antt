use Rattle.regex_lite_engine.proofs.Common.{◌≡◌, ◌<◌, length, set, ap, ◌∙◌, arith, length-set}
use Rattle.regex_lite_engine.proofs.Common.{nth_row, Row}
use Rattle.regex_lite_engine.specs.Pikevm.Machine.{State}
use Rattle.regex_lite_engine.proofs.pikevm.memory.ListLemmas.{first_put}
use Rattle.regex_lite_engine.proofs.pikevm.memory.TogetherLemmas.{together_with}
use Rattle.regex_lite_engine.proofs.pikevm.memory.ViewLemmas.{stands_put}
use Rattle.regex_lite_engine.proofs.pikevm.memory.Memory.put.Goals as goal

pub returns : goal.returns
returns g c =
    let i = c.self.inside in let v = c.self.view_is in let fit = c.self.invariant in
    let written = set (nth_row i.rows 0) c.args.slot c.args.held in
    let some : 0 < length i.rows = omega (arith, fit.rows_fit) in
    stands_put g.S.ThreadStart.reported i v fit written c.put.ensures
    (first_put i.rows c.put.new.self written c.put.ensures some
    ∙ ap (λ (z : State). set z.row c.args.slot c.args.held) v)

pub put-requires-clause-inside : goal.put-requires-clause-inside
put-requires-clause-inside g c =
    omega (arith, c.requires, ap (λ (z : State). length z.row) c.self.view_is)

pub put-requires-clause-some : goal.put-requires-clause-some
put-requires-clause-some g c = omega (arith, c.self.invariant.rows_fit)

pub invariant_of-self : goal.invariant_of-self
invariant_of-self g c =
    let row : Row = set (nth_row c.self.inside.rows 0) c.args.slot c.args.held in
    let put : c.put.new.self ≡ set c.self.inside.rows 0 row = c.put.ensures in
    together_with (ap length put ∙ length-set c.self.inside.rows 0 row)
    c.self.invariant.frames_fit c.self.invariant

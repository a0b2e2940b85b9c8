use Rattle.regex_lite_syntax.proofs.Common.{◌≤◌}
use Rattle.regex_lite_syntax.specs.declared.hir.Hir.{size-Hir}
use Rattle.regex_lite_syntax.proofs.hir.Hir.+drop.Given as goal

abbrev pub invariant-loop-self : goal.invariant-loop-self
invariant-loop-self l = size-Hir l.self ≤ size-Hir l.fn.self

use Rattle.regex_lite_syntax.proofs.Common.{Some, refl, arith}
use Rattle.regex_lite_syntax.specs.Tree.Properties.{static_groups}
use Rattle.regex_lite_syntax.proofs.hir.properties.Properties.captured.Goals as goal

pub returns : goal.returns
returns c = λ name body counted. record {
  nullable = counted.nullable;
  greatest_index = omega (arith, counted.greatest_index);
  static_groups = c.sum.ensures (Some 1) (static_groups body) refl counted.static_groups;
}

use Rattle.regex_lite_engine.proofs.Common.{take, ap, ◌∙◌}
use Rattle.regex_lite_engine.proofs.pikevm.rows.BlankLemmas.{first_row}
use Rattle.regex_lite_engine.proofs.pikevm.rows.Rows.first.Goals as goal

pub returns : goal.returns
returns c =
    ap (take c.self.inside.width) c.deref.ensures.value
    ∙ first_row c.self.invariant c.self.view_is c.requires

use Rattle.regex_lite_engine.proofs.Common.{◌*◌, length, sym, ap, ◌∙◌}
use Rattle.regex_lite_engine.specs.Pikevm.Cells.{padded}
use Rattle.regex_lite_engine.proofs.pikevm.rows.RowLemmas.{count_is}
use Rattle.regex_lite_engine.proofs.pikevm.rows.Rows.count.Goals as goal

pub returns : goal.returns
returns c =
    sym (count_is (padded c.self.inside.slots.items (c.self.inside.count * c.self.inside.width))
    c.self.inside.width c.self.inside.count) ∙ ap length c.self.view_is

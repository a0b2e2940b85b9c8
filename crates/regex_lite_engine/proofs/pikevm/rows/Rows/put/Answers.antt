use Rattle.regex_lite_engine.proofs.pikevm.rows.BlankLemmas.{slot_put_over}
use Rattle.regex_lite_engine.proofs.pikevm.rows.Rows.put.Goals as goal

pub returns : goal.returns
returns c =
    slot_put_over c.self.invariant c.self.view_is c.args.slot c.args.held c.requires.some
    c.requires.inside

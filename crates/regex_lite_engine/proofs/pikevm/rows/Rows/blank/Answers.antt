use Rattle.regex_lite_engine.proofs.Common.{◌*◌, ◌≤◌, length, rules}
use Rattle.regex_lite_engine.proofs.pikevm.rows.RowLemmas.{count_is}
use Rattle.regex_lite_engine.proofs.pikevm.rows.BlankLemmas.{blank_wide}
use Rattle.regex_lite_engine.proofs.pikevm.rows.Rows.blank.Goals as goal

pub returns-clause-count : goal.returns-clause-count
returns-clause-count c = count_is _ c.args.width c.args.count

pub returns-clause-width : goal.returns-clause-width
returns-clause-width c = λ some.
    let few : length c.resize.new.self.items ≤ c.args.count * c.args.width = search rules in
    blank_wide c.resize.new.self.items c.args.width c.args.count few some

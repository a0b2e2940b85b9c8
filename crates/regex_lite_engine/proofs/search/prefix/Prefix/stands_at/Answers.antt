use Rattle.regex_lite_engine.proofs.Common.{◌+◌, slice_index, arith}
use Rattle.std.proofs.lemmas.Bool.{eqb-false}
use Rattle.regex_lite_engine.proofs.search.PrefixLemmas.{passed_apart, passed_by_second}
use Rattle.regex_lite_engine.proofs.search.prefix.Prefix.stands_at.Goals as goal

pub returns-else-bytes-at-lt2-clause-passed : goal.returns-else-bytes-at-lt2-clause-passed
returns-else-bytes-at-lt2-clause-passed c = λ off.
    let prefix = c.args.self in
    passed_by_second prefix.first prefix.second c.args.bytes.now c.args.at prefix.ascii
    (omega (arith, c.requires, c.if-bytes-at-lt2.false))
    (eqb-false (slice_index c.args.bytes.now (c.args.at + 1)) prefix.second off)

pub returns-else-bytes-at-clause-passed : goal.returns-else-bytes-at-clause-passed
returns-else-bytes-at-clause-passed c = λ off.
    passed_apart c.args.self.first c.args.self.second c.args.bytes.now c.args.at
    (eqb-false (slice_index c.args.bytes.now c.args.at) c.args.self.first off)

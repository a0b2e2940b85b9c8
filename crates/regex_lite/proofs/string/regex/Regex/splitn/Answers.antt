use Rattle.regex_lite.proofs.Common.{arith, ahead_of}
use Rattle.regex_lite.proofs.string.PieceLemmas.{left_at_first}
use Rattle.regex_lite.proofs.string.regex.Regex.splitn.Goals as goal

pub returns-clause-pieces : goal.returns-clause-pieces
returns-clause-pieces c list =
    let it = c.in_ok-matches in
    left_at_first c.args.limit c.args.self.now c.args.haystack.now (ahead_of it.matches)
    it.matches.ended (omega (arith, c.if-limit-lt2.false)) it.ensures.ahead it.ensures.begins list

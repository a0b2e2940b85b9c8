use Rattle.regex_lite.proofs.Common.{captures_len}
use Rattle.regex_lite.proofs.string.regex.Regex.kept_slots.Goals as goal

pub returns : goal.returns
returns c =
    let reported = c.slots.ensures in
    (reported.0, reported.1, c.kept_of.ensures (captures_len reported.0) reported.2)

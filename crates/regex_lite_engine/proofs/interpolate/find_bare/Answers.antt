use Rattle.regex_lite_engine.proofs.Common.{◌<◌, rules}
use Rattle.regex_lite_engine.proofs.interpolate.TextLemmas.{name_ends_cleanly}
use Rattle.regex_lite_engine.proofs.interpolate.find_bare.Goals as goal

pub split_at-requires : goal.split_at-requires
split_at-requires c =
    let some : 0 < c.name_len-len.result = search rules in
    name_ends_cleanly c.args.after.now c.name_len-len.result c.utf8.after (search rules) some

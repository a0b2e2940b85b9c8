use Rattle.regex_lite_syntax.proofs.Common.{IsTrue, rules, is_character, just}
use Rattle.regex_lite_syntax.proofs.parse.bracket.ClassSetLemmas.{in_more, span_one}
use Rattle.regex_lite_syntax.proofs.parse.bracket.set.push_char.Goals as goal

pub returns : goal.returns
returns c d =
    let character : IsTrue (is_character c.args.c) = search rules in
    in_more c.args.ranges.now.items _ (record { start = c.args.c; end = c.args.c })
    (just c.args.c) d c.in_ok-push.ensures.items (span_one c.args.c d character)

use Rattle.regex_lite_syntax.proofs.class.AsciiMapLemmas.{bits_of_words}
use Rattle.regex_lite_syntax.proofs.class.ascii.words_of_ranges.Goals as goal

pub returns : goal.returns
returns c d within =
    let bits = bits_of_words c.map_of_ranges-map.result d within in
    let reported = c.map_of_ranges-map.ensures d within in
    cc

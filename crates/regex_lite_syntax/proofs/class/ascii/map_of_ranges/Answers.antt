use Rattle.regex_lite_syntax.proofs.Common.{◌<◌, length, get_or, sym, ◌∙◌, ClassRange}
use Rattle.regex_lite_syntax.proofs.RangeLemmas.{in_ranges_more}
use Rattle.regex_lite_syntax.proofs.class.AsciiMapLemmas.{bits_of_either, held_before, past_ascii}
use Rattle.regex_lite_syntax.proofs.class.ascii.map_of_ranges.Goals as goal

pub loop-range-preserved : goal.loop-range-preserved
loop-range-preserved c d within =
    let inside : c.loop-range.range-index < length c.args.ranges.now = c.loop-range-test.true in
    let none : ClassRange = record { start = 0; end = 0 } in
    let bits = bits_of_either c.loop-range.map c.map_of_range-map.result d in
    let before = c.loop-range.invariant d within in
    let added = c.map_of_range-map.ensures d within in
    let more = in_ranges_more c.args.ranges.now c.loop-range.range-index d none inside in
    cc

pub returns-then-not-is_ascii : goal.returns-then-not-is_ascii
returns-then-not-is_ascii c d within =
    let inside : c.loop-range.range-index < length c.args.ranges.now = c.loop-range-test.true in
    let none : ClassRange = record { start = 0; end = 0 } in
    let below : d < (get_or c.args.ranges.now c.loop-range.range-index none).start =
    past_ascii _ d within (sym c.is_ascii.ensures ∙ c.if-not-is_ascii.true) in
    c.loop-range.invariant d within
    ∙ sym (held_before 0 c.args.ranges.now c.loop-range.range-index d none c.requires inside below)

use Rattle.regex_lite_syntax.proofs.Common.{◌≡◌, ◌<◌, ◌&&◌, length, ◌∙◌, arith, take_all, is_letter}
use Rattle.regex_lite_syntax.proofs.Common.{in_ranges, Set}
use Rattle.regex_lite_syntax.specs.Characters.{other_case}
use Rattle.regex_lite_syntax.proofs.RangeLemmas.{in_ranges_more}
use Rattle.regex_lite_syntax.proofs.parse.bracket.ClassSetLemmas.{in_set}
use Rattle.regex_lite_syntax.proofs.class.letters.ascii_case_fold.Goals as goal

pub loop-range-preserved : goal.loop-range-preserved
loop-range-preserved c d =
    let items = c.deref-range-items.result.now in
    let i = c.loop-range.range-index in
    let inside : i < length items = c.loop-range-test.true in
    let more = in_ranges_more items i (other_case d) (record { start = 0; end = 0 }) inside in
    rw (more, c.in_ok-push_other_case.ensures d, c.loop-range.invariant d) (grind arith)

pub returns : goal.returns
returns c d =
    let held = c.args.ranges.now.items in
    let other : Set = λ e. is_letter e && in_ranges held (other_case e) in
    let items = c.deref-range-items.result.now in
    let all = take_all c.loop-range.range-index items c.loop-range-test.false
    ∙ c.deref-range-items.ensures.value in
    let others : in_ranges c.deref.result.now d ≡ other d =
    rw c.deref.ensures.value (rw all at (c.loop-range.invariant d)) in
    in_set held _ c.deref.result.now other d c.in_ok-extend_from_slice.ensures.items others

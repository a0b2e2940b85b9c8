use Rattle.regex_lite_c.proofs.Common.{◌+◌, ◌<◌, length, get_or, option_map, refl, ◌∙◌, subst}
use Rattle.regex_lite_c.proofs.Common.{arith}
use Rattle.std.proofs.Common.{slice_range}
use Rattle.std.proofs.lemmas.Str.{IsCharBoundary-start}
use Rattle.regex_lite.specs.MatchViews.{span_of_match}
use Rattle.regex_lite_c.specs.Spans.{TellsSpan}
use Rattle.regex_lite_c.proofs.each.EachLemmas.{all_searched, next_ends, none_searched}
use Rattle.regex_lite_c.proofs.each.EachLemmas.{one_searched, tells_span}
use Rattle.regex_lite_c.proofs.each.put_each.Goals as goal

pub loop-k-init : goal.loop-k-init
loop-k-init c = (
  none_searched c.args.searcher.now c.args.texts.now c.args.lens.now c.args.spans.now
      c.requires.lengths,
  IsCharBoundary-start c.args.texts.now c.utf8.texts,
  refl,
)

pub loop-k-preserved : goal.loop-k-preserved
loop-k-preserved c =
    let re = c.args.searcher.now in
    let bytes = c.args.texts.now in
    let lens = c.args.lens.now in
    let old = c.args.spans.now in
    let new = c.loop-k.spans in
    let at = c.loop-k.at in
    let k = c.loop-k.k in
    let so = c.loop-k.invariant.0 in
    let same = c.loop-k.invariant.2 in
    let reported = option_map span_of_match c.find.result in
    let less : k < length lens = omega (arith, c.loop-k-test.true, c.loop-k.auto.k-end) in
    let buffer : k < length new = omega (arith, less, c.loop-k.auto.spans, c.requires.buffer) in
    let tells = tells_span c.loop-k.searcher c.range.result.now 0 c.find.result
    c.find.ensures.found in
    let part : TellsSpan re (slice_range bytes at (at + get_or lens k 0)) 0 reported =
    subst (λ own. TellsSpan own (slice_range bytes at (at + get_or lens k 0)) 0 reported) same
    (subst (λ text. TellsSpan c.loop-k.searcher text 0 reported) c.range.ensures.value tells) in (
      one_searched re bytes lens at k old new c.of_group.result reported so less buffer part
          c.of_group.ensures,
      next_ends re bytes lens at k old new so less,
      c.find.ensures.same ∙ same,
    )

pub returns : goal.returns
returns c =
    all_searched c.args.searcher.now c.args.texts.now c.args.lens.now c.loop-k.at c.loop-k.k
    c.args.spans.now c.loop-k.spans c.loop-k.invariant.0
    (omega (arith, c.loop-k-test.false, c.loop-k.auto.k-end))

use Rattle.regex_lite_syntax.proofs.Common.{◌∙◌, IfOk-weaker, subst, sym, tree_of}
use Rattle.regex_lite_syntax.specs.Prefilter.Spelling.{AddsSpelled}
use Rattle.regex_lite_syntax.proofs.LeafLemmas.{tree_is-Repetition}
use Rattle.regex_lite_syntax.proofs.prefilter.words.SpellingLemmas.{part_more, pass_more}
use Rattle.regex_lite_syntax.proofs.prefilter.words.SpellingLemmas.{same_limits}
use Rattle.regex_lite_syntax.proofs.prefilter.words.spelling.+read_word.Goals as goal

pub read_parts-parts-preserved : goal.read_parts-parts-preserved
read_parts-parts-preserved t c =
    part_more c.args.parts.now c.parts.k c.index-parts-k.result c.args.list.now c.parts.list
    c.read_word.new.list c.parts-test.true c.index-parts-k.is c.parts.invariant
    (c.in_ok-read_word.ensures c.if-not-branch.false)

pub read_passes-passes-preserved : goal.read_passes-passes-preserved
read_passes-passes-preserved t c =
    pass_more (tree_of c.args.body.now) c.passes._k c.args.list.now c.passes.list
    c.read_word.new.list c.passes.invariant (c.in_ok-read_word.ensures c.if-not-branch.false)

pub read_word-returns-in-Repetition : goal.read_word-returns-in-Repetition
read_word-returns-in-Repetition t c =
    let r = c.in-Repetition in
    let body = c.deref-in-Repetition in
    let exact = same_limits r.least r.most (sym c.eq.ensures ∙ c.if-eq.true) in
    IfOk-weaker c.read_passes.result _ _ (λ is passes may.
    let adds = passes may in
    subst (λ tree. AddsSpelled tree c.args.list.now c.read_passes.new.list)
    (sym (tree_is-Repetition r.is body.ensures))
    (record {
      letters = adds.letters;
      added = adds.added;
      are = (c.if-least-gt0.true, exact, adds.are);
    }))
    c.read_passes.ensures

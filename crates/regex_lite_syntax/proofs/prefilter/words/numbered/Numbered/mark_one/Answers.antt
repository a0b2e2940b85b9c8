use Rattle.regex_lite_syntax.proofs.Common.{drop, sym, subst, StartsWith}
use Rattle.regex_lite_syntax.proofs.prefilter.words.NextLemmas.{any_stands}
use Rattle.regex_lite_syntax.proofs.prefilter.words.numbered.Numbered.mark_one.Goals as goal

pub returns-in-None-clause-here : goal.returns-in-None-clause-here
returns-in-None-clause-here c = λ at low stands.
    let word = c.word-word.result.now in
    let bytes = c.args.bytes.now in
    let here = subst (λ word. StartsWith word (drop at bytes)) (sym c.word-word.ensures) stands in
    absurd (c.in-None.ensures at low (any_stands word bytes at here))

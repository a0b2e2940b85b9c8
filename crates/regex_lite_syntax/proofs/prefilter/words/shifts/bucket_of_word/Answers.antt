use Rattle.regex_lite_syntax.proofs.Common.{sym, refl, ap, ◌∙◌, arith}
use Rattle.regex_lite_syntax.specs.Prefilter.Shifts.{hash_of, mixed}
use Rattle.regex_lite_syntax.proofs.prefilter.words.ShiftLemmas.{word_hash_more}
use Rattle.regex_lite_syntax.proofs.prefilter.words.shifts.bucket_of_word.Goals as goal

pub letters-init : goal.letters-init
unfolding hash_of
letters-init c bytes starts = refl

pub letters-preserved : goal.letters-preserved
letters-preserved c bytes starts =
    let letter = c.index-word-k.result in
    word_hash_more c.args.word.now c.letters.k c.letters.hash letter (omega arith)
    c.index-word-k.is c.letters.invariant bytes starts
    ∙ ap (λ l. mixed c.letters.hash l.byte) c.index-word-k.is
    ∙ sym c.mixed-hash.ensures

use Rattle.regex_lite_syntax.proofs.Common.{◌≡◌, ◌+◌, ◌-◌, ◌∙◌, length, slice_index, subst, sym}
use Rattle.regex_lite_syntax.proofs.Common.{arith, false≢true, IsLetter}
use Rattle.regex_lite_syntax.proofs.prefilter.words.PairLemmas.{letter_here}
use Rattle.regex_lite_syntax.proofs.prefilter.words.StandLemmas.{stands_inside}
use Rattle.regex_lite_syntax.proofs.prefilter.words.standing.stands.Goals as goal

pub returns-then-bytes-at : goal.returns-then-bytes-at
returns-then-bytes-at c = (
  λ wrong. absurd (false≢true wrong),
  λ stands.
      let inside = stands_inside c.args.word.now c.args.bytes.now c.args.at c.requires stands in
      absurd (omega (arith, inside)),
)

pub returns-then-not-is : goal.returns-then-not-is
returns-then-not-is c =
    let word = c.args.word.now in
    let bytes = c.args.bytes.now in
    let at = c.args.at in
    let letter = c.index-word-len.result in
    let last : at + (length word - 1) ≡ at + length word - 1 = omega (arith, c.if-len-gt0.true) in (
      λ wrong. absurd (false≢true wrong),
      λ stands. absurd (false≢true (sym c.if-not-is.true
          ∙ c.is.ensures.1 (subst (λ k. IsLetter letter (slice_index bytes k)) last
          (letter_here word bytes at (length word - 1) letter stands
          (omega (arith, c.if-len-gt0.true)) c.index-word-len.is)))),
    )

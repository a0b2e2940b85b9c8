use Rattle.regex_lite_syntax.proofs.Common.{◌+◌, slice_index, subst, arith, refl, sym, false≢true}
use Rattle.regex_lite_syntax.proofs.Common.{◌∙◌, IsLetter, Letter}
use Rattle.regex_lite_syntax.proofs.prefilter.words.StandLemmas.{stands_by_letters, stands_letter}
use Rattle.regex_lite_syntax.proofs.prefilter.words.standing.wrong_letter.Goals as goal

pub returns-then-not-is : goal.returns-then-not-is
returns-then-not-is c = (
  c.letters-test.true,
  λ stands.
      let letter = stands_letter c.args.word.now c.args.bytes.now c.args.at
      c.index-word-k.result stands c.letters.k c.letters-test.true in
      false≢true (sym c.if-not-is.true
      ∙ c.is.ensures.1
      (subst (λ l. IsLetter l (slice_index c.args.bytes.now (c.args.at + c.letters.k)))
      (sym c.index-word-k.is) letter)),
)

pub returns : goal.returns
returns c =
    let past : Letter = record { byte = 0; other = 0; same = refl } in
    stands_by_letters c.args.word.now c.args.bytes.now c.args.at past c.requires
    (λ k below. c.letters.invariant past k (omega (arith, below, c.letters-test.false)))

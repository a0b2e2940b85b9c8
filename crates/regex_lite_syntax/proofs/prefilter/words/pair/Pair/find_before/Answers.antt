use Rattle.regex_lite_syntax.proofs.Common.{◌≡◌, ◌+◌, ◌-◌, ◌∙◌, ◌∷◌, [], arith, sym, false≢true}
use Rattle.regex_lite_syntax.proofs.Common.{IsLetter, slice_index, subst}
use Rattle.regex_lite_syntax.proofs.prefilter.words.NextLemmas.{none_and_here, none_joined}
use Rattle.regex_lite_syntax.proofs.prefilter.words.NextLemmas.{only_stands}
use Rattle.regex_lite_syntax.proofs.prefilter.words.PairLemmas.{letter_here}
use Rattle.regex_lite_syntax.proofs.prefilter.words.pair.Pair.find_before.Goals as goal
use Rattle.regex_lite_syntax.proofs.prefilter.words.pair.Pair.find_before.Goals.{
  then-wrong-at+in-Some,
  else-wrong-at+else-is,
}

pub places-preserved : goal.places-preserved
places-preserved c =
    let word = c.args.word.now in
    let bytes = c.args.bytes.now in
    let at = c.places.at in
    let wrong = c.places.wrong in
    let next = c.next_place-at-in-places in
    record {
      order = omega (arith, c.places.invariant.order, next.ensures.low);
      wrong = elim c.if-wrong-at.branch [
        | then-wrong-at+in-Some w ↦
            omega (arith, w.wrong-is, w.in-Some.ensures.0, next.ensures.low)
        | else-wrong-at+else-is w ↦
            omega (arith, w.wrong-is, c.places.invariant.wrong, next.ensures.low)
      ];
      none = none_joined (word ∷ []) bytes c.args.from (at + 1) next.result
          (none_and_here (word ∷ []) bytes c.args.from at c.places.invariant.none (λ stands.
          let here = only_stands word bytes at stands in
          elim c.if-wrong-at.branch [
            | then-wrong-at+in-Some w ↦ w.in-Some.ensures.1 here
            | else-wrong-at+else-is w ↦
                let there : at + (wrong - at) ≡ wrong = omega (arith, w.if-wrong-at.false) in
                let own = letter_here word bytes at (wrong - at) w.index-word-wrong.result here
                (omega (arith, there, c.places.invariant.wrong)) w.index-word-wrong.is in
                false≢true (sym w.if-is.false ∙ w.is.ensures.1
                (subst (λ k. IsLetter w.index-word-wrong.result (slice_index bytes k)) there own))
          ]))
          next.ensures.none;
    }

pub returns-clause-next : goal.returns-clause-next
returns-clause-next c = λ at low high.
    c.places.invariant.none at low (omega (arith, high, c.places-test.false))

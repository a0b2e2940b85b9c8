use Rattle.regex_lite_syntax.proofs.Common.{◌+◌, ◌∙◌, ◌∷◌, [], arith, sym, false≢true}
use Rattle.regex_lite_syntax.proofs.prefilter.words.NextLemmas.{none_and_here, none_joined}
use Rattle.regex_lite_syntax.proofs.prefilter.words.NextLemmas.{only_stands}
use Rattle.regex_lite_syntax.proofs.prefilter.words.PairLemmas.{letter_here, none_up_to_place}
use Rattle.regex_lite_syntax.proofs.prefilter.words.pair.Pair.next_place.Goals as goal
use Rattle.regex_lite_syntax.proofs.prefilter.words.pair.Pair.next_place.Goals.{then-is, else-is}

pub returns-then-place-lt-SHORT_BLOCK-clause-none :
    goal.returns-then-place-lt-SHORT_BLOCK-clause-none
returns-then-place-lt-SHORT_BLOCK-clause-none c =
    let word = c.args.word.now in
    let bytes = c.args.bytes.now in
    let at = c.short.at in
    let place = c.first_of_both-place.result in
    none_joined (word ∷ []) bytes c.args.from at (at + place) c.short.invariant.none
    (none_up_to_place word bytes at 16 place c.args.self.first c.args.self.second
    c.index-word-self.result c.index-word-self-2.result c.first_of_both-place.ensures.few
    c.requires.first c.requires.second c.index-word-self.is c.index-word-self-2.is
    c.first_of_both-place.ensures.none)

pub short-preserved : goal.short-preserved
short-preserved c =
    let word = c.args.word.now in
    let bytes = c.args.bytes.now in
    let at = c.short.at in
    let all = c.if-place-lt-SHORT_BLOCK.false in
    record {
      order = omega (arith, c.short.invariant.order);
      inside = omega (arith, c.if-bytes-at.true, c.requires.first);
      none = none_joined (word ∷ []) bytes c.args.from at (at + 16) c.short.invariant.none
          (none_up_to_place word bytes at 16 16 c.args.self.first c.args.self.second
          c.index-word-self.result c.index-word-self-2.result (omega arith)
          c.requires.first c.requires.second c.index-word-self.is c.index-word-self-2.is
          (λ k below. c.first_of_both-place.ensures.none k (omega (arith, below, all))));
    }

pub offsets-preserved : goal.offsets-preserved
offsets-preserved c =
    let word = c.args.word.now in
    let bytes = c.args.bytes.now in
    let at = c.offsets.at in
    record {
      order = omega (arith, c.offsets.invariant.order);
      inside = omega (arith, c.offsets-test.true, c.requires.first);
      none = none_and_here (word ∷ []) bytes c.args.from at c.offsets.invariant.none (λ stands.
          let here = only_stands word bytes at stands in
          let first = letter_here word bytes at c.args.self.first c.index-word-self.result here
          c.requires.first c.index-word-self.is in
          let second = letter_here word bytes at c.args.self.second c.index-word-self-2.result here
          c.requires.second c.index-word-self-2.is in
          elim c.if-is.branch [
            | then-is w ↦ false≢true
                (sym c.if-not-is.true ∙ (w.value-is ∙ w.is-then-is.ensures.1 second))
            | else-is w ↦ false≢true (sym w.if-is.false ∙ c.is.ensures.1 first)
          ]);
    }

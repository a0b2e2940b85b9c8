use Rattle.regex_lite_syntax.proofs.Common.{◌≡◌, ◌+◌, ◌<◌, length, slice_index, slice_set, sym, ap}
use Rattle.regex_lite_syntax.proofs.Common.{◌∙◌, inl, inr, arith, cases_eq, get_or-set_same}
use Rattle.std.proofs.Common.{ap₂}
use Rattle.regex_lite_syntax.specs.Prefilter.Shifts.{key_of}
use Rattle.regex_lite_syntax.proofs.prefilter.words.ShiftLemmas.{key_in_word, lowered}
use Rattle.regex_lite_syntax.proofs.prefilter.words.shifts.lower.Goals as goal

pub pairs-preserved : goal.pairs-preserved
pairs-preserved c =
    let v = c.pairs.invariant in
    let k = c.pairs.k in
    let one = c.index-word-k in
    let two = c.index-word-k-in-pairs in
    let before = c.pairs.shifts in
    let key = c.key-key.result in
    let shift = c.min.result in
    let after = slice_set before key shift in
    let inside : key < length before = omega arith in
    let min = c.min.ensures in
    record {
      lower = λ other.
          let old = v.lower other in
          let new = lowered before key shift other inside (omega (arith, min)) in
          omega (arith, old, new);
      near = λ bytes j starts below. elim (cases_eq j k) [
        | inl same ↦
            let keys = key_in_word c.args.word.now bytes k one.result two.result (omega arith)
            one.is two.is starts in
            let here : key_of (slice_index bytes j) (slice_index bytes (j + 1)) ≡ key =
            ap (λ i. key_of (slice_index bytes i) (slice_index bytes (i + 1))) same ∙ keys
            ∙ ap₂ (λ a b. key_of a.byte b.byte) one.is two.is ∙ sym c.key-key.ensures.key in
            let is = ap (slice_index after) here ∙ get_or-set_same before key shift 0 inside in
            omega (arith, is, min)
        | inr apart ↦
            let at = key_of (slice_index bytes j) (slice_index bytes (j + 1)) in
            let old = v.near bytes j starts (omega arith) in
            let new = lowered before key shift at inside (omega (arith, min)) in
            omega (arith, old, new)
      ];
    }

use Rattle.regex_lite_syntax.proofs.Common.{◌≡◌, ◌/◌, ◌%◌, [], ◌∷◌, ◌==◌, slice_index, ap, ◌∙◌, inl}
use Rattle.regex_lite_syntax.proofs.Common.{inr, arith, cases_lt, bit_at}
use Rattle.std.proofs.lemmas.Nat.Bits.{bit_at_ones}
use Rattle.regex_lite_syntax.proofs.prefilter.prefix_index.ascii_set.AsciiSet.all.Goals as goal

pub returns : goal.returns
returns c code inside =
    let set = ap (λ bit. bit == 1) (bit_at_ones 64 (code % 64) (omega arith)) in
    elim (cases_lt code 64) [
      | inl low ↦
          let word : code / 64 ≡ 0 = omega (arith, low) in
          ap (λ k. bit_at (slice_index (18446744073709551615 ∷ 18446744073709551615 ∷ []) k)
          (code % 64) == 1) word ∙ set
      | inr high ↦
          let word : code / 64 ≡ 1 = omega (arith, high, inside) in
          ap (λ k. bit_at (slice_index (18446744073709551615 ∷ 18446744073709551615 ∷ []) k)
          (code % 64) == 1) word ∙ set
    ]

-- Bytes that are written one after another.
use Rattle.regex_lite_syntax.proofs.Common.{◌≡◌, ℕ, suc, true, List, [], ◌∷◌, length, slice_index}
use Rattle.regex_lite_syntax.proofs.Common.{sym, refl, inl, inr, arith, rules, cases_eq, nat_tests}
use Rattle.regex_lite_syntax.proofs.Common.{is_among, StandsBelow}

-- eight bytes are those at the eight places
pub eight : (bytes : List ℕ) → length bytes ≡ 8
    → slice_index bytes 0 ∷ (slice_index bytes 1 ∷ (slice_index bytes 2 ∷ (slice_index bytes 3
    ∷ (slice_index bytes 4
    ∷ (slice_index bytes 5 ∷ (slice_index bytes 6 ∷ (slice_index bytes 7 ∷ [])))))))
    ≡ bytes
eight [] is = absurd (omega (arith, is))
eight (a ∷ []) is = absurd (omega (arith, is))
eight (a ∷ (b ∷ [])) is = absurd (omega (arith, is))
eight (a ∷ (b ∷ (c ∷ []))) is = absurd (omega (arith, is))
eight (a ∷ (b ∷ (c ∷ (d ∷ [])))) is = absurd (omega (arith, is))
eight (a ∷ (b ∷ (c ∷ (d ∷ (e ∷ []))))) is = absurd (omega (arith, is))
eight (a ∷ (b ∷ (c ∷ (d ∷ (e ∷ (f ∷ [])))))) is = absurd (omega (arith, is))
eight (a ∷ (b ∷ (c ∷ (d ∷ (e ∷ (f ∷ (g ∷ []))))))) is = absurd (omega (arith, is))
eight (a ∷ (b ∷ (c ∷ (d ∷ (e ∷ (f ∷ (g ∷ (h ∷ [])))))))) is = refl
eight (a ∷ (b ∷ (c ∷ (d ∷ (e ∷ (f ∷ (g ∷ (h ∷ (i ∷ rest))))))))) is = absurd (omega (arith, is))

-- what is among these bytes stands somewhere there
pub stands_somewhere : (bytes : List ℕ) (byte : ℕ) → is_among bytes byte ≡ true
    → StandsBelow bytes (length bytes) byte
stands_somewhere [] byte is = cc
stands_somewhere (own ∷ bytes) byte is = elim (cases_eq byte own) [
  | inl same ↦ (0, omega (arith), sym same)
  | inr other ↦ go (stands_somewhere bytes byte (search (rules, nat_tests, is, other)))
]
  where
    go : StandsBelow bytes (length bytes) byte → StandsBelow (own ∷ bytes) (suc (length bytes)) byte
    go (i, below, there) = (suc i, omega (arith, below), there)

use Rattle.regex_lite_syntax.proofs.Common.{◌≡◌, ℕ, ◌<◌, false, [], ◌∷◌, slice_index, is_among}
use Rattle.regex_lite_syntax.proofs.prefilter.has_one_of_eight.Given as goal

abbrev pub invariant-loop-k : goal.invariant-loop-k
invariant-loop-k l = l.is_there ≡ false → (k : ℕ) → k < l.k
    → is_among (l.a ∷ (l.b ∷ (l.c ∷ (l.d ∷ (l.e ∷ (l.f ∷ (l.g ∷ (l.h ∷ []))))))))
    (slice_index l.block k) ≡ false

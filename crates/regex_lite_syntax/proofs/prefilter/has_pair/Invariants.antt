use Rattle.regex_lite_syntax.proofs.Common.{◌≡◌, ℕ, ◌<◌, false, [], ◌∷◌, slice_index}
use Rattle.regex_lite_syntax.specs.Prefilter.Bytes.{suits}
use Rattle.regex_lite_syntax.specs.declared.prefilter.Prefilter.TheVariants.{Pair}
use Rattle.regex_lite_syntax.proofs.prefilter.has_pair.Given as goal

abbrev pub invariant-loop-k : goal.invariant-loop-k
invariant-loop-k l = l.is_there ≡ false → (k : ℕ) → k < l.k
    → suits (Pair (l.first ∷ (l.or_first ∷ [])) (l.second ∷ (l.or_second ∷ [])))
    (slice_index l.block k) (slice_index l.next k) ≡ false

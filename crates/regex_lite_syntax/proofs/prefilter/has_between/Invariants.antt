use Rattle.regex_lite_syntax.proofs.Common.{◌≡◌, ℕ, ◌<◌, false, slice_index}
use Rattle.regex_lite_syntax.specs.Prefilter.Bytes.{suits}
use Rattle.regex_lite_syntax.specs.declared.prefilter.Prefilter.TheVariants.{Range}
use Rattle.regex_lite_syntax.proofs.prefilter.has_between.Given as goal

abbrev pub invariant-loop-k : goal.invariant-loop-k
invariant-loop-k l = l.is_there ≡ false → (k : ℕ) → k < l.k
    → suits (Range l.low l.high) (slice_index l.block k) 0 ≡ false

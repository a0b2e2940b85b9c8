-- Blocks of bytes, which are parts of the haystack.
use Rattle.regex_lite_engine.proofs.Common.{◌≡◌, ℕ, ◌+◌, ◌-◌, ◌<◌, ◌≤◌, false, List, take, drop}
use Rattle.regex_lite_engine.proofs.Common.{slice_index, ap, ◌∙◌, subst, arith, get_or-take}
use Rattle.regex_lite_syntax.specs.Prefilter.Bytes.{suits}
use Rattle.std.proofs.lemmas.List.{get_or-drop}
use Rattle.regex_lite_syntax.specs.declared.prefilter.Prefilter.{Prefilter}

-- the byte at an offset, in the block that begins at another
byte_of_block : (bytes : List ℕ) (from len k : ℕ) → from ≤ k → k - from < len
    → slice_index (take len (drop from bytes)) (k - from) ≡ slice_index bytes k
byte_of_block bytes from len k le lt =
    get_or-take len (drop from bytes) (k - from) _ lt ∙ get_or-drop from bytes (k - from) _
    ∙ ap (slice_index bytes) (omega (arith, le))

-- what suits no byte of the block suits none of these bytes
pub unsuited : (filter : Prefilter) (bytes : List ℕ) (at len more k : ℕ) → at ≤ k → k - at < len
    → k - at < more
    → suits filter (slice_index (take len (drop at bytes)) (k - at))
    (slice_index (take more (drop (at + 1) bytes)) (k - at)) ≡ false
    → suits filter (slice_index bytes k) (slice_index bytes (k + 1)) ≡ false
unsuited filter bytes at len more k le lt within none =
    let here = byte_of_block bytes at len k le lt in
    let after : slice_index (take more (drop (at + 1) bytes)) (k - at) ≡ slice_index bytes (k + 1)
    = subst (λ z. slice_index (take more (drop (at + 1) bytes)) z ≡ slice_index bytes (k + 1))
    (omega (arith, le))
    (byte_of_block bytes (at + 1) more (k + 1) (omega (arith, le)) (omega (arith, le, within))) in
    subst (λ z. suits filter z (slice_index bytes (k + 1)) ≡ false) here
    (subst (λ z. suits filter (slice_index (take len (drop at bytes)) (k - at)) z ≡ false)
    after none)

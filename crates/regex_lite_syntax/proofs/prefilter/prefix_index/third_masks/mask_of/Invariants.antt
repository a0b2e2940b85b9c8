use Rattle.regex_lite_syntax.proofs.Common.{◌≡◌, ℕ, ◌<◌, true, begins_with, in_mask}
use Rattle.regex_lite_syntax.proofs.prefilter.prefix_index.third_masks.mask_of.Given as goal

-- those below this one are in the mask
abbrev pub invariant-loop-code : goal.invariant-loop-code
invariant-loop-code l = record {
  reported : (code : ℕ) → code < l.code → begins_with l.starts code ≡ true
      → in_mask l.mask code ≡ true;
  same : l.starts ≡ l.fn.starts;
}

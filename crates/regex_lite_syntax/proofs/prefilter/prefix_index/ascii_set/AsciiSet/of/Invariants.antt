use Rattle.regex_lite_syntax.proofs.Common.{◌≡◌, ℕ, ◌-◌, ◌<◌, ◌&&◌, nat_lt, in_set, begins_with}
use Rattle.regex_lite_syntax.proofs.prefilter.prefix_index.ascii_set.AsciiSet.of.Given as goal

-- those below this one are in it
abbrev pub invariant-codes : goal.invariant-codes
invariant-codes l = record {
  reported : (code : ℕ) → code < 128
      → in_set l.set code ≡ (nat_lt code l.code && begins_with l.starts code);
  same : l.starts ≡ l.fn.starts;
}

abbrev pub decreases-codes : goal.decreases-codes
decreases-codes l = 128 - l.code

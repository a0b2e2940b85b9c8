use Rattle.regex_lite_meta.proofs.Common.{◌≡◌, ℕ, ◌+◌, chars, IsHere}
use Rattle.regex_lite_meta.proofs.lazy_dfa.reach.back.Given as goal

-- so many characters were gone back
abbrev pub invariant-steps : goal.invariant-steps
invariant-steps l = (p : ℕ) → IsHere (chars l.haystack) p l.fn.from →
    (r : ℕ) × IsHere (chars l.haystack) r l.here × (r + l.k ≡ p)

-- Tables of names that have none.
use Rattle.regex_lite_syntax.proofs.Common.{◌≡◌, ℕ, zero, suc, List, None, Option, Global, refl, ap}
use Rattle.regex_lite_syntax.proofs.Common.{◌∙◌, RcStr, name_at}
use Rattle.std.proofs.Common.{replicate}

none_at : (n k : ℕ) → name_at (replicate n None) k ≡ None
none_at zero k = refl
none_at (suc n) zero = refl
none_at (suc n) (suc k) = none_at n k

-- a table of nothing has no name at any index
pub unnamed : (n : ℕ) (table : List (Option (RcStr Global))) → table ≡ replicate n None
    → (k : ℕ) → name_at table k ≡ None
unnamed n table is k = ap (λ names. name_at names k) is ∙ none_at n k

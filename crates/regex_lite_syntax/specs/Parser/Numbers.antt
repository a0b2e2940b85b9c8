-- The number of a counted operator when more digits follow it.
use Rattle.std.specs.Prelude.{◌≡◌, ◌⊎◌, ℕ, ◌+◌, ◌*◌, ◌^◌, ◌<◌, ◌≤◌, Bool, []}
use Rattle.regex_lite_syntax.specs.Text.{Text}
use Rattle.regex_lite_syntax.specs.Grammar.Gaps.{Gap}

-- with more digits, or with none, the number is this one
pub data GrowsTo : (number n : ℕ) → Type 0 where
  as_it_is : {number n : ℕ} → n ≡ number → GrowsTo number n
  with_digit : {number n : ℕ} (digit : ℕ) → digit < 10 → GrowsTo (number * 10 + digit) n
      → GrowsTo number n

-- a number whose digits are followed by this at the end of the pattern can become this number if
-- the pattern continues: more digits can only follow the others or a gap
abbrev pub Becomes : (verbose : Bool) → (past_digits : Text) → (number n : ℕ) → Type 0
Becomes verbose past_digits number n =
    (n ≡ number) ⊎ (Gap verbose past_digits [] × GrowsTo number n)

-- one of these numbers is below 2^32 and not below the least number
abbrev pub CanReach : (least : ℕ) → (ℕ → Type 0) → Type 0
CanReach least Is = (n : ℕ) × Is n × (least ≤ n) × (n < 2 ^ 32)

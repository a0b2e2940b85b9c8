-- The operators that repeat an item.
use Rattle.std.specs.Prelude.{◌≡◌, ℕ, Bool, true, false, not, ◌==◌}
use Rattle.std.specs.Prelude.{◌∷◌, Option, Some, None, if◌then◌else◌}
use Rattle.regex_lite_syntax.specs.declared.flags.Flags.{Flags}
use Rattle.regex_lite_syntax.specs.Text.{Text, Begins, the}
use Rattle.regex_lite_syntax.specs.Grammar.Gaps.{Gap}
use Rattle.regex_lite_syntax.specs.Grammar.Counted.{Counted}

-- the least number of passes of `?`, `*` and `+`, and the greatest if there is a limit
abbrev pub times : ℕ → Option (ℕ × Option ℕ)
times c =
    if c == the "?" then Some (0, Some 1)
    else if c == the "*" then Some (0, None)
    else if c == the "+" then Some (1, None)
    else None

-- an operator is greedy unless it is written as lazy, and under `U` lazy unless it is
abbrev pub greed : Flags → (lazy : Bool) → Bool
greed flags lazy = if flags.swap_greed then lazy else not lazy

-- one operator; a `?` directly after `?`, `*` or `+`, or after the gap after a counted operator,
-- makes it lazy and belongs to it
pub data Operator (flags : Flags) (t rest : Text) (least : ℕ) (most : Option ℕ) (greedy : Bool)
    : Type 0 where
  uncounted : (c : ℕ) → t ≡ c ∷ rest → times c ≡ Some (least, most) → (Begins (the "?") rest → ⊥)
      → greedy ≡ greed flags false → Operator flags t rest least most greedy
  uncounted_lazy : (c : ℕ) → t ≡ c ∷ the "?" ∷ rest → times c ≡ Some (least, most)
      → greedy ≡ greed flags true → Operator flags t rest least most greedy
  counted : (opened : Text) → t ≡ the "{" ∷ opened
      → Counted flags.ignore_whitespace opened rest least most
      → ((next : Text) → Gap flags.ignore_whitespace rest (the "?" ∷ next) → ⊥)
      → greedy ≡ greed flags false → Operator flags t rest least most greedy
  counted_lazy : (opened past : Text) → t ≡ the "{" ∷ opened
      → Counted flags.ignore_whitespace opened past least most
      → Gap flags.ignore_whitespace past (the "?" ∷ rest)
      → greedy ≡ greed flags true → Operator flags t rest least most greedy

-- Hexadecimal digits that continue a number that has been read.
use Rattle.std.specs.Prelude.{ℕ, ◌+◌, ◌*◌, ◌≤◌, fold, IsTrue}
use Rattle.std.specs.List.{list_all}
use Rattle.regex_lite_syntax.specs.Text.{Text}
use Rattle.regex_lite_syntax.specs.Characters.{is_character, is_hex_digit, digit_value}

-- the number continued with these digits
abbrev pub number_on : (number : ℕ) → (digits : Text) → ℕ
number_on number digits = fold (λ n d. n * 16 + digit_value d) number digits

-- with these further digits the number is that of a character from `least` on
pub record ReachesNumber (number least : ℕ) (digits : Text) : Type 0 where
  pub are_digits : IsTrue (list_all is_hex_digit digits)
  pub scalar : IsTrue (is_character (number_on number digits))
  pub far : least ≤ number_on number digits

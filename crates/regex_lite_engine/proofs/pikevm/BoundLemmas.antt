-- What several searches cost together.
use Rattle.regex_lite_engine.proofs.Common.{ℕ, ◌+◌, ◌*◌, ◌≤◌, inl, inr, arith, cases_lt, Text}
use Rattle.regex_lite_engine.proofs.Common.{characters_left, IsBoundedBy}
use Rattle.std.proofs.Common.{min}
use Rattle.std.proofs.Math.Nat.{add-mul, le-min, min-eq_left, min-le_left, min-le_right}

-- a sum that is cut off at the greatest number is no more than twice one that is
twice_cut : (a b most : ℕ) → a ≤ 2 * b → min a most ≤ 2 * min b most
twice_cut a b most le = elim (cases_lt most b) [
  | inl above ↦
      let whole : most ≤ min b most = le-min (omega (arith, above)) (omega arith) in
      omega (arith, min-le_right a most, whole)
  | inr below ↦ omega (arith, min-le_left a most, min-eq_left below, le)
]

pub bounded_both : (haystack : Text) (s places tries a b c places' tries' a' b' c' most : ℕ)
    → IsBoundedBy places tries haystack s a b c → IsBoundedBy places' tries' haystack s a' b' c'
    → IsBoundedBy (places + places') (tries + tries') haystack s (min (a + a') most)
    (min (b + b') most) (min (c + c') most)
bounded_both haystack s places tries a b c places' tries' a' b' c' most first second =
    let positions = characters_left haystack s + 1 in
    let tried = first.few_tried in
    let tried' = second.few_tried in
    let entered = first.few_entered in
    let entered' = second.few_entered in
    let both = first.entered_tried in
    let looked = first.few_looked in
    record {
      few_tried =
          omega (arith, min-le_left (a + a') most, tried, tried', add-mul tries tries' positions);
      entered_tried = le-min (omega (arith, min-le_left (b + b') most, both, second.entered_tried))
          (min-le_right (b + b') most);
      few_entered =
          omega
          (arith, min-le_left (b + b') most, entered, entered', add-mul places places' positions);
      few_looked = twice_cut (c + c') (b + b') most (omega (arith, looked, second.few_looked));
      none_beyond = λ lt. (
          let none = first.none_beyond lt in
          let none' = second.none_beyond lt in
          omega (arith, min-le_left (a + a') most, none, none'));
    }

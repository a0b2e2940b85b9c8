-- How many groups at least take part in every match: no more than there are places.
use Rattle.regex_lite_engine.proofs.Common.{◌≡◌, ℕ, zero, suc, ◌+◌, ◌-◌, ◌*◌, ◌^◌, ◌<◌, ◌≤◌, Bool}
use Rattle.regex_lite_engine.proofs.Common.{true, false, IfSome, if◌then◌else◌, nat_lt, ◌==◌, Some}
use Rattle.regex_lite_engine.proofs.Common.{None, Option, refl, arith, suc-mul, nat_tests, Tree}
use Rattle.regex_lite_engine.proofs.Common.{empty, character, class, look, repetition, capture}
use Rattle.regex_lite_engine.proofs.Common.{concat, alternation, Trees, none, more, nullable, sum}
use Rattle.regex_lite_engine.proofs.Common.{copies, own_places, places, places_in}
use Rattle.regex_lite_syntax.specs.Tree.Properties.{common, in_passes, in_32_bits}
use Rattle.regex_lite_syntax.specs.Tree.Properties.{static_groups, static_sum, static_common}

-- at most this many, where it is known
abbrev pub Few : Option ℕ → ℕ → Type 0
Few groups most = IfSome groups (λ n. n ≤ most)

few_more : (groups : Option ℕ) (m n : ℕ) → m ≤ n → Few groups m → Few groups n
few_more None m n le few = tt
few_more (Some k) m n le few = omega arith

few_sum : (a b : Option ℕ) (m n : ℕ) → Few a m → Few b n → Few (sum a b) (m + n)
few_sum None b m n few_a few_b = tt
few_sum (Some a) None m n few_a few_b = tt
few_sum (Some a) (Some b) m n few_a few_b = omega arith

few_if : (same : Bool) (a m : ℕ) → a ≤ m → Few (if same then Some a else None) m
few_if true a m few = few
few_if false a m few = tt

few_common : (a b : Option ℕ) (m : ℕ) → Few a m → Few (common a b) m
few_common None b m few = tt
few_common (Some a) None m few = tt
few_common (Some a) (Some b) m few = few_if (a == b) a m few

one_copy : (n b own : ℕ) → 0 < n → b ≤ n * b + own
one_copy zero b own some = absurd (omega arith)
one_copy (suc n) b own some = omega (arith, suc-mul n b)

few_passes : (least : ℕ) (most : Option ℕ) (nullable_body : Bool) (groups : Option ℕ) (b : ℕ)
    → Few groups b
    → Few (in_passes least groups) (copies least most * b + own_places least most nullable_body)
few_passes zero most nullable_body None b few = tt
few_passes zero most nullable_body (Some zero) b few = omega arith
few_passes zero most nullable_body (Some (suc n)) b few = tt
few_passes (suc n) None nullable_body groups b few =
    few_more groups b (suc n * b + 1) (one_copy (suc n) b 1 (omega arith)) few
few_passes (suc n) (Some most) nullable_body groups b few =
    let own = own_places (suc n) (Some most) nullable_body in
    let times = suc n + (most - suc n) in
    few_more groups b (times * b + own) (one_copy times b own (omega arith)) few

mutual
  static_few : (tree : Tree) → Few (static_groups tree) (places tree)
  static_few empty = omega arith
  static_few (character c) = omega arith
  static_few (class ranges) = omega arith
  static_few (look test) = omega arith
  static_few (repetition least most greedy body) =
      few_passes least most (nullable body) (static_groups body) (places body) (static_few body)
  static_few (capture index name body) =
      few_more (sum (Some 1) (static_groups body)) (1 + places body) (places body + 2) (omega arith)
      (few_sum (Some 1) (static_groups body) 1 (places body) (omega arith) (static_few body))
  static_few (concat parts) = static_sum_few parts
  static_few (alternation branches) =
      few_more (static_common branches) (places_in branches) (places_in branches + 2) (omega arith)
      (static_common_few branches)

  static_sum_few : (parts : Trees) → Few (static_sum parts) (places_in parts)
  static_sum_few none = omega arith
  static_sum_few (more a rest) =
      few_sum (static_groups a) (static_sum rest) (places a) (places_in rest) (static_few a)
      (static_sum_few rest)

  static_common_few : (branches : Trees) → Few (static_common branches) (places_in branches)
  static_common_few none = omega arith
  static_common_few (more a none) =
      few_more (static_groups a) (places a) (places a + 0) (omega arith) (static_few a)
  static_common_few (more a (more b rest)) =
      let groups = common (static_groups a) (static_common (more b rest)) in
      let here =
      few_common (static_groups a) (static_common (more b rest)) (places a) (static_few a) in
      few_more groups (places a) (places a + places_in (more b rest)) (omega arith) here

held : (groups : Option ℕ) (most : ℕ) → Few groups most → most < 2 ^ 32 → in_32_bits groups ≡ groups
held None most few less = refl
held (Some n) most few less =
    let small : nat_lt n (2 ^ 32) ≡ true = grind (arith, nat_tests) in rw small refl

-- 32 bits hold it, where they hold the number of the places
pub static_held : (tree : Tree) → places tree < 2 ^ 32
    → in_32_bits (static_groups tree) ≡ static_groups tree
static_held tree less = held (static_groups tree) (places tree) (static_few tree) less

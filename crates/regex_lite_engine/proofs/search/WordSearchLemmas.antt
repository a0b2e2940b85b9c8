-- What a search by words counts.
use Rattle.regex_lite_engine.proofs.Common.{◌≡◌, ℕ, ◌+◌, ◌*◌, ◌<◌, ◌≤◌, ap, arith, characters_left}
use Rattle.regex_lite_engine.proofs.Common.{length, mul-le-mul_left, StepCounts, Text, IsBoundedBy}

-- one try and one entry are allowed
pub one_entry : (places tries : ℕ) (haystack : Text) (s : ℕ) (steps : StepCounts) → 0 < places
    → 0 < tries → s ≤ length haystack → steps ≡ record { tried = 1; entered = 1; looked = 0 }
    → IsBoundedBy places tries haystack s steps.tried steps.entered steps.looked
one_entry places tries haystack s steps some any inside counted =
    let once : steps.tried ≡ 1 = ap (λ (x : StepCounts). x.tried) counted in
    let one : steps.entered ≡ 1 = ap (λ (x : StepCounts). x.entered) counted in
    let none : steps.looked ≡ 0 = ap (λ (x : StepCounts). x.looked) counted in
    let left : 1 ≤ characters_left haystack s + 1 = omega arith in
    let more : tries * 1 ≤ tries * (characters_left haystack s + 1) = mul-le-mul_left tries left in
    let entries : places * 1 ≤ places * (characters_left haystack s + 1)
    = mul-le-mul_left places left in
    record {
      few_tried = omega (arith, once, more, any);
      entered_tried = omega (arith, once, one);
      few_entered = omega (arith, one, entries, some);
      few_looked = omega (arith, none);
      none_beyond = λ beyond. absurd (omega (arith, beyond, inside));
    }

pub entered : (steps : StepCounts) → steps ≡ record { tried = 1; entered = 1; looked = 0 }
    → 0 < steps.entered
entered steps counted =
    let one : steps.entered ≡ 1 = ap (λ (x : StepCounts). x.entered) counted in omega (arith, one)

-- Pairs of a place and an offset, and their numbers.
use Rattle.regex_lite_engine.proofs.Common.{◌≡◌, ℕ, ◌-◌, ◌<◌, ◌≤◌, false, ◌⊎◌, replicate}
use Rattle.regex_lite_engine.proofs.Common.{slice_index_or, ap, ◌∙◌, inl, inr, arith}
use Rattle.regex_lite_engine.proofs.Common.{cases_lt, get_or-replicate, get_or_past}
use Rattle.regex_lite_engine.proofs.Common.{length-replicate, Pairs, pair_number, was_entered}
use Rattle.std.proofs.lemmas.Nat.{same_from_place}

-- one pair only has the number
pub same_pair : (places first q at r to : ℕ) → q < places → r < places → first ≤ at → first ≤ to
    → pair_number places first q at ≡ pair_number places first r to → (q ≡ r) × (at ≡ to)
same_pair places first q at r to q_inside r_inside at_low to_low e =
    let same = same_from_place (at - first) q (to - first) r places q_inside r_inside e in
    (same.1, omega (arith, same.0, at_low, to_low))

-- none was entered
pub none_entered : (pairs : Pairs) (n : ℕ) → pairs.entered ≡ replicate n false → (q at : ℕ)
    → was_entered pairs q at ≡ false
none_entered pairs n none q at =
    ap (λ z. slice_index_or z k false) none ∙ by_size (cases_lt k n)
  where
    k : ℕ
    k = pair_number pairs.places pairs.first q at

    by_size : (k < n) ⊎ (n ≤ k) → slice_index_or (replicate n false) k false ≡ false
    by_size (inl lt) = get_or-replicate n k false false lt
    by_size (inr le) =
        get_or_past (replicate n false) k false (omega (arith, le, length-replicate n false))

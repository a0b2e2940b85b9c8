-- The only start of a search for one pattern.
use Rattle.regex_lite_engine.proofs.Common.{◌≡◌, ℕ, zero, suc, ◌<◌, ◌≤◌, Bool, true, false, List}
use Rattle.regex_lite_engine.proofs.Common.{[], ◌∷◌, length, if◌then◌else◌, slice_get, Some, sym}
use Rattle.regex_lite_engine.proofs.Common.{refl, subst, inl, inr, arith, Text, IsEntry, IsDeadAt}
use Rattle.regex_lite_engine.proofs.Common.{AreDeadAt, AreStartsAt, Start}
use Rattle.std.specs.List.{All}
use Rattle.regex_lite_engine.specs.Graph.Places.{Place}
use Rattle.regex_lite_syntax.proofs.OptionLemmas.{same_some}

pub one_inside : (n : ℕ) (start : Start) (may : Bool) → start.place < n
    → All (λ start. start.place < n) (if may then start ∷ [] else [])
one_inside n start false inside k d lt = absurd (omega (arith, lt))
one_inside n start true inside zero d lt = inside
one_inside n start true inside (suc k) d lt = absurd (omega (arith, lt))

pub one_at_most : (start : Start) (may : Bool) → length (if may then start ∷ [] else []) ≤ 1
one_at_most start false = omega arith
one_at_most start true = omega arith

pub only_entry : (s number entry : ℕ) → IsEntry (s ∷ []) number entry → (number ≡ 0) × (s ≡ entry)
only_entry s zero entry e = (refl, same_some e)
only_entry s (suc number) entry e = absurd (none_there number e)
  where
    none_there : (k : ℕ) → slice_get {X = ℕ} [] k ≡ Some entry → ⊥
    none_there k e = cc

-- of one pattern
pub one_starts : (table : List (Place ℕ)) (h : Text) (s p : ℕ) (may : Bool)
    → (may ≡ false → IsDeadAt table h s p)
    → AreStartsAt table h (s ∷ []) p (if may then record { number = 0; place = s } ∷ [] else [])
one_starts table h s p true dead = record {
  in_order = (omega arith, refl, tt);
  each = λ number entry is. (let e = only_entry s number entry is in inl (inl (e.0, sym e.1)));
}
one_starts table h s p false dead = record {
  in_order = tt;
  each = λ number entry is.
      inr (subst (λ z. IsDeadAt table h z p) (only_entry s number entry is).1 (dead refl));
}

-- with one pattern, all are dead where it is
pub one_dead : (table : List (Place ℕ)) (h : Text) (s p : ℕ) → IsDeadAt table h s p
    → AreDeadAt table h (s ∷ []) p
one_dead table h s p dead number entry is =
    subst (λ z. IsDeadAt table h z p) (only_entry s number entry is).1 dead

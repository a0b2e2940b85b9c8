-- Rows of slots, and the marks that they hold.
use Rattle.regex_lite_engine.proofs.Common.{◌≡◌, ℕ, zero, suc, ◌≤◌, Bool, true, false, ◌⊎◌, List}
use Rattle.regex_lite_engine.proofs.Common.{[], ◌∷◌, ◌++◌, length, set, replicate, if◌then◌else◌}
use Rattle.regex_lite_engine.proofs.Common.{◌==◌, slice_get, Some, None, Option, option_map, sym}
use Rattle.regex_lite_engine.proofs.Common.{refl, ap, ◌∙◌, inl, inr, arith, rules, nat_tests}
use Rattle.regex_lite_engine.proofs.Common.{slice_get_within, option_or, Text, step, Leads, Marks}
use Rattle.regex_lite_engine.proofs.Common.{marked, over, mark_of, marks_along, offset, HasSlots}
use Rattle.regex_lite_engine.proofs.Common.{Row, IsBlank}
use Rattle.regex_lite_engine.specs.Graph.Places.{Place}
use Rattle.regex_lite_engine.proofs.laws.list.EntryLemmas.{either_assoc}
use Rattle.regex_lite_syntax.proofs.OptionLemmas.{not_there, same_some}

-- an element of a list in which one was set
got_after_set : {X : Type 0} (row : List X) (s k : ℕ) (y o : X) → slice_get (set row s y) k ≡ Some o
    → ((k ≡ s) × (o ≡ y)) ⊎ ((k ≡ s → ⊥) × (slice_get row k ≡ Some o))
got_after_set [] s k y o e = absurd (not_there e)
got_after_set (x ∷ row) zero zero y o e = inl (refl, sym (same_some e))
got_after_set (x ∷ row) zero (suc k) y o e = inr ((λ d. omega (arith, d)), e)
got_after_set (x ∷ row) (suc s) zero y o e = inr ((λ d. omega (arith, d)), e)
got_after_set (x ∷ row) (suc s) (suc k) y o e = further (got_after_set row s k y o e)
  where
    further : ((k ≡ s) × (o ≡ y)) ⊎ ((k ≡ s → ⊥) × (slice_get row k ≡ Some o))
        → ((suc k ≡ suc s) × (o ≡ y)) ⊎ ((suc k ≡ suc s → ⊥) × (slice_get row k ≡ Some o))
    further (inl (d, f)) = inl (ap suc d, f)
    further (inr (d, f)) = inr ((λ d'. d (omega (arith, d'))), f)

marked_here : (slot p : ℕ) → marked (Some slot) p slot ≡ Some p
marked_here slot p = tested (slot == slot) (search (rules, nat_tests))
  where
    tested : (b : Bool) → b ≡ true → (if b then Some p else None) ≡ Some p
    tested true e = refl
    tested false e = cc

marked_other : (slot p k : ℕ) → (k ≡ slot → ⊥) → marked (Some slot) p k ≡ None
marked_other slot p k d = tested (slot == k) (grind (arith, nat_tests))
  where
    tested : (b : Bool) → b ≡ false → (if b then Some p else None) ≡ None
    tested true e = cc
    tested false e = refl

-- marks that are the same for each slot
pub same_slots : (haystack : Text) (row : Row) (marks others : Marks)
    → ((k : ℕ) → marks k ≡ others k) → HasSlots haystack row marks → HasSlots haystack row others
same_slots haystack row marks others same has k o e =
    has k o e ∙ ap (option_map (offset haystack)) (same k)

-- the slot is set
pub slots_set : (haystack : Text) (row : Row) (marks : Marks) (slot p : ℕ)
    → HasSlots haystack row marks
    → HasSlots haystack (set row slot (Some (offset haystack p)))
    (over (marked (Some slot) p) marks)
slots_set haystack row marks slot p has k o e =
    by_case (got_after_set row slot k (Some (offset haystack p)) o e)
  where
    by_case : ((k ≡ slot) × (o ≡ Some (offset haystack p)))
        ⊎ ((k ≡ slot → ⊥) × (slice_get row k ≡ Some o))
        → o ≡ option_map (offset haystack) (over (marked (Some slot) p) marks k)
    by_case (inl (d, f)) =
        f ∙ sym (ap (λ z. option_map (offset haystack) (option_or z (marks k)))
        (ap (marked (Some slot) p) d ∙ marked_here slot p))
    by_case (inr (d, f)) =
        has k o f
        ∙ sym
        (ap (λ z. option_map (offset haystack) (option_or z (marks k))) (marked_other slot p k d))

-- a slot after the row
pub slots_past : (haystack : Text) (row : Row) (marks : Marks) (slot p : ℕ) → length row ≤ slot
    → HasSlots haystack row marks → HasSlots haystack row (over (marked (Some slot) p) marks)
slots_past haystack row marks slot p past has k o e =
    let inside = slice_get_within row k o e in
    has k o e ∙ sym (ap (λ z. option_map (offset haystack) (option_or z (marks k)))
    (marked_other slot p k (λ d. omega (arith, d, past, inside))))

-- the last arrow marks over the others
pub marks_append : (haystack : Text) (place : ℕ → Place ℕ) (ks : List ℕ) (n m : ℕ × ℕ) (a k : ℕ)
    → Leads (ℕ × ℕ) (step haystack place) n ks m
    → marks_along haystack place (Some n) (ks ++ a ∷ []) k
    ≡ over (marked (mark_of (place m.0) a) m.1) (marks_along haystack place (Some n) ks) k
marks_append haystack place [] n m a k e =
    alone (marked (mark_of (place n.0) a) n.1 k) (nothing (step haystack place n a))
    ∙ ap (λ (z : ℕ × ℕ). option_or (marked (mark_of (place z.0) a) z.1 k) None) e
  where
    nothing : (o : Option (ℕ × ℕ)) → marks_along haystack place o [] k ≡ None
    nothing o = refl

    alone : (x : Option ℕ) → {y : Option ℕ} → y ≡ None → option_or y x ≡ option_or x None
    alone None {y} e = ap (λ z. option_or z None) e
    alone (Some v) {y} e = ap (λ z. option_or z (Some v)) e
marks_append haystack place (j ∷ ks) n m a k (l, s, rest) =
    ap (λ o. option_or (marks_along haystack place o (ks ++ a ∷ []) k)
    (marked (mark_of (place n.0) j) n.1 k)) s
    ∙ ap (λ z. option_or z (marked (mark_of (place n.0) j) n.1 k))
    (marks_append haystack place ks l m a k rest)
    ∙ either_assoc (marked (mark_of (place m.0) a) m.1 k) (marks_along haystack place (Some l) ks k)
    (marked (mark_of (place n.0) j) n.1 k)
    ∙ ap (λ o. option_or (marked (mark_of (place m.0) a) m.1 k)
    (option_or (marks_along haystack place o ks k) (marked (mark_of (place n.0) j) n.1 k))) (sym s)

-- a row without marks
pub blank_row : (w : ℕ) → IsBlank (replicate w None)
blank_row zero k slot e = absurd (not_there e)
blank_row (suc w) zero slot e = sym (same_some e)
blank_row (suc w) (suc k) slot e = blank_row w k slot e

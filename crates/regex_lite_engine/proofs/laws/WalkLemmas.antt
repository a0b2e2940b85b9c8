-- Walks in a graph of places: arrows that lead from one place and position to another.
use Rattle.regex_lite_engine.proofs.Common.{◌≡◌, ℕ, suc, Bool, true, false, List, [], ◌∷◌, ◌++◌}
use Rattle.regex_lite_engine.proofs.Common.{if◌then◌else◌, IsTrue, Some, None, Option, sym, refl}
use Rattle.regex_lite_engine.proofs.Common.{ap, ◌∙◌, Set, Text, with_arrows, read_past, go, choice}
use Rattle.regex_lite_engine.proofs.Common.{step_from, step, Leads}
use Rattle.regex_lite_engine.specs.Graph.Places.{Place}
use Rattle.regex_lite_engine.proofs.laws.LeadsLemmas.{leads_append}
use Rattle.regex_lite_syntax.proofs.OptionLemmas.{same_some}

pub record Walk (haystack : Text) {A : Type 0} (place : A → Place A) (a : A) (i : ℕ) (b : A) (j : ℕ)
    : Type 0 where
  pub arrows : List ℕ
  pub along : Leads (A × ℕ) (step haystack place) (a, i) arrows (b, j)

module _ {haystack : Text} {A : Type 0} {place : A → Place A} where
  pub walk_on : {a b c : A} {i j k : ℕ} → Walk haystack place a i b j → Walk haystack place b j c k
      → Walk haystack place a i c k
  walk_on {a} {b} {c} {i} {j} {k} first second =
      let go_along = leads_append (step haystack place) first.arrows second.arrows in
      record {
        arrows = first.arrows ++ second.arrows;
        along = go_along (a, i) (b, j) (c, k) first.along second.along;
      }

  pub no_arrow : {a b : A} {i j : ℕ} → a ≡ b → i ≡ j → Walk haystack place a i b j
  no_arrow e f = record { arrows = []; along = cc (e, f) }

  -- arrow k of the place
  pub one_arrow : {a b : A} {i j : ℕ} (k : ℕ) (at : Place A) → place a ≡ at
      → step_from haystack at i k ≡ Some (b, j) → Walk haystack place a i b j
  one_arrow {b = b} {i} {j} k at e s = record {
    arrows = k ∷ [];
    along = ((b, j), ap (λ p. step_from haystack p i k) e ∙ s, refl);
  }

  -- the free arrow of a place that has but one
  pub by_go : {a b : A} {i : ℕ} → place a ≡ with_arrows (go b ∷ []) → Walk haystack place a i b i
  by_go {b = b} e = one_arrow 0 (with_arrows (go b ∷ [])) e refl

  pub into_body : {a : A} {i : ℕ} (greedy : Bool) (body other : A)
      → place a ≡ choice greedy body other → Walk haystack place a i body i
  into_body true body other e = one_arrow 0 (choice true body other) e refl
  into_body false body other e = one_arrow 1 (choice false body other) e refl

  pub past_body : {a : A} {i : ℕ} (greedy : Bool) (body other : A)
      → place a ≡ choice greedy body other → Walk haystack place a i other i
  past_body true body other e = one_arrow 1 (choice true body other) e refl
  past_body false body other e = one_arrow 0 (choice false body other) e refl

-- a position is there if the test holds
pub if_test : (test : Bool) (i j : ℕ) → (if test then Some i else None) ≡ Some j
    → IsTrue test × (i ≡ j)
if_test true i j e = (refl, same_some e)
if_test false i j e = absurd cc

pub was_read : (set : Set) (i j : ℕ) (next : Option ℕ) → read_past set i next ≡ Some j
    → (c : ℕ) × (next ≡ Some c) × IsTrue (set c) × (j ≡ suc i)
was_read set i j None e = absurd cc
was_read set i j (Some c) e =
    let test = if_test (set c) (suc i) j e in
    (c, refl, test.0, sym test.1)

-- Two haystacks on which the same steps lead up to a position: the ways that end there or before
-- are the same on both, and so is what these mark.
use Rattle.regex_lite_engine.proofs.Common.{◌≡◌, ℕ, zero, suc, ◌<◌, ◌≤◌, Bool, true, false}
use Rattle.regex_lite_engine.proofs.Common.{List, [], ◌∷◌, ◌++◌, take, Some, None, Option}
use Rattle.regex_lite_engine.proofs.Common.{if◌then◌else◌, slice_get, sym, refl, ap, ◌∙◌, subst}
use Rattle.regex_lite_engine.proofs.Common.{arith, Text, after, holds_between, Condition}
use Rattle.regex_lite_engine.proofs.Common.{free, holding, reading, Arrow, complete, with_arrows}
use Rattle.regex_lite_engine.proofs.Common.{read_past, taken, arrived, arrow_taken, step_from, step}
use Rattle.regex_lite_engine.proofs.Common.{Leads, IsWay, marked, over, mark_of, marks_along}
use Rattle.std.proofs.Common.{le_trans}
use Rattle.regex_lite_syntax.specs.Text.{before}
use Rattle.regex_lite_engine.specs.Graph.Places.{Place}
use Rattle.regex_lite_syntax.proofs.OptionLemmas.{same_some}
use Rattle.regex_lite_engine.proofs.laws.LeadsLemmas.{leads_split, leads_to_one}
use Rattle.regex_lite_engine.proofs.laws.WalkLemmas.{was_read}

pub arrived_at : {A : Type 0} (a b : A) (o : Option ℕ) (i : ℕ) → arrived a o ≡ Some (b, i)
    → (a ≡ b) × (o ≡ Some i)
arrived_at a b None i e = absurd cc
arrived_at {A} a b (Some j) i e =
    let same : (a, j) ≡ (b, i) = same_some e in
    (ap (λ p. p.0) same, ap (λ (p : A × ℕ). Some p.1) same)

-- no step leads back
taken_onward : (haystack : Text) (condition : Condition) (i j : ℕ)
    → taken haystack condition i ≡ Some j → i ≤ j
taken_onward haystack free i j s = let same : i ≡ j = same_some s in omega (arith, same)
taken_onward haystack (holding test) i j s =
    by_test (holds_between test (before haystack i) (after haystack i)) s
  where
    by_test : (test : Bool) → (if test then Some i else None) ≡ Some j → i ≤ j
    by_test true f = let same : i ≡ j = same_some f in omega (arith, same)
    by_test false f = absurd cc
taken_onward haystack (reading set) i j s =
    let read = was_read set i j (after haystack i) s in omega (arith, read.3)

module _ {A : Type 0} (haystack : Text) where
  arrow_onward : (arrow : Option (Arrow A)) (i : ℕ) (next : A × ℕ)
      → arrow_taken haystack i arrow ≡ Some next → i ≤ next.1
  arrow_onward None i next s = absurd cc
  arrow_onward (Some arrow) i next s =
      let at = arrived_at arrow.to next.0 (taken haystack arrow.condition i) next.1 s in
      taken_onward haystack arrow.condition i next.1 at.1

  place_onward : (place : Place A) (i k : ℕ) (next : A × ℕ)
      → step_from haystack place i k ≡ Some next → i ≤ next.1
  place_onward complete i k next s = absurd cc
  place_onward (with_arrows arrows) i k next s = arrow_onward (slice_get arrows k) i next s

module _ {A : Type 0} (place : A → Place A) where
  pub leads_onward : (haystack : Text) (ks : List ℕ) (n m : A × ℕ)
      → Leads (A × ℕ) (step haystack place) n ks m → n.1 ≤ m.1
  leads_onward haystack [] n m e = omega (arith, ap (λ (p : A × ℕ). p.1) e)
  leads_onward haystack (k ∷ ks) n m (next, s, along) =
      le_trans (place_onward haystack (place n.0) n.1 k next s)
      (leads_onward haystack ks next m along)

  -- each step on the first haystack that ends there or before is one on the second
  abbrev pub StepsAlike : (one other : Text) (end : ℕ) → Type 0
  StepsAlike one other end =
      (n m : A × ℕ) (k : ℕ) → m.1 ≤ end → step one place n k ≡ Some m
      → step other place n k ≡ Some m

  module _ (one other : Text) (end : ℕ) (alike : StepsAlike one other end) where
    pub leads_alike : (ks : List ℕ) (n m : A × ℕ) → m.1 ≤ end
        → Leads (A × ℕ) (step one place) n ks m → Leads (A × ℕ) (step other place) n ks m
    leads_alike [] n m low e = e
    leads_alike (k ∷ ks) n m low (next, s, along) = (
      next,
      alike n next k (le_trans (leads_onward one ks next m along) low) s,
      leads_alike ks next m low along,
    )

    pub marks_alike : (ks : List ℕ) (n m : A × ℕ) → m.1 ≤ end
        → Leads (A × ℕ) (step one place) n ks m
        → marks_along one place (Some n) ks ≡ marks_along other place (Some n) ks
    marks_alike [] n m low e = refl
    marks_alike (k ∷ ks) n m low (next, s, along) =
        let here = marked (mark_of (place n.0) k) n.1 in
        let there = alike n next k (le_trans (leads_onward one ks next m along) low) s in
        ap (λ o. over (marks_along one place o ks) here) s
        ∙ ap (λ z. over z here) (marks_alike ks next m low along)
        ∙ ap (λ o. over (marks_along other place o ks) here) (sym there)

  pub way_alike : (one other : Text) (end : ℕ) → StepsAlike one other end
      → StepsAlike other one end → (ks : List ℕ) (n m : A × ℕ) → m.1 ≤ end
      → IsWay (A × ℕ) (step one place) n ks m → IsWay (A × ℕ) (step other place) n ks m
  way_alike one other end to back ks n m low (along, once) = (
    there,
    λ us vs ws l e f g.
        let all = subst (λ z. Leads (A × ℕ) (step other place) n z m) e there in
        let first = leads_split (step other place) us (vs ++ ws) n m all in
        let at : first.0 ≡ l = leads_to_one (step other place) us n first.0 l first.1 f in
        let rest = subst (λ z. Leads (A × ℕ) (step other place) z (vs ++ ws) m) at first.2 in
        let before_end = le_trans (leads_onward other (vs ++ ws) l m rest) low in
        once us vs ws l e (leads_alike other one end back us n l before_end f)
        (leads_alike other one end back vs l l before_end g),
  )
    where
      there : Leads (A × ℕ) (step other place) n ks m
      there = leads_alike one other end to ks n m low along

-- up to there the characters are the same
pub after_kept : (haystack : Text) (end i : ℕ) → i < end
    → after (take end haystack) i ≡ after haystack i
after_kept haystack zero i less = absurd (omega (arith, less))
after_kept [] (suc end) i less = refl
after_kept (c ∷ haystack) (suc end) zero less = refl
after_kept (c ∷ haystack) (suc end) (suc i) less = after_kept haystack end i (omega (arith, less))

-- A haystack that is cut off after the character at a position. What a step sees there or before
-- is the same: a look sees the characters beside its position, and a set the next one
module _ (haystack : Text) (end : ℕ) where
  abbrev pub seen : Text
  seen = take (suc end) haystack

  before_kept : (i : ℕ) → i ≤ end → before seen i ≡ before haystack i
  before_kept zero low = refl
  before_kept (suc i) low = after_kept haystack (suc end) i (omega (arith, low))

  taken_kept : (condition : Condition) (i : ℕ) → i ≤ end
      → taken seen condition i ≡ taken haystack condition i
  taken_kept free i low = refl
  taken_kept (holding test) i low =
      ap (λ c. if holds_between test c (after seen i) then Some i else None) (before_kept i low)
      ∙ ap (λ c. if holds_between test (before haystack i) c then Some i else None)
      (after_kept haystack (suc end) i (omega (arith, low)))
  taken_kept (reading set) i low =
      ap (read_past set i) (after_kept haystack (suc end) i (omega (arith, low)))

  module _ {A : Type 0} where
    arrow_kept : (arrow : Option (Arrow A)) (i : ℕ) → i ≤ end
        → arrow_taken seen i arrow ≡ arrow_taken haystack i arrow
    arrow_kept None i low = refl
    arrow_kept (Some arrow) i low = ap (arrived arrow.to) (taken_kept arrow.condition i low)

    place_kept : (place : Place A) (i k : ℕ) → i ≤ end
        → step_from seen place i k ≡ step_from haystack place i k
    place_kept complete i k low = refl
    place_kept (with_arrows arrows) i k low = arrow_kept (slice_get arrows k) i low

    pub seen_in_whole : (place : A → Place A) → StepsAlike place seen haystack end
    seen_in_whole place n m k low s =
        let at = le_trans (place_onward seen (place n.0) n.1 k m s) low in
        sym (place_kept (place n.0) n.1 k at) ∙ s

    pub whole_in_seen : (place : A → Place A) → StepsAlike place haystack seen end
    whole_in_seen place n m k low s =
        let at = le_trans (place_onward haystack (place n.0) n.1 k m s) low in
        place_kept (place n.0) n.1 k at ∙ s

-- Preference is total on ways.
use Rattle.regex_lite_engine.proofs.Common.{◌≡◌, ℕ, ◌<◌, ◌⊎◌, List, [], ◌∷◌, ◌++◌, Some, None}
use Rattle.regex_lite_engine.proofs.Common.{Option, sym, refl, ap, ◌∙◌, subst, inl, inr, arith}
use Rattle.regex_lite_engine.proofs.Common.{cases_order, Text, Tree, complete, step_from, step}
use Rattle.regex_lite_engine.proofs.Common.{Leads, start_address, place_of_pattern, IsWayThrough}
use Rattle.regex_lite_engine.proofs.Common.{IsPreferred}
use Rattle.regex_lite_engine.specs.Graph.Places.{Place}
use Rattle.regex_lite_engine.specs.SearchLaws.{IsEarlier}
use Rattle.regex_lite_syntax.proofs.OptionLemmas.{same_some}

-- not each before the other
pub not_both : (a b : List ℕ) → IsPreferred a b → IsPreferred b a → ⊥
not_both [] b p q = p
not_both (k ∷ a) [] p q = p
not_both (k ∷ a) (l ∷ b) (inl p) (inl q) = absurd (omega (arith, p, q))
not_both (k ∷ a) (l ∷ b) (inl p) (inr q) = absurd (omega (arith, p, q.0))
not_both (k ∷ a) (l ∷ b) (inr p) (inl q) = absurd (omega (arith, p.0, q))
not_both (k ∷ a) (l ∷ b) (inr p) (inr q) = not_both a b p.1 q.1

-- two ways that are each most preferred are one
pub one_best : (a b : List ℕ) → (a ≡ b) ⊎ IsPreferred a b → (b ≡ a) ⊎ IsPreferred b a → a ≡ b
one_best a b (inl e) q = e
one_best a b (inr p) (inl e) = sym e
one_best a b (inr p) (inr q) = absurd (not_both a b p q)

abbrev pub Compared : (a b : List ℕ) → Type 0
Compared a b = (a ≡ b) ⊎ (IsPreferred a b ⊎ IsPreferred b a)

module _ {A : Type 0} (haystack : Text) (place : A → Place A) (end : A)
    (final : place end ≡ complete) where
  stays : (i k : ℕ) (next : A × ℕ) → step haystack place (end, i) k ≡ Some next → ⊥
  stays i k next s =
      let none : None ≡ Some next = subst (λ p. step_from haystack p i k ≡ Some next) final s in
      cc

  no_more : (n next : A × ℕ) (i k : ℕ) → n ≡ (end, i) → step haystack place n k ≡ Some next → ⊥
  no_more n next i k e s =
      stays i k next (subst (λ p. step haystack place p k ≡ Some next) e s)

  pub compared : (a b : List ℕ) (n : A × ℕ) (i j : ℕ)
      → Leads (A × ℕ) (step haystack place) n a (end, i)
      → Leads (A × ℕ) (step haystack place) n b (end, j) → Compared a b
  compared [] [] n i j p q = inl refl
  compared [] (l ∷ b) n i j p (next, s, q) = absurd (no_more n next i l p s)
  compared (k ∷ a) [] n i j (next, s, p) q = absurd (no_more n next j k q s)
  compared (k ∷ a) (l ∷ b) n i j (next, s, p) (other, t, q) = elim (cases_order k l) [
    | inl e ↦ same e (
        let one : other ≡ next = same_some (sym t ∙ ap (step haystack place n) (sym e) ∙ s) in
        compared a b next i j p
        (subst (λ z. Leads (A × ℕ) (step haystack place) z b (end, j)) one q))
    | inr order ↦ elim order [
      | inl less ↦ inr (inl (inl less))
      | inr greater ↦ inr (inr (inl greater))
    ]
  ]
    where
      same : k ≡ l → Compared a b → Compared (k ∷ a) (l ∷ b)
      same e (inl f) = inl (λ t. e t ∷ f t)
      same e (inr (inl before)) = inr (inl (inr (e, before)))
      same e (inr (inr before)) = inr (inr (inr (sym e, before)))

pub total : (tree : Tree) (haystack : Text) (i j k : ℕ) (way other : List ℕ)
    → IsWayThrough tree haystack i way j → IsWayThrough tree haystack i other k
    → Compared way other
total tree haystack i j k way other p q =
    compared haystack (place_of_pattern tree) (0 ∷ []) refl way other (start_address, i) j k p.0 q.0

record Differ {N : Type 0} (step : N → ℕ → Option N) (n : N) (way other : List ℕ) : Type 0 where
  shared : List ℕ
  place : N
  there : Leads N step n shared place
  arrow : ℕ
  later_arrow : ℕ
  earlier : arrow < later_arrow
  rest : List ℕ
  other_rest : List ℕ
  is_way : way ≡ shared ++ arrow ∷ rest
  is_other : other ≡ shared ++ later_arrow ∷ other_rest

differ : {N : Type 0} (step : N → ℕ → Option N) (way other : List ℕ) (n end : N)
    → Leads N step n way end → IsPreferred way other → Differ step n way other
differ step [] other n end along before = absurd before
differ step (k ∷ way) [] n end along before = absurd before
differ step (k ∷ way) (l ∷ other) n end along (inl less) = record {
  shared = [];
  place = n;
  there = refl;
  arrow = k;
  later_arrow = l;
  earlier = less;
  rest = way;
  other_rest = other;
  is_way = refl;
  is_other = refl;
}
differ step (k ∷ way) (l ∷ other) n end (next, s, along) (inr (e, before)) =
    let later = differ step way other next end along before in
    record {
      shared = k ∷ later.shared;
      place = later.place;
      there = (next, s, later.there);
      arrow = later.arrow;
      later_arrow = later.later_arrow;
      earlier = later.earlier;
      rest = later.rest;
      other_rest = later.other_rest;
      is_way = ap (λ z. k ∷ z) later.is_way;
      is_other = (λ t. sym e t ∷ later.is_other t);
    }

pub is_earlier : (tree : Tree) (haystack : Text) (i j : ℕ) (way other : List ℕ)
    → IsWayThrough tree haystack i way j → IsPreferred way other
    → IsEarlier tree haystack i way other
is_earlier tree haystack i j way other is before =
    let d = differ (step haystack (place_of_pattern tree)) way other (start_address, i) (0 ∷ [], j)
    is.0 before in
    record {
      shared = d.shared;
      place = d.place;
      there = d.there;
      arrow = d.arrow;
      later_arrow = d.later_arrow;
      earlier = d.earlier;
      rest = d.rest;
      other_rest = d.other_rest;
      is_way = d.is_way;
      is_other = d.is_other;
    }

-- with the same arrows in front
after_shared : (shared way other : List ℕ) → IsPreferred way other
    → IsPreferred (shared ++ way) (shared ++ other)
after_shared [] way other before = before
after_shared (k ∷ shared) way other before = inr (refl, after_shared shared way other before)

pub earlier_is_preferred : (tree : Tree) (haystack : Text) (i : ℕ) (way other : List ℕ)
    → IsEarlier tree haystack i way other → IsPreferred way other
earlier_is_preferred tree haystack i way other is =
    let first : IsPreferred (is.arrow ∷ is.rest) (is.later_arrow ∷ is.other_rest)
    = inl is.earlier in
    let apart = after_shared is.shared (is.arrow ∷ is.rest) (is.later_arrow ∷ is.other_rest)
    first in
    subst (λ w. IsPreferred w other) (sym is.is_way)
    (subst (λ w. IsPreferred (is.shared ++ is.arrow ∷ is.rest) w) (sym is.is_other) apart)

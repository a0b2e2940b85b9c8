-- A walk through a pattern to its end goes by finitely many places and positions.
use Rattle.regex_lite_engine.proofs.Common.{◌≡◌, ℕ, zero, suc, ◌<◌, ◌≤◌, Bool, true, false, List}
use Rattle.regex_lite_engine.proofs.Common.{[], ◌∷◌, ◌++◌, length, if◌then◌else◌, slice_get, Some}
use Rattle.regex_lite_engine.proofs.Common.{None, Option, unwrap_or, sym, refl, ap, subst, inl, inr}
use Rattle.regex_lite_engine.proofs.Common.{arith, cases_eq, slice_get_within, Set, Text, after}
use Rattle.regex_lite_engine.proofs.Common.{Tree, holds_between, Address, Condition, free, holding}
use Rattle.regex_lite_engine.proofs.Common.{reading, Arrow, complete, with_arrows, read_past, taken}
use Rattle.regex_lite_engine.proofs.Common.{arrived, arrow_taken, step_from, step, Leads}
use Rattle.regex_lite_engine.proofs.Common.{end_address, start_address, written_out}
use Rattle.regex_lite_engine.proofs.Common.{place_of_pattern, IsWayThrough}
use Rattle.regex_lite_syntax.specs.Text.{before}
use Rattle.regex_lite_engine.specs.Graph.Places.{Place}
use Rattle.regex_lite_engine.proofs.InLemmas.{In, in_left, in_right}
use Rattle.regex_lite_engine.proofs.laws.LeadsLemmas.{leads_split, leads_to_one}
use Rattle.regex_lite_engine.proofs.laws.list.ReadingLemmas.{is_inside}
use Rattle.regex_lite_engine.proofs.graph.ListedAddressLemmas.{whole_addresses, listed_whole}
use Rattle.regex_lite_syntax.proofs.OptionLemmas.{same_some}

-- the pairs of an address and a position up to n
abbrev pub at_positions : Address → ℕ → List (Address × ℕ)
at_positions a zero = (a, 0) ∷ []
at_positions a (suc n) = (a, suc n) ∷ at_positions a n

abbrev pub pairs : List Address → ℕ → List (Address × ℕ)
pairs [] n = []
pairs (a ∷ list) n = at_positions a n ++ pairs list n

in_positions : (a : Address) (n j : ℕ) → j ≤ n → In (a, j) (at_positions a n)
in_positions a zero zero low = inl refl
in_positions a zero (suc j) low = absurd (omega (arith, low))
in_positions a (suc n) j low = elim (cases_eq (suc n) j) [
  | inl e ↦ inl (λ t. (a, e t))
  | inr apart ↦ inr (in_positions a n j (omega (arith, low, apart)))
]

in_pairs : (a : Address) (list : List Address) (n j : ℕ) → In a list → j ≤ n
    → In (a, j) (pairs list n)
in_pairs a [] n j is low = absurd is
in_pairs a (b ∷ list) n j (inl e) low =
    in_left (a, j) (at_positions b n) (pairs list n)
    (subst (λ z. In (a, j) (at_positions z n)) (sym e) (in_positions a n j low))
in_pairs a (b ∷ list) n j (inr is) low =
    in_right (a, j) (at_positions b n) (pairs list n) (in_pairs a list n j is low)

-- each step stays inside
read_inside : (haystack : Text) (set : Set) (i j : ℕ) (next : Option ℕ) → after haystack i ≡ next
    → read_past set i next ≡ Some j → j ≤ length haystack
read_inside haystack set i j None there e = absurd cc
read_inside haystack set i j (Some c) there e = by_test (set c) e
  where
    by_test : (test : Bool) → (if test then Some (suc i) else None) ≡ Some j → j ≤ length haystack
    by_test true f =
        let less = is_inside haystack i c there in
        let same : suc i ≡ j = same_some f in
        omega (arith, less, same)
    by_test false f = absurd cc

taken_inside : (haystack : Text) (condition : Condition) (i j : ℕ)
    → taken haystack condition i ≡ Some j → i ≤ length haystack → j ≤ length haystack
taken_inside haystack free i j e low =
    let same : i ≡ j = same_some e in omega (arith, low, same)
taken_inside haystack (holding test) i j e low =
    by_test (holds_between test (before haystack i) (after haystack i)) e
  where
    by_test : (test : Bool) → (if test then Some i else None) ≡ Some j → j ≤ length haystack
    by_test true f = let same : i ≡ j = same_some f in omega (arith, low, same)
    by_test false f = absurd cc
taken_inside haystack (reading set) i j e low =
    read_inside haystack set i j (after haystack i) refl e

arrived_inside : {A : Type 0} (haystack : Text) (a : A) (o : Option ℕ) (next : A × ℕ)
    → arrived a o ≡ Some next → ((j : ℕ) → o ≡ Some j → j ≤ length haystack)
    → next.1 ≤ length haystack
arrived_inside haystack a None next e low = absurd cc
arrived_inside haystack a (Some j) next e low =
    let same : (a, j) ≡ next = same_some e in
    subst (λ (p : _ × ℕ). p.1 ≤ length haystack) same (low j refl)

-- how many arrows the place has
abbrev pub arrows_at : {A : Type 0} → Place A → ℕ
arrows_at complete = 0
arrows_at (with_arrows arrows) = length arrows

-- an arrow that is taken is one of the place's
taken_of : {A : Type 0} (haystack : Text) (i k : ℕ) (list : List (Arrow A)) (o : Option (Arrow A))
    → slice_get list k ≡ o → (next : A × ℕ) → arrow_taken haystack i o ≡ Some next
    → k < length list
taken_of haystack i k list None e next s = absurd cc
taken_of haystack i k list (Some arrow) e next s = slice_get_within list k arrow e

pub few_arrows : {A : Type 0} (haystack : Text) (place : Place A) (i k : ℕ) (next : A × ℕ)
    → step_from haystack place i k ≡ Some next → k < arrows_at place
few_arrows haystack complete i k next s = absurd cc
few_arrows haystack (with_arrows list) i k next s =
    taken_of haystack i k list (slice_get list k) refl next s

step_inside : {A : Type 0} (haystack : Text) (place : Place A) (i k : ℕ) (next : A × ℕ)
    → step_from haystack place i k ≡ Some next → i ≤ length haystack → next.1 ≤ length haystack
step_inside haystack complete i k next s low = absurd cc
step_inside {A} haystack (with_arrows list) i k next s low = by_arrow (slice_get list k) s
  where
    by_arrow : (o : Option (Arrow A)) → arrow_taken haystack i o ≡ Some next
        → next.1 ≤ length haystack
    by_arrow None e = absurd cc
    by_arrow (Some arrow) e =
        arrived_inside haystack arrow.to (taken haystack arrow.condition i) next e
        (λ j f. taken_inside haystack arrow.condition i j f low)

pub walk_inside : {A : Type 0} (haystack : Text) (place : A → Place A) (ks : List ℕ) (n m : A × ℕ)
    → Leads (A × ℕ) (step haystack place) n ks m → n.1 ≤ length haystack
    → m.1 ≤ length haystack
walk_inside {A} haystack place [] n m e low =
    subst (λ (p : A × ℕ). p.1 ≤ length haystack) e low
walk_inside haystack place (k ∷ ks) n m (next, s, along) low =
    walk_inside haystack place ks next m along
    (step_inside haystack (place n.0) n.1 k next s low)

module _ (tree : Tree) where
  -- a place with an arrow is written out
  with_arrow : (haystack : Text) (a : Address) (i k : ℕ) (next : Address × ℕ)
      → step haystack (place_of_pattern tree) (a, i) k ≡ Some next → In a (whole_addresses tree)
  with_arrow haystack a i k next s = by_content (written_out tree a) refl s
    where
      by_content : (o : Option (Place Address)) → written_out tree a ≡ o
          → step_from haystack (unwrap_or o (with_arrows [])) i k ≡ Some next
          → In a (whole_addresses tree)
      by_content None e s = absurd (
          let less = few_arrows haystack (with_arrows []) i k next s in
          none_less k less)
        where
          none_less : (k : ℕ) → k < arrows_at {A = Address} (with_arrows []) → ⊥
          none_less k less = omega (arith, less)
      by_content (Some place) e s = listed_whole tree a place e

  module _ (haystack : Text) where
    abbrev pub walks : Address × ℕ → ℕ → Option (Address × ℕ)
    walks = step haystack (place_of_pattern tree)

    abbrev pub Way : ℕ → List ℕ → Type 0
    Way i ks = (j : ℕ) × IsWayThrough tree haystack i ks j

    abbrev pub all_pairs : List (Address × ℕ)
    all_pairs = pairs (whole_addresses tree) (length haystack)

    -- each place and position on a walk to the end is one of finitely many
    pub on_walk : (i j : ℕ) (ks us vs : List ℕ) (m : Address × ℕ) → i ≤ length haystack
        → Leads (Address × ℕ) walks (start_address, i) ks (end_address, j) → ks ≡ us ++ vs
        → Leads (Address × ℕ) walks (start_address, i) us m → In m all_pairs
    on_walk i j ks us vs m inside along e first =
        let low = walk_inside haystack (place_of_pattern tree) us (start_address, i) m first
        inside in
        let all = subst (λ z. Leads (Address × ℕ) walks (start_address, i) z (end_address, j)) e
        along in
        let parts = leads_split walks us vs (start_address, i) (end_address, j) all in
        let same = leads_to_one walks us (start_address, i) parts.0 m parts.1 first in
        let rest = subst (λ z. Leads (Address × ℕ) walks z vs (end_address, j)) same parts.2 in
        in_pairs m.0 (whole_addresses tree) (length haystack) m.1 (is_written vs rest) low
      where
        is_written : (vs : List ℕ) → Leads (Address × ℕ) walks m vs (end_address, j)
            → In m.0 (whole_addresses tree)
        is_written [] at = inl (ap (λ (p : Address × ℕ). p.0) (sym at))
        is_written (k ∷ vs) (next, s, on) = with_arrow haystack m.0 m.1 k next s

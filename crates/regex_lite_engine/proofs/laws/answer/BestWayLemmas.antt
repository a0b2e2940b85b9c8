-- From a position there is a most preferred way, if there is a way.
use Rattle.regex_lite_engine.proofs.Common.{ℕ, ◌<◌, ◌≤◌, ◌⊎◌, List, ◌∷◌, ◌++◌, length, Option, ap}
use Rattle.regex_lite_engine.proofs.Common.{subst, inl, inr, Text, Tree, Address, Leads}
use Rattle.regex_lite_engine.proofs.Common.{end_address, start_address, place_of_pattern}
use Rattle.regex_lite_engine.proofs.Common.{IsWayThrough}
use Rattle.regex_lite_engine.proofs.laws.answer.LeastLemmas.{Least, NoList, least}
use Rattle.regex_lite_engine.proofs.laws.answer.FreshLemmas.{Fresh, fresh_short, fresh_once}
use Rattle.regex_lite_engine.proofs.laws.answer.FreshLemmas.{once_fresh, fresh_or_not, leads_or_not}
use Rattle.regex_lite_engine.proofs.laws.LeadsLemmas.{leads_split, leads_to_one}
use Rattle.regex_lite_engine.proofs.laws.PatternWayLemmas.{one_or_two_addresses, one_or_two}
use Rattle.regex_lite_engine.proofs.laws.answer.OrderLemmas.{total}
use Rattle.regex_lite_engine.proofs.laws.answer.ReachLemmas.{arrows_at, few_arrows, walks}
use Rattle.regex_lite_engine.proofs.laws.answer.ReachLemmas.{Way, all_pairs, on_walk}

module _ (tree : Tree) (haystack : Text) where
  abbrev on : Address × ℕ → ℕ → Option (Address × ℕ)
  on = walks tree haystack

  abbrev all : List (Address × ℕ)
  all = all_pairs tree haystack

  abbrev WayFrom : ℕ → List ℕ → Type 0
  WayFrom = Way tree haystack

  way_fresh : (i j : ℕ) (ks : List ℕ) → i ≤ length haystack → IsWayThrough tree haystack i ks j
      → Fresh one_or_two on all (start_address, i) ks
  way_fresh i j ks inside is =
      once_fresh one_or_two on all (start_address, i) (end_address, j) ks is.0 is.1
      (λ us vs m e f. on_walk tree haystack i j ks us vs m inside is.0 e f)

  way_or_not : (i : ℕ) → i ≤ length haystack → (ks : List ℕ) → WayFrom i ks ⊎ (WayFrom i ks → ⊥)
  way_or_not i inside ks = elim (leads_or_not one_or_two on ks (start_address, i)) [
    | inr never ↦ inr (λ way. never (end_address, way.0) way.1.0)
    | inl (b, along) ↦ elim (one_or_two_addresses b.0 end_address) [
      | inr apart ↦ inr (λ way. apart (ap (λ (p : Address × ℕ). p.0)
          (leads_to_one on ks (start_address, i) b (end_address, way.0) along way.1.0)))
      | inl at_end ↦ elim (fresh_or_not one_or_two on all (start_address, i) ks) [
        | inr again ↦ inr (λ way. again (way_fresh i way.0 ks inside way.1))
        | inl fresh ↦ inl (
          b.1,
          (
            subst (λ a. Leads (Address × ℕ) on (start_address, i) ks (a, b.1)) at_end along,
            fresh_once one_or_two on all (start_address, i) ks fresh,
          ),
        )
      ]
    ]
  ]

  few_next : (i : ℕ) (us : List ℕ)
      → (d : ℕ) × ((k : ℕ) (ks : List ℕ) → WayFrom i (us ++ k ∷ ks) → k < d)
  few_next i us = elim (leads_or_not one_or_two on us (start_address, i)) [
    | inr never ↦ (
      0,
      λ k ks way. absurd (
          let parts = leads_split on us (k ∷ ks) (start_address, i) (end_address, way.0) way.1.0 in
          never parts.0 parts.1),
    )
    | inl (m, along) ↦ (
      arrows_at (place_of_pattern tree m.0),
      λ k ks way. (
          let parts = leads_split on us (k ∷ ks) (start_address, i) (end_address, way.0) way.1.0 in
          let same = leads_to_one on us (start_address, i) parts.0 m parts.1 along in
          let rest =
          subst (λ z. Leads (Address × ℕ) on z (k ∷ ks) (end_address, way.0)) same parts.2 in
          few_arrows haystack (place_of_pattern tree m.0) m.1 k rest.0 rest.1),
    )
  ]

  -- the most preferred way from a position, if there is a way
  pub best_way : (i : ℕ) → i ≤ length haystack → Least (WayFrom i) ⊎ NoList (WayFrom i)
  best_way i inside =
      least (length all) (WayFrom i) (way_or_not i inside)
      (λ ks way. fresh_short one_or_two on all (start_address, i) ks
      (way_fresh i way.0 ks inside way.1))
      (few_next i)
      (λ a b p q. total tree haystack i p.0 q.0 a b p.1 q.1)

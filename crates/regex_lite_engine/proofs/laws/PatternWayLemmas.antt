-- Matches of a pattern and ways through its written-out places.
use Rattle.regex_lite_engine.proofs.Common.{◌≡◌, ℕ, ◌≢◌, ◌⊎◌, List, [], ◌∷◌, refl, ap, inl, inr}
use Rattle.regex_lite_engine.proofs.Common.{cases_eq, Text, Tree, Matches, IsRegular, Address, step}
use Rattle.regex_lite_engine.proofs.Common.{Leads, whole, end_address, start_address}
use Rattle.regex_lite_engine.proofs.Common.{place_of_pattern, IsWayThrough, marks_of_way}
use Rattle.regex_lite_syntax.proofs.ListLemmas.{same_head, same_tail}
use Rattle.regex_lite_engine.proofs.laws.LoopLemmas.{without_loops}
use Rattle.regex_lite_engine.proofs.laws.MatchWalkLemmas.{match_walk}
use Rattle.regex_lite_engine.proofs.laws.WrittenTreeLemmas.{whole_stands}
use Rattle.regex_lite_engine.proofs.laws.groups.MarkedTreeLemmas.{marked_walk}
use Rattle.regex_lite_engine.proofs.laws.groups.MarkingLemmas.{marking_matches}

-- two addresses are one, or they differ
pub one_or_two_addresses : (a b : Address) → (a ≡ b) ⊎ (a ≢ b)
one_or_two_addresses [] [] = inl refl
one_or_two_addresses [] (y ∷ b) = inr (λ e. cc)
one_or_two_addresses (x ∷ a) [] = inr (λ e. cc)
one_or_two_addresses (x ∷ a) (y ∷ b) = elim (cases_eq x y) [
  | inr apart ↦ inr (λ e. apart (same_head e))
  | inl e ↦ elim (one_or_two_addresses a b) [
    | inr apart ↦ inr (λ f. apart (same_tail f))
    | inl f ↦ inl (cc (e, f))
  ]
]

-- and so are two pairs with a position
pub one_or_two_pairs : {A : Type 0} → ((a b : A) → (a ≡ b) ⊎ (a ≢ b)) → (m n : A × ℕ)
    → (m ≡ n) ⊎ (m ≢ n)
one_or_two_pairs same (a, i) (b, j) = elim (same a b) [
  | inr apart ↦ inr (λ e. apart (ap (λ p. p.0) e))
  | inl e ↦ elim (cases_eq i j) [
    | inr apart ↦ inr (λ f. apart (ap (λ p. p.1) f))
    | inl f ↦ inl (cc (e, f))
  ]
]

pub one_or_two : (m n : Address × ℕ) → (m ≡ n) ⊎ (m ≢ n)
one_or_two = one_or_two_pairs one_or_two_addresses

module _ (tree : Tree) (haystack : Text) where
  abbrev LeadsOn : Address × ℕ → List ℕ → Address × ℕ → Type 0
  LeadsOn = Leads (Address × ℕ) (step haystack (place_of_pattern tree))

  pub match_way : (i j : ℕ) → IsRegular tree → Matches haystack tree i j
      → (arrows : List ℕ) × IsWayThrough tree haystack i arrows j
  match_way i j regular m =
      let place = place_of_pattern tree in
      let there = whole_stands tree regular in
      let walk = match_walk (whole tree) start_address end_address i j there m in
      let shorten = without_loops (step haystack place) one_or_two walk.arrows in
      shorten (start_address, i) (end_address, j) walk.along

  -- even where a place comes twice at one position
  pub walk_match : (i j : ℕ) (arrows : List ℕ) → IsRegular tree
      → LeadsOn (start_address, i) arrows (end_address, j) → Matches haystack tree i j
  walk_match i j arrows regular along =
      marking_matches haystack (whole tree) i j (marks_of_way tree haystack i arrows)
      (marked_walk tree haystack i j arrows regular along)

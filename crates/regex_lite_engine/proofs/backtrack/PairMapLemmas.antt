-- Which pairs were entered, by what is kept of each.
use Rattle.regex_lite_engine.proofs.Common.{◌≡◌, ℕ, ◌≤◌, ◌<◌, Bool, true, false, ◌↔◌}
use Rattle.regex_lite_engine.proofs.Common.{List, ◌++◌, length, replicate, IsTrue}
use Rattle.regex_lite_engine.proofs.Common.{◌==◌, slice_index_or, slice_set, sym, ap, ◌∙◌, subst}
use Rattle.regex_lite_engine.proofs.Common.{inl, inr, arith, length-set, cases_eq, nat_tests}
use Rattle.regex_lite_engine.proofs.Common.{get_or-replicate, get_or-set_other, get_or-set_same}
use Rattle.regex_lite_engine.proofs.Common.{length-replicate, length-map-range_with_len}
use Rattle.regex_lite_engine.proofs.Common.{get_or-map-range_with_len, Pairs, pair_number}
use Rattle.regex_lite_engine.proofs.Common.{was_entered}
use Rattle.std.proofs.lemmas.List.FromFn.{fill_by_all}
use Rattle.regex_lite_engine.specs.declared.backtrack.visited.PairMap.{PairMap}
use Rattle.regex_lite_engine.specs.declared.backtrack.visited.PairMap.TheVariants.{Few, Many}
use Rattle.regex_lite_engine.specs.declared.backtrack.visited.PairMap.TheVariants.{Stamps}
use Rattle.regex_lite_engine.specs.declared.backtrack.visited.Visited.TheInside.{Inside}
use Rattle.regex_lite_engine.specs.Backtrack.PairMaps.{entered_of, stamped}
use Rattle.regex_lite_engine.proofs.backtrack.BitLemmas.{length_of_bits, zeros_after}

-- whether the stamp of pair k is the generation
abbrev is_stamped : List ℕ → (generation : ℕ) → ℕ → Bool
is_stamped stamps generation k = slice_index_or stamps k 0 == generation

length_of_stamped : (stamps : List ℕ) (generation count : ℕ)
    → length (stamped stamps generation count) ≡ count
length_of_stamped stamps generation count =
    length-map-range_with_len (is_stamped stamps generation) 0 count

length_of_entered : (pairs : PairMap) (count : ℕ) → length (entered_of pairs count) ≡ count
length_of_entered (Few words) count = length_of_bits words count
length_of_entered (Many words) count = length_of_bits words.items count
length_of_entered (Stamps stamps generation) count =
    length_of_stamped stamps.items generation count

stamp_of_pair : (stamps : List ℕ) (generation count k : ℕ) → k < count
    → slice_index_or (stamped stamps generation count) k false ≡ is_stamped stamps generation k
stamp_of_pair stamps generation count k lt =
    get_or-map-range_with_len (is_stamped stamps generation) 0 count k k false lt (omega arith)

is_other : (stamp generation : ℕ) → stamp < generation → (stamp == generation) ≡ false
is_other stamp generation lt = grind (arith, nat_tests, lt)

is_same : (generation : ℕ) → (generation == generation) ≡ true
is_same generation = grind (arith, nat_tests)

-- in a new generation no pair was entered
pub none_stamped : (stamps : List ℕ) (n generation count : ℕ)
    → ((k : ℕ) → slice_index_or stamps k 0 < generation)
    → stamped (stamps ++ replicate n 0) generation count ≡ replicate count false
none_stamped stamps n generation count below =
    sym (fill_by_all (is_stamped (stamps ++ replicate n 0) generation) (replicate count false)
    count false (length-replicate count false) at_each)
  where
    at_each : (k : ℕ) → k < count
        → slice_index_or (replicate count false) k false
        ≡ is_stamped (stamps ++ replicate n 0) generation k
    at_each k lt =
        get_or-replicate count k false false lt
        ∙ sym (is_other (slice_index_or (stamps ++ replicate n 0) k 0) generation
        (subst (λ s. s < generation) (sym (zeros_after stamps n k)) (below k)))

-- a pair is entered
pub stamped_now : (stamps : List ℕ) (generation count k : ℕ) → k < length stamps → k < count
    → stamped (slice_set stamps k generation) generation count
    ≡ slice_set (stamped stamps generation count) k true
stamped_now stamps generation count k inside lt =
    sym (fill_by_all (is_stamped (slice_set stamps k generation) generation)
    (slice_set before k true) count false
    (length-set before k true ∙ length_of_stamped stamps generation count) at_each)
  where
    before : List Bool
    before = stamped stamps generation count

    at_each : (l : ℕ) → l < count
        → slice_index_or (slice_set before k true) l false
        ≡ is_stamped (slice_set stamps k generation) generation l
    at_each l below = elim (cases_eq l k) [
      | inl same ↦
          ap (λ i. slice_index_or (slice_set before k true) i false) same
          ∙ get_or-set_same before k true false
          (omega (arith, lt, length_of_stamped stamps generation count))
          ∙ sym (ap (is_stamped (slice_set stamps k generation) generation) same
          ∙ ap (λ s. s == generation) (get_or-set_same stamps k generation 0 inside)
          ∙ is_same generation)
      | inr other ↦
          get_or-set_other before k l true false other
          ∙ stamp_of_pair stamps generation count l below
          ∙ sym (ap (λ s. s == generation) (get_or-set_other stamps k l generation 0 other))
    ]

-- another stamp is that of a pair that was not entered
pub found_by_stamp : (stamps : List ℕ) (generation count k : ℕ) (fresh : Bool) → k < count
    → IsTrue fresh ↔ ¬ (slice_index_or stamps k 0 ≡ generation)
    → IsTrue fresh ↔ (slice_index_or (stamped stamps generation count) k false ≡ false)
found_by_stamp stamps generation count k fresh lt reported =
    rw (stamp_of_pair stamps generation count k lt) (grind (arith, nat_tests, reported))

-- no stamp is of a later generation
pub still_none_later : (stamps : List ℕ) (generation k : ℕ)
    → ((i : ℕ) → slice_index_or stamps i 0 ≤ generation) → k < length stamps
    → (i : ℕ) → slice_index_or (slice_set stamps k generation) i 0 ≤ generation
still_none_later stamps generation k none inside i = elim (cases_eq i k) [
  | inl same ↦
      subst (λ s. s ≤ generation)
      (sym (ap (λ j. slice_index_or (slice_set stamps k generation) j 0) same
      ∙ get_or-set_same stamps k generation 0 inside)) (omega arith)
  | inr other ↦
      subst (λ s. s ≤ generation) (sym (get_or-set_other stamps k i generation 0 other)) (none i)
]

-- the pairs that the fields stand for, of which these were entered
abbrev pub pairs_of : Inside → List Bool → Pairs
pairs_of v entered =
    record {
      entered = entered;
      places = v.places;
      first = v.first;
      room = v.room;
    }

-- what the fields say of one pair
module _ (v : Inside) {pairs : Pairs} (same : pairs_of v (entered_of v.map v.count) ≡ pairs)
    (place at : ℕ) where
  abbrev k : ℕ
  k = pair_number v.places v.first place at

  pub number_inside : pair_number pairs.places pairs.first place at < length pairs.entered
      → pair_number v.places v.first place at < v.count
  number_inside =
      subst (λ p. pair_number p.places p.first place at < length p.entered → k < v.count) same
      (subst (λ n. k < n) (length_of_entered v.map v.count))

  module _ (pair_map : PairMap) (is : v.map ≡ pair_map) where
    of_map : pairs_of v (entered_of pair_map v.count) ≡ pairs
    of_map = ap (λ m. pairs_of v (entered_of m v.count)) (sym is) ∙ same

    pub found_in_pairs : (fresh : Bool)
        → IsTrue fresh
        ↔ (slice_index_or (entered_of pair_map v.count) (pair_number v.places v.first place at)
        false ≡ false)
        → IsTrue fresh ↔ (was_entered pairs place at ≡ false)
    found_in_pairs fresh found =
        subst (λ p. IsTrue fresh ↔ (was_entered p place at ≡ false)) of_map found

    pub set_in_pairs : (pair_map' : PairMap)
        → entered_of pair_map' v.count
        ≡ slice_set (entered_of pair_map v.count) (pair_number v.places v.first place at) true
        → pairs_of v (entered_of pair_map' v.count) ≡ record pairs {
          entered = slice_set pairs.entered (pair_number pairs.places pairs.first place at) true;
        }
    set_in_pairs pair_map' set = ap (pairs_of v) set ∙ ap entering of_map
      where
        entering : Pairs → Pairs
        entering p = record p {
          entered = slice_set p.entered (pair_number p.places p.first place at) true;
        }

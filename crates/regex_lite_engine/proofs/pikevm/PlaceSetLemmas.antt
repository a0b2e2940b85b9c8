-- The set of the places that were entered at a position.
use Rattle.regex_lite_engine.proofs.Common.{◌≡◌, ℕ, ◌-◌, ◌<◌, Bool, true, false, List, [], ◌∷◌, map}
use Rattle.regex_lite_engine.proofs.Common.{length, set, replicate, slice_index, slice_index_or}
use Rattle.regex_lite_engine.proofs.Common.{sym, ap, ◌∙◌, inl, inr, arith, cases_eq, length-set}
use Rattle.regex_lite_engine.proofs.Common.{get_or-replicate, get_or-set_other, get_or-set_same}
use Rattle.regex_lite_engine.proofs.Common.{get_or-map-range_with_len, length-map-range_with_len}
use Rattle.regex_lite_engine.proofs.Common.{length-replicate, range_with_len, take, get_or-take}
use Rattle.regex_lite_engine.proofs.Common.{get_or_past, length-take, cases_lt}
use Rattle.std.proofs.lemmas.List.FromFn.{fill_by_all}
use Rattle.regex_lite_syntax.proofs.WordBitLemmas.{zero_at}
use Rattle.regex_lite_engine.specs.Pikevm.PlaceSets.{is_stamped, members}
use Rattle.regex_lite_engine.specs.declared.pikevm.place_set.Marks.{Marks}
use Rattle.regex_lite_engine.specs.declared.pikevm.place_set.Marks.TheVariants as marks
use Rattle.regex_lite_engine.proofs.backtrack.BitLemmas.{length_of_bits}

-- what is listed of each number below a count
module _ (f : ℕ → Bool) (count : ℕ) where
  abbrev listed : List Bool
  listed = map f (range_with_len 0 count)

  pub listed_long : length listed ≡ count
  listed_long = length-map-range_with_len f 0 count

  pub listed_at : (k : ℕ) → k < count → slice_index_or listed k false ≡ f k
  listed_at k lt = get_or-map-range_with_len f 0 count k k false lt (omega arith)

  -- none is marked
  pub none_listed : ((k : ℕ) → k < count → f k ≡ false) → listed ≡ replicate count false
  none_listed none =
      sym (fill_by_all f (replicate count false) count false (length-replicate count false)
      (λ k lt. get_or-replicate count k false false lt ∙ sym (none k lt)))

  -- one more is marked
  pub one_listed : (g : ℕ → Bool) (k : ℕ) → k < count → g k ≡ true
      → ((l : ℕ) → l < count → (l ≡ k → ⊥) → g l ≡ f l)
      → map g (range_with_len 0 count) ≡ set listed k true
  one_listed g k lt own others =
      sym (fill_by_all g (set listed k true) count false
      (length-set listed k true ∙ listed_long) at_each)
    where
      at_each : (l : ℕ) → l < count → slice_index_or (set listed k true) l false ≡ g l
      at_each l below = elim (cases_eq l k) [
        | inl same ↦
            ap (λ i. slice_index_or (set listed k true) i false) same
            ∙ get_or-set_same listed k true false (omega (arith, lt, listed_long))
            ∙ sym (ap g same ∙ own)
        | inr other ↦
            get_or-set_other listed k l true false other
            ∙ listed_at l below
            ∙ sym (others l below other)
      ]

-- there are as many marks as places
pub members_long : (kept : Marks) (places : ℕ) → length (members kept places) ≡ places
members_long (marks.Bits bits) places = length_of_bits (bits ∷ []) places
members_long (marks.Stamps kept) places =
    listed_long (λ place. is_stamped kept.stamps.items kept.generation (places - place)) places

-- stamps of places that were never in the set
pub blank_stamp : (n more k : ℕ) → slice_index (take more (replicate n 0)) k ≡ 0
blank_stamp n more k = elim (cases_lt k more) [
  | inl lt ↦ get_or-take more (replicate n 0) k 0 lt ∙ zero_at n k
  | inr le ↦
      let few = length-take {A = ℕ} more (replicate n 0) in
      get_or_past (take more (replicate n 0)) k 0 (omega (arith, few, le))
]

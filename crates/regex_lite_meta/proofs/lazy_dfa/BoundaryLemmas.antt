-- Boundaries of intervals, gathered one by one.
use Rattle.regex_lite_meta.proofs.Common.{◌≡◌, ℕ, zero, suc, ◌+◌, ◌<◌, ◌≤◌, List, [], ◌∷◌, ◌++◌}
use Rattle.regex_lite_meta.proofs.Common.{length, drop, slice_get, slice_index, slice_index_or}
use Rattle.regex_lite_meta.proofs.Common.{Some, All, sym, refl, ap, ◌∙◌, subst, inl, inr, arith}
use Rattle.regex_lite_meta.proofs.Common.{cases_lt, get_or_from_slice_get, slice_get_within, Grows}
use Rattle.regex_lite_meta.proofs.Common.{Intervals, IsBoundary, AreBounded, IsBoundedPlace}
use Rattle.std.proofs.Math.Seq.{drop-cons}
use Rattle.std.proofs.lemmas.List.{get_or_default}
use Rattle.regex_lite_syntax.specs.declared.class.ClassRange.{ClassRange}
use Rattle.regex_lite_engine.specs.declared.nfa.place.Place as code
use Rattle.regex_lite_engine.specs.declared.nfa.place.Place.TheVariants as stored

-- what stands in the list is a boundary
pub boundary_at : (bs : List ℕ) (k : ℕ) → k < length bs → IsBoundary bs (slice_index bs k)
boundary_at [] k lt = absurd (omega (arith, lt))
boundary_at (b ∷ bs) zero lt = inl refl
boundary_at (b ∷ bs) (suc k) lt = inr (boundary_at bs k (omega (arith, lt)))

-- those that were there stay
pub still_boundary : (bs more : List ℕ) (b : ℕ) → IsBoundary bs b → IsBoundary (bs ++ more) b
still_boundary [] more b is = absurd is
still_boundary (x ∷ bs) more b (inl e) = inl e
still_boundary (x ∷ bs) more b (inr is) = inr (still_boundary bs more b is)

-- and what is added is there
pub added_boundary : (bs : List ℕ) (b : ℕ) → IsBoundary (bs ++ b ∷ []) b
added_boundary [] b = inl refl
added_boundary (x ∷ bs) b = inr (added_boundary bs b)

-- all are there still
pub all_still : (wanted bs bs' : List ℕ) → ((b : ℕ) → IsBoundary bs b → IsBoundary bs' b)
    → All (IsBoundary bs) wanted → All (IsBoundary bs') wanted
all_still wanted bs bs' more all = λ k d lt. more (slice_index_or wanted k d) (all k d lt)

-- these three, for a function that adds a boundary
pub ruleset one_more = (still_boundary, added_boundary, all_still)

-- the first n of these are there
abbrev pub AreFirst : (wanted : List ℕ) → (n : ℕ) → (boundaries : List ℕ) → Type 0
AreFirst wanted n boundaries =
    (k d : ℕ) → k < n → k < length wanted → IsBoundary boundaries (slice_index_or wanted k d)

-- and one more
pub next_there : (wanted bs bs' : List ℕ) (n : ℕ) → n < length wanted
    → ((b : ℕ) → IsBoundary bs b → IsBoundary bs' b) → AreFirst wanted n bs
    → IsBoundary bs' (slice_index wanted n) → AreFirst wanted (n + 1) bs'
next_there wanted bs bs' n lt more first one = λ k d below inside. elim (cases_lt k n) [
  | inl under ↦ more (slice_index_or wanted k d) (first k d under inside)
  | inr over ↦
      let same : k ≡ n = omega (arith, below, over) in
      subst (λ b. IsBoundary bs' b)
      (get_or_default wanted n 0 d lt ∙ ap (λ m. slice_index_or wanted m d) (sym same)) one
]

-- ranges and places stay bounded
pub still_bounded : (ranges : List ClassRange) (bs bs' : List ℕ)
    → ((b : ℕ) → IsBoundary bs b → IsBoundary bs' b) → AreBounded bs ranges → AreBounded bs' ranges
still_bounded [] bs bs' more tt = tt
still_bounded (r ∷ rs) bs bs' more (low, high, rest) =
    (more r.start low, more (r.end + 1) high, still_bounded rs bs bs' more rest)

pub still_bounded_place : (place : code.Place) (before after : Intervals) → Grows before after
    → IsBoundedPlace before place → IsBoundedPlace after place
still_bounded_place (stored.Empty to) before after grows b = tt
still_bounded_place (stored.Char c to) before after grows (low, high) =
    (grows.boundaries c low, grows.boundaries (c + 1) high)
still_bounded_place (stored.Class to set) before after grows b =
    still_bounded set before.boundaries after.boundaries grows.boundaries b
still_bounded_place (stored.Look l to) before after grows b = grows.looks b
still_bounded_place (stored.Slot slot to) before after grows b = tt
still_bounded_place (stored.Choice one two) before after grows b = tt
still_bounded_place (stored.Branches entries) before after grows b = tt
still_bounded_place stored.Match before after grows b = tt

pub grown_on : (before between after : Intervals) → Grows before between → Grows between after
    → Grows before after
grown_on before between after one two = record {
  boundaries = λ b is. two.boundaries b (one.boundaries b is);
  looks = λ e. two.looks (one.looks e);
}

abbrev no_range : ClassRange
no_range = record { start = 0; end = 0 }

-- one range more, before those that are bounded
pub one_more_bounded : (ranges : List ClassRange) (k : ℕ) (before between after : Intervals)
    → k < length ranges → Grows before between → Grows between after →
    AreBounded before.boundaries (drop (suc k) ranges)
    → IsBoundary between.boundaries (slice_index_or ranges k no_range).start
    → IsBoundary after.boundaries ((slice_index_or ranges k no_range).end + 1) →
    AreBounded after.boundaries (drop k ranges)
one_more_bounded ranges k before between after inside one two rest low high =
    subst (AreBounded after.boundaries) (sym (drop-cons ranges k no_range inside)) (
      two.boundaries (slice_index_or ranges k no_range).start low,
      high,
      still_bounded (drop (suc k) ranges) before.boundaries after.boundaries
          (λ b is. two.boundaries b (one.boundaries b is)) rest,
    )

-- one place more, after those that are bounded
pub each_more : (places : List code.Place) (q : ℕ) (before after : Intervals) → Grows before after
    → (x : code.Place) → x ≡ slice_index_or places q x → IsBoundedPlace after x →
    ((k : ℕ) (place : code.Place) → k < q → slice_get places k ≡ Some place
    → IsBoundedPlace before place) →
    (k : ℕ) (place : code.Place) → k < q + 1 → slice_get places k ≡ Some place
    → IsBoundedPlace after place
each_more places q before after grows x is one each k place below at = elim (cases_lt k q) [
  | inl under ↦ still_bounded_place place before after grows (each k place under at)
  | inr over ↦
      let same : q ≡ k = omega (arith, below, over) in
      subst (IsBoundedPlace after) (is ∙ ap (λ n. slice_index_or places n x) same
      ∙ get_or_from_slice_get places k place x at) one
]

-- all of them
pub each_of_all : (places : List code.Place) (q : ℕ) (intervals : Intervals) → length places ≤ q →
    ((k : ℕ) (place : code.Place) → k < q → slice_get places k ≡ Some place
    → IsBoundedPlace intervals place) →
    (k : ℕ) (place : code.Place) → slice_get places k ≡ Some place → IsBoundedPlace intervals place
each_of_all places q intervals all each k place at =
    each k place (let inside = slice_get_within places k place at in omega (arith, inside, all)) at

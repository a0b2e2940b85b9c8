use Rattle.regex_lite_meta.proofs.Common.{ℕ, ◌<◌, ◌≤◌, All, slice_index_or}
use Rattle.regex_lite_meta.specs.LazyDfa.Parts.{IsInPart, Widens}
use Rattle.regex_lite_meta.proofs.lazy_dfa.part.PlaceRange.take_in_all.Given as goal

-- those before this one are taken in
abbrev pub invariant-places : goal.invariant-places
invariant-places l = record {
  taken : (j d : ℕ) → j < l.k → IsInPart l.self (slice_index_or l.places j d);
  widens : Widens l.initial.self l.self;
  inside : (n : ℕ) → l.initial.self.end ≤ n → All (λ place. place < n) l.places
      → l.self.end ≤ n;
}

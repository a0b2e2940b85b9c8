use Rattle.regex_lite_meta.proofs.Common.{◌≡◌, ℕ, ◌-◌, [], ◌∷◌, length, None, chars, places_of}
use Rattle.regex_lite_meta.proofs.Common.{IsHere, best_of}
use Rattle.regex_lite_engine.specs.Pikevm.Passing.{IsUnderWay}
use Rattle.regex_lite_meta.proofs.list_matches.attempt.attempt.Given as goal

abbrev pub invariant-positions : goal.invariant-positions
invariant-positions l = record {
  under_way : (p : ℕ) → IsHere (chars l.haystack) p l.fn.from
      → (q : ℕ) × IsHere (chars l.haystack) q l.here
      × IsUnderWay (places_of l.fn.pattern.table.now) (chars l.haystack)
      (l.fn.pattern.entry ∷ []) p q l.cache;
  none : best_of l.cache.best ≡ None;
  table : places_of l.pattern.table.now ≡ places_of l.fn.pattern.table.now;
  entries : l.pattern.entry ∷ [] ≡ l.fn.pattern.entry ∷ [];
}

abbrev pub decreases-positions : goal.decreases-positions
decreases-positions l = length l.haystack - l.here.at

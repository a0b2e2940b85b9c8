use Rattle.regex_lite_meta.proofs.Common.{◌≡◌, ℕ, ◌<◌, slice_get, Some, All, IsBoundary}
use Rattle.regex_lite_meta.proofs.Common.{IsBoundedPlace, character_bounds}
use Rattle.regex_lite_engine.specs.declared.nfa.place.Place.{Place}
use Rattle.regex_lite_meta.proofs.lazy_dfa.classes.Classes.of.Given as goal

abbrev pub invariant-places : goal.invariant-places
invariant-places l = record {
  each : (k : ℕ) (place : Place) → k < l.q → slice_get l.places k ≡ Some place
      → IsBoundedPlace l.boundaries place;
  characters : All (IsBoundary l.boundaries.boundaries) character_bounds;
}

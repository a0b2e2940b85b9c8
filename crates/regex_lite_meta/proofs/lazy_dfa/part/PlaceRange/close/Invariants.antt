use Rattle.regex_lite_meta.proofs.Common.{◌≡◌, ℕ, ◌+◌, ◌-◌, ◌<◌, ◌≤◌, length, slice_get, Some}
use Rattle.regex_lite_meta.proofs.Common.{place_of}
use Rattle.regex_lite_engine.specs.declared.nfa.place.Place.{Place}
use Rattle.regex_lite_engine.specs.Graph.Stored.{LeadsInto}
use Rattle.regex_lite_meta.specs.LazyDfa.Parts.{IsInPart, Widens}
use Rattle.regex_lite_meta.proofs.lazy_dfa.part.PlaceRange.close.Given as goal

-- the arrows of some places in the middle lead into the part
abbrev pub invariant-places : goal.invariant-places
invariant-places l = record {
  order : l.low ≤ l.end;
  lower : l.self.low ≤ l.low;
  upper : l.end ≤ l.self.end;
  closed : (q : ℕ) (place : Place) → l.low ≤ q → q < l.end → slice_get l.places q ≡ Some place
      → LeadsInto (IsInPart l.self) (place_of place);
  widens : Widens l.initial.self l.self;
  inside : l.self.end ≤ length l.places;
}

abbrev pub decreases-places : goal.decreases-places
decreases-places l = l.low + (length l.places - l.end)

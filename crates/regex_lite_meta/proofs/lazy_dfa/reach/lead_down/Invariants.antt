use Rattle.regex_lite_meta.proofs.Common.{◌≡◌, ℕ, ◌<◌, ◌≤◌, slice_get, Some, place_of}
use Rattle.regex_lite_engine.specs.declared.nfa.place.Place.{Place}
use Rattle.regex_lite_engine.specs.Graph.Stored.{LeadsBelow}
use Rattle.regex_lite_meta.proofs.lazy_dfa.reach.lead_down.Given as goal

-- each place so far leads to lower numbers alone
abbrev pub invariant-numbers : goal.invariant-numbers
invariant-numbers l =
    (r : ℕ) (place : Place) → l.fn.part.low ≤ r → r < l.q → slice_get l.places r ≡ Some place
    → LeadsBelow r (place_of place)

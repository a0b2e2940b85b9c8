use Rattle.regex_lite_meta.proofs.Common.{◌+◌, ◌≤◌, drop, map, place_of}
use Rattle.regex_lite_engine.specs.Graph.Places.{reading_of}
use Rattle.regex_lite_meta.proofs.lazy_dfa.reach.reading_in.Given as goal

-- with those that are left there are as many as in all
abbrev pub invariant-places : goal.invariant-places
invariant-places l = record {
  all : reading_of (map place_of l.places)
      ≤ l.reading + reading_of (map place_of (drop l.q l.places));
  few : l.reading ≤ l.q;
}

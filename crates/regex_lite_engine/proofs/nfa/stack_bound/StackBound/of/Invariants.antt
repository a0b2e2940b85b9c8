use Rattle.regex_lite_engine.proofs.Common.{◌≡◌, ◌+◌, map, drop, sum_by, stack_bound}
use Rattle.regex_lite_engine.proofs.Common.{stack_bound_with, place_of}
use Rattle.regex_lite_engine.proofs.nfa.stack_bound.StackBound.of.Given as goal

-- with the bound of the places that are left it is that of all
abbrev pub invariant-loop-place : goal.invariant-loop-place
invariant-loop-place l =
    (l.kept.without_slots + sum_by (stack_bound_with 0) (map place_of (drop l.place-index l.places))
    ≡ sum_by (stack_bound_with 0) (map place_of l.places))
    × (l.kept.with_slots + sum_by stack_bound (map place_of (drop l.place-index l.places))
    ≡ sum_by stack_bound (map place_of l.places))

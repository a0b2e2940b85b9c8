use Rattle.regex_lite_engine.proofs.Common.{◌≡◌, map, get_or, ap, ◌∙◌, arith, stack_bound_with}
use Rattle.regex_lite_engine.proofs.Common.{place_of}
use Rattle.regex_lite_engine.proofs.nfa.stack_bound.SumLemmas.{few_without_slots, next_left}
use Rattle.std.proofs.lemmas.Grind.{common_steps}
use Rattle.regex_lite_engine.proofs.nfa.stack_bound.StackBound.of.Goals as goal

pub overflow_add-kept : goal.overflow_add-kept
overflow_add-kept c =
    let places = c.args.places.now in
    let next = next_left (stack_bound_with 0) places c.loop-place.place-index c.place-item.result
    c.loop-place-test.true in
    let own : c.other_arrows.result
    ≡ stack_bound_with 0 (place_of (get_or places c.loop-place.place-index c.place-item.result))
    = c.other_arrows.ensures ∙ ap (λ z. stack_bound_with 0 (place_of z)) c.place-item.is in
    let so_far = c.loop-place.invariant.0 in
    let few = few_without_slots (map place_of places) in
    omega (arith, next, own, so_far, few, c.requires)

-- The goals from here on need no lemma of their own. They have answers because the prover would
-- try other calls first, which takes long
pub overflow_add-kept-in-loop-place : goal.overflow_add-kept-in-loop-place
overflow_add-kept-in-loop-place c = grind (arith, common_steps)

pub loop-place-preserved : goal.loop-place-preserved
loop-place-preserved c = grind (arith, common_steps)

pub returns : goal.returns
returns c = grind (arith, common_steps)

use Rattle.regex_lite_meta.proofs.Common.{length, map, take, ap, ◌∙◌, arith, length-map}
use Rattle.regex_lite_meta.proofs.Common.{length-take-le, take_all}
use Rattle.std.proofs.lemmas.Grind.{common_steps}
use Rattle.regex_lite_meta.specs.LazyDfa.Running.{thread_from}
use Rattle.regex_lite_engine.specs.Pikevm.Machine.{State}
use Rattle.regex_lite_meta.proofs.lazy_dfa.run.load_ways.Goals as goal

-- It has an answer because the prover would try other calls first, which takes long
pub loop-way-preserved : goal.loop-way-preserved
loop-way-preserved c = grind (arith, common_steps)

pub push_next-requires : goal.push_next-requires
push_next-requires c =
    let ways = c.args.ways.now in
    let k = c.loop-way.way-index in
    let next = ap length c.loop-way.invariant.next
    ∙ length-map (take k ways) (thread_from c.args.first)
    ∙ length-take-le k ways c.loop-way.auto.way-index-end in
    let room = c.loop-way.invariant.kept.room ∙ c.reset.ensures.kept.room in
    let few = c.requires.few in
    let more = c.loop-way-test.true in
    omega (arith, next, room, few, more)

pub returns-clause-threads : goal.returns-clause-threads
returns-clause-threads c =
    ap (λ (z : State). z.threads) c.swap_lists.ensures ∙ c.loop-way.invariant.next
    ∙ ap (map (thread_from c.args.first))
    (take_all c.loop-way.way-index c.args.ways.now c.loop-way-test.false)

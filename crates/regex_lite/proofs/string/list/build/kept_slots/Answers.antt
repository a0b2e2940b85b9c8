use Rattle.regex_lite.proofs.Common.{◌≡◌, ◌*◌, max, length, ap, ◌∙◌, arith, nat_tests}
use Rattle.regex_lite.proofs.string.SlotLemmas.{most_on}
use Rattle.regex_lite.proofs.string.list.build.kept_slots.Goals as goal

pub loop-number-preserved : goal.loop-number-preserved
loop-number-preserved c =
    let names = ap (λ names. 2 * length names) c.capture_names.ensures in
    let own = 2 * length c.capture_names.result.now in
    let chosen = c.max-most.ensures in
    let next : c.max-most.result ≡ max c.loop-number.most own = grind (arith, nat_tests, chosen) in
    most_on c.args.graph.now.groups c.loop-number.number c.groups.result.now c.loop-number.most
    c.max-most.result own c.groups.ensures names next ∙ c.loop-number.invariant

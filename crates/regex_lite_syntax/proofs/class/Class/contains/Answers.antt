use Rattle.regex_lite_syntax.proofs.Common.{IsTrue, sym, ap, ◌∙◌, arith, rules, nat_tests}
use Rattle.regex_lite_syntax.proofs.Common.{is_character, in_ranges}
use Rattle.std.proofs.Common.{tests, ltb}
use Rattle.std.proofs.lemmas.Fn.{always_returns_same}
use Rattle.std.proofs.lemmas.List.Sorted.{IsPartitionedBy-ltb}
use Rattle.regex_lite_syntax.proofs.class.RangeSearchLemmas.{ends_rise, held_nowhere, held_there}
use Rattle.regex_lite_syntax.proofs.class.Class.contains.Goals as goal

pub returns-then-at-ranges : goal.returns-then-at-ranges
returns-then-at-ranges c =
    let ranges = c.ranges-ranges.result.now in
    let runs = c.ranges-ranges.ensures.runs in
    let parts = c.partition_point-at.ensures.partitioned (λ r. ltb r.end c.args.c)
    (search (rules, tests, always_returns_same))
    (IsPartitionedBy-ltb (λ r. r.end) _ c.args.c (ends_rise 0 ranges runs)) in
    let is : IsTrue (is_character c.args.c) = search (rules, tests) in
    sym (held_there c.args.c 0 ranges c.partition_point-at.result _ is runs parts
    c.if-at-ranges.true) ∙ ap (λ xs. in_ranges xs c.args.c) c.ranges-ranges.ensures.same

pub returns-else-at-ranges : goal.returns-else-at-ranges
returns-else-at-ranges c =
    let ranges = c.ranges-ranges.result.now in
    let runs = c.ranges-ranges.ensures.runs in
    let parts = c.partition_point-at.ensures.partitioned (λ r. ltb r.end c.args.c)
    (search (rules, tests, always_returns_same))
    (IsPartitionedBy-ltb (λ r. r.end) _ c.args.c (ends_rise 0 ranges runs)) in
    let none = held_nowhere c.args.c ranges c.partition_point-at.result parts
    (omega (arith, c.if-at-ranges.false)) in
    grind (arith, nat_tests, none, ap (λ xs. in_ranges xs c.args.c) c.ranges-ranges.ensures.same)

use Rattle.regex_lite.proofs.Common.{◌≡◌, ◌*◌, max, drop, most_groups}
use Rattle.regex_lite.proofs.string.list.build.kept_slots.Given as goal

-- with the patterns that are left these are all
abbrev pub invariant-loop-number : goal.invariant-loop-number
invariant-loop-number l =
    max l.most (2 * most_groups (drop l.number l.graph.groups)) ≡ 2 * most_groups l.graph.groups

use Rattle.regex_lite_c.proofs.Common.{◌≡◌, ◌+◌, length, drop}
use Rattle.regex_lite_c.specs.ListBuilding.{all_len}
use Rattle.regex_lite_c.proofs.list.patterns.are_all_bytes.Given as goal

-- what is left of the bytes is for the patterns that are left
abbrev pub invariant-loop-pattern : goal.invariant-loop-pattern
invariant-loop-pattern l =
    all_len l.patterns + l.left ≡ length l.bytes + all_len (drop l.pattern-index l.patterns)

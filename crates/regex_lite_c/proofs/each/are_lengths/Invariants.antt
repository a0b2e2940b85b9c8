use Rattle.regex_lite_c.proofs.Common.{◌≤◌, length, drop}
use Rattle.std.proofs.Common.{◌↔◌}
use Rattle.regex_lite_c.specs.Each.{AreTextLengths}
use Rattle.regex_lite_c.proofs.each.are_lengths.Given as goal

-- what is left of the bytes is for the lengths that are left
abbrev pub invariant-loop-len : goal.invariant-loop-len
invariant-loop-len l =
    (AreTextLengths l.texts 0 l.lens ↔ AreTextLengths l.texts l.at (drop l.len-index l.lens))
    × (l.at ≤ length l.texts)

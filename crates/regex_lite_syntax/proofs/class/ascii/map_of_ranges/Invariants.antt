use Rattle.regex_lite_syntax.proofs.Common.{take, in_ranges}
use Rattle.regex_lite_syntax.specs.AsciiMaps.{IsMapOf}
use Rattle.regex_lite_syntax.proofs.class.ascii.map_of_ranges.Given as goal

abbrev pub invariant-loop-range : goal.invariant-loop-range
invariant-loop-range l = IsMapOf l.map (in_ranges (take l.range-index l.ranges))

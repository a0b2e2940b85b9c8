use Rattle.regex_lite.proofs.Common.{map, take, tree_of, AreAcceptedAs}
use Rattle.regex_lite.proofs.string.list.build.parse_all.Given as goal

-- those so far are accepted
abbrev pub invariant-loop-builder : goal.invariant-loop-builder
invariant-loop-builder l =
    AreAcceptedAs (take l.builder-index l.builders) (map tree_of l.hirs.items)

use Rattle.regex_lite.proofs.Common.{◌≡◌, map, take, expression_of}
use Rattle.regex_lite.proofs.string.list.build.patterns_of.Given as goal

abbrev pub invariant-loop-builder : goal.invariant-loop-builder
invariant-loop-builder l =
    l.patterns.items ≡ map expression_of (take l.builder-index l.builders)

use Rattle.regex_lite.proofs.Common.{◌≡◌, map, take}
use Rattle.regex_lite.specs.Settings.{default_settings}
use Rattle.regex_lite.proofs.string.list.build.default_builders.Given as goal

abbrev pub invariant-loop-pattern : goal.invariant-loop-pattern
invariant-loop-pattern l =
    l.builders.items
    ≡ map (λ pattern. default_settings pattern.now) (take l.pattern-index l.patterns)

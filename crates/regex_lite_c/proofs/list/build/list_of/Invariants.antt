use Rattle.regex_lite_c.proofs.Common.{◌≡◌, map, settings_of_source}
use Rattle.std.proofs.Common.{take}
use Rattle.regex_lite_c.proofs.list.build.list_of.Given as goal

abbrev pub invariant-loop-source : goal.invariant-loop-source
invariant-loop-source l =
    l.builder.patterns ≡ map settings_of_source (take l.source-index l.sources)

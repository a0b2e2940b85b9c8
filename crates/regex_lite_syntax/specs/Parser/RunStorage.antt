-- The runs of a set, wherever they are stored.
use Rattle.std.specs.Prelude.{List}
use Rattle.regex_lite_syntax.specs.declared.class.ClassRange.{ClassRange}
use Rattle.regex_lite_syntax.specs.declared.class.RunStorage.{RunStorage}
use Rattle.regex_lite_syntax.specs.Parser.KnownSets.{known_runs}
use Rattle.regex_lite_syntax.specs.declared.class.RunStorage.TheVariants.{Known, Made}

-- the runs that are stored
abbrev pub runs_of : RunStorage → List ClassRange
runs_of (Known set) = known_runs set
runs_of (Made runs) = runs.items

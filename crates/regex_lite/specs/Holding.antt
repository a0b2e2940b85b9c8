-- The regex that a searcher holds.
use Rattle.regex_lite.specs.declared.string.compiled.Compiled.{Compiled}
use Rattle.regex_lite.specs.declared.string.held.Held.{Held}
use Rattle.regex_lite.specs.declared.string.held.Held.TheVariants.{Lent, Own}

-- the compiled pattern, whether it is borrowed or owned
abbrev pub held_by : Held → Compiled
held_by (Lent compiled) = compiled.now
held_by (Own compiled) = compiled

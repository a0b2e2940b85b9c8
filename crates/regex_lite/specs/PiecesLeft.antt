-- The pieces left of a limited number, as contracts see them.
use Rattle.std.specs.Prelude.{option_map}
use Rattle.regex_lite.specs.declared.string.iter.split.Pieces.{Pieces}
use Rattle.regex_lite.specs.declared.string.iter.split.Pieces.TheVariants.{Cut, Whole}
use Rattle.regex_lite.specs.Pieces.{CuttingN, at_matches, as_it_is}

abbrev pub cutting_of : Pieces → CuttingN
cutting_of (Cut split) = at_matches split
cutting_of (Whole rest) = as_it_is (option_map (λ text. text.now) rest)

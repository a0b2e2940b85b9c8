-- The faults of patterns that end inside a part.
use Rattle.std.specs.Prelude.{Bool, true, false}
use Rattle.regex_lite_syntax.specs.declared.error.syntax.SyntaxFault.{SyntaxFault}
use Rattle.regex_lite_syntax.specs.declared.error.syntax.SyntaxFault.TheVariants.{CutShort}

-- the pattern ends inside a part that more of it could complete
abbrev pub is_cut_short : SyntaxFault → Bool
is_cut_short (CutShort part) = true
is_cut_short _ = false

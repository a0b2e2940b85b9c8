-- The sets of the code by their names.
use Rattle.regex_lite_syntax.specs.declared.class.named.NamedSet.{NamedSet}
use Rattle.regex_lite_syntax.specs.declared.class.named.NamedSet.TheVariants as sets
use Rattle.regex_lite_syntax.specs.NamedSets.{SetName, alnum, alpha, ascii, blank}
use Rattle.regex_lite_syntax.specs.NamedSets.{cntrl, digit, graph, lower, print}
use Rattle.regex_lite_syntax.specs.NamedSets.{punct, space, upper, word, xdigit}

-- the name of the set
abbrev pub name_of : NamedSet → SetName
name_of sets.Alnum = alnum
name_of sets.Alpha = alpha
name_of sets.Ascii = ascii
name_of sets.Blank = blank
name_of sets.Cntrl = cntrl
name_of sets.Digit = digit
name_of sets.Graph = graph
name_of sets.Lower = lower
name_of sets.Print = print
name_of sets.Punct = punct
name_of sets.Space = space
name_of sets.Upper = upper
name_of sets.Word = word
name_of sets.Xdigit = xdigit

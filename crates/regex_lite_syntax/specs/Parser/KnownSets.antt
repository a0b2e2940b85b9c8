-- The sets with static runs.
use Rattle.std.specs.Prelude.{ℕ, Bool, true, false, not, ◌&&◌, ◌||◌, ◌==◌, List, [], ◌∷◌}
use Rattle.regex_lite_syntax.specs.declared.class.ClassRange.{ClassRange}
use Rattle.regex_lite_syntax.specs.declared.class.named.KnownSet.{KnownSet}
use Rattle.regex_lite_syntax.specs.declared.class.named.KnownSet.TheVariants as known
use Rattle.regex_lite_syntax.specs.declared.class.named.NamedSet.{NamedSet}
use Rattle.regex_lite_syntax.specs.declared.class.named.NamedSet.TheVariants as sets
use Rattle.regex_lite_syntax.specs.Characters.{is_character}
use Rattle.regex_lite_syntax.specs.NamedSets.{members}
use Rattle.regex_lite_syntax.specs.Parser.SetNames.{name_of}
use Rattle.regex_lite_syntax.specs.Sets.{Set}
use Rattle.regex_lite_syntax.specs.Text.{the}

-- one range from a character to another
abbrev range : (start end : ℕ) → ClassRange
range start end = record { start = start; end = end }

-- the runs of the set with a name
abbrev pub named_runs : NamedSet → List ClassRange
named_runs sets.Alnum =
    range (the "0") (the "9") ∷ range (the "A") (the "Z") ∷ range (the "a") (the "z") ∷ []
named_runs sets.Alpha = range (the "A") (the "Z") ∷ range (the "a") (the "z") ∷ []
named_runs sets.Ascii = range 0 0x7f ∷ []
named_runs sets.Blank = range (the "\t") (the "\t") ∷ range (the " ") (the " ") ∷ []
named_runs sets.Cntrl = range 0 0x1f ∷ range 0x7f 0x7f ∷ []
named_runs sets.Digit = range (the "0") (the "9") ∷ []
named_runs sets.Graph = range (the "!") (the "~") ∷ []
named_runs sets.Lower = range (the "a") (the "z") ∷ []
named_runs sets.Print = range (the " ") (the "~") ∷ []
named_runs sets.Punct =
    range (the "!") (the "/") ∷ range (the ":") (the "@") ∷ range (the "[") (the "`")
    ∷ range (the "{") (the "~") ∷ []
named_runs sets.Space = range (the "\t") (the "\r") ∷ range (the " ") (the " ") ∷ []
named_runs sets.Upper = range (the "A") (the "Z") ∷ []
named_runs sets.Word =
    range (the "0") (the "9") ∷ range (the "A") (the "Z") ∷ range (the "_") (the "_")
    ∷ range (the "a") (the "z") ∷ []
named_runs sets.Xdigit =
    range (the "0") (the "9") ∷ range (the "A") (the "F") ∷ range (the "a") (the "f") ∷ []

-- the runs of the set of `.`
abbrev pub dot_runs : (new_lines crlf : Bool) → List ClassRange
dot_runs true crlf = range 0 0x10FFFF ∷ []
dot_runs false true = range 0 (the "\t") ∷ range 0xB 0xC ∷ range 0xE 0x10FFFF ∷ []
dot_runs false false = range 0 (the "\t") ∷ range 0xB 0x10FFFF ∷ []

-- the runs of a set of either kind
abbrev pub known_runs : KnownSet → List ClassRange
known_runs (known.Named set) = named_runs set
known_runs (known.Dot new_lines crlf) = dot_runs new_lines crlf

-- the set of `.`
abbrev pub dot_members : (new_lines crlf : Bool) → Set
dot_members new_lines crlf c =
    is_character c && (new_lines || not (c == the "\n" || (crlf && c == the "\r")))

-- the characters of a set of either kind
abbrev pub known_members : KnownSet → Set
known_members (known.Named set) = members (name_of set)
known_members (known.Dot new_lines crlf) = dot_members new_lines crlf

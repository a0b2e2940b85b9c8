-- What the program prints.
use Rattle.std.specs.Prelude.{◌≡◌, ◌↔◌, ℕ, Bool, true, false, IsTrue, MatchBool, List, []}
use Rattle.std.specs.Prelude.{◌∷◌, ◌++◌, Option, Some, None, chars, codes, map, flat_map}
use Rattle.std.specs.Borrow.{Bor}
use Rattle.std.specs.Fmt.{decimal}
use Rattle.regex_lite.specs.Search.Answer.{Found}
use Rattle.regex_lite.specs.Ahead.{AreAhead, whole}
use Rattle.regex_lite.specs.Expression.{Expression}
use Rattle.regex_lite.specs.Groups.{Groups}
use Rattle.regex_lite.specs.Pieces.{ArePieces, found_span}
use Rattle.regex_lite.specs.Replacements.{AreGroupsOfEach, IsReplacement}
use Rattle.regex_lite.specs.Replacing.{IsAppendedTemplate, IsFixedText}
use Rattle.regex_lite.specs.Searches.{MatchesFrom}
use Rattle.rxl.specs.declared.command.Question.{Question}
use Rattle.rxl.specs.declared.command.Question.TheVariants.{IsMatch, Find, Captures, Split, Replace}

-- `START..END`
abbrev pub span_text : ℕ × ℕ → List ℕ
span_text span = decimal span.0 ++ codes ".." ++ decimal span.1

-- a span and a line feed
abbrev pub span_line : ℕ × ℕ → List ℕ
span_line span = span_text span ++ codes "\n"

-- the span of a group, or a dash for one that took no part
abbrev pub group_text : Option (ℕ × ℕ) → List ℕ
group_text None = codes "-"
group_text (Some span) = span_text span

-- the spans of several groups, with a space before each
abbrev pub spaced : List (Option (ℕ × ℕ)) → List ℕ
spaced spans = flat_map (λ span. codes " " ++ group_text span) spans

-- the spans of all groups of a match, separated by spaces, and a line feed
abbrev pub groups_line : List (Option (ℕ × ℕ)) → List ℕ
groups_line [] = codes "\n"
groups_line (span ∷ spans) = group_text span ++ spaced spans ++ codes "\n"

-- `[`, the piece, `]` and a line feed
abbrev pub piece_line : List ℕ → List ℕ
piece_line piece = codes "[" ++ piece ++ codes "]\n"

-- there is a match among these
abbrev pub has_some : List Found → Bool
has_some [] = false
has_some (found ∷ list) = true

-- a line for each match of the pattern
pub record PrintsMatches (re : Expression) (haystack : List ℕ) (found : Bool) (text : List ℕ)
    : Type 0 where
  pub matches : List Found
  pub are_all : AreAhead (whole re haystack None) matches
  pub known : found ≡ has_some matches
  pub printed :
      text ≡ flat_map span_line (map (found_span (chars haystack)) matches)

-- a line with the groups of each match of the pattern
pub record PrintsGroups (re : Expression) (haystack : List ℕ) (found : Bool) (text : List ℕ)
    : Type 0 where
  pub matches : List Found
  pub are_all : AreAhead (whole re haystack None) matches
  pub groups : List Groups
  pub each : AreGroupsOfEach re haystack matches groups
  pub known : found ≡ has_some matches
  pub printed : text ≡ flat_map (λ own. groups_line own.spans) groups

-- a line for each piece of the haystack
pub record PrintsPieces (re : Expression) (haystack text : List ℕ) : Type 0 where
  pub pieces : List (List ℕ)
  pub are_all : ArePieces re haystack pieces
  pub printed : text ≡ flat_map piece_line pieces

-- the haystack with each match replaced by the template's expansion
abbrev pub IsReplacedText : Expression → (template : Bor (List ℕ)) → (haystack text : List ℕ)
    → Type 0
IsReplacedText re template haystack text =
    IsReplacement (λ old fixed new. IsFixedText old.now fixed × (new ≡ old))
    (λ old groups appended answer new.
    IsAppendedTemplate old.now groups appended answer × (new ≡ old))
    template (whole re haystack None) text

-- what is printed for the question, and whether it counts as found
abbrev pub Prints : Question → Expression → (haystack : List ℕ) → (found : Bool)
    → (text : List ℕ) → Type 0
Prints IsMatch re haystack found text =
    (IsTrue found ↔ MatchesFrom re haystack 0) × (text ≡ [])
Prints Find re haystack found text = PrintsMatches re haystack found text
Prints Captures re haystack found text = PrintsGroups re haystack found text
Prints Split re haystack found text = (found ≡ true) × PrintsPieces re haystack text
Prints (Replace template) re haystack found text =
    (IsTrue found ↔ MatchesFrom re haystack 0)
    × MatchBool found (IsReplacedText re template haystack text) (text ≡ haystack)

-- The lines of an input, and which of them are written.
use Rattle.std.specs.Prelude.{◌≡◌, ◌⊎◌, ◌==◌, ◌++◌, ℕ, Bool, true, false, List, [], ◌∷◌, Option}
use Rattle.std.specs.Prelude.{IsUtf8, if◌then◌else◌}
use Rattle.std.specs.List.{concat}
use Rattle.std.specs.Io.BufRead.{strip_last}
use Rattle.std.specs.Io.KnownBytes.{Appends}
use Rattle.regex_lite.specs.Expression.{Expression}
use Rattle.regex_lite.specs.MatchOffsets.{MatchesIn}
use Rattle.line_filter.specs.declared.filter.Selection.{Selection}
use Rattle.line_filter.specs.declared.filter.Selection.TheVariants.{Matching, Others}

-- a byte and then these lines: the byte belongs to the first of them, unless it is a line feed
abbrev pub with_byte : ℕ → List (List ℕ) → List (List ℕ)
with_byte byte [] = (byte ∷ []) ∷ []
with_byte byte (line ∷ lines) =
    if byte == 10 then (byte ∷ []) ∷ line ∷ lines else (byte ∷ line) ∷ lines

-- the lines of these bytes, each with its line feed. the last may have none
abbrev pub lines_of : List ℕ → List (List ℕ)
lines_of [] = []
lines_of (byte ∷ bytes) = with_byte byte (lines_of bytes)

-- the text of a line before its line feed
abbrev pub text_of : (line : List ℕ) → List ℕ
text_of line = strip_last 10 line

-- the line is a text, and a match begins somewhere in it
abbrev pub LineMatches : Expression → (line : List ℕ) → Type 0
LineMatches re line = IsUtf8 (text_of line) × MatchesIn re (text_of line)

-- the line is to be written: the pattern matches it, or doesn't, as the selection asks for
abbrev pub IsSelected : Selection → (Matches : List ℕ → Type 0) → (line : List ℕ) → Type 0
IsSelected Matching Matches line = Matches line
IsSelected Others Matches line = ¬ (Matches line)

-- the lines of which this holds are kept, in their order
abbrev pub AreKept : (Holds : List ℕ → Type 0) → (lines kept : List (List ℕ)) → Type 0
AreKept Holds [] kept = kept ≡ []
AreKept Holds (line ∷ lines) kept =
    (¬ (Holds line) × AreKept Holds lines kept)
    ⊎ (Holds line × ((rest : List (List ℕ)) × (kept ≡ line ∷ rest) × AreKept Holds lines rest))

-- there is a line among these
abbrev pub has_some : List (List ℕ) → Bool
has_some [] = false
has_some (line ∷ lines) = true

-- the lines of which this holds were written after what the output held before, and `found` says
-- whether there is one
pub record AreFiltered (Holds : List ℕ → Type 0) (lines : List (List ℕ))
    (before after : Option (List ℕ)) (found : Bool) : Type 0 where
  pub kept : List (List ℕ)
  pub are_kept : AreKept Holds lines kept
  pub written : Appends before after (concat kept)
  pub reported : found ≡ has_some kept

-- the first lines, up to those that are left, were filtered in this way
pub record AreFilteredUpTo (Holds : List ℕ → Type 0) (lines left : List (List ℕ))
    (before after : Option (List ℕ)) (found : Bool) : Type 0 where
  pub first : List (List ℕ)
  pub all : lines ≡ first ++ left
  pub filtered : AreFiltered Holds first before after found

-- the first lines, up to some line, were filtered in this way
abbrev pub IsBegun : (Holds : List ℕ → Type 0) → (lines : List (List ℕ))
    → (before after : Option (List ℕ)) → Type 0
IsBegun Holds lines before after =
    (left : List (List ℕ)) × (found : Bool)
    × AreFilteredUpTo Holds lines left before after found

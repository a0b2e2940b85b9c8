-- White space and comments, and the gaps that verbose mode allows between the parts of a pattern.
use Rattle.std.specs.Prelude.{◌≡◌, ◌≢◌, ℕ, Bool, true, false, not, ◌==◌, [], ◌∷◌, ◌++◌, IsTrue}
use Rattle.std.specs.List.{AllPass}
use Rattle.regex_lite_syntax.specs.Text.{Text, the}
use Rattle.regex_lite_syntax.specs.Characters.{is_white_space}

-- a character of a comment: any but a line feed
abbrev pub is_in_comment : ℕ → Bool
is_in_comment c = not (c == the "\n")

-- a character of white space, or a comment: `#`, what is written in it, and then a line feed or the
-- end of the pattern
pub data SpacingPiece (t rest : Text) : Type 0 where
  white_space : (c : ℕ) → t ≡ c ∷ rest → IsTrue (is_white_space c) → SpacingPiece t rest
  comment : (written : Text) → t ≡ the "#" ∷ written ++ the "\n" ∷ rest
      → AllPass is_in_comment written → SpacingPiece t rest
  last_comment : (written : Text) → t ≡ the "#" ∷ written → rest ≡ []
      → AllPass is_in_comment written → SpacingPiece t rest

-- white space and comments, perhaps none
pub data Spacing : (t rest : Text) → Type 0 where
  no_more : {t rest : Text} → t ≡ rest → Spacing t rest
  further : {t rest : Text} (past : Text) → SpacingPiece t past → Spacing past rest
      → Spacing t rest

-- in verbose mode white space and comments, otherwise nothing
abbrev pub Gap : (verbose : Bool) → Text → Text → Type 0
Gap true t rest = Spacing t rest
Gap false t rest = rest ≡ t

-- no gap could continue here
abbrev pub EndsGap : (verbose : Bool) → Text → Type 0
EndsGap false t = Unit {0}
EndsGap true [] = Unit {0}
EndsGap true (c ∷ t) = IsTrue (not (is_white_space c)) × (c ≢ the "#")

-- a gap that is as long as possible
abbrev pub WholeGap : (verbose : Bool) → Text → Text → Type 0
WholeGap verbose t rest = Gap verbose t rest × EndsGap verbose rest

-- characters of one kind, each with a gap before it
abbrev pub Spaced : (verbose : Bool) → (kind : ℕ → Bool) → (written : Text) → Text → Text → Type 0
Spaced verbose kind [] t rest = t ≡ rest
Spaced verbose kind (c ∷ cs) t rest =
    (past : Text) × Gap verbose t (c ∷ past) × IsTrue (kind c) × Spaced verbose kind cs past rest

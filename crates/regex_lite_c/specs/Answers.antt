-- The numbers that calls return.
use Rattle.std.specs.Prelude.{◌≡◌, ◌⊎◌, ◌↔◌, ◌≤◌, ℕ, List, IsUtf8, IsCharBoundary}
use Rattle.std.specs.Prelude.{Result, MatchResult}
use Rattle.regex_lite_syntax.specs.declared.error.ErrorKind.{ErrorKind}
use Rattle.regex_lite_syntax.specs.declared.error.ErrorKind.TheVariants as kind
use Rattle.regex_lite_c.specs.declared.answer.TheConstants.{NO, YES, NOT_TEXT, BAD_OFFSET, NO_ROOM}
use Rattle.regex_lite_c.specs.declared.answer.TheConstants.{OUT_OF_MEMORY, SYNTAX, NESTING, GROUPS}
use Rattle.regex_lite_c.specs.declared.answer.TheConstants.{SIZE, PLACES, SLOTS, REPLACE}

-- the number of an error, by its kind
abbrev pub number_of : ErrorKind → ℕ
number_of kind.Syntax = SYNTAX
number_of kind.Nesting = NESTING
number_of kind.Groups = GROUPS
number_of kind.Size = SIZE
number_of kind.Places = PLACES
number_of kind.Slots = SLOTS
number_of kind.Memory = OUT_OF_MEMORY
number_of kind.Replace = REPLACE

-- the bytes can't be searched from this offset on, for the reason with this number
abbrev pub IsRefusedText : (bytes : List ℕ) → (start : ℕ) → (answer : ℕ) → Type 0
IsRefusedText bytes start answer =
    ((answer ≡ NOT_TEXT) × (IsUtf8 bytes → ⊥))
    ⊎ ((answer ≡ BAD_OFFSET) × IsUtf8 bytes × (IsCharBoundary bytes start → ⊥))

-- `Says` holds of the bytes from this offset on; or they can't be searched, or memory ran out, as
-- the number says
abbrev pub IsSaid : {X : Type 0} → (bytes : List ℕ) → (start : ℕ) → (Says : X → Type 0)
    → Result X ℕ → Type 0
IsSaid bytes start Says said =
    MatchResult said (λ own. IsUtf8 bytes × IsCharBoundary bytes start × Says own)
    (λ answer. IsRefusedText bytes start answer
    ⊎ ((answer ≡ OUT_OF_MEMORY) × IsUtf8 bytes × IsCharBoundary bytes start))

-- the bytes or the offset are rejected exactly if they are wrong
pub record RefusesText (bytes : List ℕ) (start answer : ℕ) : Type 0 where
  pub not_text : (answer ≡ NOT_TEXT) ↔ (IsUtf8 bytes → ⊥)
  pub bad_offset : (answer ≡ BAD_OFFSET) ↔ (IsUtf8 bytes × (IsCharBoundary bytes start → ⊥))

-- the answer for a text that can be searched: yes, no, memory ran out, or the buffer is too small
abbrev pub IsOfFound : (answer : ℕ) → Type 0
IsOfFound answer = (answer ≤ YES) ⊎ ((answer ≡ OUT_OF_MEMORY) ⊎ (answer ≡ NO_ROOM))

-- a call that writes what it finds in a text to the caller's buffer has failed: the text or the
-- offset is rejected, memory runs out, or the buffer is too small
abbrev pub IsFailure : (answer : ℕ) → Type 0
IsFailure answer =
    (answer ≡ NOT_TEXT) ⊎ ((answer ≡ BAD_OFFSET) ⊎ ((answer ≡ OUT_OF_MEMORY)
    ⊎ (answer ≡ NO_ROOM)))

-- what a search of these bytes from this offset on returns, if 1 means `yes` and 0 means `no`
pub record IsSearchAnswer (bytes : List ℕ) (start answer : ℕ) (yes no : Type 0) : Type 0 where
  pub found : answer ≡ YES → yes
  pub none : answer ≡ NO → no
  pub refused : RefusesText bytes start answer
  pub one_of : (answer ≤ YES) ⊎ ((answer ≡ NOT_TEXT) ⊎ ((answer ≡ BAD_OFFSET)
      ⊎ (answer ≡ OUT_OF_MEMORY)))

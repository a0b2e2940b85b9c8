-- The expansion of a template. Templates, names and texts are given as their bytes.
use Rattle.std.specs.Prelude.{◌≡◌, ◌≢◌, ◌<◌, ◌⊎◌, ◌&&◌, ◌||◌, ◌==◌, ◌^◌, ℕ, Bool}
use Rattle.std.specs.Prelude.{not, nat_lt, List, [], ◌∷◌, ◌++◌, Option, Contains}
use Rattle.std.specs.Prelude.{length, take, drop, unwrap_or, if◌then◌else◌}
use Rattle.std.specs.List.{prefix_len, position_or_len, before_first, after_first, list_all}
use Rattle.regex_lite_syntax.specs.Text.{the}
use Rattle.regex_lite_syntax.specs.Characters.{is_digit, is_letter, number_of}
pub mod Pieces

-- a piece of a template: text that stands for itself, or a reference to the group with an index or
-- with a name
pub data Piece : Type 0 where
  plain : (text : List ℕ) → Piece
  numbered : (index : ℕ) → Piece
  named : (name : List ℕ) → Piece

-- the characters of a name without braces
abbrev pub is_name_character : ℕ → Bool
is_name_character b = is_digit b || is_letter b || b == the "_"

abbrev pub is_closing : ℕ → Bool
is_closing b = b == the "}"

-- A reference in braces extends to the next closing brace. Here `after` is the text after its `$`,
-- and `rest` the text after the reference.
pub record IsBraced (after name rest : List ℕ) : Type 0 where
  pub inner : List ℕ
  pub opens : after ≡ the "{" ∷ inner
  pub closes : position_or_len is_closing inner < length inner
  pub is_name : name ≡ before_first is_closing inner
  pub is_rest : rest ≡ after_first is_closing inner

-- the name of a reference without braces is the longest run of such characters, of which there is
-- at least one
pub record IsBare (after name rest : List ℕ) : Type 0 where
  pub some : 0 < prefix_len is_name_character after
  pub is_name : name ≡ take (prefix_len is_name_character after) after
  pub is_rest : rest ≡ drop (prefix_len is_name_character after) after

abbrev pub IsReference : (after name rest : List ℕ) → Type 0
IsReference after name rest = IsBraced after name rest ⊎ IsBare after name rest

abbrev pub HasNoReference : (after : List ℕ) → Type 0
HasNoReference after = (name rest : List ℕ) → IsReference after name rest → ⊥

-- a name that consists of digits and whose number is below 2^64 is an index
abbrev pub is_index : (name : List ℕ) → Bool
is_index name =
    not (length name == 0) && list_all is_digit name && nat_lt (number_of 10 name) (2 ^ 64)

abbrev pub referred : (name : List ℕ) → Piece
referred name = if is_index name then numbered (number_of 10 name) else named name

-- The template begins with this piece, and the rest follows.
pub data BeginsWith (template : List ℕ) (piece : Piece) (rest : List ℕ) : Type 0 where
  -- text without a `$`
  no_dollar : (run : List ℕ) → run ≢ [] → ¬ (Contains run (the "$")) → template ≡ run ++ rest
      → piece ≡ plain run → BeginsWith template piece rest
  -- `$$` is a `$`
  two_dollars : template ≡ the "$" ∷ the "$" ∷ rest → piece ≡ plain (the "$" ∷ [])
      → BeginsWith template piece rest
  reference : (after name : List ℕ) → template ≡ the "$" ∷ after → IsReference after name rest
      → piece ≡ referred name → BeginsWith template piece rest
  -- any other `$` is text
  one_dollar : template ≡ the "$" ∷ rest → ((t : List ℕ) → rest ≢ the "$" ∷ t) → HasNoReference rest
      → piece ≡ plain (the "$" ∷ []) → BeginsWith template piece rest

-- the texts of the groups that exist and took part, by index and by name
pub record GroupTexts : Type 0 where
  pub at : ℕ → Option (List ℕ)
  pub at_name : List ℕ → Option (List ℕ)

-- the expansion of a piece: the empty text if there is no such group or it took no part
abbrev pub piece_text : GroupTexts → Piece → List ℕ
piece_text groups (plain text) = text
piece_text groups (numbered index) = unwrap_or (groups.at index) []
piece_text groups (named name) = unwrap_or (groups.at_name name) []

-- the expansion of a template is that of its pieces, one after another
pub data IsInterpolation (groups : GroupTexts) : (template text : List ℕ) → Type 0 where
  nothing : {template text : List ℕ} → template ≡ [] → text ≡ []
      → IsInterpolation groups template text
  piece_and_rest : {template text : List ℕ} (piece : Piece) (rest more : List ℕ)
      → BeginsWith template piece rest → IsInterpolation groups rest more
      → text ≡ piece_text groups piece ++ more → IsInterpolation groups template text

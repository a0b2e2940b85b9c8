-- Names of capturing groups.
use Rattle.std.specs.Prelude.{◌≡◌, ◌≢◌, ℕ, Bool, true, false, not, ◌&&◌, ◌||◌}
use Rattle.std.specs.Prelude.{◌==◌, List, [], ◌∷◌, ◌++◌, IsTrue, AllPairs, codes}
use Rattle.std.specs.List.{list_all, AllPass}
use Rattle.unicode.specs.Binary.{is_alphabetic}
use Rattle.unicode.specs.GeneralCategory.{general_category}
use Rattle.unicode.specs.declared.properties.GeneralCategory.{GeneralCategory}
use Rattle.unicode.specs.declared.properties.GeneralCategory.TheVariants.{DecimalNumber}
use Rattle.unicode.specs.declared.properties.GeneralCategory.TheVariants.{LetterNumber, OtherNumber}
use Rattle.regex_lite_syntax.specs.Text.{Text, the, ◌∈◌}

-- the categories of numbers: Nd, Nl and No
abbrev pub is_number : GeneralCategory → Bool
is_number DecimalNumber = true
is_number LetterNumber = true
is_number OtherNumber = true
is_number _ = false

-- a character that may begin a name
abbrev pub begins_name : ℕ → Bool
begins_name c = c == the "_" || is_alphabetic c

-- a character that may continue a name
abbrev pub continues_name : ℕ → Bool
continues_name c = c ∈ "_.[]" || is_alphabetic c || is_number (general_category c)

abbrev pub is_name : Text → Bool
is_name [] = false
is_name (c ∷ t) = begins_name c && list_all continues_name t

-- no character of a name ends it
abbrev pub is_no_end : ℕ → Bool
is_no_end c = not (c == the ">")

-- a name and the `>` that ends it, after the `<`
pub record NameWritten (t rest name : Text) : Type 0 where
  pub written : t ≡ name ++ the ">" ∷ rest
  pub inside : AllPass is_no_end name
  pub is_a_name : IsTrue (is_name name)

-- the opening of a name, from the `?` of the group's head on
pub data NameOpening (t past : Text) : Type 0 where
  with_p : t ≡ codes "?P<" ++ past → NameOpening t past
  without_p : t ≡ codes "?<" ++ past → NameOpening t past

-- a name with its brackets, from the `?` on
pub record Named (t rest name : Text) : Type 0 where
  pub past : Text
  pub opens : NameOpening t past
  pub called : NameWritten past rest name

-- no name occurs twice
abbrev pub NamesDiffer : List Text → Type 0
NamesDiffer names = AllPairs (λ name later. name ≢ later) names

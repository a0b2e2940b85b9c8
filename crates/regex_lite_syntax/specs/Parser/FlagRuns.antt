-- The internal contracts of the functions that read flags.
use Rattle.std.specs.Prelude.{◌≡◌, [], ◌∷◌, ◌++◌, ◌⊎◌, IsTrue}
use Rattle.regex_lite_syntax.specs.declared.flags.Flags.{Flags}
use Rattle.std.specs.List.{AllPass}
use Rattle.regex_lite_syntax.specs.Text.{Text, Begins, the, ◌∈◌}
use Rattle.regex_lite_syntax.specs.Grammar.FlagLetters.{is_flag_letter, all_differ, FlagLetters}

-- flags up to the `:` or `)` that ends them
pub record EndedFlags (old : Flags) (t rest : Text) (new : Flags) : Type 0 where
  pub letters : FlagLetters old t rest new
  pub ends : Begins (the ":") rest ⊎ Begins (the ")") rest

-- the text begins with what ends a run of flag letters
abbrev pub EndsRun : Text → Type 0
EndsRun [] = ⊥
EndsRun (c ∷ t) = IsTrue (c ∈ "-:)")

-- flag letters up to what ends them; none occurs twice, nor among those before
pub record LetterRun (before letters t rest : Text) : Type 0 where
  pub written : t ≡ letters ++ rest
  pub all : AllPass is_flag_letter letters
  pub differ : IsTrue (all_differ (before ++ letters))
  pub ends : EndsRun rest

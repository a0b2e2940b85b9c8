-- What a replacer may append for a match, and what it returns if it is asked for a fixed text.
use Rattle.std.specs.Prelude.{◌≡◌, ◌++◌, ℕ, List, [], Option, Result, Ok, Err, ⊤}
use Rattle.std.specs.Prelude.{MatchResult, MatchOption, Contains, String, string_bytes}
use Rattle.std.specs.Borrow.{RattleType, MutBor, Fml, follows_so}
use Rattle.std.specs.declared.alloc.Global.{Global}
use mathlib.Core.Option.{none}
use Rattle.regex_lite_syntax.specs.declared.error.Error.{Error}
use Rattle.regex_lite_syntax.specs.Errors.{out_of_memory}
use Rattle.regex_lite_syntax.specs.Text.{the}
use Rattle.regex_lite.specs.Groups.{Groups}
use Rattle.regex_lite.specs.Templates.{IsExpansion}

-- what a replacer returns when it is to append: `Ok`, or an error
abbrev pub Answer : Type 0
Answer = Result (Unit {0}) Error

-- this holds of the value behind a `&mut` when the borrow in a result ends
abbrev pub Rests : (R : RattleType) → MutBor R.Denot → (R.Denot → Type 0) → Fml
Rests R reference Holds = follows_so R R reference.ghost_name none (λ _ _. ⊤) Holds

-- the text is a prefix of the complete one
abbrev pub Begins : (text complete : List ℕ) → Type 0
Begins text complete = (rest : List ℕ) × (complete ≡ text ++ rest)

-- with `Ok` the complete text was appended; otherwise memory ran out, and a prefix was appended
abbrev pub IsAppendedText : (complete text : List ℕ) → Answer → Type 0
IsAppendedText complete text answer =
    MatchResult answer (λ _. text ≡ complete)
    (λ error. (error ≡ out_of_memory) × Begins text complete)

-- the template's expansion for the groups was appended in that way
abbrev pub IsAppendedTemplate : (template : List ℕ) → Groups → (text : List ℕ) → Answer → Type 0
IsAppendedTemplate template groups text answer =
    (complete : List ℕ) × IsExpansion groups template complete
    × IsAppendedText complete text answer

-- a template without a `$` is a fixed text, and one with a `$` isn't
abbrev pub IsFixedText : (template : List ℕ) → Option (List ℕ) → Type 0
IsFixedText template fixed =
    MatchOption fixed (Contains template (the "$"))
    (λ text. (text ≡ template) × ¬ (Contains template (the "$")))

-- what a closure returned was appended, or its error is the answer
abbrev pub IsAppendedResult : Result (String Global) Error → (text : List ℕ) → Answer → Type 0
IsAppendedResult (Ok made) text answer = IsAppendedText (string_bytes made) text answer
IsAppendedResult (Err error) text answer = (text ≡ []) × (answer ≡ Err error)

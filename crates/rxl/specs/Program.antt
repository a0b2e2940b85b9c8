-- What a run reports.
use Rattle.std.specs.Prelude.{◌≡◌, ℕ, Bool, true, false, List, Option, IfSome, IsUtf8}
use Rattle.std.specs.Borrow.{Bor}
use Rattle.std.specs.Io.KnownBytes.{Appends}
use Rattle.regex_lite.specs.Escapes.{escaped_pattern}
use Rattle.regex_lite.specs.Expression.{IsAccepted, expression_of}
use Rattle.regex_lite.specs.Settings.{default_settings}
use Rattle.rxl.specs.declared.command.Command.{Command}
use Rattle.rxl.specs.declared.command.Command.TheVariants.{Ask, Escape}
use Rattle.rxl.specs.declared.command.Question.{Question}
use Rattle.rxl.specs.Commands.{Asks}
use Rattle.rxl.specs.Printed.{Prints}

-- the exit status of a run that found what was asked for, or found that it isn't there
abbrev pub status_of : (found : Bool) → ℕ
status_of true = 0
status_of false = 1

-- this text is printed for the question about the pattern, under the default settings, and the
-- input; if the input's bytes aren't known, nothing is said about the text
pub record IsQuestionAnswered (question : Question) (pattern : List ℕ) (input : Option (List ℕ))
    (found : Bool) (text : List ℕ) : Type 0 where
  -- the grammar gives the pattern a tree, and no limit is exceeded
  pub accepted : IsAccepted (default_settings pattern)
  -- the input is a text
  pub is_text : IfSome input IsUtf8
  pub prints : IfSome input
      (λ haystack. Prints question (expression_of (default_settings pattern)) haystack found text)

-- the command is answered from the input: it asks about a pattern that is accepted
abbrev pub TakesInput : Command → Type 0
TakesInput (Ask question pattern) = IsAccepted (default_settings pattern.now)
TakesInput (Escape text) = ⊥

-- the command that the arguments ask for is answered from the input
abbrev pub AsksForInput : (args : List (Bor (List ℕ))) → Type 0
AsksForInput args = (command : Command) × Asks args command × TakesInput command

-- this text is printed for the command
abbrev pub IsCommandAnswered : Command → (input : Option (List ℕ)) → (found : Bool)
    → (text : List ℕ) → Type 0
IsCommandAnswered (Ask question pattern) input found text =
    IsQuestionAnswered question pattern.now input found text
IsCommandAnswered (Escape pattern) input found text =
    (found ≡ true) × (text ≡ escaped_pattern pattern.now)

-- the arguments ask for a command, and this text is printed for it
abbrev pub IsAnswered : (args : List (Bor (List ℕ))) → (input : Option (List ℕ))
    → (found : Bool) → (text : List ℕ) → Type 0
IsAnswered args input found text =
    (command : Command) × Asks args command × IsCommandAnswered command input found text

-- the writer that held the first bytes has received what is printed, and the status says whether
-- it was found
pub record IsDone (args : List (Bor (List ℕ))) (input before now : Option (List ℕ)) (status : ℕ)
    : Type 0 where
  pub found : Bool
  pub reported : status ≡ status_of found
  pub text : List ℕ
  pub answered : IsAnswered args input found text
  pub written : Appends before now text

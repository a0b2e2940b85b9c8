-- The meaning of a fault, and the line that reports it.
use Rattle.std.specs.Prelude.{◌≡◌, ◌⊎◌, ◌++◌, ℕ, Bool, false, List, Option, IfSome, IsUtf8, codes}
use Rattle.std.specs.Borrow.{Bor}
use Rattle.std.specs.Io.KnownBytes.{Appends}
use Rattle.regex_lite.specs.Errors.{out_of_memory, text_of}
use Rattle.regex_lite.specs.Settings.{default_settings}
use Rattle.regex_lite.specs.Expression.{IsAccepted, IsDue}
use Rattle.regex_lite.specs.Replacing.{Begins}
use Rattle.rxl.specs.declared.command.Command.{Command}
use Rattle.rxl.specs.declared.command.Command.TheVariants.{Ask, Escape}
use Rattle.rxl.specs.declared.fault.Failure.{Failure}
use Rattle.rxl.specs.declared.fault.Failure.TheVariants.{Usage, NotUtf8, Unreadable}
use Rattle.rxl.specs.declared.fault.Failure.TheVariants.{Unwritten, Refused}
use Rattle.rxl.specs.Commands.{AskForNone, Asks}
use Rattle.rxl.specs.Output.{IsWritten}
use Rattle.rxl.specs.Program.{IsAnswered}

-- the text of a fault
abbrev pub text_of_fault : Failure → List ℕ
text_of_fault Usage = codes "usage: rxl is-match|find|captures|split|replace|escape PATTERN [TEXT]"
text_of_fault NotUtf8 = codes "standard input is not UTF-8"
text_of_fault Unreadable = codes "standard input cannot be read"
text_of_fault Unwritten = codes "standard output cannot be written"
text_of_fault (Refused error) = text_of error

-- the line that reports a fault
abbrev pub line_of_fault : Failure → List ℕ
line_of_fault fault = text_of_fault fault ++ codes "\n"

-- a writer that held the first bytes holds the second now: it has received the line of the fault,
-- or a prefix of it
abbrev pub IsReported : Failure → (before now : Option (List ℕ)) → Type 0
IsReported fault before now =
    (written : List ℕ) × Begins written (line_of_fault fault) × Appends before now written

-- the first fault is reported as the second: as itself, or an error as the out-of-memory error if
-- there is no memory to report it
abbrev pub IsReportedAs : Failure → Failure → Type 0
IsReportedAs (Refused error) named =
    (named ≡ Refused error) ⊎ (named ≡ Refused out_of_memory)
IsReportedAs fault named = named ≡ fault

-- the input could not be read, or there was no memory for it
abbrev pub IsReadFault : Failure → Type 0
IsReadFault fault = (fault ≡ Unreadable) ⊎ (fault ≡ Refused out_of_memory)

-- what the fault says of a pattern that is asked about and of the input is true. there is a fault
-- of the input only if the pattern is accepted, and then the only error is that memory ran out
abbrev pub IsQuestionFault : Failure → (pattern : List ℕ) → (input : Option (List ℕ)) → Type 0
IsQuestionFault Usage pattern input = ⊥
IsQuestionFault NotUtf8 pattern input =
    IsAccepted (default_settings pattern) × IfSome input (λ bytes. IsUtf8 bytes → ⊥)
IsQuestionFault Unreadable pattern input = IsAccepted (default_settings pattern)
IsQuestionFault Unwritten pattern input = ⊥
IsQuestionFault (Refused error) pattern input =
    IsDue (default_settings pattern) error
    × (IsAccepted (default_settings pattern) → error ≡ out_of_memory)

-- what the fault says of the command and the input is true
abbrev pub IsFaultOf : Failure → Command → (input : Option (List ℕ)) → Type 0
IsFaultOf fault (Ask question pattern) input = IsQuestionFault fault pattern.now input
IsFaultOf fault (Escape text) input = fault ≡ Refused out_of_memory

-- the fault is due for the arguments, or for the command that they ask for
abbrev pub IsFault : Failure → (args : List (Bor (List ℕ))) → (input : Option (List ℕ)) → Type 0
IsFault Usage args input = AskForNone args
IsFault fault args input =
    (command : Command) × Asks args command × IsFaultOf fault command input

-- a prefix of what would have been printed was written
abbrev pub IsCutShort : (args : List (Bor (List ℕ))) → (input before now : Option (List ℕ))
    → Type 0
IsCutShort args input before now =
    (found : Bool) × (text : List ℕ) × IsAnswered args input found text
    × IsWritten before now text false

-- what the fault says is true
abbrev pub Ends : Failure → (args : List (Bor (List ℕ))) → (input before now : Option (List ℕ))
    → Type 0
Ends Unwritten args input before now = IsCutShort args input before now
Ends fault args input before now = IsFault fault args input

-- From what is printed for a question to what a run reports.
use Rattle.std.proofs.Common.{◌≡◌, ℕ, Bool, true, false, List, [], Option, Some, None, Result}
use Rattle.std.proofs.Common.{Ok, Err, IfOk, IfSome, IsTrue, IsUtf8, ◌↔◌, refl, sym, subst}
use Rattle.std.specs.Prelude.{⊤}
use Rattle.std.specs.Borrow.{Bor}
use Rattle.std.specs.Io.KnownBytes.{Appends}
use Rattle.regex_lite.specs.Searches.{MatchesFrom}
use Rattle.regex_lite.specs.Settings.{default_settings}
use Rattle.regex_lite.specs.Expression.{Expression, IsAccepted, expression_of}
use Rattle.rxl.specs.declared.command.Command.{Command}
use Rattle.rxl.specs.declared.command.Question.{Question}
use Rattle.rxl.specs.declared.command.Question.TheVariants.{IsMatch}
use Rattle.rxl.specs.declared.output.Output.{Output}
use Rattle.rxl.specs.Commands.{Asks}
use Rattle.rxl.specs.Faults.{IsCutShort}
use Rattle.rxl.specs.Output.{IsPrinted, IsWritten, Puts, PutsSome}
use Rattle.rxl.specs.Printed.{Prints}
use Rattle.rxl.specs.Program.{IsCommandAnswered, IsDone, IsQuestionAnswered, status_of}
use Rattle.rxl.proofs.OutputLemmas.{nothing_printed, puts_nothing}

-- what is printed for the whole input answers the question
pub answered_by_print : (question : Question) (pattern : List ℕ) (input : Option (List ℕ))
    (re : Expression) (haystack : List ℕ) → re ≡ expression_of (default_settings pattern)
    → IsAccepted (default_settings pattern) → IfSome input (λ known. haystack ≡ known)
    → IsUtf8 haystack → (found : Bool) (text : List ℕ) → Prints question re haystack found text
    → IsQuestionAnswered question pattern input found text
answered_by_print question pattern None re haystack re_is accepted whole is_utf8 found text prints =
    record { accepted = accepted; is_text = tt; prints = tt }
answered_by_print question pattern (Some known) re haystack re_is accepted whole is_utf8 found
    text prints =
    record {
      accepted = accepted;
      is_text = subst IsUtf8 whole is_utf8;
      prints = subst
          (λ bytes. Prints question (expression_of (default_settings pattern)) bytes found text)
          whole (subst (λ r. Prints question r haystack found text) re_is prints);
    }

-- a search prints nothing
pub printed_by_search : {E : Type 0} (result : Result Bool E) (re : Expression) (haystack : List ℕ)
    (output : Output) (held : Option (List ℕ))
    → IfOk result (λ found. IsTrue found ↔ MatchesFrom re haystack 0)
    → IfOk result (λ found. PutsSome (Prints IsMatch re haystack found) output held output held)
printed_by_search (Ok found) re haystack output held reported =
    ([], (reported, refl), puts_nothing output held)
printed_by_search (Err error) re haystack output held reported = tt

-- what was printed since nothing was, is what was written at the end
pub all_written : (before held holds : Option (List ℕ)) (old new : Output) (all : Bool)
    (text : List ℕ) → old.waiting.items ≡ [] → old.has_failed ≡ false
    → Puts old before new held text
    → ((first : Option (List ℕ)) → (printed : List ℕ) → IsPrinted first held new printed
    → IsWritten first holds printed all)
    → IsWritten before holds text all
all_written before held holds old new all text empty still puts ends =
    ends before text (puts before [] (nothing_printed old before empty still))

-- so some text was written
pub some_written : (before held holds : Option (List ℕ)) (old new : Output) (all : Bool)
    → old.waiting.items ≡ [] → old.has_failed ≡ false → PutsSome (λ _. ⊤) old before new held
    → ((first : Option (List ℕ)) → (printed : List ℕ) → IsPrinted first held new printed
    → IsWritten first holds printed all)
    → (text : List ℕ) × Appends before holds text
some_written before held holds old new all empty still some ends =
    let w = all_written before held holds old new all some.0 empty still some.2 ends in
    (w.written, w.appended)

-- all of the answer was written
pub done : (args : List (Bor (List ℕ))) (command : Command) (input before now : Option (List ℕ))
    (found : Bool) (text : List ℕ) → Asks args command
    → IsCommandAnswered command input found text → IsWritten before now text true
    → IsDone args input before now (status_of found)
done args command input before now found text asked answered w = record {
  found = found;
  reported = refl;
  text = text;
  answered = (command, asked, answered);
  written = subst (Appends before now) (sym w.reported) w.appended;
}

-- a beginning of it was
pub cut_short : (args : List (Bor (List ℕ))) (command : Command)
    (input before now : Option (List ℕ)) (found : Bool) (text : List ℕ) → Asks args command
    → IsCommandAnswered command input found text → IsWritten before now text false
    → IsCutShort args input before now
cut_short args command input before now found text asked answered w =
    (found, text, (command, asked, answered), w)

-- From what went wrong to what the fault says.
use Rattle.std.proofs.Common.{◌≡◌, inl, inr, ℕ, Bool, true, false, Result, Ok, Err}
use Rattle.std.proofs.Common.{List, [], Option, Some, None, IfSome, IsUtf8, refl, sym, ◌∙◌, subst}
use Rattle.std.specs.Borrow.{Bor}
use Rattle.std.specs.Io.KnownBytes.{Appends}
use Rattle.std.proofs.lemmas.List.{append-nil}
use Rattle.regex_lite.specs.Errors.{out_of_memory}
use Rattle.regex_lite.specs.Replacing.{Begins}
use Rattle.rxl.specs.declared.command.Command.{Command}
use Rattle.rxl.specs.declared.command.Command.TheVariants.{Ask, Escape}
use Rattle.rxl.specs.declared.fault.Failure.{Failure}
use Rattle.rxl.specs.declared.fault.Failure.TheVariants.{Usage, NotUtf8, Unreadable}
use Rattle.rxl.specs.declared.fault.Failure.TheVariants.{Unwritten, Refused}
use Rattle.rxl.specs.Faults.{Ends, IsCutShort, IsFaultOf, IsReported, IsReportedAs, line_of_fault}
use Rattle.rxl.specs.Output.{IsWritten}

-- what was read whole is no text, so the input is none
pub no_text : (input : Option (List ℕ)) (bytes : List ℕ) → IfSome input (λ known. bytes ≡ known)
    → (IsUtf8 bytes → ⊥) → IfSome input (λ known. IsUtf8 known → ⊥)
no_text None bytes whole broken = tt
no_text (Some known) bytes whole broken = subst (λ b. IsUtf8 b → ⊥) whole broken

-- a failed write ends the run
pub ends_cut_short : (fault : Failure) (args : List (Bor (List ℕ)))
    (input before now : Option (List ℕ)) → fault ≡ Unwritten → IsCutShort args input before now
    → Ends fault args input before now
ends_cut_short fault args input before now is cut =
    subst (λ f. Ends f args input before now) (sym is) cut

-- memory can be wanting for any command
wanting : (command : Command) (input : Option (List ℕ))
    → IsFaultOf (Refused out_of_memory) command input
wanting (Ask question pattern) input = (inl tt, λ _. refl)
wanting (Escape text) input = refl

-- what is reported instead of a fault that occurred, occurred too
so_as_reported : (fault named : Failure) (args : List (Bor (List ℕ)))
    (input before now : Option (List ℕ)) → IsReportedAs fault named
    → Ends fault args input before now → Ends named args input before now
so_as_reported Usage named args input before now is so =
    subst (λ f. Ends f args input before now) (sym is) so
so_as_reported NotUtf8 named args input before now is so =
    subst (λ f. Ends f args input before now) (sym is) so
so_as_reported Unreadable named args input before now is so =
    subst (λ f. Ends f args input before now) (sym is) so
so_as_reported Unwritten named args input before now is so =
    subst (λ f. Ends f args input before now) (sym is) so
so_as_reported (Refused error) named args input before now (inl is) so =
    subst (λ f. Ends f args input before now) (sym is) so
so_as_reported (Refused error) named args input before now (inr is) so =
    subst (λ f. Ends f args input before now) (sym is) (so.0, so.1, wanting so.0 input)

-- a text or a beginning of it was written
begun : (text : List ℕ) (before now : Option (List ℕ)) (all : Bool)
    → IsWritten before now text all
    → (written : List ℕ) × Begins written text × Appends before now written
begun text before now true w =
    (w.written, ([], w.reported ∙ sym (append-nil w.written)), w.appended)
begun text before now false w = (w.written, w.reported, w.appended)

-- a fault that is so was reported
pub reported : (fault : Failure) (args : List (Bor (List ℕ))) (input before now : Option (List ℕ))
    (received receives : Option (List ℕ)) (all : Bool) → Ends fault args input before now
    → ((named : Failure) × IsReportedAs fault named
    × IsWritten received receives (line_of_fault named) all)
    → (named : Failure) × Ends named args input before now × IsReported named received receives
reported fault args input before now received receives all so report = (
  report.0,
  so_as_reported fault report.0 args input before now report.1 so,
  begun (line_of_fault report.0) received receives all report.2,
)

-- the fault of a refused result
abbrev pub fault_of : {T : Type 0} → Result T Failure → Failure
fault_of (Ok value) = Usage
fault_of (Err fault) = fault

-- where no command is asked for the line on the usage was reported
pub usage_reported : (fault : Failure) (received receives : Option (List ℕ)) (all : Bool) → fault
    ≡ Usage → ((named : Failure) × IsReportedAs fault named
    × IsWritten received receives (line_of_fault named) all)
    → IsReported Usage received receives
usage_reported fault received receives all is report =
    let named_is : report.0 ≡ Usage =
    subst (λ f. IsReportedAs f report.0) is report.1 in
    begun (line_of_fault Usage) received receives all
    (subst (λ f. IsWritten received receives (line_of_fault f) all) named_is report.2)

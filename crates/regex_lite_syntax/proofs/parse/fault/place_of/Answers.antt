use Rattle.regex_lite_syntax.proofs.Common.{MatchBool, subst, BeginsNone, BeginsSome}
use Rattle.regex_lite_syntax.proofs.ExitLemmas.{at_exit}
use Rattle.regex_lite_syntax.proofs.machine.FaultEndLemmas.{unread_untold}
use Rattle.regex_lite_syntax.proofs.parse.fault.place_of.Goals as goal

pub returns-in_err-end-clause-refused : goal.returns-in_err-end-clause-refused
returns-in_err-end-clause-refused c =
    let flags = c.args.flags in
    let xs = c.args.chars.now in
    let none : BeginsNone flags xs =
    subst (λ b. MatchBool b (BeginsSome flags xs) (BeginsNone flags xs)) c.if-stop.false
    c.requires.goes_on in
    at_exit _ _ c.from_residual.ensures.1
    (unread_untold flags xs _ none c.in_err-end.ensures.refused)

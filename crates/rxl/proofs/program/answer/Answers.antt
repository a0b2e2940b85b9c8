use Rattle.std.proofs.Common.{refl}
use Rattle.regex_lite.specs.Escapes.{escaped_pattern}
use Rattle.rxl.proofs.program.answer.Goals as goal

pub returns-in-Ask-clause-ok : goal.returns-in-Ask-clause-ok
returns-in-Ask-clause-ok g c = rw c.in-Ask.is c.ask.ensures.ok

pub returns-in_ok-print_escaped-in-Escape-clause-ok :
    goal.returns-in_ok-print_escaped-in-Escape-clause-ok
returns-in_ok-print_escaped-in-Escape-clause-ok g c =
    let printed = c.in_ok-print_escaped-in-Escape.ensures.ok in
    (escaped_pattern c.in-Escape.text.now, rw c.in-Escape.is (printed.0, refl), printed.1)

use Rattle.regex_lite_syntax.proofs.Common.{MatchBool, sym, ◌∙◌, subst, BeginsNone, BeginsSome}
use Rattle.regex_lite_syntax.proofs.Common.{Stop}
use Rattle.std.proofs.Common.{IfSome}
use Rattle.regex_lite_syntax.proofs.CharacterLemmas.{chars_are}
use Rattle.regex_lite_syntax.proofs.parse.fault.fault_at.Goals as goal

pub first_stop-requires : goal.first_stop-requires
first_stop-requires c =
    rw (c.deref.ensures.value ∙ c.in_ok-chars.ensures) (chars_are c.args.pattern.now c.utf8.pattern)

pub place_of-requires-clause-characters : goal.place_of-requires-clause-characters
place_of-requires-clause-characters c =
    rw (c.deref-in-Some.ensures.value ∙ c.in_ok-chars.ensures)
    (chars_are c.args.pattern.now c.utf8.pattern)

pub place_of-requires-clause-goes_on : goal.place_of-requires-clause-goes_on
place_of-requires-clause-goes_on c =
    let flags = c.args.flags in
    let xs = c.deref.result.now in
    rw (c.deref-in-Some.ensures.value ∙ sym c.deref.ensures.value) (subst
    (λ found. IfSome found (λ (stop : Stop).
    MatchBool stop.is_cut_short (BeginsSome flags xs) (BeginsNone flags xs)))
    c.in-Some.is c.in_ok-first_stop.ensures.goes_on)

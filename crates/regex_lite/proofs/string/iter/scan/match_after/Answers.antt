use Rattle.regex_lite.proofs.Common.{◌<◌, ◌≤◌, Some, chars, sym, subst, arith, IsEmptyAnswerFrom}
use Rattle.regex_lite.proofs.Common.{span_of_match}
use Rattle.regex_lite.specs.NextMatch.{TellsNextMatch}
use Rattle.regex_lite.proofs.string.NextLemmas.{empty_reported, later_reported, none_reported}
use Rattle.regex_lite.proofs.string.iter.scan.match_after.Goals as goal

pub returns-in_err-found-clause-next : goal.returns-in_err-found-clause-next
returns-in_err-found-clause-next g c =
    let f = g.F.Finds in
    let bytes = c.args.haystack.now in
    let sought = f.sought c.args.finder.now in
    let slots = f.slots c.match_at.new.finder in
    subst (TellsNextMatch f.found_of f.number_of (f.IsAnswer sought (chars bytes)) bytes
    (Some c.args.end) slots) (sym c.from_residual.ensures)
    (none_reported f.found_of f.number_of bytes (f.IsAnswer sought (chars bytes))
    c.match_at.ensures.lawful slots c.utf8.haystack c.args.end c.requires
    c.in_err-found.ensures.found)

pub returns-then-end-clause-next : goal.returns-then-end-clause-next
returns-then-end-clause-next g c =
    let f = g.F.Finds in
    let bytes = c.args.haystack.now in
    let found = c.in_ok-found.found in
    let later : c.args.end < (span_of_match found.1).1 =
    omega (arith, c.if-end.true, c.end.ensures) in
    later_reported f.found_of f.number_of bytes
    (f.IsAnswer (f.sought c.args.finder.now) (chars bytes)) c.match_at.ensures.lawful
    (f.slots c.match_at.new.finder) c.utf8.haystack c.args.end c.requires found
    c.in_ok-found.ensures.found later

pub match_after_empty-requires-clause-empty : goal.match_after_empty-requires-clause-empty
match_after_empty-requires-clause-empty g c =
    let f = g.F.Finds in
    let bytes = c.args.haystack.now in
    let found = c.in_ok-found.found in
    let early : (span_of_match found.1).1 ≤ c.args.end =
    omega (arith, c.if-end.false, c.end.ensures) in
    subst (λ own. IsEmptyAnswerFrom f.found_of (f.IsAnswer own (chars bytes)) bytes c.args.end)
    (sym c.match_at.ensures.sought)
    (empty_reported f.found_of f.number_of bytes
    (f.IsAnswer (f.sought c.args.finder.now) (chars bytes)) c.match_at.ensures.lawful
    (f.slots c.match_at.new.finder) c.utf8.haystack c.args.end c.requires found
    c.in_ok-found.ensures.found early)

use Rattle.std.proofs.Common.{◌∙◌, false, true, is_ok}
use Rattle.regex_lite.proofs.ReplacementLemmas.{handed_on}
use Rattle.rxl.specs.Output.{IsWritten}
use Rattle.rxl.proofs.program.FaultLemmas.{ends_cut_short}
use Rattle.rxl.proofs.program.ReportedLemmas.{all_written, cut_short, done, some_written}
use Rattle.rxl.proofs.program.print_answer.Goals as goal

pub returns-in_err-found-clause-kept : goal.returns-in_err-found-clause-kept
returns-in_err-found-clause-kept g c =
    some_written (g.W.Write.contents c.args.out.now) (g.W.Write.contents c.answer-answer.new.out)
    (g.W.Write.contents c.finish-written.new.out) c.in_ok-output.output c.answer-answer.new.output
    (is_ok c.finish-written.result) c.in_ok-output.ensures.waiting c.in_ok-output.ensures.has_failed
    c.answer-answer.ensures.kept c.finish-written.ensures.written

pub returns-in_err-written-clause-refused : goal.returns-in_err-written-clause-refused
returns-in_err-written-clause-refused g c =
    let before = g.W.Write.contents c.args.out.now in
    let held = g.W.Write.contents c.answer-answer.new.out in
    let holds = g.W.Write.contents c.finish-written.new.out in
    let input = g.R.Read.remaining c.args.input.now in
    let text = c.in_ok-found.ensures.ok in
    let w : IsWritten before holds text.0 false =
    all_written before held holds c.in_ok-output.output
    c.answer-answer.new.output false text.0 c.in_ok-output.ensures.waiting
    c.in_ok-output.ensures.has_failed text.2 c.in_err-written.ensures.written in
    handed_on c.from_residual-in_err-written.result c.from_residual-in_err-written.ensures.1
    (λ fault is. ends_cut_short fault c.args.args.now input before holds
    (is ∙ c.in_err-written.ensures.refused)
    (cut_short c.args.args.now c.in-Some.command input before holds c.in_ok-found.found text.0
    c.in-Some.ensures text.1 w))

pub returns-in_err-written-clause-kept : goal.returns-in_err-written-clause-kept
returns-in_err-written-clause-kept g c =
    some_written (g.W.Write.contents c.args.out.now) (g.W.Write.contents c.answer-answer.new.out)
    (g.W.Write.contents c.finish-written.new.out) c.in_ok-output.output c.answer-answer.new.output
    (is_ok c.finish-written.result) c.in_ok-output.ensures.waiting c.in_ok-output.ensures.has_failed
    c.answer-answer.ensures.kept c.finish-written.ensures.written

pub returns-clause-ok : goal.returns-clause-ok
returns-clause-ok g c =
    let before = g.W.Write.contents c.args.out.now in
    let held = g.W.Write.contents c.answer-answer.new.out in
    let holds = g.W.Write.contents c.finish-written.new.out in
    let input = g.R.Read.remaining c.args.input.now in
    let text = c.in_ok-found.ensures.ok in
    done c.args.args.now c.in-Some.command input before holds c.in_ok-found.found text.0
    c.in-Some.ensures text.1
    (all_written before held holds c.in_ok-output.output c.answer-answer.new.output true text.0
    c.in_ok-output.ensures.waiting c.in_ok-output.ensures.has_failed text.2
    c.in_ok-written.ensures.written)

pub returns-clause-kept : goal.returns-clause-kept
returns-clause-kept g c =
    some_written (g.W.Write.contents c.args.out.now) (g.W.Write.contents c.answer-answer.new.out)
    (g.W.Write.contents c.finish-written.new.out) c.in_ok-output.output c.answer-answer.new.output
    (is_ok c.finish-written.result) c.in_ok-output.ensures.waiting c.in_ok-output.ensures.has_failed
    c.answer-answer.ensures.kept c.finish-written.ensures.written

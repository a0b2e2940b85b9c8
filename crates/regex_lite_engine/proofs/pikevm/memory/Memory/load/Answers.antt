use Rattle.regex_lite_engine.proofs.Common.{◌≡◌, ◌<◌, length, set, sym, refl, ap, ◌∙◌, subst, arith}
use Rattle.regex_lite_engine.proofs.Common.{length-set, nth_row, thread_at, Row}
use Rattle.regex_lite_engine.specs.Pikevm.Machine.{State}
use Rattle.regex_lite_engine.proofs.pikevm.memory.CellLemmas.{row_after_first, row_fits}
use Rattle.regex_lite_engine.proofs.pikevm.memory.ListLemmas.{first_put, thread_read}
use Rattle.regex_lite_engine.proofs.pikevm.memory.TogetherLemmas.{together_with}
use Rattle.regex_lite_engine.proofs.pikevm.memory.ViewLemmas.{counted, stands_put}
use Rattle.regex_lite_engine.proofs.pikevm.memory.Memory.load.Goals as goal

pub row_of-requires : goal.row_of-requires
row_of-requires g c =
    let i = c.self.inside in let fit = c.self.invariant in
    let count = (counted g.S.ThreadStart.reported i c.self.view_is fit).2 in
    let short : c.args.k < length i.cells.items =
    omega (arith, c.requires, count, fit.threads_fit) in
    omega
    (arith, row_fits i.side (length i.cells.items) c.args.k short, i.cells.ok.0, i.cells.small)

pub copy-requires-clause-from : goal.copy-requires-clause-from
copy-requires-clause-from g c =
    let i = c.self.inside in let fit = c.self.invariant in
    let count = (counted g.S.ThreadStart.reported i c.self.view_is fit).2 in
    let k_fits : c.args.k < i.room = omega (arith, c.requires, count, fit.threads_few) in
    omega (arith, row_fits i.side i.room c.args.k k_fits, fit.rows_fit, c.row_of.ensures)

pub index-requires : goal.index-requires
index-requires g c =
    let i = c.self.inside in let fit = c.self.invariant in
    let count = (counted g.S.ThreadStart.reported i c.self.view_is fit).2 in
    omega (arith, c.requires, count, fit.threads_fit, i.cells.ok.0)

pub returns-clause-thread : goal.returns-clause-thread
returns-clause-thread g c =
    let i = c.self.inside in let v = c.self.view_is in let fit = c.self.invariant in
    let count = (counted g.S.ThreadStart.reported i v fit).2 in
    let some : 0 < length i.rows = omega (arith, fit.rows_fit) in
    let row =
    first_put i.rows c.copy.new.self (nth_row i.rows c.row_of.result) c.copy.ensures.copied some
    ∙ ap (nth_row i.rows) c.row_of.ensures in
    let thread = thread_read g.S.ThreadStart.reported i.side i.cells.items i.rows i.room
    (omega (arith, c.requires, count)) (omega (arith, c.requires, count, fit.threads_fit))
    c.index.ensures (ap (λ (z : State). z.threads) v) c.thread.ensures in
    subst (λ z. thread_at c.args.self.now.threads c.args.k
    ≡ (c.thread.result.0, g.S.ThreadStart.reported c.thread.result.1, z)) (sym row) thread

pub returns-clause-same : goal.returns-clause-same
returns-clause-same g c =
    let i = c.self.inside in
    stands_put g.S.ThreadStart.reported i c.self.view_is c.self.invariant
    (nth_row i.rows c.row_of.result) c.copy.ensures.copied refl

pub invariant_of-self : goal.invariant_of-self
invariant_of-self g c =
    let rows = c.self.inside.rows in let row : Row = nth_row rows c.row_of.result in
    let copied : c.copy.new.self ≡ set rows 0 row = c.copy.ensures.copied in
    together_with (ap length copied ∙ length-set rows 0 row)
    c.self.invariant.frames_fit c.self.invariant

pub copy-requires-clause-apart : goal.copy-requires-clause-apart
copy-requires-clause-apart g c = λ same.
    row_after_first c.self.inside.side c.self.inside.room c.args.k (sym c.row_of.ensures ∙ same)

pub copy-requires-clause-to : goal.copy-requires-clause-to
copy-requires-clause-to g c = omega (arith, c.self.invariant.rows_fit)

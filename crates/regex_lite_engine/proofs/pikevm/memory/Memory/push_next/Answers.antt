use Rattle.regex_lite_engine.proofs.Common.{◌≡◌, ◌<◌, length, set, sym, ap, ◌∙◌, subst, arith}
use Rattle.regex_lite_engine.proofs.Common.{length-set, nth_row, row_on, Row}
use Rattle.regex_lite_engine.specs.Pikevm.Cells.{with_thread}
use Rattle.regex_lite_engine.specs.Pikevm.Machine.{State}
use Rattle.regex_lite_engine.proofs.pikevm.memory.CellLemmas.{row_after_first, row_fits}
use Rattle.regex_lite_engine.proofs.pikevm.memory.TogetherLemmas.{still_together}
use Rattle.regex_lite_engine.proofs.pikevm.memory.ViewLemmas.{counted, stands_grown}
use Rattle.regex_lite_engine.proofs.pikevm.memory.Memory.push_next.Goals as goal

pub copy-requires-clause-to : goal.copy-requires-clause-to
copy-requires-clause-to g c =
    let i = c.self.inside in let v = c.self.view_is in let fit = c.self.invariant in
    let count = (counted g.S.ThreadStart.reported i v fit).3 in
    let lt : i.next_len < i.room =
    omega (arith, c.requires, count, ap (λ (z : State). z.room) v) in
    omega (arith, row_fits c.other-side.result i.room i.next_len lt, fit.rows_fit, c.row_of.ensures)

pub provide-requires-clause-next : goal.provide-requires-clause-next
provide-requires-clause-next g c = c.self.invariant.next_fit

pub provide-requires-clause-room : goal.provide-requires-clause-room
provide-requires-clause-room g c =
    let v = c.self.view_is in let fit = c.self.invariant in
    let count = (counted g.S.ThreadStart.reported c.self.inside v fit).3 in
    omega (arith, c.requires, count, ap (λ (z : State). z.room) v, fit.room_few, fit.cells_fit)

pub invariant_of-self : goal.invariant_of-self
invariant_of-self g c =
    let i = c.self.inside in let v = c.self.view_is in let fit = c.self.invariant in
    let count = (counted g.S.ThreadStart.reported i v fit).3 in
    let room = ap (λ (z : State). z.room) v in
    let still = still_together c.provide.ensures.more c.provide.ensures.capacity fit in
    let copied : c.copy.new.self ≡ set i.rows c.row_of.result (nth_row i.rows 0) =
    c.copy.ensures.copied in
    let same = length-set c.provide.new.cells.items i.next_len c.put_thread.new.self in
    record {
      cells_fit = still.cells_fit;
      frames_fit = omega (arith, same, still.frames_fit);
      threads_fit = omega (arith, same, still.threads_fit);
      next_fit = omega (arith, same, c.provide.ensures.there);
      threads_few = fit.threads_few;
      next_few = omega (arith, c.requires, count, room);
      room_few = still.room_few;
      rows_fit =
          ap length copied ∙ length-set i.rows c.row_of.result (nth_row i.rows 0)
          ∙ fit.rows_fit;
    }

pub returns : goal.returns
returns g c =
    let i = c.self.inside in let v = c.self.view_is in let fit = c.self.invariant in
    let a = c.args in let row : Row = nth_row i.rows 0 in
    let count = (counted g.S.ThreadStart.reported i v fit).3 in
    let at = c.row_of.ensures ∙ ap (λ s. row_on s i.next_len) c.other-side.ensures in
    stands_grown g.S.ThreadStart.reported i v fit c.provide.ensures.more a.place a.start
    c.index_mut.ensures.value
    (subst (λ s. c.put_thread.new.self
    ≡ with_thread s a.place a.start c.index_mut.result.now) c.other-side.ensures
    c.put_thread.ensures)
    (subst (λ k. c.copy.new.self ≡ set i.rows k row) at c.copy.ensures.copied)
    (omega (arith, c.requires, count, ap (λ (z : State). z.room) v)) c.provide.ensures.there

pub copy-requires-clause-apart : goal.copy-requires-clause-apart
copy-requires-clause-apart g c = λ same.
    row_after_first c.other-side.result c.self.inside.room c.self.inside.next_len
    (sym (same ∙ c.row_of.ensures))

pub copy-requires-clause-from : goal.copy-requires-clause-from
copy-requires-clause-from g c = omega (arith, c.self.invariant.rows_fit)

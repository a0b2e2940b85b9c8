use Rattle.regex_lite_engine.proofs.Common.{ℕ, ◌+◌, ◌*◌, ◌<◌, ◌≤◌, length, set, replicate, None}
use Rattle.regex_lite_engine.proofs.Common.{sym, ap, ◌∙◌, arith, length-replicate}
use Rattle.regex_lite_engine.proofs.pikevm.rows.BlankLemmas.{row_within, row_wide, row_put_over}
use Rattle.regex_lite_engine.proofs.pikevm.rows.Rows.clear.Goals as goal

pub overflow_mul-start : goal.overflow_mul-start
overflow_mul-start c = omega (
  arith,
  row_within c.self.invariant c.self.view_is c.requires,
  c.self.invariant.fitting,
  c.self.inside.slots.ok.0,
)

pub overflow_add-start : goal.overflow_add-start
overflow_add-start c = omega (
  arith,
  row_within c.self.invariant c.self.view_is c.requires,
  c.self.invariant.fitting,
  c.self.inside.slots.ok.0,
)

pub fill_to-requires : goal.fill_to-requires
fill_to-requires c = omega (
  arith,
  row_within c.self.invariant c.self.view_is c.requires,
  c.self.invariant.fitting,
)

pub invariant_of-self : goal.invariant_of-self
invariant_of-self c =
    let w = c.self.inside.width in
    let inside = row_within c.self.invariant c.self.view_is c.requires in
    let end : ℕ = c.args.row * w + w in
    let ends : end ≤ end = omega arith in
    (row_put_over c.self.invariant c.self.view_is (replicate w None) end c.fill_to.ensures.items
    c.requires ends inside (length-replicate w None)
    (omega (arith, c.fill_to.ensures.capacity, c.clear_row.ensures.capacity))
    c.clear_row.ensures.cleared).1

pub returns : goal.returns
returns c =
    let w = c.self.inside.width in
    let inside = row_within c.self.invariant c.self.view_is c.requires in
    let end : ℕ = c.args.row * w + w in
    let ends : end ≤ end = omega arith in
    let some : 0 < length c.args.self.now = omega (arith, c.requires) in
    (row_put_over c.self.invariant c.self.view_is (replicate w None) end c.fill_to.ensures.items
    c.requires ends inside (length-replicate w None) c.fill_to.ensures.capacity
    c.clear_row.ensures.cleared).0
    ∙ ap (λ n. set c.args.self.now c.args.row (replicate n None))
    (sym (row_wide c.self.invariant c.self.view_is some))

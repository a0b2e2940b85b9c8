use Rattle.regex_lite_engine.proofs.Common.{ℕ, ◌+◌, ◌≤◌, vec_capacity, refl, arith}
use Rattle.regex_lite_engine.proofs.pikevm.rows.RowLemmas.{rows_apart}
use Rattle.regex_lite_engine.proofs.pikevm.rows.BlankLemmas.{padded_there, row_within, rows_wide}
use Rattle.regex_lite_engine.proofs.pikevm.rows.BlankLemmas.{row_copied}
use Rattle.regex_lite_engine.proofs.pikevm.rows.Rows.copy_slots.Goals as goal

pub overflow_mul-start : goal.overflow_mul-start
overflow_mul-start c = omega (
  arith,
  row_within c.self.invariant c.self.view_is c.requires.from,
  c.self.invariant.fitting,
  c.self.inside.slots.ok.0,
)

pub overflow_mul-place : goal.overflow_mul-place
overflow_mul-place c = omega (
  arith,
  row_within c.self.invariant c.self.view_is c.requires.to,
  c.self.invariant.fitting,
  c.self.inside.slots.ok.0,
)

pub overflow_add-end : goal.overflow_add-end
overflow_add-end c = omega (
  arith,
  c.max.ensures,
  row_within c.self.invariant c.self.view_is c.requires.from,
  row_within c.self.invariant c.self.view_is c.requires.to,
  c.self.invariant.fitting,
  c.self.inside.slots.ok.0,
)

pub copy_filled-requires-clause-room : goal.copy_filled-requires-clause-room
copy_filled-requires-clause-room c = omega (
  arith,
  c.max.ensures,
  row_within c.self.invariant c.self.view_is c.requires.from,
  row_within c.self.invariant c.self.view_is c.requires.to,
  c.self.invariant.fitting,
)

pub copy_filled-requires-clause-apart : goal.copy_filled-requires-clause-apart
copy_filled-requires-clause-apart c =
    rows_apart c.args.from c.args.to c.self.inside.width c.requires.apart

pub copy_row-requires-clause-apart : goal.copy_row-requires-clause-apart
copy_row-requires-clause-apart c =
    rows_apart c.args.from c.args.to c.self.inside.width c.requires.apart

pub invariant_of-self : goal.invariant_of-self
invariant_of-self c =
    let r = c.requires in let ok = c.self.invariant in let v = c.self.view_is in
    let at = c.max.ensures in
    (row_copied ok v (c.max.result + c.self.inside.width) refl r.from r.to (omega (arith, at))
    (omega (arith, at)) (omega (arith, at, row_within ok v r.from, row_within ok v r.to))
    c.copy_filled.ensures.capacity c.copy_filled.ensures.copied).1

pub invariant_of-self-else-len-end : goal.invariant_of-self-else-len-end
invariant_of-self-else-len-end c =
    let r = c.requires in let ok = c.self.invariant in let v = c.self.view_is in
    let at = c.max.ensures in let end : ℕ = c.max.result + c.self.inside.width in
    let there = padded_there c.self.inside.slots.items end
    (omega (arith, c.if-len-end.false, c.len.ensures)) in
    let same : vec_capacity c.self.inside.slots ≤ vec_capacity c.copy_row.new.slots =
    omega (arith, c.copy_row.ensures.capacity) in
    (row_copied ok v end there r.from r.to (omega (arith, at)) (omega (arith, at))
    (omega (arith, at, row_within ok v r.from, row_within ok v r.to)) same
    c.copy_row.ensures.copied).1

pub returns-then-len-end-clause-copied : goal.returns-then-len-end-clause-copied
returns-then-len-end-clause-copied c =
    let r = c.requires in let ok = c.self.invariant in let v = c.self.view_is in
    let at = c.max.ensures in
    (row_copied ok v (c.max.result + c.self.inside.width) refl r.from r.to (omega (arith, at))
    (omega (arith, at)) (omega (arith, at, row_within ok v r.from, row_within ok v r.to))
    c.copy_filled.ensures.capacity c.copy_filled.ensures.copied).0

pub returns-else-len-end-clause-copied : goal.returns-else-len-end-clause-copied
returns-else-len-end-clause-copied c =
    let r = c.requires in let ok = c.self.invariant in let v = c.self.view_is in
    let at = c.max.ensures in let end : ℕ = c.max.result + c.self.inside.width in
    let there = padded_there c.self.inside.slots.items end
    (omega (arith, c.if-len-end.false, c.len.ensures)) in
    let same : vec_capacity c.self.inside.slots ≤ vec_capacity c.copy_row.new.slots =
    omega (arith, c.copy_row.ensures.capacity) in
    (row_copied ok v end there r.from r.to (omega (arith, at)) (omega (arith, at))
    (omega (arith, at, row_within ok v r.from, row_within ok v r.to)) same
    c.copy_row.ensures.copied).0

pub returns-then-len-end-clause-width : goal.returns-then-len-end-clause-width
returns-then-len-end-clause-width c =
    rows_wide c.self.invariant c.self.view_is c.requires.from c.requires.to

pub returns-else-len-end-clause-width : goal.returns-else-len-end-clause-width
returns-else-len-end-clause-width c =
    rows_wide c.self.invariant c.self.view_is c.requires.from c.requires.to

use Rattle.regex_lite_syntax.proofs.Common.{◌≡◌, Bool, true, ◌&&◌, ◌||◌, ◌==◌, sym, ap, ◌∙◌, arith}
use Rattle.regex_lite_syntax.proofs.Common.{start_row, is_in_column, has, goes_on_with}
use Rattle.regex_lite_syntax.proofs.prefilter.prefix_index.ColumnLemmas.{belongs_now, no_more_bit}
use Rattle.regex_lite_syntax.proofs.prefilter.prefix_index.PrefixIndex.add_rows.Goals.{in-None}
use Rattle.regex_lite_syntax.proofs.prefilter.prefix_index.PrefixIndex.add_rows.Goals.{in-Some}
use Rattle.regex_lite_syntax.proofs.prefilter.prefix_index.PrefixIndex.add_rows.Goals as goal

pub returns-then-prefixes-clause-set : goal.returns-then-prefixes-clause-set
returns-then-prefixes-clause-set c r n row inside =
    let first = c.set_each.new.self in
    let second = c.match-prefixes.self.rows in
    let width : second.width ≡ first.width = elim c.match-prefixes.branch [
      | in-None w ↦ rw w.self-is w.set_all.ensures.width
      | in-Some w ↦ rw w.self-is w.set_each-in-Some.ensures.width
    ] in
    let set : has second r n ≡ (has first r n || (n == c.args.number
    && is_in_column (goes_on_with c.args.prefixes.now.second) 129 129 r)) =
    elim c.match-prefixes.branch [
      | in-None w ↦ rw (w.self-is, w.in-None.is) (w.set_all.ensures.set r n
          (omega (arith, inside, c.set_each.ensures.width)))
      | in-Some w ↦ rw (w.self-is, w.in-Some.is) (w.set_each-in-Some.ensures.set r n
          (omega (arith, inside, c.set_each.ensures.width)))
    ] in
    let at_start : true ≡ c.args.prefixes.now.first.at_start =
    sym c.if-prefixes.true in
    belongs_now c.args.prefixes.now r _ _ _ _ (n == c.args.number) row
    (c.set_each.ensures.set r n inside) set
    (c.set.ensures.set r n (omega (arith, inside, width, c.set_each.ensures.width))
    ∙ ap (λ (test : Bool). has second r n || (n == c.args.number && (test && r == start_row)))
    at_start)

pub returns-else-prefixes-clause-set : goal.returns-else-prefixes-clause-set
returns-else-prefixes-clause-set c r n row inside =
    let first = c.set_each.new.self in
    let second = c.match-prefixes.self.rows in
    let set : has second r n ≡ (has first r n || (n == c.args.number
    && is_in_column (goes_on_with c.args.prefixes.now.second) 129 129 r)) =
    elim c.match-prefixes.branch [
      | in-None w ↦ rw (w.self-is, w.in-None.is) (w.set_all.ensures.set r n
          (omega (arith, inside, c.set_each.ensures.width)))
      | in-Some w ↦ rw (w.self-is, w.in-Some.is) (w.set_each-in-Some.ensures.set r n
          (omega (arith, inside, c.set_each.ensures.width)))
    ] in
    belongs_now c.args.prefixes.now r _ _ _ _ (n == c.args.number) row
    (c.set_each.ensures.set r n inside) set
    (no_more_bit _ _ _ _ c.if-prefixes.false)

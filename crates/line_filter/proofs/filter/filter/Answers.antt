use Rattle.std.proofs.Common.{◌≡◌, ◌∙◌, ◌++◌, ℕ, List, ap, subst, take, drop}
use Rattle.line_filter.specs.Lines.{IsSelected, LineMatches, lines_of}
use Rattle.line_filter.proofs.FilterLemmas.{all_done, each_known, lines_done, of_one, read_more}
use Rattle.line_filter.proofs.filter.filter.Goals as goal

pub returns-then-branch-clause-filtered : goal.returns-then-branch-clause-filtered
returns-then-branch-clause-filtered g c =
    let selection = c.args.selection in
    let own = c.args.searcher.now in
    let turn = c.loop-turn in
    let block = c.read_from.new.self in
    let left = g.R.Read.remaining c.read_from.new.input in
    let before = g.W.Write.contents c.args.output.now in
    let held = g.W.Write.contents turn.output in
    let after = g.W.Write.contents c.write_lines.new.output in
    let others = c.in_ok-found.field-0 in
    let read = c.in_ok-read_from.ensures.read in
    let more = of_one (λ re. IsSelected selection (LineMatches re)) turn.searcher own
    c.as_slice.result.now block held after others turn.invariant.same c.as_slice.ensures
    c.in_ok-found.ensures.filtered in
    each_known (g.R.Read.remaining c.args.input.now)
    (λ bytes so. all_done (IsSelected selection (LineMatches own)) bytes block left before held
    after turn.found others
    (read_more (IsSelected selection (LineMatches own)) bytes turn.block read.0 block
    (g.R.Read.remaining turn.input) left before held turn.found so read.1 read.2)
    (read.3 c.if-branch.true) more)
    turn.invariant.so_far

pub loop-turn-preserved : goal.loop-turn-preserved
loop-turn-preserved g c =
    let selection = c.args.selection in
    let own = c.args.searcher.now in
    let turn = c.loop-turn in
    let block = c.read_from.new.self in
    let left = g.R.Read.remaining c.read_from.new.input in
    let before = g.W.Write.contents c.args.output.now in
    let held = g.W.Write.contents turn.output in
    let after = g.W.Write.contents c.write_lines-in-loop-turn.new.output in
    let others = c.in_ok-found-2.field-0 in
    let end = c.whole_lines-end.result in
    let read = c.in_ok-read_from.ensures.read in
    let whole = subst (λ (b : List ℕ). (more : List ℕ)
    → lines_of (b ++ more) ≡ lines_of (take end b) ++ lines_of (drop end b ++ more))
    c.as_slice-in-loop-turn.ensures c.whole_lines-end.ensures.whole in
    let slice = c.as_slice-in-loop-turn-2.result.now in
    let more = of_one (λ re. IsSelected selection (LineMatches re)) turn.searcher own
    (take end slice) (take end block) held after others turn.invariant.same
    (ap (take end) c.as_slice-in-loop-turn-2.ensures) c.in_ok-found-2.ensures.filtered in
    record {
      same = c.write_lines-in-loop-turn.ensures.same ∙ turn.invariant.same;
      so_far = each_known (g.R.Read.remaining c.args.input.now)
          (λ bytes so. lines_done (IsSelected selection (LineMatches own)) bytes block
          c.drop_front.new.self end left before held after turn.found others
          (read_more (IsSelected selection (LineMatches own)) bytes turn.block read.0 block
          (g.R.Read.remaining turn.input) left before held turn.found so read.1 read.2)
          whole more c.drop_front.ensures)
          turn.invariant.so_far;
    }

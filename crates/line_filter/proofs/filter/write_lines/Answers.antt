use Rattle.std.proofs.Common.{refl, sym, ap, ◌∙◌, subst}
use Rattle.std.proofs.lemmas.Bool.{false≢true}
use Rattle.line_filter.specs.Lines.{IsSelected, LineMatches, lines_of}
use Rattle.line_filter.proofs.FilterLemmas.{all_filtered, none_yet, one_kept, one_left_out}
use Rattle.line_filter.proofs.filter.write_lines.Goals as goal

pub loop-line-init : goal.loop-line-init
loop-line-init g c =
    let Holds = IsSelected c.args.selection (LineMatches c.args.searcher.now) in
    record {
      same = refl;
      so_far = none_yet Holds (lines_of c.args.lines.now) (g.W.Write.contents c.args.output.now);
    }

pub returns-in_err-write_all-clause-same : goal.returns-in_err-write_all-clause-same
returns-in_err-write_all-clause-same g c =
    c.is_selected.ensures.same ∙ c.loop-line.invariant.same

pub loop-line-smaller-in_ok-write_all : goal.loop-line-smaller-in_ok-write_all
loop-line-smaller-in_ok-write_all g c = c.in-Some.ensures.1

pub loop-line-preserved-in_ok-write_all : goal.loop-line-preserved-in_ok-write_all
loop-line-preserved-in_ok-write_all g c =
    let Holds = IsSelected c.args.selection (LineMatches c.args.searcher.now) in
    let line = c.in-Some.line.now in
    let same = c.loop-line.invariant.same in
    record {
      same = c.is_selected.ensures.same ∙ same;
      so_far = one_kept Holds (lines_of c.args.lines.now) (lines_of c.loop-line.rest.now)
          (lines_of c.in-Some.after.now) line (g.W.Write.contents c.args.output.now)
          (g.W.Write.contents c.loop-line.output) (g.W.Write.contents c.write_all.new.self)
          c.loop-line.found c.loop-line.invariant.so_far c.in-Some.ensures.0
          (subst (λ re. IsSelected c.args.selection (LineMatches re) line) same
          (c.is_selected.ensures.found.0 c.if-is_selected.true))
          c.in_ok-write_all.ensures.bytes;
    }

pub loop-line-smaller : goal.loop-line-smaller
loop-line-smaller g c = c.in-Some.ensures.1

pub loop-line-preserved : goal.loop-line-preserved
loop-line-preserved g c =
    let Holds = IsSelected c.args.selection (LineMatches c.args.searcher.now) in
    let line = c.in-Some.line.now in
    let same = c.loop-line.invariant.same in
    record {
      same = c.is_selected.ensures.same ∙ same;
      so_far = one_left_out Holds (lines_of c.args.lines.now) (lines_of c.loop-line.rest.now)
          (lines_of c.in-Some.after.now) line (g.W.Write.contents c.args.output.now)
          (g.W.Write.contents c.loop-line.output) c.loop-line.found
          c.loop-line.invariant.so_far c.in-Some.ensures.0
          (λ holds. false≢true (sym c.if-is_selected.false ∙ c.is_selected.ensures.found.1
          (subst (λ re. IsSelected c.args.selection (LineMatches re) line) (sym same) holds)));
    }

pub returns-clause-filtered : goal.returns-clause-filtered
returns-clause-filtered g c =
    let Holds = IsSelected c.args.selection (LineMatches c.args.searcher.now) in
    all_filtered Holds (lines_of c.args.lines.now) (lines_of c.loop-line.rest.now)
    (g.W.Write.contents c.args.output.now) (g.W.Write.contents c.loop-line.output)
    c.loop-line.found c.loop-line.invariant.so_far (ap lines_of c.in_default.ensures)

pub returns-clause-same : goal.returns-clause-same
returns-clause-same g c = c.loop-line.invariant.same

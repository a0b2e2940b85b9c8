use Rattle.regex_lite_c.proofs.Common.{◌-◌, length, sym, ap, ◌∙◌, subst, arith}
use Rattle.regex_lite_c.proofs.walk.WalkLemmas.{ListsAnswers, first_written_more}
use Rattle.regex_lite_c.proofs.walk.WalkLemmas.{lists_all, lists_to_end, none_written}
use Rattle.regex_lite_c.proofs.walk.fill.Goals as goal

pub loop-k-init : goal.loop-k-init
loop-k-init g c =
    let kind = g.M.Sought.Written.kind in
    none_written kind.found_of kind.IsAnswerTo kind.stands_for kind.tell
    (g.M.Spans.ahead c.args.matches.now) c.args.spans.now c.requires

pub returns-in-None-clause-listed : goal.returns-in-None-clause-listed
returns-in-None-clause-listed g c =
    let kind = g.M.Sought.Written.kind in
    let so = c.loop-k.invariant in
    let buffer = length c.args.spans.now in
    record {
      list = so.list;
      are_first =
          lists_to_end kind.found_of kind.IsAnswerTo (g.M.Spans.ahead c.args.matches.now)
          (g.M.Spans.ahead c.loop-k.matches) buffer (buffer - c.loop-k.k) so.list so.lists
          c.in-None.ensures.over;
      number = sym so.number;
      written = so.written;
    }

pub loop-k-preserved : goal.loop-k-preserved
loop-k-preserved g c =
    let kind = g.M.Sought.Written.kind in
    let so = c.loop-k.invariant in
    let step = c.in-Some.ensures in
    first_written_more kind.found_of kind.IsAnswerTo kind.stands_for kind.tell
    (g.M.Spans.ahead c.args.matches.now) (g.M.Spans.ahead c.loop-k.matches)
    (g.M.Spans.ahead c.next_span.new.self) c.args.spans.now c.loop-k.spans c.loop-k.k step.0
    c.in-Some.span so (omega (arith, c.loop-k-test.true, c.loop-k.auto.spans)) c.loop-k.auto.spans
    step.1
    (step.2 ∙ ap (λ bytes. kind.stands_for (kind.tell bytes step.0)) so.lists.haystack)

pub returns-clause-listed : goal.returns-clause-listed
returns-clause-listed g c =
    let kind = g.M.Sought.Written.kind in
    let so = c.loop-k.invariant in
    let start = g.M.Spans.ahead c.args.matches.now in
    let now = g.M.Spans.ahead c.loop-k.matches in
    let buffer = length c.args.spans.now in
    record {
      list = so.list;
      are_first = lists_all kind.found_of kind.IsAnswerTo start now buffer so.list
          (subst (λ n. ListsAnswers kind.found_of kind.IsAnswerTo start now buffer n so.list)
          (omega (arith, c.loop-k-test.false, c.loop-k.auto.spans)) so.lists);
      number =
          omega (arith, c.loop-k-test.false, c.loop-k.auto.spans, c.loop-k.auto.k-end, so.number);
      written = so.written;
    }

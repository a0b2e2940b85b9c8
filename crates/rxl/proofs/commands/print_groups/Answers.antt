use Rattle.std.proofs.Common.{◌++◌, ◌∷◌, [], codes, map, option_map, ap, rules, subst, ◌∙◌}
use Rattle.regex_lite.specs.MatchViews.{span_of_match}
use Rattle.rxl.specs.Output.{Puts}
use Rattle.rxl.specs.Printed.{group_text, groups_line}
use Rattle.rxl.proofs.GroupLineLemmas.{all_left, alone, group_alone, line_begins}
use Rattle.rxl.proofs.GroupLineLemmas.{line_ends, line_goes_on, separated, spans_left}
use Rattle.rxl.proofs.OutputLemmas.{puts_more, puts_nothing}
use Rattle.rxl.proofs.commands.print_groups.Goals as goal

pub loop-group-init : goal.loop-group-init
loop-group-init g c =
    let spans = c.args.caps.now.spans in
    let are = ap (λ it. it.spans) c.into_iter-group-iterator.ensures.into_iter_gives
    ∙ c.iter-group-items.ensures.groups in
    record {
      can = tt;
      finite = tt;
      text = search rules;
      printed = [];
      puts = puts_nothing c.args.output.now (g.W.Write.contents c.args.out.now);
      on =
          ap (separated []) (all_left c.into_iter-group-iterator.result spans are)
          ∙ line_begins spans;
    }

pub loop-group-preserved : goal.loop-group-preserved
loop-group-preserved g c =
    let inv = c.loop-group.invariant in
    let before = c.loop-group.separator.now in
    let span = option_map span_of_match c.in-Some.group in
    let left = spans_left c.next.new.self in
    let holds = g.W.Write.contents c.loop-group.out in
    let done = g.W.Write.contents c.print_group.new.out in
    record {
      can = tt;
      finite = tt;
      text = search rules;
      printed = inv.printed ++ (before ++ group_text span);
      puts = puts_more c.args.output.now c.loop-group.output c.print_group.new.output
          (g.W.Write.contents c.args.out.now) holds done inv.printed (before ++ group_text span)
          inv.puts
          (puts_more c.loop-group.output c.text.new.self c.print_group.new.output holds
          (g.W.Write.contents c.text.new.out) done before (group_text span) c.text.ensures
          c.print_group.ensures);
      on = line_goes_on inv.printed before (spans_left c.loop-group.group-iterator) left span
          (groups_line c.args.caps.now.spans) inv.on
          (ap (map alone) c.in-Some.ensures.steps
          ∙ ap (λ first. first ∷ left) (group_alone c.in-Some.group));
    }

pub returns : goal.returns
returns g c =
    let inv = c.loop-group.invariant in
    let done = g.W.Write.contents c.text-2.new.out in
    subst (Puts c.args.output.now (g.W.Write.contents c.args.out.now) c.text-2.new.self done)
    (line_ends inv.printed c.loop-group.separator.now (spans_left c.loop-group.group-iterator)
    (groups_line c.args.caps.now.spans) inv.on (ap (map alone) c.in-None.ensures.steps.0))
    (puts_more c.args.output.now c.loop-group.output c.text-2.new.self
    (g.W.Write.contents c.args.out.now) (g.W.Write.contents c.loop-group.out) done inv.printed
    (codes "\n") inv.puts c.text-2.ensures)

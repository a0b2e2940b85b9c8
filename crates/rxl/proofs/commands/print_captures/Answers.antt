use Rattle.std.proofs.Common.{◌++◌, [], None, false, ap, sym, subst, ◌∙◌}
use Rattle.regex_lite.specs.Ahead.{ahead_of, whole}
use Rattle.regex_lite.proofs.ReplacementLemmas.{haystack_kept, sought_kept}
use Rattle.rxl.specs.Printed.{groups_line}
use Rattle.rxl.proofs.ListLemmas.{GroupsLeadOn, groups_end, groups_more, groups_start}
use Rattle.rxl.proofs.OutputLemmas.{puts_more, puts_nothing}
use Rattle.rxl.proofs.commands.print_captures.Goals as goal

pub loop-item-init : goal.loop-item-init
loop-item-init g c =
    let start = whole c.args.regex.now c.args.haystack.now None in
    let is = ap (λ it. ahead_of it) c.into_iter-item-iterator.ensures.into_iter_gives
    ∙ c.in_ok-item-items.ensures.ahead in
    record {
      can = tt;
      finite = tt;
      printed = [];
      puts = puts_nothing c.args.output.now (g.W.Write.contents c.args.out.now);
      so_far = subst (λ a. GroupsLeadOn start a false []) (sym is) (groups_start start);
      regex = ap (λ a. a.sought) is;
      haystack = ap (λ a. a.haystack) is;
    }

pub loop-item-preserved : goal.loop-item-preserved
loop-item-preserved g c =
    let inv = c.loop-item.invariant in
    let step = rw c.in_ok-caps.was at c.in-Some.ensures.steps in
    let caps = c.in_ok-caps.caps in
    let start = whole c.args.regex.now c.args.haystack.now None in
    let old = ahead_of c.loop-item.item-iterator in
    let new = ahead_of c.next.new.self in
    record {
      can = tt;
      finite = tt;
      printed = inv.printed ++ groups_line caps.spans;
      puts = puts_more c.args.output.now c.loop-item.output c.print_groups.new.output
          (g.W.Write.contents c.args.out.now) (g.W.Write.contents c.loop-item.out)
          (g.W.Write.contents c.print_groups.new.out) inv.printed (groups_line caps.spans) inv.puts
          c.print_groups.ensures;
      so_far = groups_more start old new c.loop-item.has_match inv.printed step.0 caps inv.so_far
          step.4 inv.regex inv.haystack step.1;
      regex = sought_kept start {old = old} {found = step.0} step.4 inv.regex;
      haystack = haystack_kept start {old = old} {found = step.0} step.4 inv.haystack;
    }

pub returns-in_err-caps-clause-kept : goal.returns-in_err-caps-clause-kept
returns-in_err-caps-clause-kept g c =
    (c.loop-item.invariant.printed, tt, c.loop-item.invariant.puts)

pub returns-clause-ok : goal.returns-clause-ok
returns-clause-ok g c =
    let inv = c.loop-item.invariant in (
      inv.printed,
      groups_end c.args.regex.now c.args.haystack.now (ahead_of c.loop-item.item-iterator)
          c.loop-item.has_match inv.printed inv.so_far c.in-None.ensures.steps.over,
      inv.puts,
    )

pub returns-clause-kept : goal.returns-clause-kept
returns-clause-kept g c = (c.loop-item.invariant.printed, tt, c.loop-item.invariant.puts)

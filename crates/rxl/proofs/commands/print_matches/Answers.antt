use Rattle.std.proofs.Common.{◌++◌, [], None, false, chars, codes, ap, sym, subst, ◌∙◌}
use Rattle.regex_lite.specs.Ahead.{ahead_of, whole}
use Rattle.regex_lite.specs.MatchViews.{span_of_match}
use Rattle.regex_lite.specs.Pieces.{found_span}
use Rattle.regex_lite.proofs.ReplacementLemmas.{haystack_kept}
use Rattle.rxl.specs.Printed.{span_line, span_text}
use Rattle.rxl.proofs.ListLemmas.{LeadsOn, leads_end, leads_more, leads_start}
use Rattle.rxl.proofs.OutputLemmas.{puts_more, puts_nothing}
use Rattle.rxl.proofs.commands.print_matches.Goals as goal

pub loop-found-init : goal.loop-found-init
loop-found-init g c =
    let start = whole c.args.regex.now c.args.haystack.now None in
    let is = ap (λ it. ahead_of it) c.into_iter-found-iterator.ensures.into_iter_gives
    ∙ c.in_ok-found-items.ensures.ahead in
    record {
      can = tt;
      finite = tt;
      printed = [];
      puts = puts_nothing c.args.output.now (g.W.Write.contents c.args.out.now);
      so_far = subst (λ a. LeadsOn start a false []) (sym is) (leads_start start);
      haystack = ap (λ a. a.haystack) is;
    }

pub loop-found-preserved : goal.loop-found-preserved
loop-found-preserved g c =
    let inv = c.loop-found.invariant in
    let step = c.in-Some.ensures.steps in
    let start = whole c.args.regex.now c.args.haystack.now None in
    let old = ahead_of c.loop-found.found-iterator in
    let new = ahead_of c.next.new.self in
    let span = span_of_match c.in-Some.found in
    let holds = g.W.Write.contents c.loop-found.out in
    let done = g.W.Write.contents c.text.new.out in
    let is = step.1.span ∙ ap (λ bytes. found_span (chars bytes) step.0) inv.haystack in
    record {
      can = tt;
      finite = tt;
      printed = inv.printed ++ span_line span;
      puts = puts_more c.args.output.now c.loop-found.output c.text.new.self
          (g.W.Write.contents c.args.out.now) holds done inv.printed (span_line span) inv.puts
          (puts_more c.loop-found.output c.print_span.new.output c.text.new.self holds
          (g.W.Write.contents c.print_span.new.out) done (span_text span) (codes "\n")
          c.print_span.ensures c.text.ensures);
      so_far = leads_more start old new c.loop-found.has_match inv.printed step.0 (span_line span)
          inv.so_far step.4 (ap span_line is);
      haystack = haystack_kept start {old = old} {found = step.0} step.4 inv.haystack;
    }

pub returns-clause-ok : goal.returns-clause-ok
returns-clause-ok g c =
    let inv = c.loop-found.invariant in (
      inv.printed,
      leads_end c.args.regex.now c.args.haystack.now (ahead_of c.loop-found.found-iterator)
          c.loop-found.has_match inv.printed inv.so_far c.in-None.ensures.steps.over,
      inv.puts,
    )

pub returns-clause-kept : goal.returns-clause-kept
returns-clause-kept g c = (c.loop-found.invariant.printed, tt, c.loop-found.invariant.puts)

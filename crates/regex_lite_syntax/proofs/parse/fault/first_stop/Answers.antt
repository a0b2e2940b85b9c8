use Rattle.regex_lite_syntax.proofs.Common.{◌<◌, length, drop, sym, refl, subst, inl, arith}
use Rattle.regex_lite_syntax.proofs.Common.{IfErr-weaker, IfOk-weaker, NamesDiffer, CanRead}
use Rattle.regex_lite_syntax.specs.Parser.Starts.{Tracks}
use Rattle.regex_lite_syntax.proofs.grammar.NameLemmas.{no_names_differ}
use Rattle.regex_lite_syntax.proofs.machine.CompletedRunLemmas.{reads_on_at_end}
use Rattle.regex_lite_syntax.proofs.machine.FaultEndLemmas.{goes_on_as, goes_on_open}
use Rattle.regex_lite_syntax.proofs.machine.FaultEndLemmas.{refused_unread}
use Rattle.regex_lite_syntax.proofs.machine.FaultLemmas.{comes_first, comes_next, stuck_at}
use Rattle.regex_lite_syntax.proofs.machine.FaultLemmas.{end_found, syntax_says, other_says}
use Rattle.regex_lite_syntax.proofs.machine.FaultLemmas.{stop_found}
use Rattle.regex_lite_syntax.proofs.parse.DenialLemmas.{none_now}
use Rattle.regex_lite_syntax.proofs.parse.IndexLemmas.{some_at, gap_at_end}
use Rattle.regex_lite_syntax.proofs.parse.fault.first_stop.Goals as goal

pub loop-starts-init : goal.loop-starts-init
loop-starts-init c = record {
  inside = omega arith;
  comes = rw c.new-starts.ensures.items
      (comes_first c.args.flags c.args.chars.now c.new-parser.result
      (c.new-parser.ensures.state c.args.chars.now)
      (subst (λ names. NamesDiffer names) (sym c.new-parser.ensures.names) no_names_differ)
      c.requires);
}

pub returns-then-here-chars : goal.returns-then-here-chars
returns-then-here-chars c =
    let flags = c.args.flags in
    let xs = c.args.chars.now in
    let p = c.loop-starts.parser in
    let t = drop c.loop-starts.at xs in
    let comes = c.loop-starts.invariant.comes in
    let gap =
    gap_at_end _ t xs c.skip_gap-here.result c.if-here-chars.true c.skip_gap-here.ensures.gap in
    record {
      found = rw c.unclosed.ensures (stop_found flags xs c.pop.result
          (end_found flags xs p t c.loop-starts.starts.items _ c.pop.result _ _ comes gap
          c.pop.ensures.items c.loop-starts.starts.ok.0 c.pop.ensures.cases));
      goes_on = rw c.unclosed.ensures (goes_on_open flags xs c.pop.result
          (reads_on_at_end flags xs p t c.loop-starts.starts.items comes gap));
      refused = tt;
      unread = tt;
    }

pub returns-in-Err : goal.returns-in-Err
returns-in-Err c =
    let flags = c.args.flags in
    let xs = c.args.chars.now in
    let p = c.loop-starts.parser in
    let comes = c.loop-starts.invariant.comes in
    let gap = c.skip_gap-here.ensures.gap in
    let here = c.skip_gap-here.result in
    let inside : here < length xs =
    omega (arith, c.if-here-chars.false, c.skip_gap-here.ensures.inside) in
    let more = some_at xs here inside in
    let says = c.in-Err.ensures.refused in
    record {
      found = IfOk-weaker c.stop_or_error.result _ _ (λ found (fault, syntax, is).
          let none = syntax_says _ fault _ _ _ syntax says in
          let stuck = none_now fault (CanRead p) (drop here xs) none in
          let place = stuck_at flags xs p _ _ _ here comes gap refl more stuck in
          rw is (record { inside = inside; place = inl place.0 }, place.1))
          c.stop_or_error.ensures.stop;
      goes_on = IfOk-weaker c.stop_or_error.result _ _ (λ found (fault, syntax, is). rw is
          (goes_on_as flags xs p _ _ _ _ fault comes gap more says c.in-Err.ensures.completes
          syntax)) c.stop_or_error.ensures.stop;
      refused = IfErr-weaker c.stop_or_error.result _ _ (λ e (other, is). rw is
          (other_says flags xs p _ _ _ _ comes gap other says)) c.stop_or_error.ensures.other;
      unread = IfErr-weaker c.stop_or_error.result _ _ (λ e (other, is). rw is
          (refused_unread flags xs p _ _ _ _ comes gap other says)) c.stop_or_error.ensures.other;
    }

pub loop-starts-preserved : goal.loop-starts-preserved
loop-starts-preserved c =
    let here = c.skip_gap-here.result in
    let q = c.step.new.self in
    record {
      inside = c.in-Ok.ensures.ok.in_pattern;
      comes = comes_next c.args.flags c.args.chars.now c.loop-starts.parser q _ _ _ _ _ here
          c.loop-starts.invariant.comes c.skip_gap-here.ensures.gap refl c.in-Ok.ensures.ok.reads
          (subst (λ n. Tracks c.loop-starts.starts.items c.track.new.starts.items n here)
          c.open_groups.ensures c.in_ok-track.ensures);
    }

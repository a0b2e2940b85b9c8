use Rattle.regex_lite_syntax.proofs.Common.{◌<◌, length, drop, sym, subst, arith, both_ways}
use Rattle.regex_lite_syntax.proofs.Common.{IfErr-weaker, IfOk-weaker, NamesDiffer, stay, tree_of}
use Rattle.regex_lite_syntax.proofs.ExitLemmas.{at_exit}
use Rattle.regex_lite_syntax.proofs.parse.IndexLemmas.{some_at, gap_at_end}
use Rattle.regex_lite_syntax.proofs.grammar.NameLemmas.{no_names_differ}
use Rattle.regex_lite_syntax.proofs.machine.RunLemmas.{reaches_next, open_too_deep}
use Rattle.regex_lite_syntax.proofs.machine.RunLemmas.{admitted, end_says, step_says}
use Rattle.regex_lite_syntax.proofs.parse.parse_chars.Goals as goal

pub loop-parser-init : goal.loop-parser-init
loop-parser-init c = record {
  inside = omega arith;
  reaches = record {
    deepest = 0;
    leads = stay (sym (c.new-parser.ensures.state c.args.chars.now));
    within = omega arith;
    differ = subst (λ names. NamesDiffer names) (sym c.new-parser.ensures.names) no_names_differ;
    characters = c.requires;
  };
}

pub loop-parser-preserved : goal.loop-parser-preserved
loop-parser-preserved c =
    let xs = c.args.chars.now in
    let q = c.step.new.self in
    let deeper : c.args.config.nest_limit < length q.below.items → ⊥ =
    λ deep. both_ways _ c.if-is_deeper_than.false (c.is_deeper_than.ensures.1 deep) in
    record {
      inside = c.in_ok-at.ensures.ok.in_pattern;
      reaches = reaches_next _ _ xs _ q _ (drop c.skip_gap-here.result xs) (drop c.in_ok-at.at xs)
          c.loop-parser.invariant.reaches c.skip_gap-here.ensures.gap c.in_ok-at.ensures.ok.reads
          (omega (arith, deeper));
    }

pub returns-then-is_deeper_than-clause-refused : goal.returns-then-is_deeper_than-clause-refused
returns-then-is_deeper_than-clause-refused c =
    let xs = c.args.chars.now in
    rw c.nesting.ensures (open_too_deep _ _ xs _ c.step.new.self _ (drop c.skip_gap-here.result xs)
    (drop c.in_ok-at.at xs) c.loop-parser.invariant.reaches c.skip_gap-here.ensures.gap
    c.in_ok-at.ensures.ok.reads (c.is_deeper_than.ensures.0 c.if-is_deeper_than.true))

pub returns-then-here-chars : goal.returns-then-here-chars
returns-then-here-chars c =
    let xs = c.args.chars.now in
    let gap = gap_at_end _ (drop c.loop-parser.at xs) xs c.skip_gap-here.result
    c.if-here-chars.true c.skip_gap-here.ensures.gap in
    let reaches = c.loop-parser.invariant.reaches in
    record {
      tree = IfOk-weaker c.finish.result _ _ (λ hir ok. (admitted _ _ xs _ _ (tree_of hir) reaches
          gap c.finish.ensures.groups ok.0 ok.1).0) c.finish.ensures.ok;
      regular = IfOk-weaker c.finish.result _ _ (λ hir ok. (admitted _ _ xs _ _ (tree_of hir)
          reaches gap c.finish.ensures.groups ok.0 ok.1).1) c.finish.ensures.ok;
      refused = IfErr-weaker c.finish.result _ _ (λ e. end_says _ _ xs _ _ e reaches gap)
          c.finish.ensures.refused;
    }

pub returns-in_err-at-clause-refused : goal.returns-in_err-at-clause-refused
returns-in_err-at-clause-refused c =
    let xs = c.args.chars.now in
    let here = c.skip_gap-here.result in
    let inside : here < length xs =
    omega (arith, c.if-here-chars.false, c.skip_gap-here.ensures.inside) in
    at_exit _ _ c.from_residual.ensures.1
    (step_says _ _ xs _ _ (drop here xs) _ c.loop-parser.invariant.reaches
    c.skip_gap-here.ensures.gap (some_at xs here inside) c.in_err-at.ensures.refused)

use Rattle.regex_lite_syntax.proofs.Common.{◌++◌, drop, ap, arith}
use Rattle.regex_lite_syntax.proofs.machine.ReadStepLemmas.{reads_end, reads_no_end}
use Rattle.regex_lite_syntax.proofs.parse.Parser.read_group_end.Goals as goal

pub returns-then-not-branch-clause-refused : goal.returns-then-not-branch-clause-refused
returns-then-not-branch-clause-refused c =
    let t = drop c.args.at c.args.chars.now in
    rw c.into.ensures (λ more follows. reads_no_end c.args.self.now (t ++ more) _
    (ap (λ u. u ++ more) c.requires.begins) (c.in_ok-close.ensures.none c.if-not-branch.true))

pub returns-clause-ok : goal.returns-clause-ok
returns-clause-ok c =
    let t = drop c.args.at c.args.chars.now in
    record {
      further = omega arith;
      in_pattern = omega (arith, c.requires.inside);
      reads = reads_end c.args.self.now c.close.new.self t _ c.requires.begins
          (c.in_ok-close.ensures.closed c.if-not-branch.false);
    }

use Rattle.regex_lite_syntax.proofs.Common.{◌+◌, drop, arith}
use Rattle.regex_lite_syntax.proofs.ExitLemmas.{at_exit}
use Rattle.regex_lite_syntax.proofs.parse.DenialLemmas.{number_refuses}
use Rattle.regex_lite_syntax.proofs.machine.ReadHeadLemmas.{reads_numbered, begins_numbered}
use Rattle.regex_lite_syntax.proofs.parse.Parser.read_group_head.Goals as goal

pub returns-in_err-open_capture-clause-refused : goal.returns-in_err-open_capture-clause-refused
returns-in_err-open_capture-clause-refused c =
    let none = c.is_at.ensures.absent c.if-not-is_at.true in
    at_exit _ _ c.from_residual.ensures.1
    (number_refuses c.in_err-open_capture.field-0.0 c.args.self.now _
    c.in_err-open_capture.ensures.refused
    (begins_numbered c.args.self.now _ _ _ c.requires.begins c.skip_gap-first.ensures.gap none))

pub returns-then-not-is_at-clause-ok : goal.returns-then-not-is_at-clause-ok
returns-then-not-is_at-clause-ok c =
    let xs = c.args.chars.now in
    record {
      further = omega arith;
      in_pattern = omega (arith, c.requires.inside);
      reads = reads_numbered c.args.self.now c.open_capture.new.self (drop c.args.at xs)
          (drop (c.args.at + 1) xs) _ c.requires.begins c.skip_gap-first.ensures.gap
          (c.is_at.ensures.absent c.if-not-is_at.true) c.in_ok-open_capture.ensures.ok;
    }

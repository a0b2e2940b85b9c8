use Rattle.regex_lite_engine.proofs.Common.{◌<◌, arith, nat_tests}
use Rattle.std.proofs.lemmas.Nat.Bits.{shr_and_one}
use Rattle.regex_lite_engine.proofs.nfa.class.MappedClass.contains.Goals as goal

pub returns-then-is_ascii : goal.returns-then-is_ascii
returns-then-is_ascii c =
    let ascii : c.args.c < 128 = grind (arith, nat_tests) in
    rw (shr_and_one, c.self.invariant c.args.c ascii, c.self.view_is)

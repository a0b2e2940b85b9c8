use Rattle.regex_lite_engine.proofs.Common.{ap, one_of}
use Rattle.regex_lite_engine.proofs.nfa.write.AddedLemmas.{place_added}
use Rattle.regex_lite_engine.proofs.nfa.write.Writer.add_class.Goals as goal

pub returns : goal.returns
returns c =
    place_added c.add.result c.args.self.now c.add.new.self _
    (ap (λ ranges. one_of ranges c.args.exit) c.in_ok-set.ensures) c.add.ensures

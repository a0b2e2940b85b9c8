use Rattle.regex_lite_engine.proofs.nfa.write.AddedLemmas.{place_added}
use Rattle.regex_lite_engine.proofs.nfa.write.Writer.add_choice.Goals as goal

pub returns : goal.returns
returns c =
    place_added c.add.result c.args.self.now c.add.new.self _ c.choice_of.ensures c.add.ensures

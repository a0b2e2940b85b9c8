use Rattle.regex_lite_syntax.proofs.parse.letters.read_head.Goals as goal

pub returns-in-Some-clause-refused : goal.returns-in-Some-clause-refused
returns-in-Some-clause-refused c = c.in-Some.ensures.refused c.args.old

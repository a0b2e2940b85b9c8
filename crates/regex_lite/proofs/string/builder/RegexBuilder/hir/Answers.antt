use Rattle.regex_lite.proofs.string.builder.RegexBuilder.hir.Goals as goal

pub returns-clause-read : goal.returns-clause-read
returns-clause-read c = rw (← c.self.view_is, ← c.as_str.ensures.value) c.parse.ensures.tree

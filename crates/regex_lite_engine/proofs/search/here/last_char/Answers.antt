use Rattle.regex_lite_engine.proofs.Common.{rules}
use Rattle.std.specs.Char.{IsScalar}
use Rattle.regex_lite_engine.proofs.search.here.HereLemmas.{none_before, some_before}
use Rattle.regex_lite_engine.proofs.search.here.last_char.Goals as goal

pub returns-in-None : goal.returns-in-None
returns-in-None c = λ p is.
    none_before c.args.haystack.now p c.args.at c.requires.0 is (search rules)

pub returns-in-Some : goal.returns-in-Some
returns-in-Some c = λ p is.
    let scalar : IsScalar c.in-Some.c = search rules in
    some_before c.args.haystack.now c.next_back.new.self.rest.now p c.args.at c.in-Some.c
    c.utf8.haystack c.requires scalar is (search rules)

use Rattle.regex_lite_engine.proofs.Common.{subst, sym, table_of_list, StoredList}
use Rattle.regex_lite_engine.specs.Search.NumberedWords.{AreAnsweredBy, IsEachAnsweredBy}
use Rattle.regex_lite_engine.proofs.nfa.list.GraphList.words.Goals as goal

pub returns-in-Some-clause-next : goal.returns-in-Some-clause-next
returns-in-Some-clause-next c =
    let answers = rw c.in-Some.is at c.self.invariant.6 in
    subst (λ words. AreAnsweredBy (table_of_list c.args.self.now) c.args.self.now.entries words)
    (sym c.deref.ensures)
    (subst (λ (l : StoredList). AreAnsweredBy (table_of_list l) l.entries c.in-Some.words.value)
    c.self.view_is answers.0)

pub returns-in-Some-clause-each : goal.returns-in-Some-clause-each
returns-in-Some-clause-each c =
    let answers = rw c.in-Some.is at c.self.invariant.6 in
    subst (λ words. IsEachAnsweredBy (table_of_list c.args.self.now) c.args.self.now.entries words)
    (sym c.deref.ensures)
    (subst (λ (l : StoredList). IsEachAnsweredBy (table_of_list l) l.entries c.in-Some.words.value)
    c.self.view_is answers.1)

use Rattle.regex_lite_engine.proofs.Common.{subst, sym, table_of_list, StoredList}
use Rattle.regex_lite_engine.specs.Search.NeededWords.{IsNeededByAny}
use Rattle.regex_lite_engine.proofs.nfa.list.GraphList.needed.Goals as goal

pub returns-in-Some : goal.returns-in-Some
returns-in-Some c =
    subst (λ needed. IsNeededByAny (table_of_list c.args.self.now) c.args.self.now.entries needed)
    (sym c.deref.ensures)
    (subst (λ (l : StoredList). IsNeededByAny (table_of_list l) l.entries c.in-Some.needed.value)
    c.self.view_is (rw c.in-Some.is at c.self.invariant.7))

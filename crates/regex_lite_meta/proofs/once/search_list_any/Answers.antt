use Rattle.std.specs.Prelude.{◌↔◌, IsTrue}
use Rattle.std.proofs.lemmas.Result.{IfOk-weaker}
use Rattle.regex_lite_meta.proofs.Common.{chars, sym, subst}
use Rattle.regex_lite_engine.specs.Search.AnswerOfList.{AnyMatchesFrom}
use Rattle.regex_lite_engine.specs.Search.Offsets.{search_start}
use Rattle.regex_lite_engine.proofs.search.ListOutcomeLemmas.{any_of_outcome, cost_of_list}
use Rattle.regex_lite_meta.proofs.AnyLemmas.{any_of_trees}
use Rattle.regex_lite_meta.proofs.once.search_list_any.Goals as goal

pub returns-in-Some : goal.returns-in-Some
returns-in-Some c =
    let list = c.args.list.now in
    let haystack = c.args.haystack.now in
    let start = c.args.start in
    let inside = c.if-start-haystack.false in
    let alone = c.in-Some.ensures in
    let reported = c.search_any_one.ensures in record {
      found = IfOk-weaker c.search_any_one.result _ _
          (λ reported is trees regular of_list.
          any_of_trees trees list of_list haystack start inside regular reported.0
          (rw (alone.entry, ← alone.table) is.found)) reported;
      cost = IfOk-weaker c.search_any_one.result _ _
          (λ reported is trees of_list. cost_of_list trees list of_list haystack start inside
          reported.1 (rw (alone.entry, ← alone.table) is.cost)) reported;
      entered = IfOk-weaker c.search_any_one.result _ _ (λ reported is. is.entered) reported;
    }

pub returns-in-Some-search_words-clause-found : goal.returns-in-Some-search_words-clause-found
returns-in-Some-search_words-clause-found c = λ trees regular is.
    let haystack = c.args.haystack.now in
    let found = c.in-Some-search_words.found in
    subst (λ some. IsTrue some
    ↔ AnyMatchesFrom trees (chars haystack) (search_start haystack c.args.start))
    (sym c.is_some.ensures)
    (any_of_outcome trees regular haystack c.args.start found
    (c.in-Some-search_words.ensures.found trees regular is))

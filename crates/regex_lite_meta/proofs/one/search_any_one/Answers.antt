use Rattle.std.specs.Prelude.{IsTrue}
use Rattle.regex_lite_meta.proofs.Common.{places_of, subst}
use Rattle.regex_lite_meta.proofs.AnyLemmas.{by_end, by_outcome}
use Rattle.regex_lite_meta.proofs.OneLemmas.{some_entered}
use Rattle.regex_lite_meta.proofs.one.search_any_one.Goals as goal

pub returns-in-Some : goal.returns-in-Some
returns-in-Some c =
    let one = c.args.pattern.now in
    let reported = rw c.in-Some.is at c.search_words.ensures.reported in record {
      found = rw c.is_some.ensures
          (by_outcome (places_of one.table.now) c.args.haystack.now one.entry c.args.start
          c.in-Some.found reported.found);
      cost = reported.cost;
      entered = λ yes. some_entered _ c.in-Some.found (subst (λ b. IsTrue b) c.is_some.ensures yes)
          reported.entered;
    }

pub returns : goal.returns
returns c =
    let one = c.args.pattern.now in
    let reported = c.in_ok-end.ensures in record {
      found = rw c.is_some-2.ensures
          (by_end (places_of one.table.now) c.args.haystack.now one.entry c.args.start
          c.in_ok-end.end reported.found);
      cost = reported.cost;
      entered = λ yes. some_entered _ c.in_ok-end.end
          (subst (λ b. IsTrue b) c.is_some-2.ensures yes)
          reported.entered;
    }

use Rattle.regex_lite_meta.proofs.Common.{sym, ◌∙◌}
use Rattle.regex_lite_meta.proofs.lazy_dfa.list_spans.find_by_dfa.Goals as goal

pub find_in_list-requires-clause-width : goal.find_in_list-requires-clause-width
find_in_list-requires-clause-width g c =
    let before = rw c.in-Some.is at c.requires.is_dfa in
    sym c.requires.between.best_width ∙ before.1

pub returns-in-Some-find_in_list : goal.returns-in-Some-find_in_list
returns-in-Some-find_in_list g c = record {
  found = c.in-Some-find_in_list.ensures.found;
  is_dfa =
      let reported = c.find_in_list.ensures in
      (reported.is_dfa, reported.between.best_width ∙ reported.width);
  between = c.find_in_list.ensures.between;
  without_slots = c.find_in_list.ensures.between.best_width ∙ c.find_in_list.ensures.width;
  width =
      let reported = c.find_in_list.ensures in
      let before = rw c.in-Some.is at c.requires.is_dfa in
      reported.between.best_width ∙ reported.width ∙ sym before.1;
}

pub returns-clause-width : goal.returns-clause-width
returns-clause-width g c =
    let reported = c.find_in_list.ensures in
    let before = rw c.in-Some.is at c.requires.is_dfa in
    reported.between.best_width ∙ reported.width ∙ sym before.1

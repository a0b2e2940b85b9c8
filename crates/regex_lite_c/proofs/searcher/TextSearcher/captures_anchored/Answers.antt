use Rattle.regex_lite_c.proofs.Common.{[], None, Groups, ◌∙◌}
use Rattle.std.specs.String.{string_bytes}
use Rattle.regex_lite_c.specs.GroupAnswers.{IsGroupsAnswerOf}
use Rattle.regex_lite_c.specs.SearcherAnswers.{AreSpansAt, TellsSpansAt}
use Rattle.regex_lite_c.specs.Searchers.{HasEachGroup}
use Rattle.regex_lite_c.proofs.AnswerLemmas.{groups_found, no_groups_found}
use Rattle.regex_lite_c.proofs.searcher.SearcherLemmas.{of_own, still_each, tells_spans_at}
use Rattle.regex_lite_c.proofs.searcher.TextSearcher.captures_anchored.Goals as goal

pub returns-clause-answer : goal.returns-clause-answer
returns-clause-answer c =
    let own = c.self.inside.searcher in
    let read = c.as_str-text.result.now in
    let start = c.args.start in
    let locs = c.captures_read_anchored_at-found.new.locs in
    let old = c.args.spans.now in
    let new = c.write_groups.new.spans in
    let count = c.len.result in
    let each : HasEachGroup own locs = (
      c.self.invariant.0,
      c.self.invariant.1,
      c.captures_read_anchored_at-found.ensures.len ∙ c.self.invariant.2,
    ) in
    let groups : Groups = record {
      haystack = read;
      spans = locs;
      names = [];
      static_captures_len = None;
    } in
    let reported = tells_spans_at own read start locs c.in-Some.field-0 each
    (rw c.in-Some.is at c.captures_read_anchored_at-found.ensures.found) in
    of_own
    (λ re text. IsGroupsAnswerOf (AreSpansAt re text start) (TellsSpansAt re text start None) text
    start old new c.args.count.now count c.write_groups.result)
    c.args.self.now own read (string_bytes c.self.inside.text) c.self.view_is
    c.as_str-text.ensures.value
    (groups_found (AreSpansAt own read start) (TellsSpansAt own read start None) read start old new
    c.args.count.now count c.write_groups.result groups c.as_str-text.utf8
    (c.is_char_boundary.ensures.test.0 c.if-not-is_char_boundary.false)
    (reported, c.len.ensures.len) c.write_groups.ensures.written c.write_groups.ensures.no_room)

pub invariant_of-self : goal.invariant_of-self
invariant_of-self c =
    still_each c.self.inside.searcher c.captures_read_anchored_at-found.new.self c.self.inside.groups
    c.captures_read_anchored_at-found.new.locs c.self.invariant c.captures_read_anchored_at-found.ensures.same
    c.captures_read_anchored_at-found.ensures.len

pub invariant_of-self-2 : goal.invariant_of-self-2
invariant_of-self-2 c =
    still_each c.self.inside.searcher c.captures_read_anchored_at-found.new.self c.self.inside.groups
    c.captures_read_anchored_at-found.new.locs c.self.invariant c.captures_read_anchored_at-found.ensures.same
    c.captures_read_anchored_at-found.ensures.len

pub returns-in_default-clause-answer : goal.returns-in_default-clause-answer
returns-in_default-clause-answer c =
    let own = c.self.inside.searcher in
    let read = c.as_str-text.result.now in
    let start = c.args.start in
    let old = c.args.spans.now in
    let count = c.args.count.now in
    of_own
    (λ re text. IsGroupsAnswerOf (AreSpansAt re text start) (TellsSpansAt re text start None) text
    start old old count count 0)
    c.args.self.now own read (string_bytes c.self.inside.text) c.self.view_is
    c.as_str-text.ensures.value
    (no_groups_found (AreSpansAt own read start) (TellsSpansAt own read start None) read start old count
    c.as_str-text.utf8 (c.is_char_boundary.ensures.test.0 c.if-not-is_char_boundary.false)
    (rw c.in_default.is at c.captures_read_anchored_at-found.ensures.found))

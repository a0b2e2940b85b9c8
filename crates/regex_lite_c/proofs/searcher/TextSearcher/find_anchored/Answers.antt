use Rattle.regex_lite_c.proofs.Common.{None}
use Rattle.regex_lite.specs.Anchored.{TellsMatchAt}
use Rattle.regex_lite_c.specs.Anchored.{FindsSpanAt, TellsSpanAt}
use Rattle.regex_lite_c.proofs.anchored.AnchoredLemmas.{finds_span_at}
use Rattle.std.specs.String.{string_bytes}
use Rattle.regex_lite_c.specs.Answers.{IsSearchAnswer}
use Rattle.regex_lite_c.proofs.searcher.SearcherLemmas.{match_answered, of_own}
use Rattle.regex_lite_c.proofs.searcher.TextSearcher.find_anchored.Goals as goal

pub returns-clause-answer : goal.returns-clause-answer
returns-clause-answer c =
    let own = c.self.inside.searcher in
    let read = c.as_str-text.result.now in
    let span = c.write_match.new.span in
    of_own
    (λ re text. IsSearchAnswer text c.args.start c.write_match.result (FindsSpanAt re text c.args.start span)
    (TellsSpanAt re text c.args.start None))
    c.args.self.now own read (string_bytes c.self.inside.text) c.self.view_is
    c.as_str-text.ensures.value
    (match_answered (TellsMatchAt own read c.args.start) (FindsSpanAt own read c.args.start)
    (TellsSpanAt own read c.args.start None) read c.args.start c.find_anchored_at.result c.args.span.now span
    c.write_match.result c.as_str-text.utf8 (c.is_char_boundary.ensures.test.0 c.if-not-is_char_boundary.false) (λ none. none)
    (λ m tells is. finds_span_at own read c.args.start m span tells is) c.find_anchored_at.ensures.found
    c.write_match.ensures)

use Rattle.regex_lite.specs.MatchOffsets.{MatchesAt}
use Rattle.std.specs.String.{string_bytes}
use Rattle.regex_lite_c.specs.Answers.{IsSearchAnswer}
use Rattle.regex_lite_c.proofs.searcher.SearcherLemmas.{of_own, said}
use Rattle.regex_lite_c.proofs.searcher.TextSearcher.is_match_anchored.Goals as goal

pub returns-clause-answer : goal.returns-clause-answer
returns-clause-answer c =
    let read = c.as_str-text.result.now in
    of_own
    (λ re text. IsSearchAnswer text c.args.start c.answer_of.result (MatchesAt re text c.args.start) (MatchesAt re text c.args.start → ⊥))
    c.args.self.now c.self.inside.searcher read (string_bytes c.self.inside.text) c.self.view_is
    c.as_str-text.ensures.value
    (said read c.args.start c.answer_of.result c.is_match_anchored_at.result c.as_str-text.utf8 (c.is_char_boundary.ensures.test.0 c.if-not-is_char_boundary.false)
    c.answer_of.ensures c.is_match_anchored_at.ensures.found)

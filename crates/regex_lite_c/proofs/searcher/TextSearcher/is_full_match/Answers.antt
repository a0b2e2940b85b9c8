use Rattle.regex_lite_c.proofs.Common.{length}
use Rattle.std.proofs.lemmas.Str.{IsCharBoundary-start}
use Rattle.regex_lite.specs.MatchOffsets.{MatchesSpan}
use Rattle.std.specs.String.{string_bytes}
use Rattle.regex_lite_c.specs.Answers.{IsSearchAnswer}
use Rattle.regex_lite_c.proofs.searcher.SearcherLemmas.{of_own, said}
use Rattle.regex_lite_c.proofs.searcher.TextSearcher.is_full_match.Goals as goal

pub returns-clause-answer : goal.returns-clause-answer
returns-clause-answer c =
    let read = c.as_str.result.now in
    of_own
    (λ re text. IsSearchAnswer text 0 c.answer_of.result (MatchesSpan re text (0, length text)) (MatchesSpan re text (0, length text) → ⊥))
    c.args.self.now c.self.inside.searcher read (string_bytes c.self.inside.text) c.self.view_is
    c.as_str.ensures.value
    (said read 0 c.answer_of.result c.is_full_match.result c.as_str.utf8 (IsCharBoundary-start read c.as_str.utf8)
    c.answer_of.ensures c.is_full_match.ensures.found)

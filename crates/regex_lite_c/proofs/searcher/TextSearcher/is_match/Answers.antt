use Rattle.std.proofs.lemmas.Str.{IsCharBoundary-start}
use Rattle.regex_lite.specs.Searches.{MatchesFrom}
use Rattle.std.specs.String.{string_bytes}
use Rattle.regex_lite_c.specs.Answers.{IsSearchAnswer}
use Rattle.regex_lite_c.proofs.searcher.SearcherLemmas.{of_own, said}
use Rattle.regex_lite_c.proofs.searcher.TextSearcher.is_match.Goals as goal

pub returns-clause-answer : goal.returns-clause-answer
returns-clause-answer c =
    let read = c.as_str.result.now in
    of_own
    (λ re text. IsSearchAnswer text 0 c.answer_of.result (MatchesFrom re text 0) (MatchesFrom re text 0 → ⊥))
    c.args.self.now c.self.inside.searcher read (string_bytes c.self.inside.text) c.self.view_is
    c.as_str.ensures.value
    (said read 0 c.answer_of.result c.is_match.result c.as_str.utf8 (IsCharBoundary-start read c.as_str.utf8)
    c.answer_of.ensures c.is_match.ensures.found)

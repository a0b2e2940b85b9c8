use Rattle.regex_lite_c.proofs.Common.{None}
use Rattle.std.proofs.lemmas.Str.{IsCharBoundary-start}
use Rattle.regex_lite.specs.Anchored.{TellsWholeMatch}
use Rattle.regex_lite_c.specs.Whole.{FindsWholeSpan, TellsWholeSpan}
use Rattle.regex_lite_c.proofs.anchored.AnchoredLemmas.{finds_whole_span}
use Rattle.std.specs.String.{string_bytes}
use Rattle.regex_lite_c.specs.Answers.{IsSearchAnswer}
use Rattle.regex_lite_c.proofs.searcher.SearcherLemmas.{match_answered, of_own}
use Rattle.regex_lite_c.proofs.searcher.TextSearcher.full_match.Goals as goal

pub returns-clause-answer : goal.returns-clause-answer
returns-clause-answer c =
    let own = c.self.inside.searcher in
    let read = c.as_str.result.now in
    let span = c.write_match.new.span in
    of_own
    (λ re text. IsSearchAnswer text 0 c.write_match.result (FindsWholeSpan re text span)
    (TellsWholeSpan re text None))
    c.args.self.now own read (string_bytes c.self.inside.text) c.self.view_is
    c.as_str.ensures.value
    (match_answered (TellsWholeMatch own read) (FindsWholeSpan own read)
    (TellsWholeSpan own read None) read 0 c.full_match.result c.args.span.now span
    c.write_match.result c.as_str.utf8 (IsCharBoundary-start read c.as_str.utf8) (λ none. none)
    (λ m tells is. finds_whole_span own read m span tells is) c.full_match.ensures.found
    c.write_match.ensures)

use Rattle.regex_lite_engine.proofs.Common.{ℕ, [], ◌∷◌, None, Some, IfSome, Option, chars}
use Rattle.regex_lite_engine.proofs.Common.{places_of, AreDeadAt, PassesTo, Here, Text}
use Rattle.regex_lite_syntax.specs.Prefilter.StartFacts.{NeverStarts}
use Rattle.regex_lite_engine.specs.Search.Filters.{facts_of}
use Rattle.regex_lite_engine.proofs.search.SkipLemmas.{passes_as}
use Rattle.regex_lite_engine.proofs.search.OneStartLemmas.{one_dead}
use Rattle.regex_lite_engine.proofs.search.one_pattern.OnePatternPatterns.skip.Goals as goal

-- positions that are passed are of a further kind
skips_as : (Passed Other : ℕ → Type 0) (h : Text) (p : ℕ) (o : Option Here)
    → ((i : ℕ) → Passed i → Other i) → IfSome o (PassesTo Passed h p)
    → IfSome o (PassesTo Other h p)
skips_as Passed Other h p None each none = none
skips_as Passed Other h p (Some next) each passes = passes_as Passed Other h p next each passes

pub returns : goal.returns
returns c = λ p is.
    let one = c.args.self.now in
    let table = places_of one.table.now in
    let haystack = chars c.args.haystack.now in
    skips_as (NeverStarts (facts_of one.filter) haystack)
    (AreDeadAt table haystack (one.entry ∷ [])) haystack p c.skip.result
    (λ i never. one_dead table haystack one.entry i (one.facts haystack i never))
    (c.skip.ensures p is)

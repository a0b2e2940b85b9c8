use Rattle.regex_lite_engine.proofs.Common.{◌≡◌, IfSome, IsTrue, List, None, Option, Some}
use Rattle.regex_lite_engine.proofs.Common.{places_of}
use Rattle.regex_lite_engine.proofs.Common.{ℕ, subst}
use Rattle.regex_lite_syntax.specs.Prefilter.StartFacts.{StartFacts}
use Rattle.regex_lite_syntax.specs.declared.prefilter.words.letter.Letter.{Letter}
use Rattle.regex_lite_engine.specs.Graph.Places.{Place}
use Rattle.regex_lite_engine.specs.Search.Filters.{facts_of}
use Rattle.regex_lite_engine.specs.Search.Starts.{AnswerSearches, DoWordsAnswer}
use Rattle.regex_lite_engine.proofs.search.one_pattern.OnePattern.whole_words.Goals as goal

-- words that are reported are those of the facts
reported_answer : {X : Type 0} (words : X → List (List Letter)) (table : List (Place ℕ)) (start : ℕ)
    (facts : StartFacts) → DoWordsAnswer table start facts → (reported : Option X)
    → IfSome reported (λ x. facts.words ≡ Some (words x)) → IfSome reported
    (λ _. IsTrue facts.are_all) → IfSome reported (λ x. AnswerSearches table start (words x))
reported_answer words table start facts answer None same all = tt
reported_answer words table start facts answer (Some x) same all =
    subst (λ own. IfSome own (AnswerSearches table start)) same (answer all)

pub returns : goal.returns
returns c =
    let one = c.args.self.now in
    reported_answer (λ words. words.now) (places_of one.table.now) one.entry (facts_of one.filter)
    c.requires c.whole_words.result c.whole_words.ensures.words c.whole_words.ensures.all

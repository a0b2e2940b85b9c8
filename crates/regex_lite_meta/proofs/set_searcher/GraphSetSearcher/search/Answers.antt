use Rattle.regex_lite_engine.proofs.Common.{◌≡◌, length, chars, ap, subst, arith, StoredList}
use Rattle.regex_lite_engine.specs.Search.AnswerOfList.{TellsWhich}
use Rattle.regex_lite_engine.proofs.nfa.BoundaryLemmas.{on_boundary}
use Rattle.regex_lite_engine.proofs.search.ListOutcomeLemmas.{at_position}
use Rattle.regex_lite_syntax.specs.Prefilter.NumberedWords.{TellsWhichStand}
use Rattle.regex_lite_meta.proofs.list_matches.WhichLemmas.{words_tell}
use Rattle.regex_lite_meta.proofs.set_searcher.GraphSetSearcher.search.Goals as goal

pub returns-in-Some-clause-found : goal.returns-in-Some-clause-found
returns-in-Some-clause-found c = λ trees regular is.
    let list = c.self.inside.graph.now in
    let of_list = rw (← c.self.view_is) at is in
    let haystack = c.args.haystack.now in
    let start = c.args.start in
    let words = c.in-Some.words.now in
    let reported = c.which_stand.new.reported in
    let edge = on_boundary haystack start c.requires.start c.if-start-haystack.false in
    let all : length reported ≡ length list.entries = omega (
      arith,
      c.which_stand.ensures.length,
      c.fill.ensures.len,
      c.requires.all,
      ap (λ (l : StoredList). length l.entries) c.self.view_is,
    ) in
    at_position trees list of_list haystack start edge.0
    (λ s. TellsWhich trees (chars haystack) s reported)
    (words_tell list haystack start c.utf8.haystack edge words c.in-Some.ensures.each reported all
    (subst (λ bytes. TellsWhichStand words bytes start reported) c.as_bytes.ensures.value
    c.which_stand.ensures.reported) trees regular of_list)

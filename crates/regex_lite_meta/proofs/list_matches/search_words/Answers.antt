use Rattle.regex_lite_engine.proofs.Common.{◌≡◌, ◌++◌, length, take, drop, chars, sym, ap, ◌∙◌}
use Rattle.regex_lite_engine.proofs.Common.{subst}
use Rattle.regex_lite_engine.proofs.Common.{arith, take-append_seam, search_start}
use Rattle.regex_lite_engine.specs.Search.AnswerOfList.{TellsWhich}
use Rattle.regex_lite_engine.proofs.search.ListOutcomeLemmas.{at_position}
use Rattle.regex_lite_syntax.specs.Prefilter.NumberedWords.{TellsWhichStand}
use Rattle.regex_lite_meta.proofs.list_matches.WhichLemmas.{words_tell}
use Rattle.regex_lite_meta.proofs.list_matches.search_words.Goals as goal

pub returns : goal.returns
returns c = λ trees regular is.
    let haystack = c.args.haystack.now in
    let list = c.args.list.now in
    let start = c.args.start in
    let reported = c.which_stand.new.reported in
    let matched = c.in_ok-matched.matched in
    let all : length reported ≡ length list.entries = omega (
      arith,
      c.which_stand.ensures.length,
      c.in_ok-matched.ensures.len,
      c.len.ensures.same,
      matched.ok,
    ) in
    let found = words_tell list haystack start c.utf8.haystack c.requires.boundary
    c.args.words.now c.requires.each reported all
    (subst (λ bytes. TellsWhichStand c.args.words.now bytes start reported) c.as_bytes.ensures.value
    c.which_stand.ensures.reported) trees regular is in
    let len : matched.len ≡ length reported
    = omega (arith, all, c.in_ok-matched.ensures.len, c.len.ensures.same, matched.ok) in
    let same = ap (λ n. take n (reported ++ drop (length reported) matched.items)) len
    ∙ take-append_seam reported (drop (length reported) matched.items) in
    subst (λ list. TellsWhich trees (chars haystack) (search_start haystack start) list)
    (sym same)
    (at_position trees list is haystack start c.requires.boundary.0
    (λ s. TellsWhich trees (chars haystack) s reported) found)

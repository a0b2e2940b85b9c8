use Rattle.regex_lite_engine.proofs.Common.{◌≡◌, ◌++◌, length, take, drop, chars, sym, ap, ◌∙◌}
use Rattle.regex_lite_engine.proofs.Common.{subst}
use Rattle.regex_lite_engine.proofs.Common.{arith, take-append_seam, search_start}
use Rattle.regex_lite_engine.specs.Search.AnswerOfList.{TellsWhich}
use Rattle.regex_lite_engine.proofs.search.ListOutcomeLemmas.{at_position}
use Rattle.regex_lite_meta.proofs.list_matches.search_in_one_pass.Goals as goal

pub returns : goal.returns
returns c = λ trees regular is.
    let haystack = c.args.haystack.now in
    let found = c.in_ok-search.ensures.found trees regular is in
    let reported = c.search.new.matched in
    let matched = c.in_ok-matched.matched in
    let all = found.all in
    let each = is.each_entry in
    let len : matched.len ≡ length reported
    = omega (arith, all, each, c.in_ok-matched.ensures.len, c.len.ensures.same, matched.ok) in
    let same = ap (λ n. take n (reported ++ drop (length reported) matched.items)) len
    ∙ take-append_seam reported (drop (length reported) matched.items) in
    subst (λ list. TellsWhich trees (chars haystack) (search_start haystack c.args.start) list)
    (sym same)
    (at_position trees c.args.list.now is haystack c.args.start
    c.requires.0
    (λ s. TellsWhich trees (chars haystack) s reported) found)

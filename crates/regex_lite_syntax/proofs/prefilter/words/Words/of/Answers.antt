use Rattle.regex_lite_syntax.proofs.Common.{◌≡◌, IfSome, subst, sym, tree_of, true}
use Rattle.regex_lite_syntax.specs.Prefilter.Spelling.{AreReportedWords}
use Rattle.regex_lite_syntax.specs.Prefilter.WordLists.{all_words}
use Rattle.regex_lite_syntax.proofs.prefilter.words.RowLemmas.{begins_with_own}
use Rattle.regex_lite_syntax.proofs.prefilter.words.Words.of.Goals as goal

pub returns-in-Some : goal.returns-in-Some
returns-in-Some c =
    let tree = tree_of c.args.hir.now in
    let are = c.in_ok-read_words.ensures c.if-branch.true in
    let same : c.in-Some.words ≡ all_words c.read_words.new.list =
    subst (λ reported. IfSome reported (λ words. words ≡ all_words c.read_words.new.list))
    c.in-Some.is c.in_ok-of_list.ensures in
    subst (λ words. AreReportedWords tree words true) (sym same)
    (begins_with_own tree _ are, λ _. are)

use Rattle.regex_lite_syntax.proofs.Common.{ap, subst, sym}
use Rattle.regex_lite_syntax.specs.Tree.Views.{tree_of}
use Rattle.regex_lite_syntax.specs.Prefilter.WordLists.{all_words}
use Rattle.regex_lite_syntax.specs.Prefilter.Words.{AreWordsOfTree}
use Rattle.regex_lite_syntax.proofs.prefilter.words.WordWalkLemmas.{words_of_walk}
use Rattle.regex_lite_syntax.proofs.prefilter.words.walk.WordWalk.of.Goals as goal

pub returns : goal.returns
returns c =
    let tree = tree_of c.args.hir.now in
    subst (λ words. AreWordsOfTree tree (all_words words))
    (sym (ap (λ walk. walk.words) c.close.ensures))
    (words_of_walk tree _ c.extend.new.self c.requires.done c.requires.last
    (c.in_ok-extend.ensures c.if-not-branch.false))

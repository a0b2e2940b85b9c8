use Rattle.regex_lite_syntax.proofs.Common.{sym, ◌∙◌, IfOk-weaker, tree_of}
use Rattle.std.proofs.lemmas.Bool.{not-false}
use Rattle.regex_lite_syntax.proofs.LetterCaseLemmas.{letter_as}
use Rattle.regex_lite_syntax.proofs.parse.atom.AtomTreeLemmas.{class_of, both_cases}
use Rattle.regex_lite_syntax.proofs.parse.atom.char_tree.Goals as goal

pub returns : goal.returns
returns c =
    let letter = letter_as c.args.c
    (sym c.is_ascii_alphabetic.ensures.value ∙ c.if-not-is_ascii_alphabetic.false) in
    IfOk-weaker _ _ _ (λ hir tree.
    both_cases c.args.flags c.args.c (tree_of hir) (not-false _ c.if-not-flags.false) letter
    (class_of _ c.in_ok-class.class _ c.in_ok-class.ensures tree)) c.class.ensures

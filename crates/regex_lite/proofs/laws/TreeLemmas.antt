-- The trees of several patterns are those with the patterns' numbers.
use Rattle.regex_lite.proofs.Common.{chars, sym, ◌∙◌, subst, IsTree, Tree, Expression}
use Rattle.regex_lite_syntax.proofs.OptionLemmas.{same_some}
use Rattle.regex_lite.specs.TreeLaws.{TreesAreNumbered}
use Rattle.regex_lite.proofs.ListBuildLemmas.{numbered_tree}
use Rattle.regex_lite.proofs.PairedLemmas.{paired_from, paired_length}

pub trees_are_numbered : TreesAreNumbered
trees_are_numbered list trees =
    let Own : Expression → Tree → Type 0 = λ re tree. IsTree re.flags (chars re.pattern) tree in (
      λ given. (
        paired_length Own list trees given,
        λ number re tree there own.
            let its = numbered_tree list trees number re given there in
            subst (Own re) (same_some (sym its.1 ∙ own)) its.2,
      ),
      λ (same, each). paired_from Own list trees same each,
    )

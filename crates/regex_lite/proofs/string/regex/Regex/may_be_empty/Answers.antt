use Rattle.regex_lite.proofs.Common.{◌∙◌}
use Rattle.regex_lite_syntax.specs.Tree.Properties.{nullable}
use Rattle.regex_lite.proofs.OneTreeLemmas.{empty_reported}
use Rattle.regex_lite.proofs.string.regex.Regex.may_be_empty.Goals as goal

pub returns : goal.returns
returns c =
    let built = c.self.invariant in (
      built.tree,
      rw (← c.self.view_is) built.given,
      empty_reported c.reads.result (nullable built.tree)
          (c.reads.ensures ∙ rw c.deref.ensures built.reads),
    )

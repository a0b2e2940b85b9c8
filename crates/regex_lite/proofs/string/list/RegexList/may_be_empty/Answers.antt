use Rattle.regex_lite.proofs.Common.{◌≡◌, AreTrees}
use Rattle.std.specs.Prelude.{not}
use Rattle.regex_lite_syntax.specs.Tree.Properties.{nullable}
use Rattle.regex_lite.proofs.OneTreeLemmas.{empty_reported}
use Rattle.regex_lite.proofs.string.ListedLemmas.{has_reading, listed_tree, there, tree_at}
use Rattle.regex_lite.proofs.string.list.RegexList.may_be_empty.Goals as goal

pub reads-requires : goal.reads-requires
reads-requires c =
    let built = c.self.invariant in
    let given : AreTrees c.args.self.now built.trees = rw (← c.self.view_is) built.given in
    rw c.deref.ensures
    (has_reading c.args.self.now c.self.inside.compiled built given c.args.number c.requires)

pub returns : goal.returns
returns c =
    let list = c.args.self.now in
    let own = c.self.inside.compiled in
    let built = c.self.invariant in
    let given : AreTrees list built.trees = rw (← c.self.view_is) built.given in
    let number = c.args.number in
    let tree = tree_at list own built given number c.requires in
    let reads = built.reads.each number tree c.reads.result
    (there list own built given number c.requires) (rw (← c.deref.ensures) c.reads.ensures) in
    listed_tree list own built given number c.requires (λ tree. not c.reads.result ≡ nullable tree)
    (empty_reported c.reads.result (nullable tree) reads)

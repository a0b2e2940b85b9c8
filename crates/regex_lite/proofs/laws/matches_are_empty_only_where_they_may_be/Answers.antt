use Rattle.regex_lite.proofs.Common.{chars, subst, arith}
use Rattle.regex_lite_syntax.specs.Tree.Matches.{Matches}
use Rattle.regex_lite_engine.proofs.OffsetLemmas.{offset_less}
use Rattle.regex_lite_engine.proofs.laws.list.ReadingLemmas.{reads}
use Rattle.regex_lite.specs.EmptyLaws.{OnlyNullableMatchesAreEmpty}
use Rattle.regex_lite.proofs.OneTreeLemmas.{one_tree}
use Rattle.regex_lite.proofs.laws.matches_are_empty_only_where_they_may_be.Goals as goal

-- a match of a tree that isn't nullable reads a character, so that its end has a later offset
only_nullable : OnlyNullableMatchesAreEmpty
only_nullable re haystack span (tree, given, reading)
    (own, given_too, (i, j, start, end, matches)) =
    let h = chars haystack in
    let one = one_tree re.flags (chars re.pattern) own tree given_too given in
    let read = reads h tree i j reading (subst (λ t. Matches h t i j) one matches) in
    let less = offset_less h i j read.0 read.1 in
    omega (arith, start.1, end.1, less)

pub returns : goal.returns
returns c = only_nullable

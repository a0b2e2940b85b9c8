use Rattle.regex_lite_engine.proofs.Common.{◌≡◌, ◌<◌, List, IfSome, Some, None, Option, sym, ap}
use Rattle.regex_lite_engine.proofs.Common.{◌∙◌}
use Rattle.regex_lite_engine.proofs.Common.{subst}
use Rattle.regex_lite_engine.proofs.Common.{arith, drop, Tree, character, look, concat, Trees, more}
use Rattle.regex_lite_engine.proofs.Common.{tree_of}
use Rattle.regex_lite_syntax.specs.Prefilter.PrefixSets.{ArePrefixSetsOfTree}
use Rattle.regex_lite_syntax.specs.declared.hir.Hir.{Hir}
use Rattle.regex_lite_syntax.specs.declared.hir.look.Look.TheVariants.{Word}
use Rattle.regex_lite_engine.specs.Search.Prefixes.{sets_of_prefix}
use Rattle.regex_lite_engine.specs.declared.search.prefix.Prefix.{Prefix}
use Rattle.regex_lite_syntax.proofs.LeafLemmas.{tree_is-Concat}
use Rattle.regex_lite_syntax.proofs.TreeLemmas.{trees_of, trees_more}
use Rattle.regex_lite_engine.proofs.search.PrefixLemmas.{two_first, two_after_look}
use Rattle.regex_lite_engine.proofs.search.prefix.Prefix.of.Goals as goal

-- parts that begin with the two characters
begun : (first second : Hir) (rest : Trees) (prefix : Prefix)
    → tree_of first ≡ character prefix.first → tree_of second ≡ character prefix.second
    → more (tree_of first) (more (tree_of second) rest)
    ≡ more (character prefix.first) (more (character prefix.second) rest)
begun first second rest prefix one two =
    ap (λ t. more t (more (tree_of second) rest)) one
    ∙ ap (λ t. more (character prefix.first) (more t rest)) two

pub returns-in-Some : goal.returns-in-Some
returns-in-Some c =
    let parts = c.as_slice.result.now in
    let long = c.in-len2-up.len_at_least in
    let first = c.first-item.result in
    let second = c.second-item.result in
    let prefix = c.in-Some.prefix in
    let reported = c.in-Some.ensures in
    let rest = trees_of (drop 2 parts) in
    let same = tree_is-Concat _ c.in-Concat.is c.as_slice.ensures.value in
    let two = trees_more parts 0 first (omega (arith, long)) c.first-item.is
    ∙ ap (λ left. more (tree_of first) left)
    (trees_more parts 1 second (omega (arith, long)) c.second-item.is) in
    subst (λ (tree : Tree). ArePrefixSetsOfTree tree (sets_of_prefix prefix.first prefix.second))
    (sym (same ∙ ap concat (two ∙ begun first second rest prefix reported.first reported.second.0)))
    (two_first prefix.first prefix.second rest prefix.ascii reported.second.1)

pub returns-then-is_word_boundary : goal.returns-then-is_word_boundary
returns-then-is_word_boundary c =
    by_prefix c.of_parts-then-is_word_boundary.result
    c.of_parts-then-is_word_boundary.ensures.first c.of_parts-then-is_word_boundary.ensures.second
  where
    parts : List Hir
    parts = c.as_slice-2.result.now

    first : Hir
    first = c.first-item-2.result

    second : Hir
    second = c.second-item-2.result

    rest : Trees
    rest = trees_of (drop 3 parts)

    three : trees_of parts
        ≡ more (tree_of c.look-item.result) (more (tree_of first) (more (tree_of second) rest))
    three =
        let long = c.in-len3-up.len_at_least in
        trees_more parts 0 c.look-item.result (omega (arith, long)) c.look-item.is
        ∙ ap (λ left. more (tree_of c.look-item.result) left)
        (trees_more parts 1 first (omega (arith, long)) c.first-item-2.is
        ∙ ap (λ left. more (tree_of first) left)
        (trees_more parts 2 second (omega (arith, long)) c.second-item-2.is))

    by_prefix : (o : Option Prefix)
        → IfSome o (λ prefix. tree_of first ≡ character prefix.first)
        → IfSome o (λ prefix. (tree_of second ≡ character prefix.second) × (prefix.second < 128))
        → IfSome o (λ prefix. ArePrefixSetsOfTree (tree_of c.args.hir.now)
        (sets_of_prefix prefix.first prefix.second))
    by_prefix None one two = one
    by_prefix (Some prefix) one two =
        let same = tree_is-Concat _ c.in-Concat.is c.as_slice-2.ensures.value in
        let boundary = c.is_word_boundary.ensures c.if-is_word_boundary.true in
        subst (λ (tree : Tree). ArePrefixSetsOfTree tree
        (sets_of_prefix prefix.first prefix.second)) (sym (same ∙ ap concat (three
        ∙ ap (λ t. more t (more (tree_of first) (more (tree_of second) rest))) boundary
        ∙ ap (λ left. more (look Word) left) (begun first second rest prefix one two.0))))
        (two_after_look prefix.first prefix.second Word rest prefix.ascii two.1)

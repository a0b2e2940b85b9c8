use Rattle.regex_lite_syntax.proofs.Common.{◌≡◌, ◌+◌, ◌++◌, List, ℕ, [], map, length, replicate}
use Rattle.regex_lite_syntax.proofs.Common.{refl, ap, ◌∙◌, subst, sym}
use Rattle.regex_lite_syntax.specs.declared.prefilter.words.letter.Letter.{Letter}
use Rattle.regex_lite_syntax.specs.Prefilter.NumberedWords.{AreGatheredFrom}
use Rattle.regex_lite_syntax.specs.Prefilter.WholeWords.{IsItsWords}
use Rattle.regex_lite_syntax.specs.Prefilter.WordLists.{all_words}
use Rattle.regex_lite_syntax.proofs.LookupLemmas.{mapped_there}
use Rattle.regex_lite_syntax.proofs.prefilter.words.RowLemmas.{begins_with_own}
use Rattle.regex_lite_syntax.proofs.prefilter.words.GatheredLemmas.{gathered_more, none_gathered}
use Rattle.regex_lite_syntax.proofs.prefilter.words.list_words.Gathered.of.Goals as goal

pub trees-init : goal.trees-init
trees-init g c =
    let hirs = c.args.hirs.now in
    let tree = g.T.AsHir.tree in
    let trees = map tree hirs in
    let first = c.in-Some.first.now in
    let own = all_words c.read_words.new.list in
    let there = mapped_there tree hirs 0 first c.in-Some.ensures.item.3.0
    c.in-Some.ensures.item.1 in
    let are : IsItsWords (tree first) own =
    subst (λ t. IsItsWords t own) c.as_hir.ensures
    (c.in_ok-read_words.ensures c.if-not-branch.false) in
    let of_tree = begins_with_own (tree first) own are in
    let start : c.in_ok-owners.owners.items ≡ [] = c.in_ok-owners.ensures.items in
    let len : c.len.result ≡ length own = c.len.ensures in
    let numbers : c.own.new.owners.items ≡ c.in_ok-owners.owners.items ++ replicate c.len.result 0 =
    c.in_ok-own.ensures in
    record {
      same = refl;
      so_far = rw (c.reserve.ensures, numbers, start, len)
          (gathered_more trees 0 (tree first) [] own [] there of_tree are (none_gathered trees));
    }

pub trees-preserved : goal.trees-preserved
trees-preserved g c =
    let hirs = c.args.hirs.now in
    let tree = g.T.AsHir.tree in
    let trees = map tree hirs in
    let k = c.trees.number in
    let hir = c.index-hirs-number.result in
    let own = all_words c.read_words-in-trees.new.list in
    let before = all_words c.trees.list in
    let owners = c.trees.owners.items in
    let there = mapped_there tree hirs k hir c.trees-test.true c.index-hirs-number.is in
    let are : IsItsWords (tree hir) own =
    subst (λ t. IsItsWords t own) c.as_hir-in-trees.ensures
    (c.in_ok-read_words-2.ensures c.if-not-branch-2.false) in
    let of_tree = begins_with_own (tree hir) own are in
    let words : before ++ own ≡ all_words c.append.new.list =
    sym {A = List (List Letter)} (c.in_ok-append.ensures c.if-not-branch-3.false) in
    let numbers : owners ++ replicate (length own) k ≡ c.own-in-trees.new.owners.items =
    sym {A = List ℕ} (c.in_ok-own-2.ensures
    ∙ ap (λ n. owners ++ replicate n k) c.len-in-trees.ensures) in
    record {
      same = refl;
      so_far = subst (λ ws. AreGatheredFrom trees (k + 1) ws c.own-in-trees.new.owners.items) words
          (subst (AreGatheredFrom trees (k + 1) (before ++ own)) numbers
          (gathered_more trees k (tree hir) before own owners there of_tree are
          c.trees.invariant.so_far));
    }

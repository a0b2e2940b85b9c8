use Rattle.regex_lite_syntax.proofs.Common.{◌≡◌, ◌+◌, [], ◌∷◌, ◌++◌, map, take, sym, refl, ap, ◌∙◌}
use Rattle.regex_lite_syntax.proofs.Common.{subst, arith, take_all, AreEachPrefixSetsOf}
use Rattle.std.proofs.lemmas.List.{length-map, length-take, map-append}
use Rattle.std.proofs.lemmas.List.{take_more}
use Rattle.regex_lite_syntax.specs.Prefilter.PrefixIndex.{IsPrefixIndexOfTrees}
use Rattle.regex_lite_syntax.proofs.prefilter.prefix_index.IndexLemmas.{prefixes_of_more, walkable}
use Rattle.regex_lite_syntax.proofs.prefilter.prefix_index.PrefixIndex.of.Goals as goal

pub add-requires : goal.add-requires
add-requires g c = record {
  room = omega (arith, c.loop-number.invariant.count, c.loop-number-test.true);
  sized = c.loop-number.invariant.so_far.2.sized;
  pairs = c.loop-number.invariant.so_far.2.all_pairs;
}

pub loop-number-preserved : goal.loop-number-preserved
loop-number-preserved g c =
    let hirs = c.args.hirs.now in
    let k = c.loop-number.number in
    let v = c.loop-number.invariant in
    let parts = v.so_far.0 in
    let hir = c.index-hirs-number.result in
    let part = c.of.result in
    let tree = g.T.AsHir.tree in
    let more : map tree (take (k + 1) hirs) ≡ map tree (take k hirs) ++ tree hir ∷ []
    = ap (map tree) (take_more hirs k hir c.loop-number-test.true
    ∙ ap (λ x. take k hirs ++ x ∷ []) (sym c.index-hirs-number.is))
    ∙ map-append tree (take k hirs) (hir ∷ []) in
    let taken = length-take k hirs in
    let mapped = length-map (take k hirs) tree in
    record {
      count = c.add.ensures.count ∙ v.count;
      same = refl;
      so_far = (
        parts ++ part ∷ [],
        subst (λ trees. AreEachPrefixSetsOf trees (parts ++ part ∷ [])) (sym more)
            (prefixes_of_more (map tree (take k hirs)) parts (tree hir) part v.so_far.1
            (rw (← c.as_hir.ensures) c.of.ensures)),
        c.add.ensures.added parts
            (omega (arith, v.so_far.1.all, taken, mapped, c.loop-number-test.true)) v.so_far.2,
      );
    }

pub returns : goal.returns
returns g c =
    let hirs = c.args.hirs.now in
    let v = c.loop-number.invariant in
    let all : take c.loop-number.number hirs ≡ hirs
    = take_all c.loop-number.number hirs (omega (arith, c.loop-number-test.false)) in
    let index = v.so_far.2 in
    let reported : IsPrefixIndexOfTrees (map g.T.AsHir.tree hirs)
    (record c.loop-number.prefixes { third_masks = c.in_ok-third_masks.third_masks }) = record {
      parts = v.so_far.0;
      of_trees = subst (λ z. AreEachPrefixSetsOf (map g.T.AsHir.tree z) v.so_far.0) all v.so_far.1;
      count = v.count ∙ sym (length-map hirs g.T.AsHir.tree);
      index = record {
        sized = index.sized;
        bits = index.bits;
        any = index.any;
        all_pairs = index.all_pairs;
        pairs = index.pairs;
      };
      third_masks = c.in_ok-third_masks.ensures;
    } in
    record {
      ok = reported;
      walkable = walkable reported.parts _ reported.index
          (reported.of_trees.all ∙ sym reported.count);
    }

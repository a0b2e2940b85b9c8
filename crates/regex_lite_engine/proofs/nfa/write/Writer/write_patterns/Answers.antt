use Rattle.regex_lite_engine.proofs.Common.{◌≡◌, ◌+◌, ◌^◌, ◌<◌, ◌∷◌, ◌++◌, map, length, get_or}
use Rattle.regex_lite_engine.proofs.Common.{drop, slice_index_or, sym, ap, ◌∙◌, subst, append_assoc}
use Rattle.regex_lite_engine.proofs.Common.{arith, length-map, sum_by-cons, greatest_index, tree_of}
use Rattle.regex_lite_engine.proofs.Common.{whole_places, places_of_all, place_of, pattern_layout}
use Rattle.regex_lite_engine.proofs.Common.{pattern_table, patterns_table, patterns_entries}
use Rattle.std.proofs.Math.ListN.{get_or-map}
use Rattle.std.proofs.lemmas.List.{drop_more}
use Rattle.std.proofs.lemmas.Grind.{common_steps}
use Rattle.regex_lite_engine.proofs.nfa.write.Writer.write_patterns.Goals as goal

pub write_pattern-requires-clause-slots : goal.write_pattern-requires-clause-slots
write_pattern-requires-clause-slots c =
    let hirs = c.args.hirs.now in
    let k = c.loop-hir.hir-index in
    let hir = c.hir-item.result in
    let there : slice_index_or (map tree_of hirs) k (tree_of hir) ≡ tree_of hir
    = get_or-map tree_of hirs k hir ∙ ap tree_of (sym c.hir-item.is) in
    rw (c.hir.ensures)
    (subst (λ tree. greatest_index tree < 2 ^ 31) there
    (c.requires.slots k (tree_of hir)
    (omega (arith, length-map hirs tree_of, c.loop-hir-test.true))))

pub loop-hir-preserved : goal.loop-hir-preserved
loop-hir-preserved c =
    let hirs = c.args.hirs.now in
    let k = c.loop-hir.hir-index in
    let hir = c.hir.result.now in
    let is : hir ≡ get_or hirs k hir
    = subst (λ h. h ≡ get_or hirs k h) (sym c.hir.ensures) c.hir-item.is in
    let tree = tree_of hir in
    let rest = map tree_of (drop (k + 1) hirs) in
    let places = map place_of c.loop-hir.self in
    let entries = c.loop-hir.entries.items in
    let old = length c.loop-hir.self in
    let new = length c.write_pattern.new.self in
    let added = c.in_ok-write_pattern.ensures in
    let left : map tree_of (drop k hirs) ≡ tree ∷ rest
    = ap (map tree_of) (drop_more hirs k hir c.loop-hir-test.true
    ∙ ap (λ x. x ∷ drop (k + 1) hirs) (sym is)) in
    record {
      written = ap (λ all. all ++ patterns_table rest new) added.written.1
          ∙ append_assoc places (pattern_table tree old) (patterns_table rest new)
          ∙ ap (λ n. places ++ (pattern_table tree old ++ patterns_table rest n)) added.grown
          ∙ ap (λ trees. places ++ patterns_table trees old) (sym left)
          ∙ c.loop-hir.invariant.written;
      entered = ap (λ all. all ++ patterns_entries rest new) c.in_ok-push.ensures.items
          ∙ append_assoc entries _ (patterns_entries rest new)
          ∙ ap (λ entry. entries ++ (entry ∷ patterns_entries rest new)) added.written.0
          ∙ ap (λ n. entries ++ ((pattern_layout tree old).1 ∷ patterns_entries rest n)) added.grown
          ∙ ap (λ trees. entries ++ patterns_entries trees old) (sym left)
          ∙ c.loop-hir.invariant.entered;
      grown = omega (
        arith,
        added.grown,
        sum_by-cons whole_places tree rest,
        ap places_of_all left,
        c.loop-hir.invariant.grown,
      );
    }

-- The goals from here on need no lemma of their own. They have answers because the prover would
-- try other calls first, which takes long
pub write_pattern-requires-clause-room : goal.write_pattern-requires-clause-room
write_pattern-requires-clause-room c = grind (arith, common_steps)

pub returns : goal.returns
returns c = record {
  written = grind (arith, common_steps);
  entries = grind (arith, common_steps);
  grown = grind (arith, common_steps);
}

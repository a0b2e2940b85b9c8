use Rattle.regex_lite_syntax.proofs.Common.{◌+◌, drop, sym, subst, arith, Tree, Trees, tree_of, ap}
use Rattle.regex_lite_syntax.proofs.LeafLemmas.{tree_is-Empty, tree_is-Char, tree_is-Class}
use Rattle.regex_lite_syntax.proofs.LeafLemmas.{tree_is-Look, tree_is-Capture, tree_is-Repetition}
use Rattle.regex_lite_syntax.proofs.LeafLemmas.{tree_is-Concat, tree_is-Alternation}
use Rattle.regex_lite_syntax.proofs.TreeLemmas.{trees_of, trees_more}
use Rattle.regex_lite_syntax.specs.Prefilter.FirstSet.{EachReadsAmong, ReadsAmong}
use Rattle.regex_lite_syntax.proofs.prefilter.first_set.StartLemmas.{grown_on}
use Rattle.regex_lite_syntax.proofs.prefilter.first_set.ReadLemmas.{LeftAmong, reads_branches}
use Rattle.regex_lite_syntax.proofs.prefilter.first_set.ReadLemmas.{reads_character, reads_class}
use Rattle.regex_lite_syntax.proofs.prefilter.first_set.ReadLemmas.{reads_look, reads_nothing}
use Rattle.regex_lite_syntax.proofs.prefilter.first_set.ReadLemmas.{reads_parts, reads_passes}
use Rattle.regex_lite_syntax.proofs.prefilter.first_set.ReadLemmas.{same_width, tree_left}
use Rattle.std.proofs.lemmas.List.{drop_all}
use Rattle.regex_lite_syntax.proofs.prefilter.first_set.FirstSet.+add_all.Goals as goal

pub add_all-returns-in-Empty-clause-added : goal.add_all-returns-in-Empty-clause-added
add_all-returns-in-Empty-clause-added t c =
    subst (λ (tree : Tree). ReadsAmong tree c.args.self.now) (sym (tree_is-Empty c.in-Empty.is))
    (reads_nothing c.args.self.now)

pub add_all-returns-in-Look-clause-added : goal.add_all-returns-in-Look-clause-added
add_all-returns-in-Look-clause-added t c =
    subst (λ (tree : Tree). ReadsAmong tree c.args.self.now) (sym (tree_is-Look c.in-Look.is))
    (reads_look _ c.args.self.now)

pub add_all-returns-in-Char-clause-added : goal.add_all-returns-in-Char-clause-added
add_all-returns-in-Char-clause-added t c =
    subst (λ (tree : Tree). ReadsAmong tree c.add_char.new.self)
    (sym (tree_is-Char c.in-Char.is))
    (reads_character c.in-Char.c c.add_char.new.self c.add_char.ensures.added)

pub add_all-returns-in-Class-clause-added : goal.add_all-returns-in-Class-clause-added
add_all-returns-in-Class-clause-added t c =
    subst (λ (tree : Tree). ReadsAmong tree c.add_class.new.self)
    (sym (tree_is-Class c.in-Class.is c.deref.ensures))
    (reads_class c.deref.result.now c.add_class.new.self c.add_class.ensures.added)

pub add_all-returns-in-Repetition-clause-added : goal.add_all-returns-in-Repetition-clause-added
add_all-returns-in-Repetition-clause-added t c =
    let r = c.in-Repetition in
    subst (λ (tree : Tree). ReadsAmong tree c.add_all.new.self)
    (sym (tree_is-Repetition r.is c.deref-in-Repetition.ensures))
    (reads_passes r.least r.most r.greedy (tree_of c.deref-in-Repetition.result.now)
    c.add_all.new.self
    c.add_all.ensures.added)

pub add_all-returns-in-Capture-clause-added : goal.add_all-returns-in-Capture-clause-added
add_all-returns-in-Capture-clause-added t c =
    subst (λ (tree : Tree). ReadsAmong tree c.add_all-in-Capture.new.self)
    (sym (tree_is-Capture c.in-Capture.is c.deref-in-Capture.ensures))
    c.add_all-in-Capture.ensures.added

pub add_all-returns-in-Concat-clause-added : goal.add_all-returns-in-Concat-clause-added
add_all-returns-in-Concat-clause-added t c =
    subst (λ (tree : Tree). ReadsAmong tree c.add_each.new.self)
    (sym (tree_is-Concat _ c.in-Concat.is c.deref-in-Concat.ensures.value))
    (reads_parts _ c.add_each.new.self c.add_each.ensures.added)

pub add_all-returns-in-Alternation-clause-added : goal.add_all-returns-in-Alternation-clause-added
add_all-returns-in-Alternation-clause-added t c =
    subst (λ (tree : Tree). ReadsAmong tree c.add_each-in-Alternation.new.self)
    (sym (tree_is-Alternation _ c.in-Alternation.is c.deref-in-Alternation.ensures.value))
    (reads_branches _ c.add_each-in-Alternation.new.self c.add_each-in-Alternation.ensures.added)

pub add_each-loop-part-init : goal.add_each-loop-part-init
add_each-loop-part-init t c =
    record { grown = same_width c.args.self.now; left = λ s wider each. each }

pub add_each-loop-part-preserved : goal.add_each-loop-part-preserved
add_each-loop-part-preserved t c =
    let v = c.loop-part.invariant in
    let hirs = c.args.parts.now in
    let k = c.loop-part.part-index in
    let part = c.part-item.result in
    let one = trees_more hirs k part c.loop-part-test.true c.part-item.is in
    let next = c.add_all.new.self in
    record {
      grown = grown_on c.args.self.now c.loop-part.self next v.grown c.add_all.ensures.grown;
      left = tree_left (trees_of hirs) (trees_of (drop (k + 1) hirs)) (tree_of part)
          c.loop-part.self next c.add_all.ensures.grown c.add_all.ensures.added
          (subst (λ (left : Trees). LeftAmong (trees_of hirs) left c.loop-part.self) one v.left);
    }

pub add_each-returns-clause-added : goal.add_each-returns-clause-added
add_each-returns-clause-added t c =
    let now = c.loop-part.self in
    c.loop-part.invariant.left now (same_width now)
    (subst (λ (left : Trees). EachReadsAmong left now)
    (sym (ap trees_of (drop_all c.loop-part.part-index c.args.parts.now
    (omega (arith, c.loop-part-test.false))))) tt)

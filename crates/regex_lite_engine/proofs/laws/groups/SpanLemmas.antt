-- The spans of groups: each lies between where the match starts and where it ends.
use Rattle.regex_lite_engine.proofs.Common.{◌≡◌, ℕ, zero, suc, ◌+◌, ◌*◌, ◌<◌, ◌≤◌, true, false, ◌≢◌}
use Rattle.regex_lite_engine.proofs.Common.{◌⊎◌, is_some, ◌==◌, Some, None, Option, sym, refl, ap}
use Rattle.regex_lite_engine.proofs.Common.{◌∙◌, subst, inl, inr, arith, cases_eq, nat_tests}
use Rattle.regex_lite_engine.proofs.Common.{option_or, Text, Tree, empty, character, class, look}
use Rattle.regex_lite_engine.proofs.Common.{repetition, capture, concat, alternation, Trees, none}
use Rattle.regex_lite_engine.proofs.Common.{more, IsRegular, whole, Found, Marks, no_marks}
use Rattle.regex_lite_engine.specs.Search.Answer.{IsOfWay}
use Rattle.regex_lite_engine.proofs.Common.{over}
use Rattle.std.specs.Option.{option_zip}
use Rattle.regex_lite_syntax.specs.Tree.Regular.{AreRegular}
use Rattle.regex_lite_engine.specs.Search.Marks.{span}
use Rattle.regex_lite_engine.specs.SearchLaws.{HasGroupsInside}
use Rattle.regex_lite_engine.proofs.laws.groups.MarkingLemmas.{Marking, MarkingChain, MarkingBranch}
use Rattle.regex_lite_engine.proofs.laws.groups.MarkingLemmas.{MarkedPasses, around}
use Rattle.regex_lite_engine.proofs.laws.groups.MarkedTreeLemmas.{marked_found}
use Rattle.regex_lite_engine.proofs.laws.list.EntryLemmas.{either_none}
use Rattle.regex_lite_syntax.proofs.OptionLemmas.{same_some}

-- two slots hold nothing, or positions in order between i and j
abbrev Ordered : (i j : ℕ) → Option ℕ → Option ℕ → Type 0
Ordered i j None None = Unit {0}
Ordered i j None (Some b) = ⊥
Ordered i j (Some a) None = ⊥
Ordered i j (Some a) (Some b) = (i ≤ a) × (a ≤ b) × (b ≤ j)

record AreOrdered (i j : ℕ) (marks : Marks) : Type 0 where
  forward : i ≤ j
  each : (index : ℕ) → Ordered i j (marks (2 * index)) (marks (2 * index + 1))

wider : (i k l j : ℕ) (a b : Option ℕ) → i ≤ k → l ≤ j → Ordered k l a b → Ordered i j a b
wider i k l j None None low high is = tt
wider i k l j None (Some b) low high is = is
wider i k l j (Some a) None low high is = is
wider i k l j (Some a) (Some b) low high is =
    (omega (arith, low, is.0), is.1, omega (arith, is.2, high))

none_ordered : (i j : ℕ) (marks : Marks) → i ≤ j → marks ≡ no_marks → AreOrdered i j marks
none_ordered i j marks forward e = record {
  forward = forward;
  each = λ index. subst (λ (m : Marks). Ordered i j (m (2 * index)) (m (2 * index + 1))) (sym e) tt;
}

over_slots : (i j : ℕ) (a b c d : Option ℕ) → Ordered i j a b → Ordered i j c d
    → Ordered i j (option_or c a) (option_or d b)
over_slots i j a b None None p q = p
over_slots i j a b None (Some d) p q = absurd q
over_slots i j a b (Some c) None p q = absurd q
over_slots i j a b (Some c) (Some d) p q = q

over_ordered : (i k j : ℕ) (first later marks : Marks) → marks ≡ over later first
    → AreOrdered i k first → AreOrdered k j later → AreOrdered i j marks
over_ordered i k j first later marks e p q = record {
  forward = omega (arith, p.forward, q.forward);
  each = λ index.
      subst (λ (m : Marks). Ordered i j (m (2 * index)) (m (2 * index + 1))) (sym e)
      (over_slots i j (first (2 * index)) (first (2 * index + 1)) (later (2 * index))
      (later (2 * index + 1))
      (wider i i k j _ _ (omega arith) q.forward (p.each index))
      (wider i k j j _ _ p.forward (omega arith) (q.each index)));
}

-- the slots of the group itself
own_slots : (i j : ℕ) (a b : Option ℕ) → i ≤ j → Ordered i j a b
    → Ordered i j (option_or a (Some i)) (Some j)
own_slots i j None None forward is = (omega arith, forward, omega arith)
own_slots i j None (Some b) forward is = absurd is
own_slots i j (Some a) None forward is = absurd is
own_slots i j (Some a) (Some b) forward is = (is.0, omega (arith, is.1, is.2), omega arith)

around_slots : (g k i j : ℕ) (inner : Marks)
    → (g ≡ k) ⊎ (g ≢ k) → i ≤ j
    → Ordered i j (inner (2 * k)) (inner (2 * k + 1))
    → Ordered i j (around g i j inner (2 * k)) (around g i j inner (2 * k + 1))
around_slots g k i j inner (inl e) forward is =
    let a : (2 * g + 1 == 2 * k) ≡ false = grind (arith, nat_tests) in
    let b : (2 * g == 2 * k) ≡ true = grind (arith, nat_tests, e) in
    let c : (2 * g + 1 == 2 * k + 1) ≡ true = grind (arith, nat_tests, e) in
    rw (a, b, c) (own_slots i j (inner (2 * k)) (inner (2 * k + 1)) forward is)
around_slots g k i j inner (inr apart) forward is =
    let a : (2 * g + 1 == 2 * k) ≡ false = grind (arith, nat_tests) in
    let b : (2 * g == 2 * k) ≡ false = grind (arith, nat_tests, apart) in
    let c : (2 * g + 1 == 2 * k + 1) ≡ false = grind (arith, nat_tests, apart) in
    let d : (2 * g == 2 * k + 1) ≡ false = grind (arith, nat_tests) in
    rw (a, b, c, d, either_none (inner (2 * k)), either_none (inner (2 * k + 1))) is

around_ordered : (g i j : ℕ) (inner marks : Marks) → marks ≡ around g i j inner
    → AreOrdered i j inner → AreOrdered i j marks
around_ordered g i j inner marks e is = record {
  forward = is.forward;
  each = λ k.
      subst (λ (m : Marks). Ordered i j (m (2 * k)) (m (2 * k + 1))) (sym e)
      (around_slots g k i j inner (cases_eq g k) is.forward (is.each k));
}

-- what holds where nothing is marked, and on over parts and groups, holds of each match of a tree
module _ (haystack : Text) (P : (i j : ℕ) → Marks → Type 0)
    (unmarked : (i j : ℕ) (marks : Marks) → i ≤ j → marks ≡ no_marks → P i j marks)
    (both : (i k j : ℕ) (first later marks : Marks) → marks ≡ over later first → P i k first
    → P k j later → P i j marks)
    (group : (g i j : ℕ) (inner marks : Marks) → 0 < g → marks ≡ around g i j inner → P i j inner
    → P i j marks) where
  of_passes : (Pass : ℕ → ℕ → Marks → Type 0)
      → ((i j : ℕ) (marks : Marks) → Pass i j marks → P i j marks)
      → (n i j : ℕ) (marks : Marks) → MarkedPasses Pass n i j marks → P i j marks
  of_passes Pass each zero i j marks (e, free) = unmarked i j marks (omega (arith, e)) free
  of_passes Pass each (suc n) i j marks (k, first, later, pass, made, e) =
      both i k j first later marks e (each i k first pass) (of_passes Pass each n k j later made)

  mutual
    of_marking : (tree : Tree) (i j : ℕ) (marks : Marks) → IsRegular tree
        → Marking haystack tree i j marks → P i j marks
    of_marking empty i j marks regular (e, free) = unmarked i j marks (omega (arith, e)) free
    of_marking (character c) i j marks regular (there, e, free) =
        unmarked i j marks (omega (arith, e)) free
    of_marking (class ranges) i j marks regular (c, there, is, e, free) =
        unmarked i j marks (omega (arith, e)) free
    of_marking (look test) i j marks regular (holds, e, free) =
        unmarked i j marks (omega (arith, e)) free
    of_marking (repetition least most greedy body) i j marks regular (n, low, high, made) =
        of_passes (Marking haystack body) (λ a b m p. of_marking body a b m regular.1 p) n i j
        marks made
    of_marking (capture index name body) i j marks regular (inner, m, e) =
        group index i j inner marks (omega (arith, regular.0)) e
        (of_marking body i j inner regular.1 m)
    of_marking (concat parts) i j marks regular m = of_chain parts i j marks regular.1 m
    of_marking (alternation branches) i j marks regular m =
        of_branches branches i j marks regular.1 m

    of_chain : (parts : Trees) (i j : ℕ) (marks : Marks) → AreRegular parts
        → MarkingChain haystack parts i j marks → P i j marks
    of_chain none i j marks regular (e, free) = unmarked i j marks (omega (arith, e)) free
    of_chain (more a rest) i j marks regular (k, first, later, m, chain, e) =
        both i k j first later marks e (of_marking a i k first regular.0 m)
        (of_chain rest k j later regular.1 chain)

    of_branches : (branches : Trees) (i j : ℕ) (marks : Marks) → AreRegular branches
        → MarkingBranch haystack branches i j marks → P i j marks
    of_branches none i j marks regular m = absurd m
    of_branches (more a rest) i j marks regular (inl m) = of_marking a i j marks regular.0 m
    of_branches (more a rest) i j marks regular (inr m) = of_branches rest i j marks regular.1 m

-- group 0 is no group of the tree
no_slot_0 : (haystack : Text) (tree : Tree) (i j : ℕ) (marks : Marks) → IsRegular tree
    → Marking haystack tree i j marks → marks 0 ≡ None
no_slot_0 haystack =
    of_marking haystack (λ i j m. m 0 ≡ None) (λ i j m le free. ap (λ (z : Marks). z 0) free)
    (λ i k j first later m e p q. ap (λ (z : Marks). z 0) e ∙ rw (q, p) refl)
    (λ g i j inner m some e inside. (
    let a : (2 * g + 1 == 0) ≡ false = grind (arith, nat_tests) in
    let b : (2 * g == 0) ≡ false = grind (arith, nat_tests, some) in
    ap (λ (z : Marks). z 0) e ∙ rw (a, b, inside) refl))

both_some : (i j : ℕ) (a b : Option ℕ) (from to : ℕ) → Ordered i j a b
    → option_zip a b ≡ Some (from, to)
    → (i ≤ from) × (from ≤ to) × (to ≤ j)
both_some i j None b from to is e = absurd cc
both_some i j (Some a) None from to is e = absurd cc
both_some i j (Some a) (Some b) from to is e =
    let same : (a, b) ≡ (from, to) = same_some e in
    subst (λ (p : ℕ × ℕ). (i ≤ p.0) × (p.0 ≤ p.1) × (p.1 ≤ j)) same is

both_either_none : (i j : ℕ) (a b : Option ℕ) → Ordered i j a b → is_some a ≡ is_some b
both_either_none i j None None is = refl
both_either_none i j None (Some b) is = absurd is
both_either_none i j (Some a) None is = absurd is
both_either_none i j (Some a) (Some b) is = refl

pub groups_inside : (tree : Tree) (haystack : Text) (found : Found) → IsRegular tree
    → IsOfWay tree haystack found → HasGroupsInside found
groups_inside tree haystack found regular is = record {
  whole = span_0;
  paired = λ index. both_either_none found.start found.end _ _ (all.each index);
  inside = λ index from to e.
      both_some found.start found.end _ _ from to (all.each index) e;
}
  where
    marking : Marking haystack (whole tree) found.start found.end found.marks
    marking = marked_found tree haystack found regular is

    all : AreOrdered found.start found.end found.marks
    all =
        around_ordered 0 found.start found.end marking.0 found.marks marking.2
        (of_marking haystack AreOrdered none_ordered over_ordered
        (λ g i j inner m some. around_ordered g i j inner m) tree found.start found.end marking.0
        regular marking.1)

    span_0 : span found.marks 0 ≡ Some (found.start, found.end)
    span_0 =
        let inner = no_slot_0 haystack tree found.start found.end marking.0 regular marking.1 in
        ap (λ (m : Marks). span m 0) marking.2 ∙ rw inner refl

use Rattle.regex_lite_engine.proofs.Common.{◌≡◌, ℕ, ◌+◌, ◌∷◌, ◌++◌, map, length, true, false, sym}
use Rattle.regex_lite_engine.proofs.Common.{ap}
use Rattle.regex_lite_engine.proofs.Common.{◌∙◌, arith, tree_of, range_with_len, Bool, List, []}
use Rattle.std.proofs.Common.{Global, Vec}
use Rattle.std.proofs.Common.{cond}
use Rattle.regex_lite_engine.proofs.Common.{append-nil, refl}
use Rattle.std.specs.List.{filter}
use Rattle.regex_lite_syntax.proofs.LookupLemmas.{mapped_there}
use Rattle.regex_lite_syntax.proofs.prefilter.prefix_index.NumberLemmas.{filter_parts}
use Rattle.regex_lite_engine.specs.Search.Starts.{may_be_empty}
use Rattle.regex_lite_engine.proofs.nfa.WayLemmas.{empty_at}
use Rattle.regex_lite_engine.proofs.nfa.list.facts.that_may_be_empty.Goals as goal
use Rattle.regex_lite_engine.proofs.nfa.list.facts.that_may_be_empty.Goals.{
  then-counts+in_ok-push,
  else-counts,
}

-- one number more, which is listed if it passes
one_more : (test : ℕ → Bool) (k : ℕ) (numbers : List ℕ) → numbers ≡ filter test (range_with_len 0 k)
    → (b : Bool) → test k ≡ b
    → numbers ++ cond b (k ∷ []) [] ≡ filter test (range_with_len 0 (k + 1))
one_more test k numbers are b is =
    let from : 0 + k ≡ k = omega arith in
    ap (λ z. z ++ cond b (k ∷ []) []) are
    ∙ ap (λ z. filter test (range_with_len 0 k) ++ cond z (k ∷ []) []) (sym is)
    ∙ ap (λ a. filter test (range_with_len 0 k) ++ filter test (range_with_len a 1)) (sym from)
    ∙ sym (filter_parts test 0 k 1)

pub loop-k-init : goal.loop-k-init
loop-k-init c = c.new-numbers.ensures.items

pub loop-k-preserved : goal.loop-k-preserved
loop-k-preserved c =
    let hirs = c.args.hirs.now in
    let test = may_be_empty (map tree_of hirs) in
    let k = c.loop-k.k in
    let hir = c.index-hirs-k.result in
    let there = mapped_there tree_of hirs k hir c.loop-k-test.true c.index-hirs-k.is in
    let is = empty_at (map tree_of hirs) k (tree_of hir) there
    ∙ sym c.counts.ensures.properties.nullable in
    let before = c.loop-k.numbers.items in
    elim c.if-counts.branch [
      | then-counts+in_ok-push w ↦ ap (λ (z : Vec ℕ Global). z.items) w.numbers-is
          ∙ w.in_ok-push.ensures.items ∙ ap (λ z. z ++ k ∷ []) c.loop-k.invariant
          ∙ one_more test k (filter test (range_with_len 0 k)) refl true (is ∙ w.if-counts.true)
      | else-counts w ↦ ap (λ (z : Vec ℕ Global). z.items) w.numbers-is
          ∙ sym (append-nil before)
          ∙ one_more test k before c.loop-k.invariant false (is ∙ w.if-counts.false)
    ]

pub returns : goal.returns
returns c =
    let done : c.loop-k.k ≡ length c.args.hirs.now =
    omega (arith, c.loop-k-test.false, c.loop-k.auto.k-end) in
    c.loop-k.invariant
    ∙ ap (λ n. filter (may_be_empty (map tree_of c.args.hirs.now)) (range_with_len 0 n)) done

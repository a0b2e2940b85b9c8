use Rattle.regex_lite_engine.proofs.Common.{◌≡◌, ℕ, zero, suc, ◌+◌, ◌<◌, List, [], ◌∷◌, ◌++◌}
use Rattle.regex_lite_engine.proofs.Common.{length, take, drop, set, slice_index_or, Option, ap}
use Rattle.regex_lite_engine.proofs.Common.{◌∙◌, arith}
use Rattle.regex_lite_engine.proofs.pikevm.best.copy_slots.Goals as goal

-- one more of the first list
one_more : (xs ys : List (Option ℕ)) (k : ℕ) (x : Option ℕ) → k < length xs → length xs ≡ length ys
    → x ≡ slice_index_or xs k x →
    set (take k xs ++ drop k ys) k x ≡ take (k + 1) xs ++ drop (k + 1) ys
one_more [] ys k x lt same is = absurd (omega (arith, lt))
one_more (a ∷ xs) [] k x lt same is = absurd (omega (arith, same))
one_more (a ∷ xs) (b ∷ ys) zero x lt same is = ap (λ z. z ∷ ys) is
one_more (a ∷ xs) (b ∷ ys) (suc k) x lt same is =
    let next : suc (k + 1) ≡ suc k + 1 = omega arith in
    ap (λ z. a ∷ z) (one_more xs ys k x (omega (arith, lt)) (omega (arith, same)) is)
    ∙ ap (λ n. take n (a ∷ xs) ++ drop n (b ∷ ys)) next

pub slots-preserved : goal.slots-preserved
slots-preserved c = record {
  reported = ap (λ z. set z c.slots.k c.get.result) c.slots.invariant.reported
      ∙ ap (λ x. set (take c.slots.k c.args.slots.now ++ drop c.slots.k c.args.row.now) c.slots.k x)
      c.get.ensures
      ∙ one_more c.args.slots.now c.args.row.now c.slots.k c.index-slots-k.result c.slots-test.true
      c.requires c.index-slots-k.is;
}

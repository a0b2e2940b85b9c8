use Rattle.regex_lite_syntax.proofs.Common.{◌≡◌, ◌+◌, [], ◌∷◌, ◌++◌, length, sym, refl, ap, ◌∙◌}
use Rattle.regex_lite_syntax.proofs.Common.{arith, range_with_len}
use Rattle.std.proofs.lemmas.List.FromFn.{length-range_with_len}
use Rattle.regex_lite_syntax.proofs.prefilter.prefix_index.NumberLemmas.{range_parts}
use Rattle.regex_lite_syntax.proofs.prefilter.prefix_index.PrefixIndex.list_all.Goals as goal

pub add-requires : goal.add-requires
add-requires c =
    let v = c.loop-number.invariant in
    let n = c.loop-number.number in
    let so_far = ap length v.listed ∙ length-range_with_len 0 n in
    let below = c.loop-number-test.true in
    omega (arith, so_far, below, v.capacity, c.requires.room)

pub loop-number-preserved : goal.loop-number-preserved
loop-number-preserved c =
    let v = c.loop-number.invariant in
    let n = c.loop-number.number in
    let from : 0 + n ≡ n = omega arith in
    record {
      listed = c.add.ensures.items ∙ ap (λ z. z ++ n ∷ []) v.listed
          ∙ sym (range_parts 0 n 1 ∙ ap (λ a. range_with_len 0 n ++ range_with_len a 1) from);
      capacity = omega (arith, v.capacity, c.add.ensures.capacity);
      same = refl;
    }

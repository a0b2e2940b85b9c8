use Rattle.regex_lite_syntax.proofs.Common.{◌+◌, ◌<◌, [], ◌∷◌, ◌++◌, length, sym, refl, ap, ◌∙◌}
use Rattle.regex_lite_syntax.proofs.Common.{append_assoc, arith, set_from}
use Rattle.std.proofs.lemmas.List.{append-nil, length-append}
use Rattle.regex_lite_syntax.proofs.prefilter.prefix_index.NumberLemmas.{lowest_comes_first}
use Rattle.regex_lite_syntax.proofs.prefilter.prefix_index.NumberLemmas.{lowest_bit, less_without}
use Rattle.regex_lite_syntax.proofs.prefilter.prefix_index.NumberLemmas.{none_of_zero}
use Rattle.regex_lite_syntax.proofs.prefilter.prefix_index.NumberLemmas.{without_lowest}
use Rattle.regex_lite_syntax.proofs.prefilter.prefix_index.walk.add_set.Goals as goal

pub add-requires : goal.add-requires
add-requires c =
    let left = c.loop-left.left in
    let v = c.loop-left.invariant in
    let numbers = c.loop-left.numbers.items in
    let first = lowest_comes_first left
    (omega (arith, c.loop-left-test.true)) v.small c.args.lowest in
    let all = ap length (sym v.together) in
    let before = length-append numbers (set_from c.args.lowest left) in
    let after = length-append c.args.numbers.now.items (set_from c.args.lowest c.args.word) in
    let some = ap length first in
    omega (arith, all, before, after, some, v.capacity, c.requires.room)

pub loop-left-smaller : goal.loop-left-smaller
loop-left-smaller c =
    less_without c.loop-left.left (omega (arith, c.loop-left-test.true)) c.loop-left.invariant.small

pub loop-left-preserved : goal.loop-left-preserved
loop-left-preserved c =
    let left = c.loop-left.left in
    let v = c.loop-left.invariant in
    let some : 0 < left = omega (arith, c.loop-left-test.true) in
    let rest = set_from c.args.lowest (without_lowest left some v.small) in
    let k = lowest_bit left some v.small in
    let less = less_without left some v.small in
    record {
      together = ap (λ z. z ++ rest) c.add.ensures.items
          ∙ append_assoc c.loop-left.numbers.items ((c.args.lowest + k) ∷ []) rest
          ∙ ap (λ z. c.loop-left.numbers.items ++ z)
          (sym (lowest_comes_first left some v.small c.args.lowest))
          ∙ v.together;
      capacity = omega (arith, v.capacity, c.add.ensures.capacity);
      lowest = refl;
      small = omega (arith, less, v.small);
    }

pub returns-clause-added : goal.returns-clause-added
returns-clause-added c =
    let numbers = c.loop-left.numbers.items in
    let none = ap (set_from c.args.lowest) c.loop-left-test.false ∙ none_of_zero c.args.lowest in
    sym (append-nil numbers) ∙ ap (λ z. numbers ++ z) (sym none) ∙ c.loop-left.invariant.together

use Rattle.regex_lite_syntax.proofs.Common.{◌≡◌, ℕ, ◌<◌, false, ◌&&◌, ◌||◌, length, slice_get, Some}
use Rattle.regex_lite_syntax.proofs.Common.{sym, refl, ap, ◌∙◌, arith, slice_get-get_or, in_set}
use Rattle.regex_lite_syntax.proofs.Common.{has_pair, begins_with_pair, goes_on_with, PrefixIndex}
use Rattle.std.proofs.lemmas.List.{length-set}
use Rattle.regex_lite_syntax.proofs.prefilter.prefix_index.PairLemmas.{none_more, one_more}
use Rattle.regex_lite_syntax.proofs.prefilter.prefix_index.PairLemmas.{row_passed}
use Rattle.regex_lite_syntax.proofs.prefilter.prefix_index.PrefixIndex.add_pairs.Goals as goal
use Rattle.regex_lite_syntax.proofs.prefilter.prefix_index.PrefixIndex.add_pairs.Goals.{then-begins_in}
use Rattle.regex_lite_syntax.proofs.prefilter.prefix_index.PrefixIndex.add_pairs.Goals.{else-begins_in}

pub firsts-preserved : goal.firsts-preserved
firsts-preserved c =
    let v = c.firsts.invariant in
    let old = c.args.self.now in
    let part = c.args.prefixes.now in
    let first = c.firsts.first in
    let pairs = c.firsts.self.pairs.items in
    let inside : first < length pairs = omega (arith, v.all, c.requires, c.firsts-test.true) in
    elim c.if-begins_in.branch [
      | then-begins_in w ↦
          let own = w.index.result.now in
          let new = w.union.result in
          let begins = sym c.begins_in.ensures ∙ w.if-begins_in.true in
          let there : slice_get pairs first ≡ Some own =
          slice_get-get_or pairs first own inside ∙ ap Some (sym w.index.ensures) in
          let added : (b : ℕ) → b < 128
          → in_set new b ≡ (in_set own b || begins_with_pair first b part) = λ b b_in. (
          w.union.ensures b b_in
          ∙ ap (λ z. in_set own b || z) (v.second b b_in)
          ∙ sym (ap (λ z. in_set own b || (z && goes_on_with part.second b)) begins)) in
          record {
            each = λ a b a_in b_in. (
                ap (λ z. has_pair z a b) w.self-is
                ∙ one_more (has_pair old) part first pairs own new inside there v.each added a b
                a_in b_in);
            all = ap (λ (z : PrefixIndex). length z.pairs.items) w.self-is
                ∙ length-set pairs first new ∙ v.all;
            same = w.self-is
                ∙ ap (λ p. record c.firsts.self { pairs = p })
                (sym (ap (λ (z : PrefixIndex). z.pairs) w.self-is))
                ∙ ap (λ (z : PrefixIndex). record z { pairs = c.if-begins_in.self.pairs }) v.same;
            prefixes = refl;
            second = v.second;
          }
      | else-begins_in w ↦
          let off : (b : ℕ) → begins_with_pair first b part ≡ false =
          λ b. ap (λ z. z && goes_on_with part.second b)
          (sym c.begins_in.ensures ∙ w.if-begins_in.false) in
          record {
            each = λ a b a_in b_in. (
                ap (λ z. has_pair z a b) w.self-is
                ∙ none_more (has_pair old) part first pairs v.each off a b a_in b_in);
            all = ap (λ (z : PrefixIndex). length z.pairs.items) w.self-is ∙ v.all;
            same = w.self-is ∙ v.same
                ∙ ap (λ (z : PrefixIndex). record old { pairs = z.pairs }) (sym w.self-is);
            prefixes = refl;
            second = v.second;
          }
    ]

pub firsts-preserved-then-begins_in_none_of_row : goal.firsts-preserved-then-begins_in_none_of_row
firsts-preserved-then-begins_in_none_of_row c =
    let v = c.firsts.invariant in
    let part = c.args.prefixes.now in
    let none = (c.begins_in_none_of_row.ensures c.if-begins_in_none_of_row.true).1 in
    record {
      each = λ a b a_in b_in. (
          v.each a b a_in b_in
          ∙ row_passed c.firsts.first 16 a (has_pair c.args.self.now a b)
          (begins_with_pair a b part)
          (λ low high. ap (λ z. z && goes_on_with part.second b) (none a low high)));
      all = v.all;
      same = v.same;
      prefixes = refl;
      second = v.second;
    }

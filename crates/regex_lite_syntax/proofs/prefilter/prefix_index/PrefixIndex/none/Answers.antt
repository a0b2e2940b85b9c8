use Rattle.regex_lite_syntax.proofs.Common.{length, slice_get, ap, ◌∙◌}
use Rattle.std.proofs.lemmas.List.{length-replicate}
use Rattle.regex_lite_syntax.specs.Prefilter.Pairs.{in_some_set}
use Rattle.regex_lite_syntax.proofs.prefilter.prefix_index.PairLemmas.{no_pair}
use Rattle.regex_lite_syntax.proofs.prefilter.prefix_index.PrefixIndex.none.Goals as goal

pub returns-clause-none : goal.returns-clause-none
returns-clause-none c = record {
  sized = c.in_ok-blank.ensures.sized;
  bits = λ row n row_in n_in. c.in_ok-blank.ensures.none row n;
  any = record { with = c.nowhere.ensures.none; at_start = c.nowhere.ensures.at_start };
  all_pairs = (
      ap length (c.in_ok-vec.ensures.items_if_clones_equal (λ y e. e))
      ∙ length-replicate 128 c.empty.result);
  pairs = λ a b a_in b_in. (
      ap (λ xs. in_some_set (slice_get xs a) b)
      (c.in_ok-vec.ensures.items_if_clones_equal (λ y e. e))
      ∙ no_pair 128 c.empty.result a b (c.empty.ensures b b_in));
}

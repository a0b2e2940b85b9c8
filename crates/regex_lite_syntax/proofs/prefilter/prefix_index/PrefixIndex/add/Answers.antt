use Rattle.regex_lite_syntax.proofs.Common.{◌*◌, ◌<◌, ◌&&◌, ◌||◌, [], ◌∷◌, map, length, ◌==◌, sym}
use Rattle.regex_lite_syntax.proofs.Common.{ap, ◌∙◌, subst, arith, has_pair, begins_with_pair, has}
use Rattle.regex_lite_syntax.proofs.Common.{belongs, IsUnionOf, PrefixSets, PrefixIndex}
use Rattle.std.proofs.lemmas.List.{map-append}
use Rattle.regex_lite_syntax.specs.Prefilter.Rows.{IsSized}
use Rattle.regex_lite_syntax.specs.Prefilter.FirstSet.{IsUnion}
use Rattle.regex_lite_syntax.specs.declared.prefilter.prefix_index.rows.BitRows.{BitRows}
use Rattle.regex_lite_syntax.proofs.prefilter.prefixes.UnionLemmas.{any_with, union_with}
use Rattle.regex_lite_syntax.proofs.prefilter.prefix_index.IndexLemmas.{belongs_with}
use Rattle.regex_lite_syntax.proofs.prefilter.prefix_index.PrefixIndex.add.Goals as goal

pub returns-clause-sized : goal.returns-clause-sized
returns-clause-sized c =
    let v = c.add_rows.ensures in
    let w = c.requires.sized in
    let kept = ap (λ (z : PrefixIndex). z.count) v.same in
    subst (λ (z : PrefixIndex). IsSized z.rows z.count) (sym c.add_pairs.ensures.same) (record {
      all = v.all ∙ w.all ∙ ap (λ n. 259 * n) (sym v.width);
      enough = omega (arith, w.enough, v.width, kept);
      few = omega (arith, w.few, v.width, kept);
    })

pub returns-clause-added : goal.returns-clause-added
returns-clause-added c parts all w =
    let v = c.add_rows.ensures in
    let old = c.args.self.now in
    let part = c.args.prefixes.now in
    let rows_kept = ap (λ (z : PrefixIndex). z.rows) c.add_pairs.ensures.same in
    let any_kept = ap (λ (z : PrefixIndex). z.any) c.add_pairs.ensures.same in
    let added = c.add_pairs.ensures.added in
    record {
      sized = returns-clause-sized c;
      bits = λ row n row_in n_in. (
          let inside : n < 64 * old.rows.width =
          omega (arith, n_in, v.width, ap (λ (z : BitRows). z.width) rows_kept) in
          ap (λ z. has z row n) rows_kept
          ∙ v.set row n row_in inside
          ∙ ap (λ k. has old.rows row n || (n == k && belongs part row)) (sym all)
          ∙ ap (λ b. b || (n == length parts && belongs part row)) (w.bits row n row_in inside)
          ∙ belongs_with parts part n row);
      any = subst (λ many. IsUnionOf many c.add_starts.new.self)
          (sym (map-append (λ (p : PrefixSets). p.first) parts (part ∷ [])))
          (union_with (map (λ (p : PrefixSets). p.first) parts) old.any part.first
          c.add_starts.new.self (subst (λ z. IsUnion z part.first c.add_starts.new.self)
          (any_kept ∙ ap (λ (z : PrefixIndex). z.any) v.same) c.add_starts.ensures) w.any);
      all_pairs = added.all ∙ ap (λ (z : PrefixIndex). length z.pairs.items) v.same ∙ w.all_pairs;
      pairs = λ a b a_in b_in. (
          added.each a b a_in b_in
          ∙ ap (λ z. z || begins_with_pair a b part)
          (ap (λ (z : PrefixIndex). has_pair z a b) v.same ∙ w.pairs a b a_in b_in)
          ∙ sym (any_with (begins_with_pair a b) parts part));
    }

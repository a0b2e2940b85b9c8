use Rattle.regex_lite_syntax.proofs.Common.{◌≡◌, ℕ, ◌+◌, ◌≤◌, true, false, length, take, cond, sym}
use Rattle.regex_lite_syntax.proofs.Common.{refl, ap, ◌∙◌, arith, le-leb, take_all}
use Rattle.std.proofs.lemmas.Bool.{lt-leb}
use Rattle.std.specs.Prelude.{filter, nat_le}
use Rattle.std.proofs.lemmas.List.Filters.{length-filter_more}
use Rattle.regex_lite_syntax.specs.Prefilter.Pairs.{is_wide}
use Rattle.regex_lite_syntax.proofs.prefilter.prefix_index.PrefixIndex.is_unselective.Goals.{
  then-len-ge-LETTERS,
  else-len-ge-LETTERS,
}
use Rattle.regex_lite_syntax.proofs.prefilter.prefix_index.PrefixIndex.is_unselective.Goals as goal

pub loop-k-init : goal.loop-k-init
loop-k-init c = record { all = refl; few = omega arith }

pub overflow_add-often : goal.overflow_add-often
overflow_add-often c = omega (arith, c.loop-k.invariant.few, c.loop-k-test.true)

pub loop-k-preserved : goal.loop-k-preserved
loop-k-preserved c =
    let sets = c.args.self.now.pairs.items in
    let k = c.loop-k.k in
    let set = c.index.result.now in
    let v = c.loop-k.invariant in
    let more : length (filter is_wide (take (k + 1) sets))
    ≡ length (filter is_wide (take k sets)) + cond (nat_le 26 c.len.result) 1 0
    = length-filter_more is_wide sets k set
    (omega (arith, c.loop-k-test.true, c.len-k-end.ensures))
    ∙ ap (λ x. length (filter is_wide (take k sets)) + cond (is_wide x) 1 0) (sym c.index.ensures)
    ∙ ap (λ n. length (filter is_wide (take k sets)) + cond (nat_le 26 n) 1 0)
    (sym c.len.ensures) in
    elim c.if-len-ge-LETTERS.branch [
      | then-len-ge-LETTERS w ↦
          let yes : nat_le 26 c.len.result ≡ true
          = le-leb 26 c.len.result w.if-len-ge-LETTERS.true in
          let one = ap {B = ℕ} (λ b. cond b 1 0) yes in
          record {
            all = omega (arith, w.often-is, v.all, more, one);
            few = omega (arith, w.often-is, v.few);
          }
      | else-len-ge-LETTERS w ↦
          let no : nat_le 26 c.len.result ≡ false
          = lt-leb 26 c.len.result (omega (arith, w.if-len-ge-LETTERS.false)) in
          let none = ap {B = ℕ} (λ b. cond b 1 0) no in
          record {
            all = omega (arith, w.often-is, v.all, more, none);
            few = omega (arith, w.often-is, v.few);
          }
    ]

pub returns : goal.returns
returns c =
    let sets = c.args.self.now.pairs.items in
    let all : length sets ≤ c.loop-k.k
    = omega (arith, c.loop-k-test.false, c.len-k-end.ensures) in
    ap (nat_le 26) (c.loop-k.invariant.all
    ∙ ap (λ x. length (filter is_wide x)) (take_all c.loop-k.k sets all))

use Rattle.regex_lite_meta.proofs.Common.{◌≡◌, ℕ, ◌+◌, ◌-◌, ◌≤◌, suc, Bool, true, false, drop}
use Rattle.regex_lite_meta.proofs.Common.{slice_index, sym, ap, ◌∙◌, arith, interval_of}
use Rattle.std.proofs.Math.Seq.{drop-length}
use Rattle.regex_lite_meta.specs.LazyDfa.Intervals.{tick}
use Rattle.std.specs.Prelude.{nat_le}
use Rattle.regex_lite_meta.proofs.lazy_dfa.IntervalLemmas.{interval_cons}
use Rattle.regex_lite_meta.proofs.lazy_dfa.classes.Interval.around.Goals as goal

pub bounds-init : goal.bounds-init
bounds-init c =
    let bs = c.args.boundaries.now in
    let none = λ (d : ℕ). ap (λ rest. interval_of rest d) (drop-length bs) in
    record { counted = sym (none c.args.c); few = omega arith; all = λ d from below. none d }

-- a boundary counts for one at most
one : (b : Bool) → tick b ≤ 1
one true = omega arith
one false = omega arith

pub bounds-preserved : goal.bounds-preserved
bounds-preserved c =
    let bs = c.args.boundaries.now in
    let j = c.bounds.k - 1 in
    let bound = slice_index bs j in
    let held = c.bounds.invariant in
    let reported = c.cut.ensures in
    let next : suc j ≡ c.bounds.k = omega arith in
    let step = λ (d : ℕ). interval_cons bs j d (omega arith)
    ∙ ap (λ n. tick (nat_le bound d) + interval_of (drop n bs) d) next in
    record {
      counted = reported.class ∙ ap (λ n. tick (nat_le bound c.args.c) + n) held.counted
          ∙ sym (step c.args.c);
      few =
          let class = reported.class in
          let most = one (nat_le bound c.args.c) in
          let few = held.few in omega (arith, class, most, few, next);
      all = λ d from below.
          let start = reported.within.0 in
          let end = reported.within.1 in
          step d
          ∙ ap (λ b. tick b + interval_of (drop c.bounds.k bs) d) (reported.same d from below)
          ∙ ap (λ n. tick (nat_le bound c.args.c) + n)
          (held.all d (omega (arith, from, start)) (omega (arith, below, end)))
          ∙ sym reported.class;
    }

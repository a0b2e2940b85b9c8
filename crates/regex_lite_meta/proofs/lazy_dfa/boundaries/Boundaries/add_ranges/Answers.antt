use Rattle.regex_lite_meta.proofs.Common.{◌≡◌, suc, ◌-◌, drop, subst, arith, rules, AreBounded}
use Rattle.regex_lite_meta.proofs.lazy_dfa.BoundaryLemmas.{grown_on, one_more_bounded}
use Rattle.regex_lite_meta.proofs.lazy_dfa.boundaries.Boundaries.add_ranges.Goals as goal

pub bounds-preserved : goal.bounds-preserved
bounds-preserved c =
    let v = c.bounds.invariant in
    let before = c.bounds.self in
    let between = c.add.new.self in
    let after = c.add-else-not-add.new.self in
    let some = c.bounds-test.true in
    let next : c.bounds.i ≡ suc (c.bounds.i - 1) = omega (arith, some) in
    record {
      grows = grown_on c.args.self.now between after
          (grown_on c.args.self.now before between v.grows c.add.ensures.grows)
          c.add-else-not-add.ensures.grows;
      bounded = one_more_bounded c.args.ranges.now (c.bounds.i - 1) before between after
          (search rules) c.add.ensures.grows c.add-else-not-add.ensures.grows
          (subst (λ k. AreBounded before.boundaries (drop k c.args.ranges.now)) next v.bounded)
          (c.add.ensures.added c.if-not-add.false)
          (c.add-else-not-add.ensures.added c.if-not-add-2.false);
    }

use Rattle.regex_lite_meta.proofs.Common.{look_bounds}
use Rattle.regex_lite_meta.proofs.lazy_dfa.BoundaryLemmas.{grown_on, next_there}
use Rattle.regex_lite_meta.proofs.lazy_dfa.boundaries.Boundaries.add_looks.Goals as goal

pub bounds-preserved : goal.bounds-preserved
bounds-preserved c =
    let v = c.bounds.invariant in
    record {
      grows = grown_on c.args.self.now c.bounds.self c.add.new.self v.grows c.add.ensures.grows;
      first = next_there look_bounds c.bounds.self.boundaries c.add.new.self.boundaries c.bounds.k
          c.bounds-test.true c.add.ensures.grows.boundaries v.first
          (c.add.ensures.added c.if-not-add.false);
    }

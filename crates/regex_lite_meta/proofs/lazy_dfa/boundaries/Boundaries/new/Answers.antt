use Rattle.regex_lite_meta.proofs.Common.{[], ◌∷◌, length, slice_index, sym, ap, ◌∙◌, subst, arith}
use Rattle.regex_lite_meta.proofs.Common.{IsBoundary, Intervals, character_bounds}
use Rattle.std.proofs.lemmas.List.{length-append}
use Rattle.regex_lite_meta.proofs.lazy_dfa.BoundaryLemmas.{added_boundary, next_there}
use Rattle.regex_lite_meta.proofs.lazy_dfa.BoundaryLemmas.{still_boundary}
use Rattle.regex_lite_meta.proofs.lazy_dfa.boundaries.Boundaries.new.Goals as goal

pub bounds-preserved : goal.bounds-preserved
bounds-preserved c =
    let before = c.bounds.bounds.boundaries in
    let added = slice_index character_bounds c.bounds.k in
    let pushed = ap (λ (z : Intervals). z.boundaries) c.push.ensures in
    let more = length-append before (added ∷ []) in
    let count = c.bounds.invariant.count in
    record {
      count = ap length pushed ∙ (let n = more in omega (arith, n, count));
      first = next_there character_bounds before c.push.new.self.boundaries c.bounds.k
          c.bounds-test.true
          (λ b is.
          subst (λ bs. IsBoundary bs b) (sym pushed) (still_boundary before (added ∷ []) b is))
          c.bounds.invariant.first
          (subst (λ bs. IsBoundary bs added) (sym pushed) (added_boundary before added));
    }

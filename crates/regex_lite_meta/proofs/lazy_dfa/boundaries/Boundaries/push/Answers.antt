use Rattle.regex_lite_meta.proofs.Common.{[], ◌∷◌, ◌++◌, ◌+◌, ◌<◌, ◌≤◌, ℕ, take, sym, subst, arith}
use Rattle.regex_lite_meta.proofs.Common.{rules, slice_index_or, IsBoundary, look_bounds}
use Rattle.std.proofs.lemmas.List.{take_more_set}
use Rattle.regex_lite_meta.proofs.lazy_dfa.BoundaryLemmas.{all_still, still_boundary}
use Rattle.regex_lite_meta.proofs.lazy_dfa.boundaries.Boundaries.push.Goals as goal

pub invariant_of-self : goal.invariant_of-self
invariant_of-self c =
    let cells = c.self.inside.cells in
    let len = c.self.inside.len in
    let room : len + 1 ≤ 125 = search rules in
    let before = take len cells in
    let after = before ++ c.args.bound ∷ [] in (
      room,
      λ looks. subst (λ bs. (k d : ℕ) → k < 12 → IsBoundary bs (slice_index_or look_bounds k d))
          (sym (take_more_set cells len c.args.bound (omega (arith, room))))
          (all_still look_bounds before after (still_boundary before (c.args.bound ∷ []))
          (c.self.invariant.1 looks)),
    )

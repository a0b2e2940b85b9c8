use Rattle.regex_lite_meta.proofs.Common.{◌≡◌, ℕ, ◌+◌, ◌-◌, ◌<◌, suc, List, length, drop}
use Rattle.regex_lite_meta.proofs.Common.{slice_index, sym, ap, ◌∙◌, arith, interval_of}
use Rattle.std.proofs.Math.Seq.{drop-length}
use Rattle.regex_lite_meta.specs.LazyDfa.Intervals.{tick}
use Rattle.std.proofs.lemmas.List.{get_or-replicate}
use Rattle.std.specs.Prelude.{nat_le}
use Rattle.regex_lite_meta.proofs.lazy_dfa.IntervalLemmas.{interval_after, interval_cons}
use Rattle.regex_lite_meta.proofs.lazy_dfa.classes.ascii_of.Goals as goal

pub bounds-init : goal.bounds-init
bounds-init c = λ d lt.
    get_or-replicate 128 d 0 0 lt
    ∙ sym (ap (λ bs. interval_of bs d) (drop-length c.args.boundaries.now))

-- what is counted from the boundary before this one on
one_more : (bs : List ℕ) (k d : ℕ) → 0 < k → k < length bs + 1 →
    interval_of (drop (k - 1) bs) d
    ≡ tick (nat_le (slice_index bs (k - 1)) d) + interval_of (drop k bs) d
one_more bs k d some inside =
    let next : suc (k - 1) ≡ k = omega (arith, some) in
    interval_cons bs (k - 1) d (omega (arith, some, inside))
    ∙ ap (λ n. tick (nat_le (slice_index bs (k - 1)) d) + interval_of (drop n bs) d) next

pub count_from-requires : goal.count_from-requires
count_from-requires c = λ d lt.
    let own = c.bounds.invariant d lt in
    let left = interval_after c.args.boundaries.now c.bounds.k d in
    omega (arith, own, left)

pub bounds-preserved-then-boundaries-k-lt128 : goal.bounds-preserved-then-boundaries-k-lt128
bounds-preserved-then-boundaries-k-lt128 c = λ d lt.
    let bs = c.args.boundaries.now in
    c.count_from.ensures d lt
    ∙ ap (λ n. tick (nat_le (slice_index bs (c.bounds.k - 1)) d) + n) (c.bounds.invariant d lt)
    ∙ sym (one_more bs c.bounds.k d (omega arith) (omega arith))

use Rattle.regex_lite_syntax.proofs.Common.{drop, slice_index, sym}
use Rattle.regex_lite_syntax.proofs.Common.{refl, ap, ◌∙◌, arith, get_or-drop, length-drop}
use Rattle.regex_lite_syntax.specs.Prefilter.Shifts.{hash_of, mixed}
use Rattle.regex_lite_syntax.proofs.prefilter.words.ShiftLemmas.{hash_more}
use Rattle.regex_lite_syntax.proofs.prefilter.words.shifts.Shifts.first_link.Goals as goal

pub bytes-init : goal.bytes-init
unfolding hash_of
bytes-init c = refl

pub bytes-preserved : goal.bytes-preserved
bytes-preserved c =
    let k = c.bytes.k in
    let rest = drop c.args.at c.args.bytes.now in
    let left = length-drop c.args.at c.args.bytes.now in
    let hashed = c.requires.shifts.1.hashed in
    hash_more rest k (omega (arith, left, hashed))
    ∙ ap (λ hash. mixed hash (slice_index rest k)) c.bytes.invariant
    ∙ ap (mixed c.bytes.hash) (get_or-drop c.args.at c.args.bytes.now k 0)
    ∙ sym c.mixed-hash.ensures

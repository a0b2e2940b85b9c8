use Rattle.regex_lite_syntax.proofs.Common.{◌≡◌, ℕ, ◌*◌, ◌<◌, ◌≤◌, true, false, slice_index_or}
use Rattle.regex_lite_syntax.proofs.prefilter.first_set.FirstSet.begins_in_row.Given as goal

abbrev pub invariant-loop-code : goal.invariant-loop-code
invariant-loop-code l = l.begins ≡ false → (byte : ℕ) → 16 * l.row ≤ byte → byte < l.code
    → slice_index_or l.self.ascii byte true ≡ false

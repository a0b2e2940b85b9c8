use Rattle.regex_lite_syntax.proofs.Common.{ℕ, ◌+◌, ◌<◌, slice_index, slice_index_or, IsLetter}
use Rattle.regex_lite_syntax.proofs.Common.{Letter}
use Rattle.regex_lite_syntax.proofs.prefilter.words.standing.wrong_letter.Given as goal

abbrev pub invariant-letters : goal.invariant-letters
invariant-letters l = (past : Letter) (k : ℕ) → k < l.k
    → IsLetter (slice_index_or l.word k past) (slice_index l.bytes (l.at + k))

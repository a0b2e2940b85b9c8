use Rattle.regex_lite_syntax.proofs.Common.{◌≡◌, take, drop}
use Rattle.regex_lite_syntax.specs.Prefilter.Shifts.{hash_of}
use Rattle.regex_lite_syntax.proofs.prefilter.words.shifts.Shifts.first_link.Given as goal

-- the hash of the bytes so far
abbrev pub invariant-bytes : goal.invariant-bytes
invariant-bytes l = hash_of (take l.k (drop l.at l.bytes)) ≡ l.hash

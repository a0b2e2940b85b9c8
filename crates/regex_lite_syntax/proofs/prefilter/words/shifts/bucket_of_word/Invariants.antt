use Rattle.regex_lite_syntax.proofs.prefilter.words.ShiftLemmas.{HashesTo}
use Rattle.regex_lite_syntax.proofs.prefilter.words.shifts.bucket_of_word.Given as goal

-- the hash of the letters so far
abbrev pub invariant-letters : goal.invariant-letters
invariant-letters l = HashesTo l.word l.k l.hash

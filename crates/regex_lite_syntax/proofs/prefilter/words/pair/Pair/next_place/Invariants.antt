use Rattle.regex_lite_syntax.proofs.Common.{◌-◌, ◌≤◌, [], ◌∷◌, length, NoneStands}
use Rattle.regex_lite_syntax.proofs.prefilter.words.pair.Pair.next_place.Given as goal

-- the word doesn't stand before this offset
abbrev pub invariant-short : goal.invariant-short
invariant-short l = record {
  order : l.from ≤ l.at;
  inside : l.at ≤ length l.bytes;
  none : NoneStands (l.word ∷ []) l.bytes l.from l.at;
}

abbrev pub decreases-short : goal.decreases-short
decreases-short l = length l.bytes - l.at

-- nor before this one
abbrev pub invariant-offsets : goal.invariant-offsets
invariant-offsets l = record {
  order : l.from ≤ l.at;
  inside : l.at ≤ length l.bytes;
  none : NoneStands (l.word ∷ []) l.bytes l.from l.at;
}

abbrev pub decreases-offsets : goal.decreases-offsets
decreases-offsets l = l.end - l.at

use Rattle.regex_lite_syntax.specs.Prefilter.Shifts.{LeadsToAllAt}
use Rattle.regex_lite_syntax.specs.Prefilter.WordLists.{all_words}
use Rattle.regex_lite_syntax.proofs.Common.{length}
use Rattle.regex_lite_syntax.proofs.prefilter.words.LinkLemmas.{to_come}
use Rattle.regex_lite_syntax.proofs.prefilter.words.shifts.Shifts.first_at.Given as goal

-- words that stand there are reached from this link
abbrev pub invariant-words : goal.invariant-words
invariant-words l = LeadsToAllAt (all_words l.words) l.self.next.items l.bytes l.at l.link

abbrev pub decreases-words : goal.decreases-words
decreases-words l = to_come (length (all_words l.words)) l.link

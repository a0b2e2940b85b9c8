use Rattle.regex_lite_syntax.specs.Prefilter.WordLists.{all_words}
use Rattle.regex_lite_syntax.proofs.prefilter.words.LinkLemmas.{AreLinkedFrom}
use Rattle.regex_lite_syntax.proofs.prefilter.words.shifts.link_words.Given as goal

-- the words from this number on are linked
abbrev pub invariant-words : goal.invariant-words
invariant-words l = AreLinkedFrom (all_words l.words) l.hashed l.left l.first l.next

abbrev pub decreases-words : goal.decreases-words
decreases-words l = l.left

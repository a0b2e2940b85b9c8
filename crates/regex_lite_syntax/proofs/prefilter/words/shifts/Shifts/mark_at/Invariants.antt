use Rattle.regex_lite_syntax.proofs.Common.{◌≡◌, ◌≤◌, ◌<◌, ◌⊎◌, ℕ, length, slice_index, IsLinked}
use Rattle.regex_lite_syntax.specs.Prefilter.Marks.{AddsMarks, IsMarked, numbered_words}
use Rattle.regex_lite_syntax.specs.Prefilter.WordLists.{all_words}
use Rattle.regex_lite_syntax.specs.Prefilter.Words.{WordStandsAt}
use Rattle.regex_lite_syntax.proofs.prefilter.words.LinkLemmas.{to_come}
use Rattle.regex_lite_syntax.proofs.prefilter.words.shifts.Shifts.mark_at.Given as goal

-- the patterns of words that stand there are marked, or the words are reached from this link
abbrev pub invariant-words : goal.invariant-words
invariant-words l = record {
  size : length l.marks ≡ length l.fn.marks;
  inside : l.link ≤ length (all_words l.numbered.words.now);
  here : (number : ℕ) → number < length (all_words l.numbered.words.now)
      → WordStandsAt (all_words l.numbered.words.now) l.bytes number l.at
      → IsMarked l.marks (slice_index l.numbered.owners.now number)
      ⊎ IsLinked l.self.next.items number l.link;
  adds : AddsMarks (numbered_words l.numbered) l.bytes (λ offset. offset ≡ l.at) l.fn.marks
      l.marks;
}

abbrev pub decreases-words : goal.decreases-words
decreases-words l = to_come (length (all_words l.numbered.words.now)) l.link

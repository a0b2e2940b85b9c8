use Rattle.regex_lite_syntax.proofs.Common.{◌≡◌, ◌≤◌, ◌<◌, ℕ, length, slice_index}
use Rattle.regex_lite_syntax.specs.Prefilter.Marks.{AddsMarks, IsMarked, numbered_words}
use Rattle.regex_lite_syntax.specs.Prefilter.WordLists.{all_words}
use Rattle.regex_lite_syntax.specs.Prefilter.Words.{WordStandsAt}
use Rattle.regex_lite_syntax.proofs.prefilter.words.numbered.Numbered.mark_each.Given as goal

-- the patterns of the words before this one are marked
abbrev pub invariant-words : goal.invariant-words
invariant-words l = record {
  size : length l.marks ≡ length l.fn.marks;
  here : (k at : ℕ) → k < l.number → l.from ≤ at
      → WordStandsAt (all_words l.self.words.now) l.bytes k at
      → IsMarked l.marks (slice_index l.self.owners.now k);
  adds : AddsMarks (numbered_words l.self) l.bytes (λ at. l.from ≤ at) l.fn.marks l.marks;
}

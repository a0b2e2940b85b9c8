use Rattle.regex_lite_syntax.proofs.Common.{ℕ, ◌<◌, ◌≤◌, List, [], ◌∷◌, drop, StartsWith, word_at}
use Rattle.regex_lite_syntax.specs.Prefilter.WordLists.{all_words}
use
    Rattle.regex_lite_syntax.proofs.prefilter.words.shifts.shared_letter.SharedLetter.if_shared.Given as goal

-- the words so far have the letter, at most as far from where they begin
abbrev pub invariant-words : goal.invariant-words
invariant-words l =
    (number : ℕ) (bytes : List ℕ) → number < l.number
    → StartsWith (word_at (all_words l.words) number) bytes
    → (k : ℕ) × (k ≤ l.offset) × StartsWith (l.letter ∷ []) (drop k bytes)

-- Which patterns are marked, from word to word and from offset to offset.
use Rattle.regex_lite_syntax.proofs.Common.{false≢true, replicate, suc, zero}
use Rattle.regex_lite_syntax.proofs.Common.{◌≡◌, ℕ, ◌+◌, ◌<◌, ◌≤◌, Bool, true, false, List}
use Rattle.regex_lite_syntax.proofs.Common.{length, slice_index, slice_set, sym, subst, inl, inr}
use Rattle.regex_lite_syntax.proofs.Common.{arith, cases_eq, cases_lt, get_or-set_other, IsTrue}
use Rattle.regex_lite_syntax.proofs.Common.{get_or-set_same, NoneStands}
use Rattle.regex_lite_syntax.specs.Prefilter.Marks.{AddsMarks, AreMarked, IsMarked}
use Rattle.regex_lite_syntax.specs.Prefilter.NumberedWords.{NumberedWords, PatternStandsAt}
use Rattle.regex_lite_syntax.specs.Prefilter.NumberedWords.{TellsWhichStand}
use Rattle.regex_lite_syntax.specs.Prefilter.Words.{AnyStandsAt, AreSuited, WordStandsAt, word_at}
use Rattle.regex_lite_syntax.proofs.prefilter.words.NextLemmas.{suited_boundary}

-- nothing is marked at first
pub none_in_blank : (patterns number : ℕ) → ¬ IsMarked (replicate patterns false) number
none_in_blank zero number is = false≢true is
none_in_blank (suc patterns) zero is = false≢true is
none_in_blank (suc patterns) (suc number) is = none_in_blank patterns number is

module _ (numbered : NumberedWords) (bytes : List ℕ) where
  module _ (AtOffset : ℕ → Type 0) where
    pub adds_none : (marks : List Bool) → AddsMarks numbered bytes AtOffset marks marks
    adds_none marks = record { kept = λ number is. is; only = λ number is. inl is }

    -- the mark of a pattern of which a word stands
    pub adds_one : (marks : List Bool) (owner at : ℕ) → owner < length marks → AtOffset at
        → PatternStandsAt numbered bytes owner at
        → AddsMarks numbered bytes AtOffset marks (slice_set marks owner true)
    adds_one marks owner at inside is stands = record {
      kept = λ number was. elim (cases_eq number owner) [
        | inl same ↦ subst (IsMarked (slice_set marks owner true)) (sym same)
            (get_or-set_same marks owner true false inside)
        | inr apart ↦ subst IsTrue (sym (get_or-set_other marks owner number true false apart)) was
      ];
      only = λ number now. elim (cases_eq number owner) [
        | inl same ↦ inr (
          at,
          is,
          subst (λ m. PatternStandsAt numbered bytes m at) (sym same) stands,
        )
        | inr apart ↦ inl (subst IsTrue (get_or-set_other marks owner number true false apart) now)
      ];
    }

    pub adds_both : (one two three : List Bool) → AddsMarks numbered bytes AtOffset one two
        → AddsMarks numbered bytes AtOffset two three
        → AddsMarks numbered bytes AtOffset one three
    adds_both one two three first second = record {
      kept = λ number is. second.kept number (first.kept number is);
      only = λ number is. elim (second.only number is) [
        | inl was ↦ first.only number was
        | inr new ↦ inr new
      ];
    }

  -- without a mark
  pub none_marked : (from : ℕ) (marks : List Bool) → ((number : ℕ) → ¬ IsMarked marks number)
      → AreMarked numbered bytes from from marks
  none_marked from marks none = record {
    each = λ number at low high stands. absurd (omega (arith, low, high));
    only = λ number is. absurd (none number is);
  }

  module _ (from at : ℕ) (marks : List Bool) (marked : AreMarked numbered bytes from at marks) where
    -- up to an offset before which none stands
    pub marked_over : (to : ℕ) → NoneStands numbered.words bytes at to
        → AreMarked numbered bytes from to marks
    marked_over to none = record {
      each = λ number here low high stands. elim (cases_lt here at) [
        | inl before ↦ marked.each number here low before stands
        | inr after ↦ absurd (none here after high (stands.0, stands.1, stands.3))
      ];
      only = marked.only;
    }

    -- up to any, where none stands any more
    pub marked_past : ((here : ℕ) → at ≤ here → ¬ AnyStandsAt numbered.words bytes here)
        → (to : ℕ) → AreMarked numbered bytes from to marks
    marked_past none to = marked_over to (λ here low high. none here low)

    -- with those that stand at the next offset
    pub marked_here : (new : List Bool) → from ≤ at
        → AddsMarks numbered bytes (λ offset. offset ≡ at) marks new
        → ((k : ℕ) → k < length numbered.words → WordStandsAt numbered.words bytes k at
        → IsMarked new (slice_index numbered.owners k))
        → AreMarked numbered bytes from (at + 1) new
    marked_here new low adds all = record {
      each = λ number here first last stands. elim (cases_eq here at) [
        | inl same ↦ subst (IsMarked new) stands.2
            (all stands.0 stands.1
            (subst (WordStandsAt numbered.words bytes stands.0) same stands.3))
        | inr apart ↦ adds.kept number
            (marked.each number here first (omega (arith, last, apart)) stands)
      ];
      only = λ number is. elim (adds.only number is) [
        | inl was ↦ marked.only number was
        | inr there ↦ (there.0, omega (arith, there.1, low), there.2)
      ];
    }

    -- with those that stand there or later
    pub marked_on : (new : List Bool) → from ≤ at
        → AddsMarks numbered bytes (λ offset. at ≤ offset) marks new
        → ((k here : ℕ) → k < length numbered.words → at ≤ here
        → WordStandsAt numbered.words bytes k here
        → IsMarked new (slice_index numbered.owners k))
        → (to : ℕ) → AreMarked numbered bytes from to new
    marked_on new low adds all to = record {
      each = λ number here first last stands. elim (cases_lt here at) [
        | inl before ↦ adds.kept number (marked.each number here first before stands)
        | inr after ↦ subst (IsMarked new) stands.2 (all stands.0 here stands.1 after stands.3)
      ];
      only = λ number is. elim (adds.only number is) [
        | inl was ↦ marked.only number was
        | inr there ↦ (there.0, omega (arith, there.1, low), there.2)
      ];
    }

  -- where all are marked, the marks tell which stand
  pub marks_tell : (from : ℕ) (marks : List Bool) → AreSuited numbered.words
      → ((to : ℕ) → AreMarked numbered bytes from to marks)
      → TellsWhichStand numbered bytes from marks
  marks_tell from marks suited marked number = (
    λ is. (
        let there = (marked 0).only number is in
        let stands = there.2 in (
          there.0,
          there.1,
          suited_boundary (word_at numbered.words stands.0) bytes there.0
              (suited stands.0 stands.1) stands.3,
          stands,
        )),
    λ there. (marked (there.0 + 1)).each number there.0 there.1 (omega arith) there.3,
  )

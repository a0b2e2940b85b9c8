-- How the letters of a row are added to the last word of a list.
use Rattle.std.specs.Prelude.{◌≡◌, ℕ, Bool, List, ◌++◌, IsTrue}
use Rattle.regex_lite_syntax.specs.Tree.{Tree, Trees}
use Rattle.regex_lite_syntax.specs.declared.prefilter.words.letter.Letter.{Letter}
use Rattle.regex_lite_syntax.specs.Prefilter.WholeWords.{AreBytes, AreSpelled, IsItsWords}
use Rattle.regex_lite_syntax.specs.Prefilter.WholeWords.{IsSpelled}
use Rattle.regex_lite_syntax.specs.Prefilter.WordLists.{ListOfWords}
use Rattle.regex_lite_syntax.specs.Prefilter.Words.{AreWordsOfTree}

-- these letters were added, and they are so
pub record AddsLetters (Are : List Letter → Type 0) (before after : ListOfWords) : Type 0 where
  pub letters : List Letter
  pub added : after ≡ record before { last = before.last ++ letters }
  pub are : Are letters

-- the bytes, each as a letter in no other case
abbrev pub AddsBytes : (bytes : List ℕ) → (before after : ListOfWords) → Type 0
AddsBytes bytes = AddsLetters (AreBytes bytes)

-- the tree is a word and nothing else: its letters
abbrev pub AddsSpelled : Tree → (before after : ListOfWords) → Type 0
AddsSpelled tree = AddsLetters (IsSpelled tree)

-- the parts are such trees in a row: the letters of all
abbrev pub AddsRow : Trees → (before after : ListOfWords) → Type 0
AddsRow parts = AddsLetters (AreSpelled parts)

-- each match of the tree begins with one of the words and, if that is said, the tree is one of them
-- and nothing else
abbrev pub AreReportedWords : Tree → (words : List (List Letter)) → (are_all : Bool) → Type 0
AreReportedWords tree words are_all =
    AreWordsOfTree tree words × (IsTrue are_all → IsItsWords tree words)

-- How one walk over a tree finds the words with which its matches begin.
use Rattle.std.specs.Prelude.{◌≡◌, ◌⊎◌, ℕ, true, List, [], ◌∷◌, ◌++◌, drop, encode_utf8_all, length}
use Rattle.regex_lite_syntax.specs.Text.{Text}
use Rattle.regex_lite_syntax.specs.Tree.{Tree}
use Rattle.regex_lite_syntax.specs.Tree.Matches.{Matches}
use Rattle.regex_lite_syntax.specs.declared.prefilter.words.letter.Letter.{Letter}
use Rattle.regex_lite_syntax.specs.declared.prefilter.words.walk.WordWalk.{WordWalk}
use Rattle.regex_lite_syntax.specs.Prefilter.Words.{StartsWith}

-- the bytes begin with the last word and, if it is all that was read, go on with those
pub record HasRead (bytes rest : List ℕ) (walk : WordWalk) : Type 0 where
  pub stands : StartsWith walk.words.last bytes
  pub all : walk.is_open ≡ true → drop (length walk.words.last) bytes ≡ rest

-- the bytes begin with one of these words
abbrev pub StartsWithAny : List (List Letter) → List ℕ → Type 0
StartsWithAny [] bytes = ⊥
StartsWithAny (word ∷ words) bytes = StartsWith word bytes ⊎ StartsWithAny words bytes

-- where the last word was read up to a position from which the tree matches, one of the words that
-- were made stands there, or the last one was read up to the match's end
pub record GrowsBy (tree : Tree) (before after : WordWalk) : Type 0 where
  pub made : List (List Letter)
  pub done : after.words.done ≡ before.words.done ++ made
  pub reads : (haystack : Text) (bytes : List ℕ) (i j : ℕ)
      → HasRead bytes (encode_utf8_all (drop i haystack)) before → Matches haystack tree i j
      → StartsWithAny made bytes ⊎ HasRead bytes (encode_utf8_all (drop j haystack)) after

-- What a search for words rests on: where the rarest letters of one word stand, or how far it may
-- shift from a pair of bytes, which of several words may stand where it can't, and which letter
-- they share.
use Rattle.std.specs.Prelude.{◌≡◌, ◌≤◌, ◌<◌, ◌==◌, if◌then◌else◌, ◌∷◌, [], ℕ, List, IfSome}
use Rattle.std.specs.Prelude.{drop, length}
use Rattle.std.specs.Int.{w64, trailing_zeros}
use Rattle.regex_lite_syntax.specs.declared.prefilter.words.WordSearch.{WordSearch}
use Rattle.regex_lite_syntax.specs.declared.prefilter.words.WordSearch.TheVariants as finder
use Rattle.regex_lite_syntax.specs.declared.prefilter.words.letter.Letter.{Letter}
use Rattle.regex_lite_syntax.specs.declared.prefilter.words.shifts.Shifts.{Shifts}
use Rattle.regex_lite_syntax.specs.declared.prefilter.words.shifts.shared_letter.SharedLetter.{
  SharedLetter,
}
use Rattle.regex_lite_syntax.specs.declared.prefilter.words.pair.Pair.{Pair}
use Rattle.regex_lite_syntax.specs.Prefilter.Shifts.{AreLinks, AreShifts}
use Rattle.regex_lite_syntax.specs.Prefilter.Words.{StartsWith, word_at}

-- the two letters are letters of the one word
pub record IsPairOf (words : List (List Letter)) (pair : Pair) : Type 0 where
  pub alone : length words ≡ 1
  pub first : pair.first < length (word_at words 0)
  pub second : pair.second < length (word_at words 0)

-- the place of the lowest bit that is set, or that behind the places of a short block
abbrev pub first_place : ℕ → ℕ
first_place places = if places == 0 then 16 else trailing_zeros w64 places

-- wherever one of the words stands, the letter stands at one of its bytes, at most as far from its
-- first one as the offset
abbrev pub IsSharedBy : List (List Letter) → SharedLetter → Type 0
IsSharedBy words shared =
    (number : ℕ) (bytes : List ℕ) → number < length words → StartsWith (word_at words number) bytes
    → (k : ℕ) × (k ≤ shared.offset) × StartsWith (shared.letter ∷ []) (drop k bytes)

-- no word is shorter than the reach, no shift passes one, each is reached by its bucket,
-- and each has the letter that they share
pub record AreShiftsOf (words : List (List Letter)) (shifts : Shifts) : Type 0 where
  pub two : 2 ≤ shifts.reach
  pub long : (number : ℕ) → number < length words → shifts.reach ≤ length (word_at words number)
  pub none_passed : AreShifts words shifts.reach shifts.shifts.items
  pub hashed : shifts.hashed ≤ shifts.reach
  pub links : AreLinks words shifts.hashed shifts.first.items shifts.next.items
  pub shared : IfSome shifts.shared (IsSharedBy words)

-- the words are found so
abbrev pub Finds : List (List Letter) → WordSearch → Type 0
Finds words (finder.Pair pair) = IsPairOf words pair
Finds words (finder.Shifts shifts) = AreShiftsOf words shifts

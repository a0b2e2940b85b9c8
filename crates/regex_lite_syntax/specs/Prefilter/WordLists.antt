-- A list of words, of which the last one grows.
use Rattle.std.specs.Prelude.{◌≡◌, ◌≤◌, ◌-◌, ℕ, List, [], ◌∷◌, ◌++◌, drop, take}
use Rattle.regex_lite_syntax.specs.declared.prefilter.words.letter.Letter.{Letter}

-- the words before the last one, and that
pub record ListOfWords : Type 0 where
  pub done : List (List Letter)
  pub last : List Letter

abbrev pub all_words : ListOfWords → List (List Letter)
all_words words = words.done ++ words.last ∷ []

-- the words that begin at this letter, each where the one before it ends
abbrev pub words_between : (from : ℕ) → (ends : List ℕ) → List Letter → List (List Letter)
words_between from [] letters = []
words_between from (end ∷ ends) letters =
    take (end - from) (drop from letters) ∷ words_between end ends letters

-- the ends are in order, and the last of them is this one
abbrev pub AreEnds : (from : ℕ) → (ends : List ℕ) → (last : ℕ) → Type 0
AreEnds from [] last = from ≡ last
AreEnds from (end ∷ ends) last = (from ≤ end) × AreEnds end ends last

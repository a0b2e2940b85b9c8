-- A match of a row of characters reads its letters, and one of a tree that is its words begins with
-- one of them.
use Rattle.regex_lite_syntax.proofs.Common.{◌≡◌, ℕ, zero, suc, ◌<◌, ◌≤◌, List, [], ◌∷◌, ◌++◌}
use Rattle.regex_lite_syntax.proofs.Common.{drop, length, Option}
use Rattle.regex_lite_syntax.proofs.Common.{Some, Tree, Trees, Matches, Chain, SomeBranch, Text}
use Rattle.regex_lite_syntax.proofs.Common.{inl, inr, sym, refl, ap, ◌∙◌, subst, arith}
use Rattle.regex_lite_syntax.proofs.Common.{look, class, repetition, concat, more}
use Rattle.regex_lite_syntax.proofs.Common.{alternation, slice_get, IsLetter, Letter}
use Rattle.std.proofs.Common.{encode_utf8, encode_utf8_all}
use Rattle.std.proofs.lemmas.List.{drop-drop, length-append}
use Rattle.std.proofs.lemmas.Str.{encode_ascii}
use Rattle.regex_lite_syntax.specs.Tree.{character, capture, empty, none}
use Rattle.regex_lite_syntax.specs.Tree.Matches.{AtMost, Passes}
use Rattle.regex_lite_syntax.specs.Prefilter.WholeWords.{AreBytes, ArePasses, AreSpelled}
use Rattle.regex_lite_syntax.specs.Prefilter.WholeWords.{AreWholeWords}
use Rattle.regex_lite_syntax.specs.Prefilter.WholeWords.{HasCases, IsItsWords, IsSpelled}
use Rattle.regex_lite_syntax.specs.Prefilter.Words.{AnyStandsAt, AreWordsOfTree, StartsWith}
use Rattle.regex_lite_syntax.specs.Prefilter.Words.{word_at}
use Rattle.regex_lite_syntax.proofs.OptionLemmas.{not_there, same_some}
use Rattle.regex_lite_syntax.proofs.prefilter.words.StandLemmas.{starts_with_both}

-- the first bytes are the letters, and the second follow them
pub record ReadsLetters (letters : List Letter) (bytes rest : List ℕ) : Type 0 where
  pub stands : StartsWith letters bytes
  pub all : drop (length letters) bytes ≡ rest

-- letters follow others
pub reads_both : (front back : List Letter) (bytes middle rest : List ℕ)
    → ReadsLetters front bytes middle → ReadsLetters back middle rest
    → ReadsLetters (front ++ back) bytes rest
reads_both front back bytes middle rest one other = record {
  stands = starts_with_both front back bytes one.stands
      (subst (StartsWith back) (sym one.all) other.stands);
  all = ap (λ n. drop n bytes) (length-append front back)
      ∙ sym (drop-drop (length back) (length front) bytes)
      ∙ ap (drop (length back)) one.all ∙ other.all;
}

reads_bytes : (bytes : List ℕ) (letters : List Letter) (rest : List ℕ) → AreBytes bytes letters
    → ReadsLetters letters (bytes ++ rest) rest
reads_bytes [] [] rest are = record { stands = tt; all = refl }
reads_bytes [] (letter ∷ letters) rest are = absurd are
reads_bytes (byte ∷ bytes) [] rest are = absurd are
reads_bytes (byte ∷ bytes) (letter ∷ letters) rest (own, other, are) =
    let on = reads_bytes bytes letters rest are in
    record { stands = (inl (sym own), on.stands); all = on.all }

-- the characters from a position on
pub char_first : (i : ℕ) (h : Text) (c : ℕ) → slice_get h i ≡ Some c → drop i h ≡ c ∷ drop (suc i) h
char_first i [] c there = absurd (not_there there)
char_first zero (x ∷ h) c there = ap (λ z. z ∷ h) (same_some there)
char_first (suc i) (x ∷ h) c there = char_first i h c there

-- the bytes from a position on
abbrev rest_of : Text → ℕ → List ℕ
rest_of h i = encode_utf8_all (drop i h)

-- a character is ASCII if it is one of a letter's cases
is_low : (set : ℕ → Type 0) (letter : Letter) (c : ℕ) → HasCases set letter → IsLetter letter c
    → c < 128
is_low set letter c cases own = elim own [
  | inl e ↦ omega (arith, e, cases.ascii)
  | inr e ↦ omega (arith, e, cases.other_ascii)
]

-- passes of which each reads one of the parts of the letters
reads_passes : (IsPart : List Letter → Type 0) (pass : ℕ → ℕ → Type 0) (h : Text)
    → ((letters : List Letter) → IsPart letters → (i j : ℕ) → pass i j
    → ReadsLetters letters (rest_of h i) (rest_of h j))
    → (n : ℕ) (word : List Letter) → ArePasses IsPart n word → (i j : ℕ) → Passes pass n i j
    → ReadsLetters word (rest_of h i) (rest_of h j)
reads_passes IsPart pass h each zero word is i j same =
    subst (λ letters. ReadsLetters letters (rest_of h i) (rest_of h j)) (sym is)
    (record { stands = tt; all = ap (rest_of h) same })
reads_passes IsPart pass h each (suc n) word (letters, others, same, one, are) i j
    (k, first, passes) =
    subst (λ word. ReadsLetters word (rest_of h i) (rest_of h j)) (sym same)
    (reads_both letters others (rest_of h i) (rest_of h k) (rest_of h j)
    (each letters one i k first)
    (reads_passes IsPart pass h each n others are k j passes))

-- as many passes as there are at least and at most
pub only_passes : (least n : ℕ) (most : Option ℕ) → most ≡ Some least → least ≤ n → AtMost n most
    → n ≡ least
only_passes least n most exact low high =
    let few : n ≤ least = subst (AtMost n) exact high in omega (arith, low, few)

mutual
  pub reads_spelled : (tree : Tree) (letters : List Letter) → IsSpelled tree letters → (h : Text)
      (i j : ℕ) → Matches h tree i j → ReadsLetters letters (rest_of h i) (rest_of h j)
  reads_spelled (character c) letters is h i j (there, next) =
      subst (λ k. ReadsLetters letters (rest_of h i) (rest_of h k)) (sym next)
      (subst (λ bytes. ReadsLetters letters (encode_utf8_all bytes) (rest_of h (suc i)))
      (sym (char_first i h c there)) (reads_bytes (encode_utf8 c) letters (rest_of h (suc i)) is))
  reads_spelled (class ranges) letters (letter, one, cases) h i j (c, there, member, next) =
      let own = cases.has c member in
      let low = is_low _ letter c cases own in
      let bytes = ap encode_utf8_all (char_first i h c there)
      ∙ ap (λ b. b ++ rest_of h (suc i)) (encode_ascii c low) in
      subst (λ k. ReadsLetters letters (rest_of h i) (rest_of h k)) (sym next)
      (subst (λ word. ReadsLetters word (rest_of h i) (rest_of h (suc i))) (sym one)
      (subst (λ b. ReadsLetters (letter ∷ []) b (rest_of h (suc i))) (sym bytes)
      (record { stands = (own, tt); all = refl })))
  reads_spelled (repetition least most greedy body) letters (some, exact, are) h i j
      (n, low, high, passes) =
      reads_passes (IsSpelled body) (Matches h body) h
      (λ word is i j m. reads_spelled body word is h i j m) least letters are i j
      (subst (λ n. Passes (Matches h body) n i j) (only_passes least n most exact low high) passes)
  reads_spelled (concat parts) letters are h i j chain = reads_row parts letters are h i j chain
  reads_spelled empty letters is h i j m = absurd is
  reads_spelled (look test) letters is h i j m = absurd is
  reads_spelled (capture index name body) letters is h i j m = absurd is
  reads_spelled (alternation branches) letters is h i j m = absurd is

  pub reads_row : (parts : Trees) (word : List Letter) → AreSpelled parts word → (h : Text)
      (i j : ℕ) → Chain h parts i j → ReadsLetters word (rest_of h i) (rest_of h j)
  reads_row none word is h i j same =
      subst (λ letters. ReadsLetters letters (rest_of h i) (rest_of h j)) (sym is)
      (record { stands = tt; all = ap (rest_of h) same })
  reads_row (more part rest) word (letters, others, same, one, are) h i j (k, first, chain) =
      subst (λ word. ReadsLetters word (rest_of h i) (rest_of h j)) (sym same)
      (reads_both letters others (rest_of h i) (rest_of h k) (rest_of h j)
      (reads_spelled part letters one h i k first)
      (reads_row rest others are h k j chain))

reads_branch : (branches : Trees) (words : List (List Letter)) → AreWholeWords branches words
    → (h : Text) (i j : ℕ) → SomeBranch h branches i j → AnyStandsAt words (rest_of h i) 0
reads_branch none words are h i j never = absurd never
reads_branch (more branch rest) [] are h i j m = absurd are
reads_branch (more branch rest) (word ∷ words) (is, are) h i j (inl m) =
    (0, omega arith, (reads_spelled branch word is h i j m).stands)
reads_branch (more branch rest) (word ∷ words) (is, are) h i j (inr m) =
    let (n, inside, stands) = reads_branch rest words are h i j m in
    (suc n, omega (arith, inside), stands)

-- each match of a tree that is its words begins with one of them
pub begins_with_own : (tree : Tree) (words : List (List Letter)) → IsItsWords tree words
    → AreWordsOfTree tree words
begins_with_own tree words (inl (word, one, is)) = λ h i j m.
    subst (λ words. AnyStandsAt words (rest_of h i) 0) (sym one)
    (0, omega arith, (reads_spelled tree word is h i j m).stands)
begins_with_own tree words (inr (branches, same, are)) = λ h i j m.
    reads_branch branches words are h i j (subst (λ t. Matches h t i j) same m)

reads_only : (branches : Trees) (words : List (List Letter)) → AreWholeWords branches words
    → length words ≡ 1 → (h : Text) (i j : ℕ) → SomeBranch h branches i j
    → ReadsLetters (word_at words 0) (rest_of h i) (rest_of h j)
reads_only none words are one h i j never = absurd never
reads_only (more branch rest) [] are one h i j m = absurd are
reads_only (more branch rest) (word ∷ words) (is, are) one h i j (inl m) =
    reads_spelled branch word is h i j m
reads_only (more branch rest) (word ∷ words) (is, are) one h i j (inr m) =
    let (n, inside, stands) = reads_branch rest words are h i j m in
    absurd (omega (arith, inside, one))

-- and if it is one word alone, each match reads that and nothing else
pub reads_one : (tree : Tree) (words : List (List Letter)) → IsItsWords tree words
    → length words ≡ 1 → (h : Text) (i j : ℕ) → Matches h tree i j
    → ReadsLetters (word_at words 0) (rest_of h i) (rest_of h j)
reads_one tree words (inl (word, same, is)) one h i j m =
    subst (λ words. ReadsLetters (word_at words 0) (rest_of h i) (rest_of h j)) (sym same)
    (reads_spelled tree word is h i j m)
reads_one tree words (inr (branches, same, are)) one h i j m =
    reads_only branches words are one h i j (subst (λ t. Matches h t i j) same m)

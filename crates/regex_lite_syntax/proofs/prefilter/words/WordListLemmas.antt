-- Where the words of a list lie among its letters.
use Rattle.regex_lite_syntax.proofs.Common.{◌≡◌, ℕ, zero, suc, ◌+◌, ◌-◌, ◌≤◌, List, [], ◌∷◌}
use Rattle.regex_lite_syntax.proofs.Common.{◌++◌, length, take, drop, slice_index, refl, ap}
use Rattle.regex_lite_syntax.proofs.Common.{◌∙◌, arith, length-append, take_all}
use Rattle.std.proofs.lemmas.List.{drop-append-le, length-drop, take-append-le}
use Rattle.regex_lite_syntax.specs.declared.prefilter.words.letter.Letter.{Letter}
use Rattle.regex_lite_syntax.specs.Prefilter.WordLists.{AreEnds, words_between}
use Rattle.regex_lite_syntax.specs.Prefilter.Words.{word_at}

pub ends_grow : (from : ℕ) (ends : List ℕ) (last : ℕ) → AreEnds from ends last → from ≤ last
ends_grow from [] last same = omega (arith, same)
ends_grow from (e ∷ ends) last (low, on) =
    let more = ends_grow e ends last on in omega (arith, low, more)

pub as_many : (from : ℕ) (ends : List ℕ) (letters : List Letter)
    → length (words_between from ends letters) ≡ length ends
as_many from [] letters = refl
as_many from (e ∷ ends) letters = ap suc (as_many e ends letters)

pub how_many : (from : ℕ) (ends : List ℕ) (letters last : List Letter)
    → length (words_between from ends letters ++ last ∷ []) ≡ length ends + 1
how_many from ends letters last =
    length-append (words_between from ends letters) (last ∷ [])
    ∙ ap (λ n. n + 1) (as_many from ends letters)

-- a word begins before its end, which is one of the letters or their end
pub in_order : (from : ℕ) (ends : List ℕ) (last len n : ℕ) → AreEnds from ends last → last ≤ len
    → n ≤ length ends
    → (slice_index (from ∷ ends) n ≤ slice_index (ends ++ len ∷ []) n)
    × (slice_index (ends ++ len ∷ []) n ≤ len)
in_order from [] last len zero same le few = (omega (arith, same, le), omega arith)
in_order from [] last len (suc n) same le few = absurd (omega (arith, few))
in_order from (e ∷ ends) last len zero (low, on) le few =
    let more = ends_grow e ends last on in (low, omega (arith, more, le))
in_order from (e ∷ ends) last len (suc n) (low, on) le few =
    in_order e ends last len n on le (omega (arith, few))

-- the letters from where a word begins up to its end are that word
pub is_word : (from : ℕ) (ends : List ℕ) (last n : ℕ) (letters : List Letter)
    → AreEnds from ends last → last ≤ length letters → n ≤ length ends
    → take (slice_index (ends ++ length letters ∷ []) n - slice_index (from ∷ ends) n)
    (drop (slice_index (from ∷ ends) n) letters)
    ≡ word_at (words_between from ends letters ++ drop last letters ∷ []) n
is_word from [] last zero letters same le few =
    take_all (length letters - from) (drop from letters)
    (omega (arith, length-drop from letters))
    ∙ ap (λ k. drop k letters) same
is_word from [] last (suc n) letters same le few = absurd (omega (arith, few))
is_word from (e ∷ ends) last zero letters (low, on) le few = refl
is_word from (e ∷ ends) last (suc n) letters (low, on) le few =
    is_word e ends last n letters on le (omega (arith, few))

-- a letter more changes no word before the last
pub same_words : (from : ℕ) (ends : List ℕ) (last : ℕ) (letters more : List Letter)
    → AreEnds from ends last → last ≤ length letters
    → words_between from ends (letters ++ more) ≡ words_between from ends letters
same_words from [] last letters more same le = refl
same_words from (e ∷ ends) last letters more (low, on) le =
    let high = ends_grow e ends last on in
    let inside : from ≤ length letters = omega (arith, low, high, le) in
    let short : e - from ≤ length (drop from letters)
    = omega (arith, high, le, length-drop from letters) in
    let word : take (e - from) (drop from (letters ++ more)) ≡ take (e - from) (drop from letters)
    = ap (take (e - from)) (drop-append-le from letters more inside)
    ∙ take-append-le (e - from) (drop from letters) more short in
    ap (λ w. w ∷ words_between e ends (letters ++ more)) word
    ∙ ap (λ ws. take (e - from) (drop from letters) ∷ ws)
    (same_words e ends last letters more on le)

-- with an end more the last word is one of those before
pub one_more : (from : ℕ) (ends : List ℕ) (last : ℕ) (letters : List Letter)
    → AreEnds from ends last → last ≤ length letters
    → words_between from (ends ++ length letters ∷ []) letters
    ≡ words_between from ends letters ++ drop last letters ∷ []
one_more from [] last letters same le =
    ap (λ w. w ∷ []) (take_all (length letters - from) (drop from letters)
    (omega (arith, length-drop from letters))
    ∙ ap (λ k. drop k letters) same)
one_more from (e ∷ ends) last letters (low, on) le =
    ap (λ ws. take (e - from) (drop from letters) ∷ ws) (one_more e ends last letters on le)

pub longer : (from : ℕ) (ends : List ℕ) (last end : ℕ) → AreEnds from ends last → last ≤ end
    → AreEnds from (ends ++ end ∷ []) end
longer from [] last end same le = (omega (arith, same, le), refl)
longer from (e ∷ ends) last end (low, on) le = (low, longer e ends last end on le)

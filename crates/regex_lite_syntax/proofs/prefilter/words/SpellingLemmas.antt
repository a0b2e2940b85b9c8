-- How letters are added to a list of words, part by part and branch by branch.
use Rattle.regex_lite_syntax.proofs.Common.{◌≡◌, ℕ, zero, suc, ◌+◌, ◌<◌, List, [], ◌∷◌, ◌++◌}
use Rattle.regex_lite_syntax.proofs.Common.{get_or, length, take}
use Rattle.regex_lite_syntax.proofs.Common.{map, sym, ap, ◌∙◌, subst, refl, append-nil}
use Rattle.regex_lite_syntax.proofs.Common.{add-one, append_assoc, eqb-true, false≢true, None}
use Rattle.regex_lite_syntax.proofs.Common.{Option, Some, true}
use Rattle.std.specs.Option.{option_eq}
use lib.Dec.{eqb}
use Rattle.regex_lite_syntax.proofs.Common.{Tree, trees, tree_of, Letter, Hir}
use Rattle.std.proofs.lemmas.List.{map_more, take_more}
use Rattle.regex_lite_syntax.specs.Prefilter.Spelling.{AddsLetters, AddsBytes, AddsRow, AddsSpelled}
use Rattle.regex_lite_syntax.specs.Prefilter.WholeWords.{AreBytes, ArePasses, AreSpelled}
use Rattle.regex_lite_syntax.specs.Prefilter.WholeWords.{AreWholeWords, IsSpelled}
use Rattle.regex_lite_syntax.specs.Prefilter.WordLists.{ListOfWords, all_words}

abbrev with_last : ListOfWords → List Letter → ListOfWords
with_last words last = record words { last = last }

-- no letters were added
pub none_added : (are : List Letter → Type 0) (words : ListOfWords) → are []
    → AddsLetters are words words
none_added are words none = record {
  letters = [];
  added = sym (ap (with_last words) (append-nil words.last));
  are = none;
}

-- some were added, and then others
pub both_added : (first second both : List Letter → Type 0) (before now after : ListOfWords)
    → ((front back : List Letter) → first front → second back → both (front ++ back))
    → AddsLetters first before now → AddsLetters second now after
    → AddsLetters both before after
both_added first second both before now after join one other = record {
  letters = one.letters ++ other.letters;
  added = other.added
      ∙ ap (λ (words : ListOfWords). with_last words (words.last ++ other.letters)) one.added
      ∙ ap (with_last before) (append_assoc before.last one.letters other.letters);
  are = join one.letters other.letters one.are other.are;
}

-- a byte and a letter more
pub byte_joined : (bytes : List ℕ) (front : List Letter) (byte : ℕ) (letter : Letter)
    → letter.byte ≡ byte → letter.other ≡ byte → AreBytes bytes front
    → AreBytes (bytes ++ byte ∷ []) (front ++ letter ∷ [])
byte_joined [] [] byte letter own other are = (own, other, tt)
byte_joined [] (l ∷ front) byte letter own other are = absurd are
byte_joined (b ∷ bytes) [] byte letter own other are = absurd are
byte_joined (b ∷ bytes) (l ∷ front) byte letter own other are =
    (are.0, are.1, byte_joined bytes front byte letter own other are.2)

pub byte_more : (bytes : List ℕ) (k : ℕ) (letter : Letter) (before now after : ListOfWords)
    → k < length bytes → letter.byte ≡ get_or bytes k 0 → letter.other ≡ get_or bytes k 0
    → AddsBytes (take k bytes) before now
    → after ≡ record now { last = now.last ++ letter ∷ [] }
    → AddsBytes (take (k + 1) bytes) before after
byte_more bytes k letter before now after inside own other adds is = record {
  letters = adds.letters ++ letter ∷ [];
  added = is ∙ ap (λ (words : ListOfWords). with_last words (words.last ++ letter ∷ [])) adds.added
      ∙ ap (with_last before) (append_assoc before.last adds.letters (letter ∷ []));
  are = subst (λ some. AreBytes some (adds.letters ++ letter ∷ []))
      (sym (take_more bytes k 0 inside))
      (byte_joined (take k bytes) adds.letters (get_or bytes k 0) letter own other adds.are);
}

-- a part more of a row
part_joined : (parts : List Tree) (part : Tree) (front back : List Letter)
    → AreSpelled (trees parts) front → IsSpelled part back
    → AreSpelled (trees (parts ++ part ∷ [])) (front ++ back)
part_joined [] part front back none is =
    (back, [], ap (λ f. f ++ back) none ∙ sym (append-nil back), is, refl)
part_joined (p ∷ parts) part front back (first, others, same, one, are) is = (
  first,
  others ++ back,
  ap (λ f. f ++ back) same ∙ append_assoc first others back,
  one,
  part_joined parts part others back are is,
)

pub part_more : (hirs : List Hir) (k : ℕ) (part : Hir) (before now after : ListOfWords)
    → k < length hirs → part ≡ get_or hirs k part
    → AddsRow (trees (map tree_of (take k hirs))) before now
    → AddsSpelled (tree_of part) now after
    → AddsRow (trees (map tree_of (take (k + 1) hirs))) before after
part_more hirs k part before now after inside is row spelled =
    subst (λ some. AddsRow (trees some) before after)
    (ap (λ p. map tree_of (take k hirs) ++ tree_of p ∷ []) is
    ∙ sym (map_more tree_of hirs k part inside))
    (both_added (AreSpelled (trees (map tree_of (take k hirs)))) (IsSpelled (tree_of part))
    (AreSpelled (trees (map tree_of (take k hirs) ++ tree_of part ∷ []))) before now after
    (λ front back. part_joined (map tree_of (take k hirs)) (tree_of part) front back) row spelled)

-- a pass more
pass_joined : (IsPart : List Letter → Type 0) (n : ℕ) (front back : List Letter)
    → ArePasses IsPart n front → IsPart back → ArePasses IsPart (suc n) (front ++ back)
pass_joined IsPart zero front back none is =
    (back, [], ap (λ f. f ++ back) none ∙ sym (append-nil back), is, refl)
pass_joined IsPart (suc n) front back (first, others, same, one, are) is = (
  first,
  others ++ back,
  ap (λ f. f ++ back) same ∙ append_assoc first others back,
  one,
  pass_joined IsPart n others back are is,
)

pub pass_more : (body : Tree) (n : ℕ) (before now after : ListOfWords)
    → AddsLetters (ArePasses (IsSpelled body) n) before now → AddsSpelled body now after
    → AddsLetters (ArePasses (IsSpelled body) (n + 1)) before after
pass_more body n before now after passes spelled =
    subst (λ n. AddsLetters (ArePasses (IsSpelled body) n) before after) (sym (add-one n))
    (both_added (ArePasses (IsSpelled body) n) (IsSpelled body)
    (ArePasses (IsSpelled body) (suc n)) before now after
    (λ front back. pass_joined (IsSpelled body) n front back) passes spelled)

-- a branch more
branch_joined : (branches : List Tree) (branch : Tree) (words : List (List Letter))
    (word : List Letter) → AreWholeWords (trees branches) words → IsSpelled branch word
    → AreWholeWords (trees (branches ++ branch ∷ [])) (words ++ word ∷ [])
branch_joined [] branch [] word none is = (is, tt)
branch_joined [] branch (w ∷ words) word none is = absurd none
branch_joined (b ∷ branches) branch [] word are is = absurd are
branch_joined (b ∷ branches) branch (w ∷ words) word (one, are) is =
    (one, branch_joined branches branch words word are is)

-- what is added to the last word of a list, which is without letters, is the last word then
word_added : (branch : Tree) (now after : ListOfWords) → now.last ≡ []
    → AddsSpelled branch now after
    → (word : List Letter) × IsSpelled branch word × (all_words after ≡ now.done ++ word ∷ [])
word_added branch now after none adds = (
  adds.letters,
  adds.are,
  ap all_words adds.added ∙ ap (λ last. now.done ++ (last ++ adds.letters) ∷ []) none,
)

pub next_branch : (hirs : List Hir) (k : ℕ) (branch : Hir) (before now after : ListOfWords)
    → k < length hirs → branch ≡ get_or hirs k branch
    → AreWholeWords (trees (map tree_of (take k hirs))) (all_words before)
    → now ≡ record { done = before.done ++ before.last ∷ []; last = [] }
    → AddsSpelled (tree_of branch) now after
    → AreWholeWords (trees (map tree_of (take (k + 1) hirs))) (all_words after)
next_branch hirs k branch before now after inside is are begun adds =
    let (word, whole, same) = word_added (tree_of branch) now after
    (ap (λ (words : ListOfWords). words.last) begun) adds in
    subst (λ some. AreWholeWords (trees some) (all_words after))
    (ap (λ b. map tree_of (take k hirs) ++ tree_of b ∷ []) is
    ∙ sym (map_more tree_of hirs k branch inside))
    (subst (AreWholeWords (trees (map tree_of (take k hirs) ++ tree_of branch ∷ [])))
    (sym (same ∙ ap (λ (words : ListOfWords). words.done ++ word ∷ []) begun))
    (branch_joined (map tree_of (take k hirs)) (tree_of branch) (all_words before) word are whole))

-- the limits of an operator, where the code finds them to be the same
pub same_limits : (least : ℕ) (most : Option ℕ) → option_eq eqb most (Some least) ≡ true
    → most ≡ Some least
same_limits least None same = absurd (false≢true same)
same_limits least (Some limit) same = ap Some (eqb-true limit least same)

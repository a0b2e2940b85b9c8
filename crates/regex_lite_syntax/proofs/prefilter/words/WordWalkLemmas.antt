-- How the words of a tree grow, kind by kind of tree.
use Rattle.regex_lite_syntax.proofs.Common.{◌≡◌, ℕ, suc, ◌⊎◌, Bool, true, false}
use Rattle.regex_lite_syntax.proofs.Common.{List, [], ◌∷◌, ◌++◌, length, drop, Tree}
use Rattle.regex_lite_syntax.proofs.Common.{Trees, Matches, Chain, SomeBranch, Text, after, inl}
use Rattle.regex_lite_syntax.proofs.Common.{inr}
use Rattle.regex_lite_syntax.proofs.Common.{sym, refl, ap, ◌∙◌, subst, arith, append-nil}
use Rattle.regex_lite_syntax.proofs.Common.{false≢true}
use Rattle.regex_lite_syntax.proofs.Common.{look, concat, more}
use Rattle.regex_lite_syntax.proofs.Common.{alternation, append_assoc, Look}
use Rattle.regex_lite_syntax.proofs.Common.{trees}
use Rattle.std.proofs.Common.{encode_utf8_all}
use Rattle.regex_lite_syntax.specs.Tree.{empty, none}
use Rattle.regex_lite_syntax.specs.declared.prefilter.words.letter.Letter.{Letter}
use Rattle.regex_lite_syntax.specs.declared.prefilter.words.walk.WordWalk.{WordWalk}
use Rattle.regex_lite_syntax.specs.Prefilter.WordLists.{all_words}
use Rattle.regex_lite_syntax.specs.Prefilter.WordWalk.{GrowsBy, HasRead}
use Rattle.regex_lite_syntax.specs.Prefilter.WordWalk.{StartsWithAny}
use Rattle.regex_lite_syntax.specs.Prefilter.Words.{AnyStandsAt, StartsWith}
use Rattle.regex_lite_syntax.proofs.prefilter.words.RowLemmas.{ReadsLetters, reads_both}

-- the walk, with a word that is no longer all that was read
abbrev pub closed : WordWalk → WordWalk
closed walk = record walk { is_open = false }

-- what is no longer all that was read stands whatever was read since
pub read_closed : (walk : WordWalk) (bytes rest others : List ℕ) → walk.is_open ≡ false
    → HasRead bytes rest walk → HasRead bytes others walk
read_closed walk bytes rest others shut read = record {
  stands = read.stands;
  all = λ is_open. absurd (false≢true (sym shut ∙ is_open));
}

pub read_shut : (walk : WordWalk) (bytes rest others : List ℕ) → HasRead bytes rest walk
    → HasRead bytes others (closed walk)
read_shut walk bytes rest others read = record {
  stands = read.stands;
  all = λ is_open. absurd (false≢true is_open);
}

pub none_made : (before after : WordWalk) → after.words.done ≡ before.words.done
    → after.words.done ≡ before.words.done ++ []
none_made before after same = same ∙ sym (append-nil before.words.done)

-- whatever the tree
pub extends_closed : (tree : Tree) (walk : WordWalk) → walk.is_open ≡ false → GrowsBy tree walk walk
extends_closed tree walk shut = record {
  made = [];
  done = none_made walk walk refl;
  reads = λ h bytes i j read matches. inr (read_closed walk bytes _ _ shut read);
}

pub extends_shut : (tree : Tree) (walk : WordWalk) → GrowsBy tree walk (closed walk)
extends_shut tree walk = record {
  made = [];
  done = none_made walk (closed walk) refl;
  reads = λ h bytes i j read matches. inr (read_shut walk bytes _ _ read);
}

-- what reads nothing
pub extends_empty : (walk : WordWalk) → GrowsBy empty walk walk
extends_empty walk = record {
  made = [];
  done = none_made walk walk refl;
  reads = λ h bytes i j read same. inr
      (subst (λ k. HasRead bytes (encode_utf8_all (drop k h)) walk) same read);
}

pub extends_look : (test : Look) (walk : WordWalk) → GrowsBy (look test) walk walk
extends_look test walk = record {
  made = [];
  done = none_made walk walk refl;
  reads = λ h bytes i j read (holds, same). inr
      (subst (λ k. HasRead bytes (encode_utf8_all (drop k h)) walk) same read);
}

-- what is a row of characters: their letters are read behind the last word
pub extends_spelled : (tree : Tree) (letters : List Letter) (before after : WordWalk)
    → before.is_open ≡ true
    → after.words ≡ record before.words { last = before.words.last ++ letters }
    → ((h : Text) (i j : ℕ) → Matches h tree i j
    → ReadsLetters letters (encode_utf8_all (drop i h)) (encode_utf8_all (drop j h)))
    → GrowsBy tree before after
extends_spelled tree letters before after is_open added reads = record {
  made = [];
  done = none_made before after (ap (λ words. words.done) added);
  reads = λ h bytes i j read matches. inr (
      let both = reads_both before.words.last letters bytes (encode_utf8_all (drop i h))
      (encode_utf8_all (drop j h)) (record { stands = read.stands; all = read.all is_open })
      (reads h i j matches) in
      record {
        stands = subst (λ words. StartsWith words.last bytes) (sym added) both.stands;
        all = λ _. ap (λ words. drop (length words.last) bytes) added ∙ both.all;
      });
}

pub any_front : (words others : List (List Letter)) (bytes : List ℕ) → StartsWithAny words bytes
    → StartsWithAny (words ++ others) bytes
any_front [] others bytes any = absurd any
any_front (word ∷ words) others bytes (inl stands) = inl stands
any_front (word ∷ words) others bytes (inr any) = inr (any_front words others bytes any)

pub any_back : (words others : List (List Letter)) (bytes : List ℕ) → StartsWithAny others bytes
    → StartsWithAny (words ++ others) bytes
any_back [] others bytes any = any
any_back (word ∷ words) others bytes any = inr (any_back words others bytes any)

-- where some parts of a row were read, the others follow
pub record ReadsParts (all left : Trees) (before now : WordWalk) : Type 0 where
  pub made : List (List Letter)
  pub done : now.words.done ≡ before.words.done ++ made
  pub reads : (h : Text) (bytes : List ℕ) (i j : ℕ)
      → HasRead bytes (encode_utf8_all (drop i h)) before → Chain h all i j
      → StartsWithAny made bytes
      ⊎ ((k : ℕ) × HasRead bytes (encode_utf8_all (drop k h)) now × Chain h left k j)

pub no_part : (all : Trees) (walk : WordWalk) → ReadsParts all all walk walk
no_part all walk = record {
  made = [];
  done = none_made walk walk refl;
  reads = λ h bytes i j read chain. inr (i, read, chain);
}

-- the first parts of a row lead to a position from which the others do
chain_split : (front back : List Tree) (h : Text) (i j : ℕ) → Chain h (trees (front ++ back)) i j
    → (k : ℕ) × Chain h (trees front) i k × Chain h (trees back) k j
chain_split [] back h i j chain = (i, refl, chain)
chain_split (a ∷ front) back h i j (m, first, rest) =
    let (k, some, others) = chain_split front back h m j rest in (k, (m, first, some), others)

pub first_parts : (front back : List Tree) (before now : WordWalk)
    → GrowsBy (concat (trees front)) before now
    → ReadsParts (trees (front ++ back)) (trees back) before now
first_parts front back before now extends = record {
  made = extends.made;
  done = extends.done;
  reads = λ h bytes i j read chain.
      let (k, some, others) = chain_split front back h i j chain in
      elim (extends.reads h bytes i k read some) [
        | inl any ↦ inl any
        | inr on ↦ inr (k, on, others)
      ];
}

pub part_read : (all left : Trees) (a : Tree) (before now next : WordWalk)
    → ReadsParts all (more a left) before now → GrowsBy a now next → ReadsParts all left before next
part_read all left a before now next parts extends = record {
  made = parts.made ++ extends.made;
  done = extends.done ∙ ap (λ d. d ++ extends.made) parts.done
      ∙ append_assoc before.words.done parts.made extends.made;
  reads = λ h bytes i j read chain. elim (parts.reads h bytes i j read chain) [
    | inl any ↦ inl (any_front parts.made extends.made bytes any)
    | inr (k, here, (m, first, rest)) ↦ elim (extends.reads h bytes k m here first) [
      | inl any ↦ inl (any_back parts.made extends.made bytes any)
      | inr on ↦ inr (m, on, rest)
    ]
  ];
}

pub all_parts : (all : Trees) (before now : WordWalk) → ReadsParts all none before now
    → GrowsBy (concat all) before now
all_parts all before now parts = record {
  made = parts.made;
  done = parts.done;
  reads = λ h bytes i j read chain. elim (parts.reads h bytes i j read chain) [
    | inl any ↦ inl any
    | inr (k, here, same) ↦
        inr (subst (λ m. HasRead bytes (encode_utf8_all (drop m h)) now) same here)
  ];
}

pub parts_closed : (all left : Trees) (before now : WordWalk) → ReadsParts all left before now
    → now.is_open ≡ false → GrowsBy (concat all) before now
parts_closed all left before now parts shut = record {
  made = parts.made;
  done = parts.done;
  reads = λ h bytes i j read chain. elim (parts.reads h bytes i j read chain) [
    | inl any ↦ inl any
    | inr (k, here, rest) ↦ inr (read_closed now bytes _ _ shut here)
  ];
}

-- a word was made for each of some branches, or one of the others is there
pub record ReadsBranches (all left : Trees) (before now : WordWalk) (is_first : Bool) : Type 0 where
  pub made : List (List Letter)
  pub done : now.words.done ≡ before.words.done ++ made
  pub first : is_first ≡ true → now ≡ before
  pub shut : is_first ≡ false → now.is_open ≡ false
  pub reads : (h : Text) (bytes : List ℕ) (i j : ℕ)
      → HasRead bytes (encode_utf8_all (drop i h)) before → SomeBranch h all i j
      → ((is_first ≡ false) × (StartsWithAny made bytes ⊎ StartsWith now.words.last bytes))
      ⊎ SomeBranch h left i j

pub no_branch : (all : Trees) (walk : WordWalk) → ReadsBranches all all walk walk true
no_branch all walk = record {
  made = [];
  done = none_made walk walk refl;
  first = λ e. refl;
  shut = λ never. absurd (false≢true (sym never));
  reads = λ h bytes i j read some. inr some;
}

pub first_branch : (all left : Trees) (a : Tree) (before now next : WordWalk)
    → ReadsBranches all (more a left) before now true → GrowsBy a now next
    → ReadsBranches all left before (closed next) false
first_branch all left a before now next branches extends = record {
  made = extends.made;
  done = extends.done ∙ ap (λ w. w.words.done ++ extends.made) (branches.first refl);
  first = λ never. absurd (false≢true never);
  shut = λ e. refl;
  reads = λ h bytes i j read some. elim (branches.reads h bytes i j read some) [
    | inl (never, reported) ↦ absurd (false≢true (sym never))
    | inr (inr on) ↦ inr on
    | inr (inl here) ↦ elim (extends.reads h bytes i j
        (subst (HasRead bytes (encode_utf8_all (drop i h))) (sym (branches.first refl)) read)
        here) [
          | inl any ↦ inl (refl, inl any)
          | inr one ↦ inl (refl, inr one.stands)
        ]
  ];
}

-- the walk, with a word more that begins with these letters
abbrev pub begun : WordWalk → List Letter → (repeats : ℕ) → WordWalk
begun walk stem repeats = record {
  words = record { done = walk.words.done ++ walk.words.last ∷ []; last = stem };
  is_open = true;
  repeats = repeats;
}

pub next_branch : (all left : Trees) (a : Tree) (repeats : ℕ) (before now next : WordWalk)
    → before.is_open ≡ true → ReadsBranches all (more a left) before now false
    → GrowsBy a (begun now before.words.last repeats) next
    → ReadsBranches all left before (closed next) false
next_branch all left a repeats before now next is_open branches extends = record {
  made = branches.made ++ (now.words.last ∷ extends.made);
  done = extends.done
      ∙ append_assoc now.words.done (now.words.last ∷ []) extends.made
      ∙ ap (λ d. d ++ (now.words.last ∷ extends.made)) branches.done
      ∙ append_assoc before.words.done branches.made (now.words.last ∷ extends.made);
  first = λ never. absurd (false≢true never);
  shut = λ e. refl;
  reads = λ h bytes i j read some. elim (branches.reads h bytes i j read some) [
    | inl (f, inl any) ↦ inl (refl, inl (any_front branches.made _ bytes any))
    | inl (f, inr stands) ↦ inl (refl, inl (any_back branches.made _ bytes (inl stands)))
    | inr (inr on) ↦ inr on
    | inr (inl here) ↦ elim (extends.reads h bytes i j
        (record { stands = read.stands; all = λ e. read.all is_open }) here) [
          | inl any ↦ inl (refl, inl (any_back branches.made _ bytes (inr any)))
          | inr one ↦ inl (refl, inr one.stands)
        ]
  ];
}

pub all_branches : (all : Trees) (before now : WordWalk) (is_first : Bool)
    → ReadsBranches all none before now is_first → GrowsBy (alternation all) before now
all_branches all before now is_first branches = record {
  made = branches.made;
  done = branches.done;
  reads = λ h bytes i j read some. elim (branches.reads h bytes i j read some) [
    | inl (later, inl any) ↦ inl any
    | inl (later, inr stands) ↦ inr (record {
      stands = stands;
      all = λ is_open. absurd (false≢true (sym (branches.shut later) ∙ is_open));
    })
    | inr never ↦ absurd never
  ];
}

-- one of several words has a number
pub any_number : (words : List (List Letter)) (bytes : List ℕ) → StartsWithAny words bytes
    → AnyStandsAt words bytes 0
any_number [] bytes any = absurd any
any_number (word ∷ words) bytes (inl stands) = (0, omega arith, stands)
any_number (word ∷ words) bytes (inr any) =
    let (n, inside, stands) = any_number words bytes any in (suc n, omega (arith, inside), stands)

-- the words of a tree are those that were made, and the last one
pub words_of_walk : (tree : Tree) (before after : WordWalk) → before.words.done ≡ []
    → before.words.last ≡ [] → GrowsBy tree before after
    → (h : Text) (i j : ℕ) → Matches h tree i j
    → AnyStandsAt (all_words after.words) (encode_utf8_all (drop i h)) 0
words_of_walk tree before walk no_words no_letters extends h i j matches =
    any_number (all_words walk.words) bytes (elim (extends.reads h bytes i j begins matches) [
      | inl any ↦ any_front walk.words.done (walk.words.last ∷ []) bytes
          (subst (λ words. StartsWithAny words bytes) (sym all_made) any)
      | inr one ↦ any_back walk.words.done (walk.words.last ∷ []) bytes (inl one.stands)
    ])
  where
    bytes : List ℕ
    bytes = encode_utf8_all (drop i h)

    all_made : walk.words.done ≡ extends.made
    all_made = extends.done ∙ ap (λ d. d ++ extends.made) no_words

    begins : HasRead bytes bytes before
    begins = record {
      stands = subst (λ word. StartsWith word bytes) (sym no_letters) tt;
      all = λ is_open. ap (λ word. drop (length word) bytes) no_letters;
    }

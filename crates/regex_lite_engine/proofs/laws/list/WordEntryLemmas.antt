-- The preference list of a tree that is its words: first comes the first word that stands there.
use Rattle.regex_lite_engine.proofs.Common.{◌≡◌, ℕ, zero, suc, ◌+◌, ◌-◌, ◌<◌, ◌≤◌, ◌⊎◌, Bool, true}
use Rattle.regex_lite_engine.proofs.Common.{false}
use Rattle.regex_lite_engine.proofs.Common.{List, [], ◌∷◌, ◌++◌, length, drop, slice_get, Some}
use Rattle.regex_lite_engine.proofs.Common.{None}
use Rattle.regex_lite_engine.proofs.Common.{Option, IsTrue, sym, refl, ap, ◌∙◌, subst, inl, inr}
use Rattle.regex_lite_engine.proofs.Common.{arith}
use Rattle.regex_lite_engine.proofs.Common.{cases_eq, length-append, len_utf8, Set, just, in_ranges}
use Rattle.regex_lite_engine.proofs.Common.{Text, after, Tree, Trees, empty, character, class, look}
use Rattle.regex_lite_engine.proofs.Common.{repetition, capture, concat, alternation, none, more}
use Rattle.regex_lite_engine.proofs.Common.{offset, Marks, no_marks, over, Entry, after_marks}
use Rattle.regex_lite_engine.proofs.Common.{onward}
use Rattle.regex_lite_engine.proofs.Common.{stop, preference_list, HasReadingLoops, whole}
use Rattle.regex_lite_engine.proofs.Common.{if◌then◌else◌, map, marked, ◌==◌, nat_tests, append-nil}
use Rattle.regex_lite_engine.specs.Search.PreferenceList.{further, HaveReadingLoops}
use Rattle.regex_lite_engine.specs.Search.PreferenceList.{list_of_branches, list_of_chain}
use Rattle.regex_lite_engine.specs.Search.PreferenceList.{marking, passes, read, ReadsInPasses}
use Rattle.regex_lite_engine.specs.Search.PreferenceList.{up_to}
use Rattle.std.proofs.lemmas.Bool.{false≢true}
use Rattle.std.proofs.lemmas.List.{drop-drop}
use Rattle.std.proofs.lemmas.Str.{char_from_byte, encode_ascii, encode_same, len_utf8_bounds}
use Rattle.std.proofs.lemmas.Str.{length-encode}
use lib.Utf8.{encode, encodes}
use Rattle.regex_lite_engine.proofs.OffsetLemmas.{offset_next, rest_at}
use Rattle.regex_lite_engine.proofs.laws.list.ReadingLemmas.{is_inside}
use Rattle.regex_lite_syntax.specs.Prefilter.WholeWords.{AreBytes, ArePasses, AreSpelled}
use Rattle.regex_lite_syntax.specs.Prefilter.WholeWords.{AreWholeWords, HasCases, IsItsWords}
use Rattle.regex_lite_syntax.specs.Prefilter.WholeWords.{IsSpelled}
use Rattle.regex_lite_syntax.specs.Prefilter.Words.{IsFirstAt, IsLetter, WordStandsAt, StartsWith}
use Rattle.regex_lite_syntax.specs.Prefilter.Words.{word_at}
use Rattle.regex_lite_syntax.specs.declared.prefilter.words.letter.Letter.{Letter}
use Rattle.regex_lite_syntax.proofs.OptionLemmas.{not_there, same_some}
use Rattle.regex_lite_syntax.proofs.prefilter.words.StandLemmas.{back_stands, starts_with_both}
use Rattle.regex_lite_syntax.proofs.prefilter.words.StandLemmas.{starts_with_front, start_length}

-- such a tree has no loops
mutual
  no_loop : (tree : Tree) (word : List Letter) → IsSpelled tree word → HasReadingLoops tree
  no_loop (character c) word is = tt
  no_loop (class ranges) word is = tt
  no_loop (repetition zero most greedy body) word (some, exact, are) = absurd (omega (arith, some))
  no_loop (repetition (suc n) most greedy body) word
      (some, exact, (letters, others, both, is, are)) =
      (subst (λ most. ReadsInPasses most body) (sym exact) tt, no_loop body letters is)
  no_loop empty word is = absurd is
  no_loop (look test) word is = absurd is
  no_loop (capture index name body) word is = absurd is
  no_loop (concat parts) word are = no_loops parts word are
  no_loop (alternation branches) word is = absurd is

  no_loops : (parts : Trees) (word : List Letter) → AreSpelled parts word → HaveReadingLoops parts
  no_loops none word are = tt
  no_loops (more part rest) word (letters, others, both, is, are) =
      (no_loop part letters is, no_loops rest others are)

branch_loops : (branches : Trees) (words : List (List Letter)) → AreWholeWords branches words
    → HaveReadingLoops branches
branch_loops none words are = tt
branch_loops (more branch rest) [] are = absurd are
branch_loops (more branch rest) (word ∷ words) (is, are) =
    (no_loop branch word is, branch_loops rest words are)

pub words_loops : (tree : Tree) (words : List (List Letter)) → IsItsWords tree words
    → HasReadingLoops tree
words_loops tree words (inl (word, one, is)) = no_loop tree word is
words_loops tree words (inr (branches, same, are)) =
    subst HasReadingLoops (sym same) (branch_loops branches words are)

-- letters that are these bytes stand where the bytes do, and nowhere else
bytes_stand : (bytes rest : List ℕ) (letters : List Letter) → AreBytes bytes letters
    → StartsWith letters (bytes ++ rest)
bytes_stand [] rest [] are = tt
bytes_stand [] rest (letter ∷ letters) are = absurd are
bytes_stand (byte ∷ bytes) rest [] are = absurd are
bytes_stand (byte ∷ bytes) rest (letter ∷ letters) (own, other, are) =
    (inl (sym own), bytes_stand bytes rest letters are)

as_many : (bytes : List ℕ) (letters : List Letter) → AreBytes bytes letters
    → length letters ≡ length bytes
as_many [] [] are = refl
as_many [] (letter ∷ letters) are = absurd are
as_many (byte ∷ bytes) [] are = absurd are
as_many (byte ∷ bytes) (letter ∷ letters) (own, other, are) =
    omega (arith, as_many bytes letters are)

bytes_there : (bytes : List ℕ) (letters : List Letter) (all : List ℕ) → AreBytes bytes letters
    → StartsWith letters all → (rest : List ℕ) × (all ≡ bytes ++ rest)
bytes_there [] [] all are stands = (all, refl)
bytes_there [] (letter ∷ letters) all are stands = absurd are
bytes_there (byte ∷ bytes) [] all are stands = absurd are
bytes_there (byte ∷ bytes) (letter ∷ letters) [] are stands = absurd stands
bytes_there (byte ∷ bytes) (letter ∷ letters) (first ∷ all) (own, other, are) (is, stands) =
    let later = bytes_there bytes letters all are stands in (
      later.0,
      λ t. (same is t) ∷ (later.1 t),
    )
  where
    same : IsLetter letter first → first ≡ byte
    same (inl e) = e ∙ own
    same (inr e) = e ∙ other

same_test : (d c : ℕ) → d ≡ c → (d == c) ≡ true
same_test d c e = grind (arith, nat_tests, e)

other_test : (d c : ℕ) → (d ≡ c → ⊥) → (d == c) ≡ false
other_test d c apart = grind (arith, nat_tests, apart)

-- the characters from a position on
chars_from : (h : Text) (i c : ℕ) → slice_get h i ≡ Some c → drop i h ≡ c ∷ drop (suc i) h
chars_from [] i c there = absurd (not_there there)
chars_from (x ∷ h) zero c there = ap (λ z. z ∷ h) (same_some there)
chars_from (x ∷ h) (suc i) c there = chars_from h i c there

none_from : (h : Text) (i : ℕ) → slice_get h i ≡ None → drop i h ≡ []
none_from [] zero gone = refl
none_from [] (suc i) gone = refl
none_from (x ∷ h) zero gone = absurd cc
none_from (x ∷ h) (suc i) gone = none_from h i gone

module _ (h : Text) where
  -- the bytes from a position on
  abbrev from : ℕ → List ℕ
  from i = encodes (drop i h)

  from_char : (i c : ℕ) → after h i ≡ Some c → from i ≡ encode c ++ from (suc i)
  from_char i c there = ap encodes (chars_from h i c there)

  -- the word stands at the position, and the only match ends where it does
  pub record Stands (word : List Letter) (i : ℕ) (list : List Entry) : Type 0 where
    pub j : ℕ
    pub marks : Marks
    pub only : list ≡ (j, marks) ∷ []
    pub stands : StartsWith word (from i)
    pub inside : j ≤ length h
    pub end : offset h j ≡ offset h i + length word

  -- or it doesn't, and there is none
  abbrev pub IsRead : List Letter → ℕ → List Entry → Type 0
  IsRead word i list = Stands word i list ⊎ ((list ≡ []) × ¬ StartsWith word (from i))

  one_read : (set : Set) (letters : List Letter) (i c : ℕ) → after h i ≡ Some c
      → IsTrue (set c) → StartsWith letters (from i) → len_utf8 c ≡ length letters
      → IsRead letters i (read set i (after h i))
  one_read set letters i c there has stands size = inl (record {
    j = suc i;
    marks = no_marks;
    only = ap (read set i) there ∙ ap (λ b. if b then stop (suc i) else []) has;
    stands = stands;
    inside = let within = is_inside h i c there in omega (arith, within);
    end = offset_next h i c there ∙ ap (λ n. offset h i + n) size;
  })

  none_read : (set : Set) (letters : List Letter) (i c : ℕ) → after h i ≡ Some c
      → set c ≡ false → (¬ StartsWith letters (from i))
      → IsRead letters i (read set i (after h i))
  none_read set letters i c there off never =
      inr (ap (read set i) there ∙ ap (λ b. if b then stop (suc i) else []) off, never)

  character_read : (c : ℕ) (letters : List Letter) → AreBytes (encode c) letters → (i : ℕ)
      → (o : Option ℕ) → after h i ≡ o → IsRead letters i (read (just c) i (after h i))
  character_read c letters are i None there =
      inr (
        ap (read (just c) i) there,
        λ stands. (
            let short = start_length letters (from i) stands in
            let empty = ap length (ap encodes (none_from h i there)) in
            let some = len_utf8_bounds c in
            omega (arith, short, empty, as_many (encode c) letters are, length-encode c, some.0)),
      )
  character_read c letters are i (Some d) there = elim (cases_eq d c) [
    | inl e ↦ one_read (just c) letters i d there (same_test d c e)
        (subst (StartsWith letters) (sym (from_char i d there))
        (bytes_stand (encode d) (from (suc i)) letters
        (subst (λ x. AreBytes (encode x) letters) (sym e) are)))
        (sym (length-encode d) ∙ ap (λ x. length (encode x)) e
        ∙ sym (as_many (encode c) letters are))
    | inr apart ↦ none_read (just c) letters i d there (other_test d c apart) (λ stands. (
        let (rest, is) = bytes_there (encode c) letters (from i) are stands in
        apart (encode_same d c (from (suc i)) rest (sym (from_char i d there) ∙ is)).0))
  ]

  class_read : (set : Set) (letter : Letter) → HasCases (λ c. IsTrue (set c)) letter → (i : ℕ)
      → (o : Option ℕ) → after h i ≡ o → IsRead (letter ∷ []) i (read set i (after h i))
  class_read set letter cases i None there =
      inr (
        ap (read set i) there,
        λ stands. (
            let short = start_length (letter ∷ []) (from i) stands in
            let empty = ap length (ap encodes (none_from h i there)) in
            omega (arith, short, empty)),
      )
  class_read set letter cases i (Some d) there = by_test (set d) refl
    where
      bytes : from i ≡ encode d ++ from (suc i)
      bytes = from_char i d there

      below : (b : ℕ) → IsLetter letter b → b < 128
      below b (inl e) = omega (arith, e, cases.ascii)
      below b (inr e) = omega (arith, e, cases.other_ascii)

      never : (all : List ℕ) → all ≡ encode d ++ from (suc i) → StartsWith (letter ∷ []) all
          → IsTrue (set d)
      never [] is stands = absurd stands
      never (b ∷ all) is (own, stands) =
          let same = char_from_byte (b ∷ all) (from (suc i)) d is (below b own) (omega arith) in
          cases.no_others d (subst (IsLetter letter) (sym same) own)

      by_test : (b : Bool) → set d ≡ b → IsRead (letter ∷ []) i (read set i (after h i))
      by_test true has =
          let own = cases.has d has in
          let one = encode_ascii d (below d own) in
          one_read set (letter ∷ []) i d there has
          (subst (StartsWith (letter ∷ [])) (sym (bytes ∙ ap (λ bs. bs ++ from (suc i)) one))
          (own, tt))
          (sym (length-encode d) ∙ ap length one)
      by_test false off =
          none_read set (letter ∷ []) i d there off
          (λ stands. false≢true (sym off ∙ never (from i) bytes stands))

  -- what follows the word are the bytes from its end on
  rest_after : (word : List Letter) (i j : ℕ) → offset h j ≡ offset h i + length word
      → drop (length word) (from i) ≡ from j
  rest_after word i j end =
      ap (drop (length word)) (sym (rest_at h i))
      ∙ drop-drop (length word) (offset h i) (encodes h)
      ∙ ap (λ n. drop n (encodes h)) (sym end) ∙ rest_at h j

  -- one word, and then another
  both_read : (front back : List Letter) (i : ℕ) (list : List Entry) (next : ℕ → List Entry)
      → IsRead front i list → ((k : ℕ) → k ≤ length h → IsRead back k (next k))
      → IsRead (front ++ back) i (onward list next)
  both_read front back i list next (inr (nothing, never)) on = inr (
    ap (λ list. onward list next) nothing,
    λ stands. never (starts_with_front front back (from i) stands),
  )
  both_read front back i list next (inl first) on = later (on first.j first.inside)
    where
      later : IsRead back first.j (next first.j) → IsRead (front ++ back) i (onward list next)
      later (inr (nothing, never)) = inr (
        ap (λ list. onward list next) first.only
            ∙ ap (λ list. map (after_marks first.marks) list ++ []) nothing,
        λ stands. never (subst (StartsWith back) (rest_after front i first.j first.end)
            (back_stands front back (from i) stands)),
      )
      later (inl second) = inl (record {
        j = second.j;
        marks = over second.marks first.marks;
        only = ap (λ list. onward list next) first.only
            ∙ ap (λ list. map (after_marks first.marks) list ++ []) second.only;
        stands = starts_with_both front back (from i) first.stands
            (subst (StartsWith back) (sym (rest_after front i first.j first.end)) second.stands);
        inside = second.inside;
        end = omega (arith, second.end, first.end, length-append front back);
      })

  -- nothing is read
  nothing_read : (word : List Letter) → word ≡ [] → (i : ℕ) → i ≤ length h
      → IsRead word i (stop i)
  nothing_read word no_letters i within = inl (record {
    j = i;
    marks = no_marks;
    only = refl;
    stands = subst (λ word. StartsWith word (from i)) (sym no_letters) tt;
    inside = within;
    end = omega (arith, ap length no_letters);
  })

  -- so many passes, and then nothing
  passes_read : (IsPart : List Letter → Type 0) (body next : ℕ → List Entry)
      → ((letters : List Letter) → IsPart letters → (i : ℕ) → i ≤ length h
      → IsRead letters i (body i))
      → ((i : ℕ) → next i ≡ stop i) → (n : ℕ) (word : List Letter) → ArePasses IsPart n word
      → (i : ℕ) → i ≤ length h → IsRead word i (passes n body next i)
  passes_read IsPart body next each ends zero word no_letters i within =
      subst (IsRead word i) (sym (ends i)) (nothing_read word no_letters i within)
  passes_read IsPart body next each ends (suc n) word (letters, others, both, is, are) i within =
      subst (λ word. IsRead word i (passes (suc n) body next i)) (sym both)
      (both_read letters others i (body i) (passes n body next) (each letters is i within)
      (λ k inside. passes_read IsPart body next each ends n others are k inside))

  -- no passes are left where there are as many at most as at least
  none_further : (least : ℕ) (most : Option ℕ) (greedy : Bool) (body : ℕ → List Entry)
      → most ≡ Some least → (i : ℕ) → further h least most greedy body i ≡ stop i
  none_further least most greedy body exact i =
      let none : least - least ≡ 0 = omega arith in
      ap (λ most. further h least most greedy body i) exact
      ∙ ap (λ n. up_to n greedy body i) none

  mutual
    word_read : (a : Tree) (word : List Letter) → IsSpelled a word → (i : ℕ) → i ≤ length h
        → IsRead word i (preference_list h a i)
    word_read (character c) word is i within = character_read c word is i (after h i) refl
    word_read (class ranges) word (letter, one, cases) i within =
        subst (λ word. IsRead word i (read (in_ranges ranges) i (after h i))) (sym one)
        (class_read (in_ranges ranges) letter cases i (after h i) refl)
    word_read (repetition least most greedy body) word (some, exact, are) i within =
        passes_read (IsSpelled body) (preference_list h body)
        (further h least most greedy (preference_list h body))
        (λ letters is i within. word_read body letters is i within)
        (none_further least most greedy (preference_list h body) exact) least word are i within
    word_read (concat parts) word are i within = chain_read parts word are i within
    word_read empty word is i within = absurd is
    word_read (look test) word is i within = absurd is
    word_read (capture index name body) word is i within = absurd is
    word_read (alternation branches) word is i within = absurd is

    -- one part, and then the others
    chain_read : (parts : Trees) (word : List Letter) → AreSpelled parts word → (i : ℕ)
        → i ≤ length h → IsRead word i (list_of_chain h parts i)
    chain_read none word no_letters i within = nothing_read word no_letters i within
    chain_read (more part rest) word (letters, others, both, is, are) i within =
        subst (λ word. IsRead word i (list_of_chain h (more part rest) i)) (sym both)
        (both_read letters others i (preference_list h part i) (list_of_chain h rest)
        (word_read part letters is i within)
        (λ k inside. chain_read rest others are k inside))

  -- this match comes first, and ends where the word does
  pub record IsHead (word : List Letter) (i : ℕ) (list : List Entry) : Type 0 where
    pub j : ℕ
    pub marks : Marks
    pub rest : List Entry
    pub first : list ≡ (j, marks) ∷ rest
    pub inside : j ≤ length h
    pub end : offset h j ≡ offset h i + length word

  only_head : (word : List Letter) (i : ℕ) (list others : List Entry) → StartsWith word (from i)
      → IsRead word i list → IsHead word i (list ++ others)
  only_head word i list others stands (inr (nothing, never)) = absurd (never stands)
  only_head word i list others stands (inl s) = record {
    j = s.j;
    marks = s.marks;
    rest = others;
    first = ap (λ l. l ++ others) s.only;
    inside = s.inside;
    end = s.end;
  }

  no_head : (word : List Letter) (i : ℕ) (list : List Entry) → (¬ StartsWith word (from i))
      → IsRead word i list → list ≡ []
  no_head word i list never (inl s) = absurd (never s.stands)
  no_head word i list never (inr (nothing, off)) = nothing

  branches_head : (branches : Trees) (words : List (List Letter)) → AreWholeWords branches words
      → (i number : ℕ) → i ≤ length h → number < length words
      → StartsWith (word_at words number) (from i)
      → ((other : ℕ) → other < number → ¬ StartsWith (word_at words other) (from i))
      → IsHead (word_at words number) i (list_of_branches h branches i)
  branches_head none [] are i number within below stands first = absurd (omega (arith, below))
  branches_head none (word ∷ words) are i number within below stands first = absurd are
  branches_head (more branch rest) [] are i number within below stands first = absurd are
  branches_head (more branch rest) (word ∷ words) (is, are) i zero within below stands first =
      only_head word i (preference_list h branch i) (list_of_branches h rest i) stands
      (word_read branch word is i within)
  branches_head (more branch rest) (word ∷ words) (is, are) i (suc number) within below stands
      first =
      let nothing = no_head word i (preference_list h branch i) (first 0 (omega arith))
      (word_read branch word is i within) in
      subst (IsHead (word_at words number) i)
      (ap (λ list. list ++ list_of_branches h rest i) (sym nothing))
      (branches_head rest words are i number within (omega (arith, below)) stands
      (λ other less. first (suc other) (omega (arith, less))))

  tree_head : (tree : Tree) (words : List (List Letter)) → IsItsWords tree words
      → (i number : ℕ) → i ≤ length h → number < length words
      → StartsWith (word_at words number) (from i)
      → ((other : ℕ) → other < number → ¬ StartsWith (word_at words other) (from i))
      → IsHead (word_at words number) i (preference_list h tree i)
  tree_head tree words (inr (branches, same, are)) i number within below stands first =
      subst (λ t. IsHead (word_at words number) i (preference_list h t i)) (sym same)
      (branches_head branches words are i number within below stands first)
  tree_head tree words (inl (word, one, is)) i number within below stands first =
      let here : number ≡ 0 = omega (arith, below, ap length one) in
      let same : word_at words number ≡ word =
      ap (word_at words) here ∙ ap (λ ws. word_at ws 0) one in
      subst (λ w. IsHead w i (preference_list h tree i)) (sym same)
      (subst (IsHead word i) (append-nil (preference_list h tree i))
      (only_head word i (preference_list h tree i) []
      (subst (λ w. StartsWith w (from i)) same stands) (word_read tree word is i within)))

  -- the same with group 0 around the tree
  pub whole_head : (tree : Tree) (words : List (List Letter)) → IsItsWords tree words
      → (i number : ℕ) → i ≤ length h → IsFirstAt words (encodes h) (offset h i) number
      → IsHead (word_at words number) i (preference_list h (whole tree) i)
  whole_head tree words is i number within first =
      let start : (n : ℕ) → WordStandsAt words (encodes h) n (offset h i)
      → StartsWith (word_at words n) (from i) =
      λ n. subst (StartsWith (word_at words n)) (rest_at h i) in
      let back : (n : ℕ) → StartsWith (word_at words n) (from i)
      → WordStandsAt words (encodes h) n (offset h i) =
      λ n. subst (StartsWith (word_at words n)) (sym (rest_at h i)) in
      let head = tree_head tree words is i number within first.inside (start number first.stands)
      (λ other less stands. first.first other less (back other stands)) in
      record {
        j = head.j;
        marks = over (over (marked (Some 1) head.j) head.marks) (marked (Some 0) i);
        rest = map (after_marks (marked (Some 0) i)) (onward head.rest (marking 1)) ++ [];
        first = ap (λ list. onward (marking 0 i) (λ _. onward list (marking 1))) head.first;
        inside = head.inside;
        end = head.end;
      }

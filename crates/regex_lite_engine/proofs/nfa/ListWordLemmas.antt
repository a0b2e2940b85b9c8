-- What a search finds of several patterns of which each is its words: the next of them.
use Rattle.regex_lite_engine.proofs.Common.{◌≡◌, ℕ, ◌+◌, ◌-◌, ◌<◌, ◌≤◌, ◌⊎◌, List, [], length}
use Rattle.regex_lite_engine.proofs.Common.{Some, None, Option, IsUtf8, IsCharBoundary, chars, sym}
use Rattle.regex_lite_engine.proofs.Common.{refl, ap, ◌∙◌, subst, inl, inr}
use Rattle.regex_lite_engine.proofs.Common.{arith, cases_lt, cases_eq}
use Rattle.regex_lite_engine.proofs.Common.{encodes-chars, Text, Tree, Address}
use Rattle.regex_lite_engine.proofs.Common.{IfSome, IsRenumbered, side_by_side, AreEntries, HasTree}
use Rattle.regex_lite_engine.proofs.Common.{slice_get_within, offset, position_at, Found}
use Rattle.regex_lite_engine.proofs.Common.{IsMatchOfAny, IsNumberedOutcome}
use Rattle.std.specs.Prelude.{drop, slice_get, slice_index}
use Rattle.regex_lite_engine.specs.Graph.Places.{Place}
use Rattle.regex_lite_engine.specs.Graph.SideBySide.{AreRegularPatterns}
use Rattle.regex_lite_engine.specs.Search.NumberedList.{IsNumberedFoundOf}
use Rattle.regex_lite_engine.specs.Search.NumberedOutcomes.{IsBestOutcomeOf, numbered_at}
use Rattle.regex_lite_engine.specs.Search.NumberedOutcomes.{with_match_start_kept}
use Rattle.regex_lite_engine.specs.Search.NumberedWords.{AreAnsweredBy, HasMatchOfNumber}
use Rattle.regex_lite_engine.specs.Search.NumberedWords.{IsEachAnsweredBy}
use Rattle.regex_lite_engine.proofs.OffsetLemmas.{boundary_at, offset_grows, positions_order}
use Rattle.regex_lite_engine.proofs.OffsetLemmas.{rest_at}
use Rattle.regex_lite_engine.proofs.PositionLemmas.{position_is}
use Rattle.regex_lite_engine.proofs.laws.several.NumberedListLemmas.{any_numbered, any_of_numbers}
use Rattle.regex_lite_engine.proofs.laws.several.PartLemmas.{InPattern, name_in_pattern}
use Rattle.regex_lite_engine.proofs.laws.several.PartLemmas.{part_of_list, entry_of_part}
use Rattle.regex_lite_engine.proofs.nfa.WholeWordLemmas.{ends_there, words_answer}
use Rattle.regex_lite_engine.proofs.nfa.FirstWordLemmas.{first_standing}
use Rattle.regex_lite_syntax.specs.Prefilter.NumberedWords.{AreWordsOfTrees, HasItsWords}
use Rattle.regex_lite_syntax.specs.Prefilter.NumberedWords.{IsNextOfPatterns, IsSpanOfPattern}
use Rattle.regex_lite_syntax.specs.Prefilter.NumberedWords.{NumberedWords, PatternStandsFrom}
use Rattle.regex_lite_syntax.specs.Prefilter.WholeWords.{IsNextSpan}
use Rattle.regex_lite_syntax.specs.Prefilter.Words.{AnyStandsAt, IsFirstAt, NoneStands, StartsWith}
use Rattle.regex_lite_syntax.specs.Prefilter.Words.{word_at}
use Rattle.regex_lite_syntax.specs.declared.prefilter.words.letter.Letter.{Letter}
use Rattle.regex_lite_syntax.proofs.LookupLemmas.{there_is}

module _ (trees : List Tree) (regular : AreRegularPatterns trees) (name : ℕ → Address)
    (table : List (Place ℕ)) (entries : List ℕ)
    (written : IsRenumbered (side_by_side trees) name table)
    (are : AreEntries trees name table entries) (numbered : NumberedWords)
    (of_trees : AreWordsOfTrees trees numbered)
    (bytes : List ℕ) (from : ℕ) (utf8 : IsUtf8 bytes) (edge : IsCharBoundary bytes from) where
  abbrev h : Text
  h = chars bytes

  abbrev s : ℕ
  s = position_at bytes from

  abbrev words : List (List Letter)
  words = numbered.words

  abbrev owner : ℕ → ℕ
  owner k = slice_index numbered.owners k

  here : from ≡ offset h s
  here = (position_is bytes from utf8 edge).1

  -- a word of one of the patterns that stands there
  record StandsOf (number at : ℕ) : Type 0 where
    k : ℕ
    inside : k < length words
    owned : owner k ≡ number
    stands : StartsWith (word_at words k) (drop at bytes)

  has : (number : ℕ) (tree : Tree) → HasTree trees number tree
      → HasItsWords words numbered.owners number tree
  has number tree there =
      of_trees.each number tree (slice_get_within trees number tree there) there

  -- a word of a tree stands there, as one of all
  of_all : (number : ℕ) (tree : Tree) (own : HasItsWords words numbered.owners number tree)
      (at : ℕ) → AnyStandsAt own.own bytes at → StandsOf number at
  of_all number tree own at (k, less, stands) = record {
    k = own.begin + k;
    inside = omega (arith, less, own.inside);
    owned = own.owned k less;
    stands = subst (λ word. StartsWith word (drop at bytes)) (sym (own.same k less)) stands;
  }

  -- where a pattern matches, a word of it stands
  match_stands : (i k : ℕ) (way : List ℕ) (q j : ℕ) → IsMatchOfAny table h entries s i k way q j
      → StandsOf k (offset h i)
  match_stands i k way q j m =
      let (tree, there, match) =
      any_of_numbers trees h table entries name written are regular s i k way q j m in
      let own = has k tree there in
      let stands : AnyStandsAt own.own bytes (offset h i) =
      subst (λ all. AnyStandsAt own.own all (offset h i)) (encodes-chars bytes utf8)
      (subst (λ (left : List ℕ). AnyStandsAt own.own left 0) (sym (rest_at h i))
      (own.of_tree h i j match.matches)) in
      of_all k tree own (offset h i) stands

  any_of : (number at : ℕ) → StandsOf number at → AnyStandsAt words bytes at
  any_of number at is = (is.k, is.inside, is.stands)

  -- where one matches from where the search starts, a word stands there
  stands_here : (k : ℕ) (way : List ℕ) (q j : ℕ) → IsMatchOfAny table h entries s s k way q j
      → AnyStandsAt words bytes from
  stands_here k way q j m =
      subst (AnyStandsAt words bytes) (sym here)
      (any_of k (offset h s) (match_stands s k way q j m))

  after : (i k : ℕ) (way : List ℕ) (q j : ℕ) → IsMatchOfAny table h entries s i k way q j
      → from ≤ offset h i
  after i k way q j m =
      let grows = offset_grows h s i m.is_match.from in omega (arith, here, grows)

  none_found : ((at : ℕ) → from ≤ at → ¬ AnyStandsAt words bytes at)
      → (i k : ℕ) (way : List ℕ) (q j : ℕ) → IsMatchOfAny table h entries s i k way q j → ⊥
  none_found none i k way q j m =
      none (offset h i) (after i k way q j m)
      (any_of k (offset h i) (match_stands i k way q j m))

  -- a pattern of which a word stands there matches there
  stands_match : (number : ℕ) → PatternStandsFrom numbered bytes from number
      → HasMatchOfNumber table h entries s number
  stands_match number (at, low, boundary, (k, inside, owned, stands)) =
      let (tree, there) = there_is trees number
      (let below = of_trees.below k inside in omega (arith, below, owned)) in
      let own : HasItsWords words numbered.owners number tree = has number tree there in
      let place = own.no_others k inside owned in
      let mine = k - own.begin in
      let back : own.begin + mine ≡ k = omega (arith, place.0) in
      let is : word_at words k ≡ word_at own.own mine =
      ap (word_at words) (sym back) ∙ own.same mine (omega (arith, back, place.1)) in
      let (first, first_is) = first_standing own.own bytes at mine (omega (arith, back, place.1))
      (subst (λ word. StartsWith word (drop at bytes)) is stands) in
      let (j, match) = ends_there tree (regular number tree there) own.own own.are bytes from utf8
      edge at first low first_is boundary in
      let (q, way, m) = any_numbered trees h table entries name written are regular s number
      (position_at bytes at) j tree there match in
      (position_at bytes at, way, q, j, m)

  -- and one that matches has a word that stands there
  match_of_number : (number : ℕ) → HasMatchOfNumber table h entries s number
      → PatternStandsFrom numbered bytes from number
  match_of_number number (i, way, q, j, m) =
      let word = match_stands i number way q j m in (
        offset h i,
        after i number way q j m,
        boundary_at bytes i (offset h i) utf8 (m.is_match.inside, refl),
        (word.k, word.inside, word.owned, word.stands),
      )

  module _ (reported : ℕ × (ℕ × ℕ)) (later : from ≤ reported.1.0)
      (none : NoneStands words bytes from reported.1.0)
      (span : IsSpanOfPattern numbered bytes reported)
    where
      abbrev number : ℕ
      number = reported.0

      abbrev at : ℕ
      at = reported.1.0

      tree_of_it : (tree : Tree) × HasTree trees number tree
      tree_of_it =
          there_is trees number
          (let below = of_trees.below span.number span.stands.inside in
          omega (arith, below, span.owner))

      abbrev tree : Tree
      tree = tree_of_it.0

      own : HasItsWords words numbered.owners number tree
      own = has number tree tree_of_it.1

      -- the number of the word among those of its tree
      abbrev mine : ℕ
      mine = span.number - own.begin

      place : (own.begin ≤ span.number) × (span.number < own.begin + length own.own)
      place = own.no_others span.number span.stands.inside (sym span.owner)

      word_is : word_at words span.number ≡ word_at own.own mine
      word_is =
          let back : own.begin + mine ≡ span.number = omega (arith, place.0) in
          ap (word_at words) (sym back) ∙ own.same mine (omega (arith, place.0, place.1))

      first_own : IsFirstAt own.own bytes at mine
      first_own = record {
        inside = omega (arith, place.0, place.1);
        stands = subst (λ word. StartsWith word (drop at bytes)) word_is span.stands.stands;
        first = λ other less stands.
            span.stands.first (own.begin + other) (omega (arith, less, place.0))
            (subst (λ word. StartsWith word (drop at bytes))
            (sym (own.same other (omega (arith, less, place.0, place.1)))) stands);
      }

      next_own : IsNextSpan own.own bytes from (Some reported.1)
      next_own = (
        later,
        λ here low high stands. none here low high (any_of number here
            (of_all number tree own here stands)),
        record {
          number = mine;
          stands = first_own;
          boundary = span.boundary;
          end = span.end ∙ ap (λ word. at + length word) word_is;
        },
      )

      entry : (entry : ℕ) × (slice_get entries number ≡ Some entry)
      entry = are.each number tree tree_of_it.1

      answer : IsNumberedOutcome table h entry.0 s (Some (reported.1.0, reported.1.1, []))
      answer =
          words_answer tree (regular number tree tree_of_it.1) table entry.0
          (name_in_pattern trees number tree tree_of_it.1 name table written)
          (InPattern trees number tree tree_of_it.1 name table written)
          (part_of_list trees number tree tree_of_it.1 name table written)
          (entry_of_part trees number tree tree_of_it.1 name table written entry.0
          (are.of_pattern number entry.0 entry.1).2)
          (Some own.own) own.of_tree own.are bytes from (Some reported.1) utf8 edge next_own

      abbrev found : Found
      found = answer.0

      -- no pattern matches before, nor one with a lower number there
      first : (i k : ℕ) (way : List ℕ) (q j : ℕ) → IsMatchOfAny table h entries s i k way q j
          → (found.start < i) ⊎ ((found.start ≡ i) × (number ≤ k))
      first i k way q j m =
          let word = match_stands i k way q j m in
          let begins : at ≡ offset h found.start = answer.2 in
          let low : at ≤ offset h i = elim (cases_lt (offset h i) at) [
            | inl less ↦ absurd (none (offset h i) (after i k way q j m) less
                (any_of k (offset h i) word))
            | inr more ↦ more
          ] in
          let order : found.start ≤ i =
          positions_order h found.start i answer.1.inside (omega (arith, low, begins)) in
          elim (cases_eq found.start i) [
            | inl same ↦ inr (same, lowest k i same word)
            | inr apart ↦ inl (omega (arith, order, apart))
          ]
        where
          lowest : (k i : ℕ) → found.start ≡ i → StandsOf k (offset h i) → number ≤ k
          lowest k i same word =
              let there : offset h i ≡ at = ap (offset h) (sym same) ∙ sym answer.2 in
              let stands : StartsWith (word_at words word.k) (drop at bytes) =
              subst (λ n. StartsWith (word_at words word.k) (drop n bytes)) there word.stands in
              elim (cases_lt word.k span.number) [
                | inl less ↦ absurd (span.stands.first word.k less stands)
                | inr more ↦ (
                    let order = of_trees.in_order span.number word.k more word.inside in
                    omega (arith, order, span.owner, word.owned))
              ]

      found_of : IsNumberedFoundOf table h entries s number found
      found_of = record {
        entry = entry.0;
        is_entry = entry.1;
        answer = answer.1;
        first = first;
      }

      found_words : IsBestOutcomeOf table h entries s
          (with_match_start_kept (numbered_at (Some reported) []))
      found_words = (
        number,
        found,
        found_of,
        record { start_reported = answer.2; number_reported = refl },
        answer.3,
        answer.4,
      )

  list_answered : (reported : Option (ℕ × (ℕ × ℕ))) → IsNextOfPatterns numbered bytes from reported
      → IsBestOutcomeOf table h entries s (with_match_start_kept (numbered_at reported []))
  list_answered None none = none_found none
  list_answered (Some reported) (later, none, span) = found_words reported later none span

-- if the trees are nothing but their words, the next of these is what a search finds
pub words_of_list : (trees : List Tree) → AreRegularPatterns trees → (name : ℕ → Address)
    (table : List (Place ℕ)) (entries : List ℕ) → IsRenumbered (side_by_side trees) name table
    → AreEntries trees name table entries → (numbered : NumberedWords)
    → AreWordsOfTrees trees numbered → AreAnsweredBy table entries numbered
words_of_list trees regular name table entries written are numbered of_trees bytes from reported
    utf8 edge next =
    list_answered trees regular name table entries written are numbered of_trees bytes from utf8
    edge reported next

-- and those patterns match of which a word stands
pub each_word_of_list : (trees : List Tree) → AreRegularPatterns trees → (name : ℕ → Address)
    (table : List (Place ℕ)) (entries : List ℕ) → IsRenumbered (side_by_side trees) name table
    → AreEntries trees name table entries → length entries ≡ length trees
    → (numbered : NumberedWords) → AreWordsOfTrees trees numbered
    → IsEachAnsweredBy table entries numbered
each_word_of_list trees regular name table entries written are all numbered of_trees = record {
  patterns = record {
    all = of_trees.all;
    below = λ k inside. (
        let below = of_trees.below k inside in omega (arith, below, all));
  };
  matches = λ bytes from number utf8 edge. (
    stands_match trees regular name table entries written are numbered of_trees bytes from utf8
        edge number,
    match_of_number trees regular name table entries written are numbered of_trees bytes from utf8
        edge number,
  );
  stands = λ bytes from k way q j utf8 edge.
      stands_here trees regular name table entries written are numbered of_trees bytes from utf8
      edge k way q j;
}

-- the same where they are known of the trees
pub reported_of_words : (trees : List Tree) → AreRegularPatterns trees → (name : ℕ → Address)
    (table : List (Place ℕ)) (entries : List ℕ) → IsRenumbered (side_by_side trees) name table
    → AreEntries trees name table entries → length entries ≡ length trees
    → {X : Type 0} (value : X → NumberedWords)
    (reported : Option X) → IfSome reported (λ words. AreWordsOfTrees trees (value words))
    → IfSome reported (λ words. AreAnsweredBy table entries (value words)
    × IsEachAnsweredBy table entries (value words))
reported_of_words trees regular name table entries written are all value None of_trees = tt
reported_of_words trees regular name table entries written are all value (Some words) of_trees = (
  words_of_list trees regular name table entries written are (value words) of_trees,
  each_word_of_list trees regular name table entries written are all (value words) of_trees,
)

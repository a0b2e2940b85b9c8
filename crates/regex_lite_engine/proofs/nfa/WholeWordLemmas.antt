-- What a search finds of a pattern that is its words: the next of them.
use Rattle.regex_lite_engine.proofs.Common.{◌≡◌, ℕ, ◌+◌, ◌≤◌, List, [], ◌∷◌, length, Some}
use Rattle.regex_lite_engine.proofs.Common.{None, Option, IsUtf8, IsCharBoundary, chars, sym, ap}
use Rattle.regex_lite_engine.proofs.Common.{◌∙◌, subst, arith, encodes-chars, Text, Tree, Matches}
use Rattle.regex_lite_engine.proofs.Common.{IsRegular, Address, start_address, written_out, whole}
use Rattle.regex_lite_engine.proofs.Common.{IsMatchFrom, Found, IsAnswer, Entry, IfSome, cases_lt}
use Rattle.regex_lite_engine.proofs.Common.{offset, position_at, preference_list, IsNumberedOutcome}
use Rattle.regex_lite_engine.proofs.Common.{IsOffset, IsNumberedMatch, inl, inr}
use lib.Utf8.{encodes}
use Rattle.regex_lite_engine.specs.Graph.Places.{Place}
use Rattle.regex_lite_engine.specs.Search.NumberedOutcomes.{best_at}
use Rattle.regex_lite_engine.specs.Search.Starts.{IsAnsweredBy}
use Rattle.regex_lite_engine.specs.SearchLaws.{AreRanked}
use Rattle.regex_lite_engine.proofs.OffsetLemmas.{offset_grows, positions_order, rest_at}
use Rattle.regex_lite_engine.proofs.PositionLemmas.{position_is}
use Rattle.regex_lite_engine.proofs.laws.PatternWayLemmas.{walk_match}
use Rattle.regex_lite_engine.proofs.laws.answer.AnswerLemmas.{found_match, has_answer}
use Rattle.regex_lite_engine.proofs.laws.list.HeadLemmas.{answer_first}
use Rattle.regex_lite_engine.proofs.laws.list.RankedWalkLemmas.{all_ranked}
use Rattle.regex_lite_engine.proofs.laws.list.WordEntryLemmas.{IsHead, whole_head, words_loops}
use Rattle.regex_lite_engine.proofs.laws.search.NumberedAnswerLemmas.{found_in_part}
use Rattle.regex_lite_engine.proofs.laws.search.NumberedAnswerLemmas.{match_of_numbers}
use Rattle.regex_lite_engine.proofs.laws.search.NumberedWayLemmas.{IsPart, IsPartNumber}
use Rattle.regex_lite_syntax.specs.Prefilter.WholeWords.{IsItsWords, IsNextSpan, IsSpanOfWord}
use Rattle.regex_lite_syntax.specs.Prefilter.Words.{AnyStandsAt, AreWordsOfTree, NoneStands}
use Rattle.regex_lite_syntax.specs.Prefilter.Words.{IsFirstAt}
use Rattle.regex_lite_syntax.specs.Prefilter.Words.{word_at}
use Rattle.regex_lite_syntax.proofs.OptionLemmas.{not_there}
use Rattle.regex_lite_syntax.specs.declared.prefilter.words.letter.Letter.{Letter}

-- a match leads where a list of all ways begins
head_matches : (tree : Tree) (h : Text) (i : ℕ) (list rest : List Entry) → IsRegular tree
    → (ways : List (List ℕ)) → AreRanked tree h i ways list → (e : Entry) → list ≡ e ∷ rest
    → Matches h tree i e.0
head_matches tree h i list rest regular ways ranked e is =
    by_ways ways (subst (AreRanked tree h i ways) is ranked)
  where
    by_ways : (ways : List (List ℕ)) → AreRanked tree h i ways (e ∷ rest) → Matches h tree i e.0
    by_ways [] ranked = absurd ranked
    by_ways (way ∷ ways) (is_way, marks, before, later) =
        walk_match tree h i e.0 way regular is_way.0

same_head : {X : Type 0} (x y : X) (xs ys : List X) → x ∷ xs ≡ y ∷ ys → x ≡ y
same_head {X = X} x y xs ys e = ap first e
  where
    first : List X → X
    first [] = x
    first (z ∷ zs) = z

-- a tree that is its words matches where the first of them stands
module _ (tree : Tree) (regular : IsRegular tree) (words : List (List Letter))
    (are : IsItsWords tree words) (bytes : List ℕ) (from : ℕ) (utf8 : IsUtf8 bytes)
    (edge : IsCharBoundary bytes from) (at number : ℕ) (later : from ≤ at)
    (stands : IsFirstAt words bytes at number) (boundary : IsCharBoundary bytes at) where
  abbrev pub there : ℕ
  there = position_at bytes at

  pub is_there : IsOffset (chars bytes) there at
  is_there = position_is bytes at utf8 boundary

  pub head_there : IsHead (chars bytes) (word_at words number) there
      (preference_list (chars bytes) (whole tree) there)
  head_there = whole_head (chars bytes) tree words are there number is_there.0
      (subst (λ n. IsFirstAt words (encodes (chars bytes)) n number) is_there.1
      (subst (λ all. IsFirstAt words all at number) (sym (encodes-chars bytes utf8)) stands))

  pub match_there : IsMatchFrom tree (chars bytes) (position_at bytes from) there head_there.j
  match_there =
      let begin = position_is bytes from utf8 edge in
      record {
        from = positions_order (chars bytes) (position_at bytes from) there begin.0
            (omega (arith, begin.1, is_there.1, later));
        inside = is_there.0;
        matches =
            let all = all_ranked tree (chars bytes) there regular (words_loops tree words are) in
            head_matches tree (chars bytes) there (preference_list (chars bytes) (whole tree) there)
            head_there.rest regular all.0 all.1 (head_there.j, head_there.marks) head_there.first;
      }

  pub ends_there : (j : ℕ) × IsMatchFrom tree (chars bytes) (position_at bytes from) there j
  ends_there = (head_there.j, match_there)

module _ (tree : Tree) (regular : IsRegular tree) (words : List (List Letter))
    (begin : AreWordsOfTree tree words) (are : IsItsWords tree words)
    (table : List (Place ℕ)) (start : ℕ) (name : ℕ → Address) (Part : ℕ → Type 0)
    (r : IsPart (written_out tree) name table Part)
    (entry : IsPartNumber name Part start_address start)
    (bytes : List ℕ) (from : ℕ) (utf8 : IsUtf8 bytes) (edge : IsCharBoundary bytes from) where
  abbrev h : Text
  h = chars bytes

  abbrev s : ℕ
  s = position_at bytes from

  here : from ≡ offset h s
  here = (position_is bytes from utf8 edge).1

  same : encodes h ≡ bytes
  same = encodes-chars bytes utf8

  -- where the tree matches a word stands
  match_stands : (i j : ℕ) → Matches h tree i j → AnyStandsAt words bytes (offset h i)
  match_stands i j m =
      subst (λ all. AnyStandsAt words all (offset h i)) same
      (subst (λ (left : List ℕ). AnyStandsAt words left 0) (sym (rest_at h i)) (begin h i j m))

  none_found : ((at : ℕ) → from ≤ at → ¬ AnyStandsAt words bytes at) → (i q j : ℕ) (way : List ℕ)
      → IsNumberedMatch table h start s i way q j → ⊥
  none_found none i q j way m =
      let matches = match_of_numbers tree h table start name Part r entry regular s i q j way m in
      none (offset h i) (omega (arith, here, offset_grows h s i m.from))
      (match_stands i j matches.matches)

  module _ (span : ℕ × ℕ) (later : from ≤ span.0)
      (none : NoneStands words bytes from span.0) (word : IsSpanOfWord words bytes span) where
    abbrev i : ℕ
    i = position_at bytes span.0

    at : IsOffset h i span.0
    at = position_is bytes span.0 utf8 word.boundary

    head : IsHead h (word_at words word.number) i (preference_list h (whole tree) i)
    head = head_there tree regular words are bytes from utf8 edge span.0 word.number later
        word.stands word.boundary

    matched : IsMatchFrom tree h s i head.j
    unfolding head
    matched = match_there tree regular words are bytes from utf8 edge span.0 word.number later
        word.stands word.boundary

    by_answer : (answer : Option Found) → IsAnswer tree h s answer
        → IsNumberedOutcome table h start s (Some (span.0, span.1, []))
    by_answer None gone = absurd (gone (i, head.j, matched))
    by_answer (Some found) is =
        let low : found.start ≤ i = is.least i head.j matched in
        let stands = match_stands found.start found.end
        (found_match tree h regular s found is).matches in
        let grows = offset_grows h s found.start is.from in
        let high : span.0 ≤ offset h found.start = elim (cases_lt (offset h found.start) span.0) [
          | inl less ↦ absurd (none (offset h found.start) (omega (arith, here, grows)) less stands)
          | inr more ↦ more
        ] in
        let after : i ≤ found.start =
        positions_order h i found.start at.0 (omega (arith, at.1, high)) in
        let begins : found.start ≡ i = omega (arith, low, after) in
        let (rest, first) = answer_first tree h regular (words_loops tree words are) s found is in
        let one = same_head (found.end, found.marks) (head.j, head.marks) rest head.rest
        (sym first ∙ ap (preference_list h (whole tree)) begins ∙ head.first) in
        let ends : found.end ≡ head.j = ap (λ (e : Entry). e.0) one in (
          found,
          found_in_part tree h table start name Part r entry regular s found is,
          at.1 ∙ ap (offset h) (sym begins),
          word.end ∙ ap (λ n. n + length (word_at words word.number)) at.1 ∙ sym head.end
              ∙ ap (offset h) (sym ends),
          λ k slot there. absurd (not_there there),
        )

  answered : (span : Option (ℕ × ℕ)) → IsNextSpan words bytes from span
      → IsNumberedOutcome table h start s (best_at span [])
  answered None none = none_found none
  answered (Some span) (later, none, word) =
      let has = has_answer tree h regular s in
      by_answer span later none word has.0 has.1

-- the same where the words are known of a tree
pub words_answer : (tree : Tree) → IsRegular tree → (table : List (Place ℕ)) (start : ℕ)
    (name : ℕ → Address) (Part : ℕ → Type 0) → IsPart (written_out tree) name table Part
    → IsPartNumber name Part start_address start → (reported : Option (List (List Letter)))
    → IfSome reported (AreWordsOfTree tree) → IfSome reported (IsItsWords tree)
    → IfSome reported (IsAnsweredBy table start)
words_answer tree regular table start name Part r entry None begin are = tt
words_answer tree regular table start name Part r entry (Some words) begin are =
    λ bytes from span utf8 edge next.
    answered tree regular words begin are table start name Part r entry bytes from utf8 edge span
    next

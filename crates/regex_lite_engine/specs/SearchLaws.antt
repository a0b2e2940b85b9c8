-- Laws of preference and of answers.
use Rattle.std.specs.Prelude.{◌≡◌, ◌<◌, ◌≤◌, ◌⊎◌, ◌↔◌, ℕ, ◌+◌, ◌*◌, List, [], ◌∷◌, false}
use Rattle.std.specs.Prelude.{◌++◌, Option, Some, IsSome, is_some, slice_get, take}
use Rattle.regex_lite_syntax.specs.Text.{Text}
use Rattle.regex_lite_syntax.specs.Tree.{Tree, Trees, empty, character, class, look}
use Rattle.regex_lite_syntax.specs.Tree.{repetition, capture, concat, alternation, none, more}
use Rattle.regex_lite_syntax.specs.Tree.Properties.{captures_len, static_captures_len}
use Rattle.regex_lite_engine.specs.WayLaws.{IsPatternTree}
use Rattle.regex_lite_engine.specs.Graph.Addresses.{Address}
use Rattle.regex_lite_engine.specs.Graph.Places.{step}
use Rattle.regex_lite_engine.specs.Graph.Ways.{Leads}
use Rattle.regex_lite_engine.specs.Graph.WrittenOut.{whole, start_address}
use Rattle.regex_lite_engine.specs.Graph.WrittenOut.{place_of_pattern, IsWayThrough}
use Rattle.regex_lite_engine.specs.Search.Preference.{IsPreferred}
use Rattle.regex_lite_engine.specs.Search.Marks.{marks_of_way, span, taking_part}
use Rattle.regex_lite_engine.specs.Search.Answer.{IsOfWay, Found, IsMatchFrom}
use Rattle.regex_lite_engine.specs.Search.Answer.{HasMatchFrom, IsFound, IsAnswer}
use Rattle.regex_lite_engine.specs.Search.AnswerAt.{IsAnswerAt}
use Rattle.regex_lite_engine.specs.Search.PreferenceList.{Entry, preference_list, HasReadingLoops}

-- of two different ways from one position, one is preferred to the other
abbrev pub PreferenceIsTotal : Type 0
PreferenceIsTotal =
    (tree : Tree) (haystack : Text) (i j k : ℕ) (way other : List ℕ)
    → IsWayThrough tree haystack i way j → IsWayThrough tree haystack i other k
    → (way ≡ other) ⊎ (IsPreferred way other ⊎ IsPreferred other way)

-- the two share their arrows up to some place and position, where the first takes an earlier arrow
-- than the second
pub record IsEarlier (tree : Tree) (haystack : Text) (i : ℕ) (way other : List ℕ) : Type 0 where
  pub shared : List ℕ
  pub place : Address × ℕ
  pub there : Leads (Address × ℕ) (step haystack (place_of_pattern tree)) (start_address, i)
      shared place
  pub arrow : ℕ
  pub later_arrow : ℕ
  pub earlier : arrow < later_arrow
  pub rest : List ℕ
  pub other_rest : List ℕ
  pub is_way : way ≡ shared ++ arrow ∷ rest
  pub is_other : other ≡ shared ++ later_arrow ∷ other_rest

-- a way is preferred to another exactly if it takes the earlier arrow where they first differ
abbrev pub PreferredWaysAreEarlier : Type 0
PreferredWaysAreEarlier =
    (tree : Tree) (haystack : Text) (i j : ℕ) (way other : List ℕ)
    → IsWayThrough tree haystack i way j
    → IsPreferred way other ↔ IsEarlier tree haystack i way other

-- each search has an answer
abbrev pub HasAnswer : Type 0
HasAnswer =
    (tree : Tree) → IsPatternTree tree → (haystack : Text) (s : ℕ)
    → (answer : Option Found) × IsAnswer tree haystack s answer

-- no search has two answers
abbrev pub AtMostOneAnswer : Type 0
AtMostOneAnswer =
    (tree : Tree) → IsPatternTree tree → (haystack : Text) (s : ℕ) (a b : Option Found)
    → IsAnswer tree haystack s a → IsAnswer tree haystack s b → a ≡ b

-- something is found exactly if the tree matches from a position at or after the start, and what is
-- found is such a match
abbrev pub AnswersAreMatches : Type 0
AnswersAreMatches =
    (tree : Tree) → IsPatternTree tree → (haystack : Text) (s : ℕ) (answer : Option Found)
    → IsAnswer tree haystack s answer
    → (IsSome answer ↔ HasMatchFrom tree haystack s)
    × ((found : Found) → answer ≡ Some found
    → IsMatchFrom tree haystack s found.start found.end)

-- an anchored search finds something exactly if the search from there finds it and it starts there
abbrev pub AnchoredAnswersAreAnswers : Type 0
AnchoredAnswersAreAnswers =
    (tree : Tree) (haystack : Text) (s : ℕ) (found : Found)
    → IsAnswerAt false tree haystack s (Some found)
    ↔ ((found.start ≡ s) × IsAnswer tree haystack s (Some found))

-- the way is preferred to each of these
abbrev pub IsBefore : List ℕ → List (List ℕ) → Type 0
IsBefore way [] = Unit {0}
IsBefore way (other ∷ ways) = IsPreferred way other × IsBefore way ways

-- these are ways from position i, each preferred to those after it, and the entries are their ends
-- and marks
abbrev pub AreRanked : Tree → Text → (i : ℕ) → List (List ℕ) → List Entry → Type 0
AreRanked tree haystack i [] [] = Unit {0}
AreRanked tree haystack i [] (entry ∷ list) = ⊥
AreRanked tree haystack i (way ∷ ways) [] = ⊥
AreRanked tree haystack i (way ∷ ways) (entry ∷ list) =
    IsWayThrough tree haystack i way entry.0 × (entry.1 ≡ marks_of_way tree haystack i way)
    × IsBefore way ways × AreRanked tree haystack i ways list

-- the preference list has all ways from the position, in the order of preference
abbrev pub ListIsOfAllWays : Type 0
ListIsOfAllWays =
    (tree : Tree) → IsPatternTree tree → HasReadingLoops tree → (haystack : Text) (i : ℕ)
    → (ways : List (List ℕ))
    × AreRanked tree haystack i ways (preference_list haystack (whole tree) i)
    × ((way : List ℕ) (j : ℕ) → IsWayThrough tree haystack i way j
    → (k : ℕ) × (slice_get ways k ≡ Some way))

-- the end and the marks of what is found are the head of the preference list at its start
abbrev pub AnswerIsHead : Type 0
AnswerIsHead =
    (tree : Tree) → IsPatternTree tree → HasReadingLoops tree → (haystack : Text) (s : ℕ)
    (found : Found) → IsFound tree haystack s found
    → (rest : List Entry)
    × (preference_list haystack (whole tree) found.start ≡ (found.end, found.marks) ∷ rest)

-- Group 0 is the whole match. A group marks both its slots or neither, and one that took part lies
-- inside the whole match and starts no later than it ends
pub record HasGroupsInside (found : Found) : Type 0 where
  pub whole : span found.marks 0 ≡ Some (found.start, found.end)
  pub paired : (index : ℕ)
      → is_some (found.marks (2 * index)) ≡ is_some (found.marks (2 * index + 1))
  pub inside : (index from to : ℕ) → span found.marks index ≡ Some (from, to)
      → (found.start ≤ from) × (from ≤ to) × (to ≤ found.end)

-- the groups of whatever a search finds lie inside
abbrev pub GroupsLieInside : Type 0
GroupsLieInside =
    (tree : Tree) → IsPatternTree tree → (haystack : Text) (found : Found)
    → IsOfWay tree haystack found → HasGroupsInside found

-- at least as many groups take part in what is found as are known to take part in every match,
-- including the whole match
abbrev pub EnoughTakePart : Type 0
EnoughTakePart =
    (tree : Tree) → IsPatternTree tree → (haystack : Text) (found : Found) (n : ℕ)
    → IsOfWay tree haystack found → static_captures_len tree ≡ Some n
    → n ≤ taking_part found.marks 0 (captures_len tree)

abbrev mutual
  -- the tree has no look
  pub HasNoLook : Tree → Type 0
  HasNoLook (look test) = ⊥
  HasNoLook (repetition least most greedy body) = HasNoLook body
  HasNoLook (capture index name body) = HasNoLook body
  HasNoLook (concat parts) = HaveNoLook parts
  HasNoLook (alternation branches) = HaveNoLook branches
  HasNoLook empty = Unit {0}
  HasNoLook (character c) = Unit {0}
  HasNoLook (class ranges) = Unit {0}

  pub HaveNoLook : Trees → Type 0
  HaveNoLook none = Unit {0}
  HaveNoLook (more a rest) = HasNoLook a × HaveNoLook rest

-- what is found of such a tree is also found if the haystack is cut off at the match's end
abbrev pub AnswersNeedNoLaterText : Type 0
AnswersNeedNoLaterText =
    (tree : Tree) → IsPatternTree tree → HasNoLook tree → (haystack : Text) (s : ℕ)
    (found : Found) → IsFound tree haystack s found
    → IsFound tree (take found.end haystack) s found

-- Words of which each match has one, and what stands before it.
use Rattle.std.specs.Prelude.{All, ◌≡◌, ◌≤◌, ◌<◌, ℕ, List, Option, MatchOption, drop, true, length}
use Rattle.std.specs.Prelude.{encode_utf8_all, slice_index, slice_index_or}
use Rattle.regex_lite_syntax.specs.Text.{Text}
use Rattle.regex_lite_syntax.specs.Tree.{Tree}
use Rattle.regex_lite_syntax.specs.Tree.Matches.{Matches}
use Rattle.regex_lite_syntax.specs.declared.prefilter.first_set.FirstSet.{FirstSet}
use Rattle.regex_lite_syntax.specs.declared.prefilter.words.letter.Letter.{Letter}
use Rattle.regex_lite_syntax.specs.declared.prefilter.words.needed.Reach.{Reach}
use Rattle.regex_lite_syntax.specs.declared.prefilter.words.pair.Pair.{Pair}
use Rattle.regex_lite_syntax.specs.Prefilter.FirstSet.{begins_with}
use Rattle.regex_lite_syntax.specs.Prefilter.Words.{AnyStandsAt, NoneStands, word_at}

-- words, and the characters that may stand between a match's start and one of them
pub record NeededWords : Type 0 where
  pub words : List (List Letter)
  pub lead : FirstSet

-- one of the words stands there, and from the offset on only such characters stand before it
abbrev pub IsReached : NeededWords → (bytes : List ℕ) → (from at : ℕ) → Type 0
IsReached needed bytes from at =
    (from ≤ at) × AnyStandsAt needed.words bytes at
    × ((k : ℕ) → from ≤ k → k < at → begins_with needed.lead (slice_index bytes k) ≡ true)

-- one is reached from the offset
abbrev pub Reaches : NeededWords → (bytes : List ℕ) → (from : ℕ) → Type 0
Reaches needed bytes from = (at : ℕ) × IsReached needed bytes from at

-- wherever the tree matches, one is reached from the match's start
abbrev pub IsNeededBy : Tree → NeededWords → Type 0
IsNeededBy tree needed =
    (haystack : Text) (i j : ℕ) → Matches haystack tree i j
    → Reaches needed (encode_utf8_all (drop i haystack)) 0

-- wherever any of these trees matches
abbrev pub AreNeededByEach : List Tree → NeededWords → Type 0
AreNeededByEach trees needed = All (λ tree. IsNeededBy tree needed) trees

-- none is reached from the position
abbrev pub IsOutOfReach : NeededWords → Text → ℕ → Type 0
IsOutOfReach needed haystack i = ¬ Reaches needed (encode_utf8_all (drop i haystack)) 0

-- the first offset from this one on from which one is reached, and where the first stands
abbrev pub IsNextReach : NeededWords → (bytes : List ℕ) → (from : ℕ) → Option Reach → Type 0
IsNextReach needed bytes from next = MatchOption next
    ((k : ℕ) → from ≤ k → ¬ Reaches needed bytes k)
    (λ reach. (from ≤ reach.from) × IsReached needed bytes reach.from reach.word
    × NoneStands needed.words bytes from reach.word
    × ((k : ℕ) → from ≤ k → k < reach.from → ¬ Reaches needed bytes k))

-- the first offset from this one on at which one of the words stands
abbrev pub IsNextOf : (words : List (List Letter)) → (bytes : List ℕ) → (from : ℕ) → Option ℕ
    → Type 0
IsNextOf words bytes from next = MatchOption next
    ((at : ℕ) → from ≤ at → ¬ AnyStandsAt words bytes at)
    (λ at. (from ≤ at) × NoneStands words bytes from at × AnyStandsAt words bytes at)

-- the first from this one on and before the limit
abbrev pub IsNextBelow : (words : List (List Letter)) → (bytes : List ℕ) → (from limit : ℕ)
    → Option ℕ → Type 0
IsNextBelow words bytes from limit next = MatchOption next
    (NoneStands words bytes from limit)
    (λ at. (from ≤ at) × NoneStands words bytes from at × AnyStandsAt words bytes at)

-- the pair with this number
abbrev pub pair_at : List Pair → ℕ → Pair
pair_at pairs k = slice_index_or pairs k (record { first = 0; second = 0 })

-- each of the first words, as many as that, has the pair with its number: two letters of it
abbrev pub HavePairs : (words : List (List Letter)) → (count : ℕ) → (pairs : List Pair) → Type 0
HavePairs words count pairs =
    (k : ℕ) → k < count → ((pair_at pairs k).first < length (word_at words k))
    × ((pair_at pairs k).second < length (word_at words k))

-- The matches ahead of an iterator: those that it has still to return.
use Rattle.std.specs.Prelude.{◌≡◌, ◌≢◌, ◌⊎◌, ◌≤◌, ◌<◌, ◌+◌, ◌-◌, ℕ, zero, List, Option, Some, None}
use Rattle.std.specs.Prelude.{option_map, chars, length}
use Rattle.std.specs.Iterator.{Count, at_most}
use Rattle.regex_lite_syntax.specs.Text.{Text}
use Rattle.regex_lite_engine.specs.Search.Answer.{Found}
use Rattle.regex_lite_engine.specs.Search.Offsets.{position_at}
use Rattle.regex_lite.specs.Expression.{Expression}
use Rattle.regex_lite.specs.MatchList.{AreSomeWithin, AreWithin, IsAnswerOf, IsNext, IsNextAnswer}
use Rattle.regex_lite.specs.MatchList.{one_less}
use Rattle.regex_lite.specs.Scanning.{RegexSearching, Scanning}

-- the matches of a regex or of several patterns in a haystack, given as its bytes, after a match
-- that ended at this position, up to a limit if there is one
pub record AheadOf (S : Type 0) : Type 0 where
  pub sought : S
  pub haystack : List ℕ
  pub limit : Option ℕ
  pub ended : Option ℕ

module _ {S : Type 0} where
  -- all matches in the haystack, up to the limit
  abbrev pub whole : S → (haystack : List ℕ) → (limit : Option ℕ) → AheadOf S
  whole own haystack limit =
      record { sought = own; haystack = haystack; limit = limit; ended = None }

  -- the matches after one that ended at this offset, or all matches
  abbrev pub after : S → (haystack : List ℕ) → (ended : Option ℕ) → AheadOf S
  after own haystack ended = record {
    sought = own;
    haystack = haystack;
    limit = None;
    ended = option_map (position_at haystack) ended;
  }

  -- the matches ahead once this match was returned
  abbrev pub ahead_after : AheadOf S → Found → AheadOf S
  ahead_after ahead found = record ahead { limit = one_less ahead.limit; ended = Some found.end }

  -- no match is ahead in the same haystack
  abbrev pub at_end : AheadOf S → AheadOf S
  at_end ahead = record ahead { limit = Some 0 }

-- The answers of searches determine the matches ahead; `found_of` is the match of an answer
module _ {S A : Type 0} (found_of : A → Found)
    (IsAnswerTo : S → Text → (s : ℕ) → Option A → Type 0) where
  -- this answer comes next, or none comes
  abbrev pub AnswerComesNext : AheadOf S → Option A → Type 0
  AnswerComesNext ahead answer =
      IsNextAnswer found_of (IsAnswerTo ahead.sought (chars ahead.haystack)) ahead.ended answer

  -- no answer is ahead
  abbrev pub NoneIsAhead : AheadOf S → Type 0
  NoneIsAhead ahead = (ahead.limit ≡ Some 0) ⊎ AnswerComesNext ahead None

  -- this answer was passed
  pub record PassesAnswer (old : AheadOf S) (answer : A) (new : AheadOf S) : Type 0 where
    pub may_come : old.limit ≢ Some 0
    pub comes : AnswerComesNext old (Some answer)
    pub passed : new ≡ ahead_after old (found_of answer)

  -- no answer was ahead, and none is ahead from then on
  pub record EndsAhead (old new : AheadOf S) : Type 0 where
    pub over : NoneIsAhead old
    pub ended : new ≡ at_end old

-- The definitions above for a regex, whose answers are its matches

abbrev pub Ahead : Type 0
Ahead = AheadOf Expression

-- these are the matches ahead
abbrev pub AreAhead : Ahead → List Found → Type 0
AreAhead ahead = AreWithin ahead.sought (chars ahead.haystack) ahead.limit ahead.ended

-- this many matches are ahead
abbrev pub AreSoManyAhead : Ahead → (count : ℕ) → Type 0
AreSoManyAhead ahead count = (found : List Found) × AreAhead ahead found × (count ≡ length found)

-- these are some of the matches ahead, from the first on
abbrev pub AreFirstAhead : Ahead → List Found → Type 0
AreFirstAhead ahead = AreSomeWithin ahead.sought (chars ahead.haystack) ahead.limit ahead.ended

-- this match comes next, or none comes
abbrev pub ComesNext : Ahead → Option Found → Type 0
ComesNext ahead = IsNext ahead.sought (chars ahead.haystack) ahead.ended

-- no match is ahead
abbrev pub IsOver : Ahead → Type 0
IsOver ahead = NoneIsAhead (λ own. own) IsAnswerOf ahead

-- this match was passed
abbrev pub Passes : (old : Ahead) → Found → (new : Ahead) → Type 0
Passes old found new = PassesAnswer (λ own. own) IsAnswerOf old found new

-- no match was ahead, and none is ahead from then on
abbrev pub Ends : (old new : Ahead) → Type 0
Ends old new = EndsAhead (λ own. own) IsAnswerOf old new

-- a span that begins where the last match ended or later, and ends later
abbrev pub IsOnward : (ended : Option ℕ) → ℕ × ℕ → Type 0
IsOnward None span = Unit {0}
IsOnward (Some end) span = (end ≤ span.0) × (end < span.1)

-- an upper bound of the number of matches ahead, in a haystack of this length in bytes, after a
-- match that ended there
abbrev pub most_left : (limit : Option ℕ) → (bytes : ℕ) → (ended : Option ℕ) → ℕ
most_left (Some zero) bytes ended = 0
most_left limit bytes None = bytes + 2
most_left limit bytes (Some end) = (bytes + 1) - end

-- The matches ahead of scans and iterators

abbrev pub ahead_by : {F S : Type 0} → (sought : F → S) → Scanning F → AheadOf S
ahead_by sought scan = record {
  sought = sought scan.finder;
  haystack = scan.haystack;
  limit = scan.limit;
  ended = option_map (position_at scan.haystack) scan.ended;
}

abbrev pub ahead : Scanning RegexSearching → Ahead
ahead scan = ahead_by (λ own. own.regex) scan

abbrev pub most_ahead : {F : Type 0} → Scanning F → ℕ
most_ahead scan = most_left scan.limit (length scan.haystack) scan.ended

abbrev pub ahead_of : Scanning Expression → Ahead
ahead_of it = ahead_by (λ own. own) it

abbrev pub most_matches : {S : Type 0} → Scanning S → Count
most_matches it = at_most (most_ahead it)

-- Where a match can begin, by the characters beside a position.
use Rattle.std.specs.Prelude.{◌≡◌, ◌⊎◌, ◌≤◌, ◌<◌, ℕ, Bool, true, false, ◌&&◌, ◌||◌, Option, Some}
use Rattle.std.specs.Prelude.{None, is_none, IsTrue, if◌then◌else◌, nat_lt, slice_get}
use Rattle.std.specs.Prelude.{slice_index_or, List}
use Rattle.std.specs.List.{list_any}
use Rattle.regex_lite_syntax.specs.Text.{Text, before, after}
use Rattle.regex_lite_syntax.specs.Sets.{Set}
use Rattle.regex_lite_syntax.specs.Tree.{Tree, Trees, more, none}
use Rattle.regex_lite_syntax.specs.Tree.Matches.{Matches}
use Rattle.regex_lite_syntax.specs.declared.prefilter.first_set.FirstSet.{FirstSet}

-- the characters with which a match can begin
abbrev pub begins_with : FirstSet → Set
begins_with starts c =
    starts.any && (if nat_lt c 128 then slice_index_or starts.ascii c true else starts.others)

-- the bytes with which such a character may begin in UTF-8. One that is not ASCII begins with 0xC0
-- or more, and a byte in between is inside a character
abbrev pub stops_at : FirstSet → ℕ → Bool
stops_at starts byte =
    starts.any
    && (if nat_lt byte 128 then slice_index_or starts.ascii byte true
    else (if nat_lt byte 192 then false else starts.others))

-- a match can begin between these neighbours
abbrev pub may_begin : FirstSet → (before after : Option ℕ) → Bool
may_begin starts b None = true
may_begin starts b (Some c) = begins_with starts c || (starts.at_start && is_none b)

-- one can begin at the position
abbrev pub MayBegin : FirstSet → Text → ℕ → Type 0
MayBegin starts haystack i = IsTrue (may_begin starts (before haystack i) (after haystack i))

-- the tree matches from no other position
abbrev pub IsFirstSetOfTree : Tree → FirstSet → Type 0
IsFirstSetOfTree tree starts =
    (haystack : Text) (i j : ℕ) → Matches haystack tree i j → MayBegin starts haystack i

-- a match can begin wherever one could before
pub record IsWider (before after : FirstSet) : Type 0 where
  pub with : (c : ℕ) → begins_with before c ≡ true → begins_with after c ≡ true
  pub at_start : before.at_start ≡ true → after.at_start ≡ true

-- a match can begin with each character of the set
abbrev pub HasAll : FirstSet → Set → Type 0
HasAll starts set = (c : ℕ) → set c ≡ true → begins_with starts c ≡ true

-- the tree matches from no other position unless it is passable there: it then reads nothing
abbrev pub BeginsOrPasses : Tree → FirstSet → (passable : Bool) → Type 0
BeginsOrPasses tree starts passable =
    (haystack : Text) (i j : ℕ) → Matches haystack tree i j
    → MayBegin starts haystack i ⊎ (IsTrue passable × (i ≡ j))

-- a match can begin with what it could begin with before, or with what the other lets it
pub record IsUnion (before other after : FirstSet) : Type 0 where
  pub with : (c : ℕ) → begins_with after c ≡ (begins_with before c || begins_with other c)
  pub at_start : after.at_start ≡ (before.at_start || other.at_start)

-- a match can begin with what one of these lets it begin with, and with nothing else
pub record IsUnionOf (parts : List FirstSet) (starts : FirstSet) : Type 0 where
  pub with : (c : ℕ) → begins_with starts c ≡ list_any (λ part. begins_with part c) parts
  pub at_start : starts.at_start ≡ list_any (λ part. part.at_start) parts

-- the characters between the positions are of these
abbrev pub AreBetween : FirstSet → Text → (i j : ℕ) → Type 0
AreBetween starts haystack i j =
    (k c : ℕ) → i ≤ k → k < j → slice_get haystack k ≡ Some c → begins_with starts c ≡ true

-- so are those that a match of the tree reads
abbrev pub ReadsAmong : Tree → FirstSet → Type 0
ReadsAmong tree starts =
    (haystack : Text) (i j : ℕ) → Matches haystack tree i j → AreBetween starts haystack i j

-- and those that a match of any of these trees reads
abbrev pub EachReadsAmong : Trees → FirstSet → Type 0
EachReadsAmong none starts = Unit {0}
EachReadsAmong (more tree trees) starts = ReadsAmong tree starts × EachReadsAmong trees starts

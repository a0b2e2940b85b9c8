-- How far the grammar reads a pattern, and the place of its first fault.
use Rattle.std.specs.Prelude.{◌≡◌, ◌⊎◌, ℕ, ◌+◌, ◌<◌, ◌≤◌, List, [], ◌++◌, length, drop, take}
use Rattle.std.specs.Prelude.{MatchOption}
use Rattle.regex_lite_syntax.specs.declared.error.ErrorKind.{ErrorKind}
use Rattle.regex_lite_syntax.specs.declared.error.ErrorKind.TheVariants.{Groups, Memory}
use Rattle.regex_lite_syntax.specs.declared.flags.Flags.{Flags}
use Rattle.regex_lite_syntax.specs.declared.parse.fault.FaultPlace.{FaultPlace}
use Rattle.regex_lite_syntax.specs.Text.{Text}
use Rattle.regex_lite_syntax.specs.Tree.{Tree}
use Rattle.regex_lite_syntax.specs.Grammar.{Alternatives, HasTree}
use Rattle.regex_lite_syntax.specs.Grammar.Gaps.{Gap, WholeGap}
use Rattle.regex_lite_syntax.specs.Grammar.GroupNames.{NamesDiffer}
use Rattle.regex_lite_syntax.specs.Grammar.Heads.{GroupKind, Head}
use Rattle.regex_lite_syntax.specs.Limits.{GroupsRefused}
use Rattle.regex_lite_syntax.specs.Grammar.Points.{Point, PastGap, start}

-- from p up to q the pattern is read as alternatives, and as those of groups that begin in them and
-- are still open at q, this many of them
pub data ReadsOn : (level : ℕ) → Point → Point → Type 0 where
  outside : {level : ℕ} {p q : Point} (branches : List Tree)
      → level ≡ 0
      → Alternatives 0 p q branches
      → ReadsOn level p q
  in_group : {level : ℕ} {p q : Point}
      (around : ℕ) (last here first : Point) (kind : GroupKind) (branches : List Tree)
      → level ≡ around + 1
      → ReadsOn around p last
      → PastGap last here
      → Head around here first kind
      → Alternatives level first q branches
      → ReadsOn level p q

-- under these flags the pattern is read from its beginning up to q, and no name occurs twice in it
pub record IsReadTo (flags : Flags) (pattern : Text) (q : Point) : Type 0 where
  pub level : ℕ
  pub reads : ReadsOn level (start flags pattern) q
  pub names_differ : NamesDiffer q.names

-- the pattern is read up to the end of its first k characters, except for a gap there, and no
-- further
pub record IsStuckAt (flags : Flags) (pattern : Text) (k : ℕ) : Type 0 where
  pub last : Point
  pub reads : IsReadTo flags pattern last
  pub gap : WholeGap last.flags.ignore_whitespace last.rest (drop k pattern)
  pub farthest : (q : Point) → IsReadTo flags pattern q → length last.rest ≤ length q.rest

-- the pattern is read to its end, and the innermost group that is open there begins after its first
-- k characters
pub record IsUnclosedAt (flags : Flags) (pattern : Text) (k : ℕ) : Type 0 where
  pub level : ℕ
  pub last : Point
  pub here : Point
  pub first : Point
  pub kind : GroupKind
  pub end : Point
  pub branches : List Tree
  pub before : ReadsOn level (start flags pattern) last
  pub past : PastGap last here
  pub begins : here.rest ≡ drop k pattern
  pub head : Head level here first kind
  pub within : Alternatives (level + 1) first end branches
  pub ends : Gap end.flags.ignore_whitespace end.rest []
  pub names_differ : NamesDiffer end.names

-- under these flags the first fault of the pattern begins after its first k characters
pub record IsFaultAt (flags : Flags) (pattern : Text) (k : ℕ) : Type 0 where
  pub inside : k < length pattern
  pub place : IsStuckAt flags pattern k ⊎ IsUnclosedAt flags pattern k

-- under these flags no accepted pattern begins with the text
abbrev pub BeginsNone : Flags → Text → Type 0
BeginsNone flags text = (more : Text) → HasTree flags (text ++ more) → ⊥

-- under these flags some accepted pattern begins with the text
abbrev pub BeginsSome : Flags → Text → Type 0
BeginsSome flags text = (more : Text) × HasTree flags (text ++ more)

-- `end` is the length of the shortest prefix, longer than `start`, with which no accepted pattern
-- begins
pub record IsEndOfFault (flags : Flags) (pattern : Text) (start end : ℕ) : Type 0 where
  pub past : start < end
  pub inside : end ≤ length pattern
  pub none : BeginsNone flags (take end pattern)
  pub least : (k : ℕ) → start < k → k < end → BeginsSome flags (take k pattern)

-- the place begins at the first fault of the pattern; it has an end if no accepted pattern begins
-- with the pattern, and none if some does
pub record IsPlaceOfFault (flags : Flags) (pattern : Text) (place : FaultPlace) : Type 0 where
  pub starts : IsFaultAt flags pattern place.start
  pub ends : MatchOption place.end (BeginsSome flags pattern)
      (IsEndOfFault flags pattern place.start)

-- an error of this kind may be returned instead of the place of the fault; memory may run out with
-- any pattern
abbrev pub IsUntold : Flags → Text → ErrorKind → Type 0
IsUntold flags pattern Groups = GroupsRefused flags pattern
IsUntold flags pattern Memory = Unit {0}
IsUntold flags pattern _ = ⊥

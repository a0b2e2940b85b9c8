-- The parser as a state of the machine, and what each of its steps does to it.
use Rattle.std.specs.Prelude.{◌≡◌, ℕ, ◌+◌, ◌<◌, ◌≤◌, List, [], ◌∷◌, ◌++◌, Option, map, option_map}
use Rattle.std.specs.Prelude.{reverse, length, drop, max as greatest}
use Rattle.regex_lite_syntax.specs.declared.flags.Flags.{Flags}
use Rattle.regex_lite_syntax.specs.declared.parse.level.OpenGroup.{OpenGroup}
use Rattle.regex_lite_syntax.specs.declared.parse.level.GroupKind.{GroupKind as Kind}
use Rattle.regex_lite_syntax.specs.declared.parse.level.GroupKind.TheVariants.{
  NonCapturing,
  Capturing,
}
use Rattle.regex_lite_syntax.specs.declared.parse.Parser.{Parser}
use Rattle.regex_lite_syntax.specs.Text.{Text, the}
use Rattle.regex_lite_syntax.specs.Characters.{AreCharacters}
use Rattle.regex_lite_syntax.specs.Tree.{Tree, choice_of}
use Rattle.regex_lite_syntax.specs.Grammar.GroupNames.{NamesDiffer}
use Rattle.regex_lite_syntax.specs.Grammar.Points.{Point, onward}
use Rattle.regex_lite_syntax.specs.Grammar.Heads.{GroupKind, non_capturing, capturing}
use Rattle.regex_lite_syntax.specs.Grammar.Heads.{numbered_on, inside, Head}
use Rattle.regex_lite_syntax.specs.Parser.Machine.{Frame, State, Step, ended, opened}
use Rattle.regex_lite_syntax.specs.Parser.Machine.{closed, parted, with_items}
use Rattle.regex_lite_syntax.specs.Limits.{PassesGroups, depth}
use Rattle.regex_lite_syntax.specs.Tree.Views.{text_of_name, tree_of}

-- the kind of a group
abbrev pub group_kind : Kind → GroupKind
group_kind NonCapturing = non_capturing
group_kind (Capturing index name) = capturing index (option_map text_of_name name)

-- the frame of an open group
abbrev pub frame_of : OpenGroup → Frame
frame_of group = record {
  flags = group.outer.flags;
  kind = group_kind group.kind;
  branches = map tree_of group.outer.branches.items;
  items = map tree_of group.outer.items.items;
}

-- the parser as a state, with what is left of the pattern, and the greatest number of nested groups
unfoldable pub state : Parser → (rest : Text) → (deepest : ℕ) → State
state p rest deepest = record {
  point = record {
    rest = rest;
    flags = p.here.flags;
    groups = p.groups;
    names = p.names;
    deepest = deepest;
  };
  frames = reverse (map frame_of p.below.items);
  branches = map tree_of p.here.branches.items;
  items = map tree_of p.here.items.items;
}

-- a step of the machine leads from one state to the other, and afterwards no name occurs twice
abbrev pub FreshStep : (s q : State) → Type 0
FreshStep s q = Step s q × (NamesDiffer s.point.names → NamesDiffer q.point.names)

-- such a step leads from the parser before t to the parser before u
abbrev pub StepsTo : (before after : Parser) → (t u : Text) → Type 0
StepsTo before after t u = (d : ℕ) → (e : ℕ) × FreshStep (state before t d) (state after u e)

-- the parser read on from one index of the pattern to a later one
pub record Advances (before after : Parser) (pattern : Text) (at next : ℕ) : Type 0 where
  pub further : at < next
  pub in_pattern : next ≤ length pattern
  pub reads : StepsTo before after (drop at pattern) (drop next pattern)

-- the machine has a step from the parser before t, after which no name occurs twice
abbrev pub CanRead : Parser → Text → Type 0
CanRead p t = (d : ℕ) × (q : State) × Step (state p t d) q × NamesDiffer q.point.names

-- with more of the pattern after t the machine has a step from the parser, after which only a `_`
-- is left
abbrev pub CanReadOn : Parser → Text → Type 0
CanReadOn p t = (d : ℕ) → (more : Text) × (q : State) × AreCharacters more
    × FreshStep (state p (t ++ more) d) q × (q.point.rest ≡ the "_" ∷ [])

-- a numbered group begins at the parser's point before t
abbrev pub BeginsCapture : Parser → Text → Type 0
BeginsCapture p t = (name : Option Text) × ((d : ℕ) →
    let s = state p t d in
    (first : Point) × Head (length s.frames) s.point first (capturing (s.point.groups + 1) name))

-- a group that can't be numbered begins at the parser's point before t
abbrev pub BeginsTooMany : Parser → Text → Type 0
BeginsTooMany p t = PassesGroups (p.groups + 1) × BeginsCapture p t

-- a group was opened, in which these flags hold
abbrev pub OpensGroup : (before after : Parser) → GroupKind → Flags → Type 0
OpensGroup before after kind flags = (t u : Text) (d : ℕ) →
    let s = state before t d in
    let level = length s.frames in
    state after u (greatest d (level + 1)) ≡ opened s s.point (inside level s.point flags u) kind

-- a numbered group was opened
abbrev pub OpensCapture : (before after : Parser) → (name : Option Text) → Type 0
OpensCapture before after name = (t u : Text) (d : ℕ) →
    let s = state before t d in
    let level = length s.frames in
    let first = numbered_on (inside level s.point s.point.flags u) in
    state after u (greatest d (level + 1))
    ≡ opened s s.point first (capturing (s.point.groups + 1) name)

-- these flags hold from here on
abbrev pub Directs : (before after : Parser) → Flags → Type 0
Directs before after flags = (t u : Text) (d : ℕ) →
    let s = state before t d in
    state after u d ≡ with_items s (record s.point { rest = u; flags = flags }) s.items

-- the innermost group was closed
abbrev pub Closes : (before after : Parser) → Type 0
Closes before after = (t u : Text) (d : ℕ) →
    let s = state before t d in
    (f : Frame) × (frames : List Frame) × (s.frames ≡ f ∷ frames)
    × (state after u d ≡ closed s s.point f frames u)

-- a branch was ended
abbrev pub EndsBranch : (before after : Parser) → Type 0
EndsBranch before after = (t u : Text) (d : ℕ) →
    let s = state before t d in state after u d ≡ parted s (onward s.point u)

-- an item was added to the branch
abbrev pub Adds : (before after : Parser) → Tree → Type 0
Adds before after a = (t u : Text) (d : ℕ) →
    let s = state before t d in
    state after u d ≡ with_items s (onward s.point u) (s.items ++ a ∷ [])

-- no group is open, and this is the tree of all that was read
abbrev pub Finishes : Parser → Tree → Type 0
Finishes p a = (t : Text) (d : ℕ) →
    let s = state p t d in (s.frames ≡ []) × (a ≡ choice_of (ended s))

-- the tree of all that was read is deeper than the limit
abbrev pub FinishesTooDeep : Parser → (nest_limit : ℕ) → Type 0
FinishesTooDeep p nest_limit = (a : Tree) × Finishes p a × (nest_limit < depth a)

-- What the parser has read, as the states of a deterministic machine.
use Rattle.std.specs.Prelude.{◌≡◌, ◌⊎◌, ℕ, Bool, ◌||◌, ◌==◌, length, List}
use Rattle.std.specs.Prelude.{[], ◌∷◌, ◌++◌, Option, is_some, if◌then◌else◌}
use Rattle.regex_lite_syntax.specs.declared.flags.Flags.{Flags}
use Rattle.regex_lite_syntax.specs.Text.{Text, the}
use Rattle.regex_lite_syntax.specs.Grammar.Gaps.{EndsGap}
use Rattle.regex_lite_syntax.specs.Tree.{Tree, sequence_of, choice_of, repeated}
use Rattle.regex_lite_syntax.specs.Grammar.Operators.{times, Operator}
use Rattle.regex_lite_syntax.specs.Grammar.Atoms.{Atom}
use Rattle.regex_lite_syntax.specs.Grammar.Points.{Point, onward, PastGap, start}
use Rattle.regex_lite_syntax.specs.Grammar.Heads.{GroupKind, group_tree, Head, Directive}

-- what surrounds an open group: the flags and the ended branches and items before it, and its kind
pub record Frame : Type 0 where
  pub flags : Flags
  pub kind : GroupKind
  pub branches : List Tree
  pub items : List Tree

-- the frame of the innermost open group comes first
pub record State : Type 0 where
  pub point : Point
  pub frames : List Frame
  pub branches : List Tree
  pub items : List Tree

abbrev pub first_state : Flags → Text → State
first_state flags pattern =
    record { point = start flags pattern; frames = []; branches = []; items = [] }

-- all branches of the innermost group, the last one ended
abbrev pub ended : State → List Tree
ended s = s.branches ++ sequence_of s.items ∷ []

-- a group was opened at p, and its alternatives begin at q
unfoldable pub opened : State → (p q : Point) → GroupKind → State
opened s p q kind = record {
  point = q;
  frames =
      record { flags = p.flags; kind = kind; branches = s.branches; items = s.items } ∷ s.frames;
  branches = [];
  items = [];
}

-- the innermost group, whose frame is f, was closed at p
unfoldable pub closed : State → Point → Frame → List Frame → Text → State
closed s p f frames rest = record {
  point = record p { rest = rest; flags = f.flags };
  frames = frames;
  branches = f.branches;
  items = f.items ++ group_tree f.kind (choice_of (ended s)) ∷ [];
}

-- a branch was ended
unfoldable pub parted : State → Point → State
parted s p = record { point = p; frames = s.frames; branches = ended s; items = [] }

-- the items of the last branch are now these
unfoldable pub with_items : State → Point → List Tree → State
with_items s p items = record { point = p; frames = s.frames; branches = s.branches; items = items }

-- the kind of step, by the first character of a text
pub data Kind : Type 0 where
  stop paren closing bar operator atom : Kind

abbrev pub kind_at : Text → Kind
kind_at [] = stop
kind_at (c ∷ t) =
    if c == the "(" then paren
    else if c == the ")" then closing
    else if c == the "|" then bar
    else if is_some (times c) || c == the "{" then operator
    else atom

-- at p, after the gap, such a character leads from one state to the other
abbrev pub Does : Kind → State → Point → State → Type 0
Does stop s p q = ⊥
Does paren s p q =
    ((first : Point) × (kind : GroupKind) × Head (length s.frames) p first kind
    × (q ≡ opened s p first kind))
    ⊎ ((past : Point) × Directive p past × (q ≡ with_items s past s.items))
Does closing s p q =
    (rest : Text) × (f : Frame) × (frames : List Frame) × (p.rest ≡ the ")" ∷ rest)
    × (s.frames ≡ f ∷ frames) × (q ≡ closed s p f frames rest)
Does bar s p q = (rest : Text) × (p.rest ≡ the "|" ∷ rest) × (q ≡ parted s (onward p rest))
Does operator s p q =
    (rest : Text) × (before : List Tree) × (a : Tree)
    × (least : ℕ) × (most : Option ℕ) × (greedy : Bool)
    × (s.items ≡ before ++ a ∷ []) × Operator p.flags p.rest rest least most greedy
    × (q ≡ with_items s (onward p rest) (before ++ repeated least most greedy a ∷ []))
Does atom s p q =
    (rest : Text) × (a : Tree) × Atom p.flags p.rest rest a
    × (q ≡ with_items s (onward p rest) (s.items ++ a ∷ []))

-- one step of the machine
pub record Step (s q : State) : Type 0 where
  pub past : Point
  pub gap : PastGap s.point past
  pub ends : EndsGap s.point.flags.ignore_whitespace past.rest
  pub does : Does (kind_at past.rest) s past q

-- steps lead from one state to the other
pub data LeadsOn : State → State → Type 0 where
  stay : {s q : State} → s ≡ q → LeadsOn s q
  go : {s q : State} (m : State) → Step s m → LeadsOn m q → LeadsOn s q

-- the text begins with the first character of an item that isn't a group
abbrev pub BeginsAtom : Text → Type 0
BeginsAtom t = kind_at t ≡ atom

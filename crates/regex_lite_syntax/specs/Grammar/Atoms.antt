-- The items that aren't groups.
use Rattle.std.specs.Prelude.{◌≡◌, ℕ, Bool, not, ◌&&◌, ◌||◌, ◌==◌}
use Rattle.std.specs.Prelude.{List, ◌∷◌, MatchBool, if◌then◌else◌}
use Rattle.regex_lite_syntax.specs.declared.flags.Flags.{Flags}
use Rattle.regex_lite_syntax.specs.declared.class.ClassRange.{ClassRange}
use Rattle.regex_lite_syntax.specs.declared.hir.look.Look.{Look}
use Rattle.regex_lite_syntax.specs.declared.hir.look.Look.TheVariants.{Start, End, StartLF}
use Rattle.regex_lite_syntax.specs.declared.hir.look.Look.TheVariants.{EndLF, StartCRLF, EndCRLF}
use Rattle.regex_lite_syntax.specs.Text.{Text, the, ◌∈◌}
use Rattle.regex_lite_syntax.specs.Characters.{is_character, is_white_space, is_letter}
use Rattle.regex_lite_syntax.specs.Sets.{Set, just, case_closure}
use Rattle.regex_lite_syntax.specs.Ranges.{AreRunsOf}
use Rattle.regex_lite_syntax.specs.Grammar.Escapes.{Primitive, one, some_of, look_at, Escape}
use Rattle.regex_lite_syntax.specs.Grammar.Classes.{BracketedClass}
use Rattle.regex_lite_syntax.specs.Tree.{Tree, character, class, look}

-- a character that stands for itself
abbrev pub is_literal : (verbose : Bool) → ℕ → Bool
is_literal verbose c =
    not (c ∈ "\\.^$()[|?*+{")
    && not (verbose && (is_white_space c || c == the "#"))

-- the set of `.`: under `s` every character, otherwise every character that doesn't end a line
abbrev pub dot : Flags → Set
dot flags c =
    is_character c
    && (flags.dot_matches_new_line || not (c == the "\n" || (flags.crlf && c == the "\r")))

-- the look of `^` or `$`: at the start or end of the haystack, or under `m` at that of a line of
-- either kind
abbrev pub anchor : Flags → (whole line crlf_line : Look) → Look
anchor flags whole line crlf_line =
    if not flags.multi_line then whole else if flags.crlf then crlf_line else line

-- the kind of item that its first character begins
pub data AtomKind : Type 0 where
  -- an item of this one character
  single : Primitive → AtomKind
  escape : AtomKind
  bracketed : AtomKind
  no_atom : AtomKind

abbrev pub atom_kind : Flags → ℕ → AtomKind
atom_kind flags c =
    if c == the "." then single (some_of (dot flags))
    else if c == the "^" then single (look_at (anchor flags Start StartLF StartCRLF))
    else if c == the "$" then single (look_at (anchor flags End EndLF EndCRLF))
    else if c == the "\\" then escape
    else if c == the "[" then bracketed
    else if is_literal flags.ignore_whitespace c then single (one c)
    else no_atom

-- the tree is the set
abbrev pub IsClassOf : Set → Tree → Type 0
IsClassOf s a = (ranges : List ClassRange) × AreRunsOf ranges s × (a ≡ class ranges)

-- the tree of a primitive: under `i` an ASCII letter matches in both cases
abbrev pub PrimitiveTree : Flags → Primitive → Tree → Type 0
PrimitiveTree flags (one c) a =
    MatchBool (flags.case_insensitive && is_letter c) (IsClassOf (case_closure (just c)) a)
    (a ≡ character c)
PrimitiveTree flags (some_of s) a = IsClassOf s a
PrimitiveTree flags (look_at test) a = a ≡ look test

-- the rest of the item that begins at t, after its first character
abbrev pub AtomFrom : AtomKind → Flags → (t past_first rest : Text) → Tree → Type 0
AtomFrom (single p) flags t past_first rest a = (past_first ≡ rest) × PrimitiveTree flags p a
AtomFrom escape flags t past_first rest a =
    (p : Primitive) × Escape flags.ignore_whitespace past_first rest p × PrimitiveTree flags p a
AtomFrom bracketed flags t past_first rest a =
    (s : Set) × BracketedClass flags.case_insensitive flags.ignore_whitespace t rest s
    × IsClassOf s a
AtomFrom no_atom flags t past_first rest a = ⊥

-- an item that isn't a group, and its tree
pub record Atom (flags : Flags) (t rest : Text) (a : Tree) : Type 0 where
  pub first : ℕ
  pub past_first : Text
  pub begins : t ≡ first ∷ past_first
  pub goes_on : AtomFrom (atom_kind flags first) flags t past_first rest a

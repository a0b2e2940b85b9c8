-- What the functions that read a class return, in terms of the grammar.
use Rattle.std.specs.Prelude.{◌≡◌, ◌≤◌, ℕ, Bool, true, false, ◌&&◌, ◌==◌}
use Rattle.std.specs.Prelude.{List, [], ◌∷◌, IsTrue, codes}
use Rattle.regex_lite_syntax.specs.declared.class.named.NamedSet.{NamedSet}
use Rattle.regex_lite_syntax.specs.declared.class.named.NamedSet.TheVariants.{Alnum, Alpha, Ascii}
use Rattle.regex_lite_syntax.specs.declared.class.named.NamedSet.TheVariants.{Blank, Cntrl, Digit}
use Rattle.regex_lite_syntax.specs.declared.class.named.NamedSet.TheVariants.{Graph, Lower, Print}
use Rattle.regex_lite_syntax.specs.declared.class.named.NamedSet.TheVariants.{Punct, Space, Upper}
use Rattle.regex_lite_syntax.specs.declared.class.named.NamedSet.TheVariants.{Word, Xdigit}
use Rattle.regex_lite_syntax.specs.declared.parse.bracket.item.Element.{Element}
use Rattle.regex_lite_syntax.specs.declared.parse.bracket.item.Element.TheVariants as elements
use Rattle.regex_lite_syntax.specs.declared.parse.bracket.item.Item.{Item}
use Rattle.regex_lite_syntax.specs.declared.parse.bracket.item.Item.TheVariants as items
use Rattle.regex_lite_syntax.specs.Text.{Text, Begins, the, ◌∈◌}
use Rattle.regex_lite_syntax.specs.Grammar.Gaps.{WholeGap}
use Rattle.regex_lite_syntax.specs.Sets.{Set, just, span}
use Rattle.regex_lite_syntax.specs.NamedSets.{SetName}
use Rattle.regex_lite_syntax.specs.Parser.SetNames.{name_of}
use Rattle.regex_lite_syntax.specs.Grammar.Escapes.{Primitive, one, some_of, look_at}
use Rattle.regex_lite_syntax.specs.Parser.Readings.{named_or_not}
use Rattle.regex_lite_syntax.specs.Grammar.Classes.{ClassElement, NamedClass, ClassItems}

-- the primitive of an element
abbrev pub element_primitive : Element → Primitive
element_primitive (elements.Char c) = one c
element_primitive (elements.Set set negated) = some_of (named_or_not set negated)

-- a primitive that a class may have: not a look
abbrev pub IsElement : Primitive → Type 0
IsElement (look_at look) = ⊥
IsElement _ = Unit {0}

-- the set of an element
abbrev pub element_set : Element → Set
element_set (elements.Char c) = just c
element_set (elements.Set set negated) = named_or_not set negated

-- the set of an item
abbrev pub item_set : Item → Set
item_set (items.Alone element) = element_set element
item_set (items.Range start end) = span start end

-- a doubled `&`, `-` or `~`
abbrev pub BeginsOperator : Text → Type 0
BeginsOperator [] = ⊥
BeginsOperator (c ∷ t) = IsTrue (c ∈ "&-~") × Begins c t

-- the end of a range that begins with this primitive, and the set of the range
pub record RangeTo (verbose : Bool) (first : Primitive) (t rest : Text) (s : Set) : Type 0 where
  pub start : ℕ
  pub end : ℕ
  pub starts : first ≡ one start
  pub ends : ClassElement verbose t rest (one end)
  pub ordered : start ≤ end
  pub set_is : s ≡ span start end

-- after an element only a gap is left, or a dash with its gaps
pub data EndsOpen (verbose : Bool) (t : Text) : Type 0 where
  at_once : WholeGap verbose t [] → EndsOpen verbose t
  past_dash : (past : Text) → WholeGap verbose t (the "-" ∷ past) → WholeGap verbose past []
      → EndsOpen verbose t

-- some items follow, and the closing bracket of the class
abbrev pub HasItems : (verbose : Bool) → Text → Type 0
HasItems verbose t =
    (s : Set) × (sets : List Set) × (rest : Text) × ClassItems verbose (s ∷ sets) t rest

-- the text doesn't begin with a character of this kind
abbrev pub Lacks : (kind : ℕ → Bool) → Text → Type 0
Lacks kind [] = Unit {0}
Lacks kind (c ∷ t) = kind c ≡ false

-- the second text begins with the first
abbrev pub is_beginning : Text → Text → Bool
is_beginning [] u = true
is_beginning (c ∷ t) (d ∷ u) = c == d && is_beginning t u
is_beginning _ _ = false

-- the name of each set that has one
abbrev pub set_name : NamedSet → Text
set_name Alnum = codes "alnum"
set_name Alpha = codes "alpha"
set_name Ascii = codes "ascii"
set_name Blank = codes "blank"
set_name Cntrl = codes "cntrl"
set_name Digit = codes "digit"
set_name Graph = codes "graph"
set_name Lower = codes "lower"
set_name Print = codes "print"
set_name Punct = codes "punct"
set_name Space = codes "space"
set_name Upper = codes "upper"
set_name Word = codes "word"
set_name Xdigit = codes "xdigit"

-- a named set comes next, such as `[:alpha:]`
abbrev pub HasNamedSet : Text → Type 0
HasNamedSet t = (rest : Text) × (negated : Bool) × (set : SetName) × NamedClass t rest negated set

-- this element comes next as a named set
abbrev pub IsNamedSet : (t rest : Text) → Element → Type 0
IsNamedSet t rest (elements.Char c) = ⊥
IsNamedSet t rest (elements.Set set negated) = NamedClass t rest negated (name_of set)

-- The trees of patterns are regular: characters are Unicode scalar values, sets are given by their
-- runs, repetitions are in order, groups are numbered from 1, and lists have two parts or more.
use Rattle.regex_lite_syntax.proofs.Common.{◌≡◌, ℕ, ◌≤◌, Bool, true, false, ◌&&◌, List, [], ◌∷◌}
use Rattle.regex_lite_syntax.proofs.Common.{◌++◌, IsTrue, Some, None, MatchBool, Option, sym, refl}
use Rattle.regex_lite_syntax.proofs.Common.{subst, arith, rules, is_character, AreCharacters}
use Rattle.regex_lite_syntax.proofs.Common.{is_letter, group, Branch, nothing, item, directive}
use Rattle.regex_lite_syntax.proofs.Common.{Alternatives, only, Grammar, AtomKind, single, escape}
use Rattle.regex_lite_syntax.proofs.Common.{bracketed, no_atom, atom_kind, IsClassOf, PrimitiveTree}
use Rattle.regex_lite_syntax.proofs.Common.{AtomFrom, Atom, Counted, one, some_of, look_at}
use Rattle.regex_lite_syntax.proofs.Common.{GroupKind, non_capturing, capturing, group_tree, Head}
use Rattle.regex_lite_syntax.proofs.Common.{numbered, plain, times, Operator, uncounted}
use Rattle.regex_lite_syntax.proofs.Common.{uncounted_lazy, counted, counted_lazy, Point, Set, just}
use Rattle.regex_lite_syntax.proofs.Common.{case_closure, Text, Tree, trees, sequence_of, choice_of}
use Rattle.regex_lite_syntax.proofs.Common.{repeated, IsRegular, Flags}
use Rattle.regex_lite_syntax.specs.Grammar.Escapes.{Primitive}
use Rattle.regex_lite_syntax.specs.Tree.{character}
use Rattle.regex_lite_syntax.specs.Grammar.Heads.{named}
use Rattle.regex_lite_syntax.specs.Grammar.{Item, atom, further}
use Rattle.regex_lite_syntax.specs.Grammar.Branch.{operator}
use Rattle.regex_lite_syntax.specs.Tree.Regular.{InOrder, AreRegular}
use Rattle.regex_lite_syntax.proofs.grammar.ClassCharacterLemmas.{OfCharacters, escape_gives}
use Rattle.regex_lite_syntax.proofs.grammar.CountLemmas.{counted_in_order}
use Rattle.regex_lite_syntax.proofs.machine.ParenLemmas.{operator_reads, atom_reads}
use Rattle.regex_lite_syntax.proofs.machine.ChangeLemmas.{head_takes, directive_reads}
use Rattle.regex_lite_syntax.proofs.machine.GrowthLemmas.{past_gap_reads}
use Rattle.regex_lite_syntax.proofs.TreeLemmas.{repeated_is}

-- each of the trees is regular
abbrev pub AllRegular : List Tree → Type 0
AllRegular [] = Unit {0}
AllRegular (a ∷ rest) = IsRegular a × AllRegular rest

all_with : (before : List Tree) (a : Tree) → AllRegular before → IsRegular a
    → AllRegular (before ++ a ∷ [])
all_with [] a regular last = (last, tt)
all_with (b ∷ before) a regular last = (regular.0, all_with before a regular.1 last)

all_without : (before : List Tree) (a : Tree) → AllRegular (before ++ a ∷ [])
    → AllRegular before × IsRegular a
all_without [] a regular = (tt, regular.0)
all_without (b ∷ before) a regular =
    let split = all_without before a regular.1 in ((regular.0, split.0), split.1)

are_regular : (items : List Tree) → AllRegular items → AreRegular (trees items)
are_regular [] regular = tt
are_regular (a ∷ rest) regular = (regular.0, are_regular rest regular.1)

pub sequence_regular : (items : List Tree) → AllRegular items → IsRegular (sequence_of items)
sequence_regular [] regular = tt
sequence_regular (a ∷ []) regular = regular.0
sequence_regular (a ∷ b ∷ rest) regular = (tt, are_regular (a ∷ b ∷ rest) regular)

pub choice_regular : (branches : List Tree) → AllRegular branches → IsRegular (choice_of branches)
choice_regular [] regular = tt
choice_regular (a ∷ []) regular = regular.0
choice_regular (a ∷ b ∷ rest) regular = (tt, are_regular (a ∷ b ∷ rest) regular)

pub repeated_regular : (least : ℕ) (most : Option ℕ) (greedy : Bool) (a : Tree) → InOrder least most
    → IsRegular a → IsRegular (repeated least most greedy a)
repeated_regular least most greedy a order regular =
    repeated_is IsRegular least most greedy a (order, regular) tt regular

-- a group that captures has an index
abbrev pub IsNumbered : GroupKind → Type 0
IsNumbered non_capturing = Unit {0}
IsNumbered (capturing index name) = 1 ≤ index

head_numbered : {level : ℕ} {p q : Point} {kind : GroupKind} → Head level p q kind → IsNumbered kind
head_numbered {p} (numbered rest e n q_is kind_is) =
    subst (λ k. IsNumbered k) (sym kind_is) (omega arith)
head_numbered {p} (named opened first rest name e g n q_is kind_is) =
    subst (λ k. IsNumbered k) (sym kind_is) (omega arith)
head_numbered (plain opened first rest new e g f q_is kind_is) =
    subst (λ k. IsNumbered k) (sym kind_is) tt

pub group_regular : (kind : GroupKind) (a : Tree) → IsNumbered kind → IsRegular a
    → IsRegular (group_tree kind a)
group_regular non_capturing a from_one regular = regular
group_regular (capturing index name) a from_one regular = (from_one, regular)

-- times that are in order
abbrev AreInOrder : Option (ℕ × Option ℕ) → Type 0
AreInOrder None = Unit {0}
AreInOrder (Some b) = InOrder b.0 b.1

bounds_in_order : (c : ℕ) → AreInOrder (times c)
bounds_in_order c = search rules

counts_in_order : (verbose : Bool) (t rest : Text) (least : ℕ) (most : Option ℕ)
    → Counted verbose t rest least most → InOrder least most
counts_in_order verbose t rest least None k = tt
counts_in_order verbose t rest least (Some most) k = counted_in_order k refl

pub operator_in_order : {flags : Flags} {t rest : Text} {least : ℕ} {most : Option ℕ}
    {greedy : Bool} → Operator flags t rest least most greedy → InOrder least most
operator_in_order (uncounted c e b n g) = subst (λ x. AreInOrder x) b (bounds_in_order c)
operator_in_order (uncounted_lazy c e b g) = subst (λ x. AreInOrder x) b (bounds_in_order c)
operator_in_order {flags} {rest} {least} {most} (counted opened e k n g) =
    counts_in_order flags.ignore_whitespace opened rest least most k
operator_in_order {flags} {least} {most} (counted_lazy opened past e k q g) =
    counts_in_order flags.ignore_whitespace opened past least most k

class_regular : (s : Set) (a : Tree) → IsClassOf s a → IsRegular a
class_regular s a c = subst (λ x. IsRegular x) (sym c.2) c.1.runs

one_regular : (c : ℕ) (folds : Bool) (a : Tree) → IsTrue (is_character c)
    → MatchBool folds (IsClassOf (case_closure (just c)) a) (a ≡ character c) → IsRegular a
one_regular c true a is of = class_regular (case_closure (just c)) a of
one_regular c false a is of = subst (λ x. IsRegular x) (sym of) is

-- what a primitive names is a character
abbrev Names : Primitive → Type 0
Names (one c) = IsTrue (is_character c)
Names _ = Unit {0}

primitive_regular : (flags : Flags) (p : Primitive) (a : Tree) → Names p → PrimitiveTree flags p a
    → IsRegular a
primitive_regular flags (one c) a is of =
    one_regular c (flags.case_insensitive && is_letter c) a is of
primitive_regular flags (some_of s) a is of = class_regular s a of
primitive_regular flags (look_at test) a is of = subst (λ x. IsRegular x) (sym of) tt

-- one that stands for characters does
names_one : (p : Primitive) → OfCharacters p → Names p
names_one (one c) of = of
names_one _ of = tt

-- what an item of one character names is a character
abbrev AtomNames : AtomKind → Type 0
AtomNames (single p) = Names p
AtomNames _ = Unit {0}

atom_kind_names : (flags : Flags) (c : ℕ) → IsTrue (is_character c) → AtomNames (atom_kind flags c)
atom_kind_names flags c is = search rules

atom_from_regular : (k : AtomKind) (flags : Flags) (t past rest : Text) (a : Tree) → AtomNames k
    → AtomFrom k flags t past rest a → IsRegular a
atom_from_regular (single p) flags t past rest a is d = primitive_regular flags p a is d.1
atom_from_regular escape flags t past rest a is d =
    let gives = escape_gives flags.ignore_whitespace past rest d.0 d.1 in
    primitive_regular flags d.0 a (names_one d.0 gives) d.2
atom_from_regular bracketed flags t past rest a is d = class_regular d.0 a d.2
atom_from_regular no_atom flags t past rest a is d = absurd d

pub atom_regular : (flags : Flags) (t rest : Text) (a : Tree) → AreCharacters t
    → Atom flags t rest a → IsRegular a
atom_regular flags t rest a all d =
    let first = (subst (λ u. AreCharacters u) d.begins all).0 in
    atom_from_regular (atom_kind flags d.first) flags t d.past_first rest a
    (atom_kind_names flags d.first first) d.goes_on

-- the trees are regular, and what is left are characters
abbrev RegularTo : List Tree → Point → Type 0
RegularTo items q = AllRegular items × AreCharacters q.rest

mutual
  item_regular : {level : ℕ} {p q : Point} {a : Tree} → Item level p q a → AreCharacters p.rest
      → IsRegular a × AreCharacters q.rest
  item_regular {p} {q} {a} (atom d e) all = (
    atom_regular p.flags p.rest q.rest a all d,
    (atom_reads p.flags p.rest q.rest a d).characters all,
  )
  item_regular {q} (group first last end kind branches rest head d past c e a_is) all =
      let opens = head_takes head in
      let begun = opens.reads.characters (subst (λ u. AreCharacters u) opens.opens all).1 in
      let inner = alternatives_regular d begun in
      let closes = subst (λ u. AreCharacters u) c ((past_gap_reads past).characters inner.1) in
      let whole = group_regular kind (choice_of branches) (head_numbered head)
      (choice_regular branches inner.0) in (
        subst (λ x. IsRegular x) (sym a_is) whole,
        subst (λ (x : Point). AreCharacters x.rest) (sym e) closes.1,
      )

  branch_regular : {level : ℕ} {p q : Point} {items : List Tree} → Branch level p q items
      → AreCharacters p.rest → RegularTo items q
  branch_regular {p} (nothing e items_are) all = (
    subst (λ x. AllRegular x) (sym items_are) tt,
    subst (λ (x : Point). AreCharacters x.rest) e all,
  )
  branch_regular (item last here before a d past i items_are) all =
      let first = branch_regular d all in
      let new = item_regular i ((past_gap_reads past).characters first.1) in
      (subst (λ x. AllRegular x) (sym items_are) (all_with before a first.0 new.0), new.1)
  branch_regular (operator last here before a least most greedy d past o e items_are) all =
      let first = branch_regular d all in
      let split = all_without before a first.0 in
      let new = repeated_regular least most greedy a (operator_in_order o) split.1 in (
        subst (λ x. AllRegular x) (sym items_are) (all_with before _ split.0 new),
        (operator_reads o).characters ((past_gap_reads past).characters first.1),
      )
  branch_regular (directive last here d past s) all =
      let first = branch_regular d all in
      (first.0, (directive_reads s).characters ((past_gap_reads past).characters first.1))

  alternatives_regular : {level : ℕ} {p q : Point} {branches : List Tree}
      → Alternatives level p q branches → AreCharacters p.rest → RegularTo branches q
  alternatives_regular (only items d branches_are) all =
      let whole = branch_regular d all in
      (subst (λ x. AllRegular x) (sym branches_are) (sequence_regular items whole.0, tt), whole.1)
  alternatives_regular (further last here before items rest d past e b branches_are) all =
      let first = alternatives_regular d all in
      let bar = subst (λ u. AreCharacters u) e ((past_gap_reads past).characters first.1) in
      let new = branch_regular b bar.1 in
      let one = sequence_regular items new.0 in
      (subst (λ x. AllRegular x) (sym branches_are) (all_with before _ first.0 one), new.1)

-- each tree that the grammar gives is regular
pub grammar_regular : (flags : Flags) (pattern : Text) (tree : Tree) (groups deepest : ℕ)
    → Grammar flags pattern tree groups deepest → IsRegular tree
grammar_regular flags pattern tree groups deepest g =
    subst (λ x. IsRegular x) (sym g.tree_is)
    (choice_regular g.branches (alternatives_regular g.whole g.characters).0)

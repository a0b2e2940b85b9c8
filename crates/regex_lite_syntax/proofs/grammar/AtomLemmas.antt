-- An item that is no group is read in one way.
use Rattle.regex_lite_syntax.proofs.Common.{◌≡◌, ℕ, Bool, true, false, ◌&&◌, ◌≢◌, ◌∷◌}
use Rattle.regex_lite_syntax.proofs.Common.{if◌then◌else◌, MatchBool, sym, refl, ap, ◌∙◌, subst}
use Rattle.regex_lite_syntax.proofs.Common.{both_ways, ne_eqb, is_letter, is_literal, AtomKind}
use Rattle.regex_lite_syntax.proofs.Common.{single, escape, bracketed, no_atom, atom_kind}
use Rattle.regex_lite_syntax.proofs.Common.{IsClassOf, PrimitiveTree, AtomFrom, Atom, one, some_of}
use Rattle.regex_lite_syntax.proofs.Common.{look_at, Escape, Set, just, case_closure, Text, the}
use Rattle.regex_lite_syntax.proofs.Common.{Tree, class, Flags}
use Rattle.regex_lite_syntax.specs.Grammar.Escapes.{Primitive}
use Rattle.regex_lite_syntax.specs.Tree.{character}
use Rattle.regex_lite_syntax.proofs.ListLemmas.{same_head, same_tail}
use Rattle.regex_lite_syntax.proofs.grammar.EscapeLemmas.{escape_once}
use Rattle.regex_lite_syntax.proofs.grammar.ClassLemmas.{class_once}
use Rattle.regex_lite_syntax.proofs.RangeLemmas.{runs_once}

-- a set has one tree
pub class_tree_once : (s : Set) (a b : Tree) → IsClassOf s a → IsClassOf s b → a ≡ b
class_tree_once s a b p q =
    let members = λ (c : ℕ). p.1.members c ∙ sym (q.1.members c) in
    p.2 ∙ ap class (runs_once p.0 q.0 p.1.runs q.1.runs members) ∙ sym q.2

one_tree : (c : ℕ) (folds : Bool) (a b : Tree)
    → MatchBool folds (IsClassOf (case_closure (just c)) a) (a ≡ character c)
    → MatchBool folds (IsClassOf (case_closure (just c)) b) (b ≡ character c) → a ≡ b
one_tree c true a b p q = class_tree_once (case_closure (just c)) a b p q
one_tree c false a b p q = p ∙ sym q

-- and so has a primitive
pub piece_tree_once : (flags : Flags) (p : Primitive) (a b : Tree) → PrimitiveTree flags p a
    → PrimitiveTree flags p b → a ≡ b
piece_tree_once flags (one c) a b p q = one_tree c (flags.case_insensitive && is_letter c) a b p q
piece_tree_once flags (some_of s) a b p q = class_tree_once s a b p q
piece_tree_once flags (look_at test) a b p q = p ∙ sym q

atom_from_once : (k : AtomKind) (flags : Flags) (t past rest rest' : Text) (a b : Tree)
    → AtomFrom k flags t past rest a → AtomFrom k flags t past rest' b → (rest ≡ rest') × (a ≡ b)
atom_from_once (single primitive) flags t past rest rest' a b p q =
    (sym p.0 ∙ q.0, piece_tree_once flags primitive a b p.1 q.1)
atom_from_once escape flags t past rest rest' a b p q =
    let same = escape_once flags.ignore_whitespace past rest rest' p.0 q.0 p.1 q.1 in
    (same.0, piece_tree_once flags q.0 a b (subst (λ x. PrimitiveTree flags x a) same.1 p.2) q.2)
atom_from_once bracketed flags t past rest rest' a b p q =
    let same =
    class_once flags.case_insensitive flags.ignore_whitespace t rest rest' p.0 q.0 p.1 q.1 in
    (same.0, class_tree_once q.0 a b (subst (λ x. IsClassOf x a) same.1 p.2) q.2)
atom_from_once no_atom flags t past rest rest' a b p q = absurd p

-- the rest of an item, by the character that stands first
pub from_first : (flags : Flags) (t rest : Text) (a : Tree) (c : ℕ) (u : Text) → t ≡ c ∷ u
    → Atom flags t rest a → AtomFrom (atom_kind flags c) flags t u rest a
from_first flags t rest a c u e d =
    let same = sym d.begins ∙ e in
    let past =
    subst (λ v. AtomFrom (atom_kind flags d.first) flags t v rest a) (same_tail same) d.goes_on in
    subst (λ x. AtomFrom (atom_kind flags x) flags t u rest a) (same_head same) past

pub atom_once : (flags : Flags) (t rest rest' : Text) (a b : Tree) → Atom flags t rest a
    → Atom flags t rest' b → (rest ≡ rest') × (a ≡ b)
atom_once flags t rest rest' a b p q =
    let from = from_first flags t rest' b p.first p.past_first p.begins q in
    atom_from_once (atom_kind flags p.first) flags t p.past_first rest rest' a b p.goes_on from

-- an item by the kind of its first character
pub atom_by : (flags : Flags) (k : AtomKind) (c : ℕ) (t past rest : Text) (a : Tree) → t ≡ c ∷ past
    → atom_kind flags c ≡ k → AtomFrom k flags t past rest a → Atom flags t rest a
atom_by flags k c t past rest a e kind from = record {
  first = c;
  past_first = past;
  begins = e;
  goes_on = subst (λ j. AtomFrom j flags t past rest a) (sym kind) from;
}

-- and each item is one
pub by_kind : (flags : Flags) (k : AtomKind) (c : ℕ) (t past rest : Text) (a : Tree) → t ≡ c ∷ past
    → atom_kind flags c ≡ k → Atom flags t rest a → AtomFrom k flags t past rest a
by_kind flags k c t past rest a e kind d =
    subst (λ j. AtomFrom j flags t past rest a) kind (from_first flags t rest a c past e d)

-- no item begins with a character that begins none
pub no_atom_at : (flags : Flags) (t rest : Text) (a : Tree) (c : ℕ) (u : Text) → t ≡ c ∷ u
    → atom_kind flags c ≡ no_atom → Atom flags t rest a → ⊥
no_atom_at flags t rest a c u e kind d = by_kind flags no_atom c t u rest a e kind d

-- the character is none of those that begin an item and do not stand for themselves
pub record NoSign (c : ℕ) : Type 0 where
  pub no_full_stop : c ≢ the "."
  pub no_caret : c ≢ the "^"
  pub no_dollar : c ≢ the "$"
  pub no_backslash : c ≢ the "\\"
  pub no_bracket : c ≢ the "["

literal_no_sign : (verbose : Bool) (c : ℕ) → is_literal verbose c ≡ true → NoSign c
literal_no_sign verbose c literal = record {
  no_full_stop = no (the ".") refl;
  no_caret = no (the "^") refl;
  no_dollar = no (the "$") refl;
  no_backslash = no (the "\\") refl;
  no_bracket = no (the "[") refl;
}
  where
    no : (d : ℕ) → is_literal verbose d ≡ false → c ≢ d
    no d other e = both_ways (is_literal verbose c) (ap (is_literal verbose) e ∙ other) literal

-- so it either stands for itself or begins nothing
kind_by : (flags : Flags) (c : ℕ) (literal : Bool) → NoSign c
    → is_literal flags.ignore_whitespace c ≡ literal
    → atom_kind flags c ≡ (if literal then single (one c) else no_atom)
kind_by flags c literal sign is =
    rw (
      ne_eqb c (the ".") sign.no_full_stop,
      ne_eqb c (the "^") sign.no_caret,
      ne_eqb c (the "$") sign.no_dollar,
      ne_eqb c (the "\\") sign.no_backslash,
      ne_eqb c (the "[") sign.no_bracket,
      is,
    ) refl

-- so a character that stands for itself is an item
pub literal_atom : (flags : Flags) (c : ℕ) (t rest : Text) (a : Tree) → t ≡ c ∷ rest
    → is_literal flags.ignore_whitespace c ≡ true → PrimitiveTree flags (one c) a
    → Atom flags t rest a
literal_atom flags c t rest a e literal tree =
    let sign = literal_no_sign flags.ignore_whitespace c literal in
    let kind = kind_by flags c true sign literal in
    atom_by flags (single (one c)) c t rest rest a e kind (refl, tree)

-- but a character that neither stands for itself nor is a sign begins no item that is no group
pub no_literal : (flags : Flags) (t rest : Text) (a : Tree) (c : ℕ) (u : Text) → t ≡ c ∷ u
    → NoSign c → is_literal flags.ignore_whitespace c ≡ false → Atom flags t rest a → ⊥
no_literal flags t rest a c u e sign literal d =
    no_atom_at flags t rest a c u e (kind_by flags c false sign literal) d

-- an escape
pub escape_atom : (flags : Flags) (t past rest : Text) (p : Primitive) (a : Tree)
    → t ≡ the "\\" ∷ past
    → Escape flags.ignore_whitespace past rest p → PrimitiveTree flags p a → Atom flags t rest a
escape_atom flags t past rest p a e d tree =
    atom_by flags escape (the "\\") t past rest a e refl (p, d, tree)

pub no_escape : (flags : Flags) (t past rest : Text) (a : Tree) → t ≡ the "\\" ∷ past
    → ((rest : Text) (p : Primitive) → Escape flags.ignore_whitespace past rest p → ⊥)
    → Atom flags t rest a → ⊥
no_escape flags t past rest a e none d =
    let from = by_kind flags escape (the "\\") t past rest a e refl d in none rest from.0 from.1

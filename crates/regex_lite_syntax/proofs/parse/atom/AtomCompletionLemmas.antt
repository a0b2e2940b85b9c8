-- What completes an escape or a bracketed class completes the item that it is.
use Rattle.regex_lite_syntax.proofs.Common.{◌≡◌, ℕ, Bool, true, false, ◌&&◌, [], ◌∷◌, ◌++◌}
use Rattle.regex_lite_syntax.proofs.Common.{MatchBool, sym, refl, ap, ◌∙◌, subst, append_assoc}
use Rattle.regex_lite_syntax.proofs.Common.{append-nil, AreCharacters, is_letter, bracketed}
use Rattle.regex_lite_syntax.proofs.Common.{IsClassOf, PrimitiveTree, Atom, BracketedClass, one}
use Rattle.regex_lite_syntax.proofs.Common.{some_of, look_at, Escape, Completable, Set, just}
use Rattle.regex_lite_syntax.proofs.Common.{case_closure, Text, the, Tree, class, look, Flags}
use Rattle.regex_lite_syntax.specs.Tree.{character}
use Rattle.regex_lite_syntax.specs.Grammar.Escapes.{Primitive}
use Rattle.regex_lite_syntax.proofs.CharacterLemmas.{joined_are}
use Rattle.regex_lite_syntax.proofs.CharacterSetLemmas.{HoldsCharacters, just_character}
use Rattle.regex_lite_syntax.proofs.CharacterSetLemmas.{closure_characters}
use Rattle.regex_lite_syntax.proofs.SetRunsLemmas.{set_has_runs}
use Rattle.regex_lite_syntax.proofs.grammar.AtomLemmas.{atom_by, escape_atom}
use Rattle.regex_lite_syntax.proofs.grammar.ClassCharacterLemmas.{OfCharacters, escape_gives}
use Rattle.regex_lite_syntax.proofs.grammar.ClassCharacterLemmas.{class_holds}
use Rattle.regex_lite_syntax.proofs.grammar.LongerClassLemmas.{class_longer}

-- a set of characters has a tree
set_has_tree : (s : Set) → HoldsCharacters s → (a : Tree) × IsClassOf s a
set_has_tree s all = let found = set_has_runs s all in (class found.0, (found.0, found.1, refl))

-- so has one character, by whether it stands for both its cases
one_has_tree : (c : ℕ) (folds : Bool) → OfCharacters (one c)
    → (a : Tree) × MatchBool folds (IsClassOf (case_closure (just c)) a) (a ≡ character c)
one_has_tree c true is =
    set_has_tree (case_closure (just c)) (closure_characters (just c) (just_character c is))
one_has_tree c false is = (character c, refl)

-- and so has a primitive that stands for characters
primitive_has_tree : (flags : Flags) (p : Primitive) → OfCharacters p
    → (a : Tree) × PrimitiveTree flags p a
primitive_has_tree flags (one c) of = one_has_tree c (flags.case_insensitive && is_letter c) of
primitive_has_tree flags (some_of s) of = set_has_tree s of
primitive_has_tree flags (look_at test) of = (look test, refl)

-- the tree of a completed escape may be another for each text that follows
pub completed_escape : (flags : Flags) (t past : Text) → t ≡ the "\\" ∷ past
    → Completable (λ t rest. (p : Primitive) × Escape flags.ignore_whitespace t rest p) past
    → Completable (λ t rest. (a : Tree) × Atom flags t rest a) t
completed_escape flags t past e k = record {
  more = k.more;
  characters = k.characters;
  reads = λ next.
      let d = k.reads next in
      let tree = primitive_has_tree flags d.0
      (escape_gives flags.ignore_whitespace (past ++ (k.more ++ next)) next d.0 d.1) in (
        tree.0,
        escape_atom flags (t ++ (k.more ++ next)) (past ++ (k.more ++ next)) next d.0 tree.0
            (ap (λ u. u ++ (k.more ++ next)) e) d.1 tree.1,
      );
}

-- what ends with the text is the same before what follows
before_next : (t more next : Text) → (t ++ (more ++ [])) ++ next ≡ t ++ (more ++ next)
before_next t more next =
    append_assoc t (more ++ []) next ∙ ap (λ u. t ++ (u ++ next)) (append-nil more)

-- the set of the completed class doesn't depend on what follows the class
pub completed_class : (flags : Flags) (t past : Text) → t ≡ the "[" ∷ past → AreCharacters t
    → Completable (λ t rest. (s : Set)
    × BracketedClass flags.case_insensitive flags.ignore_whitespace t rest s) t
    → Completable (λ t rest. (a : Tree) × Atom flags t rest a) t
completed_class flags t past e all k = record {
  more = k.more;
  characters = k.characters;
  reads = λ next.
      let b = k.reads [] in
      let whole = subst (λ u. AreCharacters (t ++ u)) (sym (append-nil k.more))
      (joined_are t k.more all k.characters) in
      let tree = set_has_tree b.0 (class_holds whole b.1) in
      let longer = subst (λ u. BracketedClass flags.case_insensitive flags.ignore_whitespace u
      next b.0) (before_next t k.more next) (class_longer next b.1) in (
        tree.0,
        atom_by flags bracketed (the "[") (t ++ (k.more ++ next)) (past ++ (k.more ++ next)) next
            tree.0 (ap (λ u. u ++ (k.more ++ next)) e) refl (b.0, longer, tree.1),
      );
}

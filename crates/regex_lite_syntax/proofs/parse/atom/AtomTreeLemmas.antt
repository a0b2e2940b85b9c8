-- The trees of items that are no groups.
use Rattle.regex_lite_syntax.proofs.Common.{◌≡◌, ℕ, true, IsTrue, MatchBool, sym, subst, and_from}
use Rattle.regex_lite_syntax.proofs.Common.{is_letter, IsClassOf, PrimitiveTree, one, AreRunsOf}
use Rattle.regex_lite_syntax.proofs.Common.{Set, just, case_closure, Tree, class, Flags}
use Rattle.regex_lite_syntax.specs.declared.class.Class.{Class}
use Rattle.regex_lite_syntax.specs.Tree.{character}

-- a class with the runs of a set is that set
pub class_of : (s : Set) (set : Class) (a : Tree) → AreRunsOf set s → a ≡ class set → IsClassOf s a
class_of s set a are tree = (set, are, tree)

-- under `i` a letter is the class of its two cases
pub both_cases : (flags : Flags) (c : ℕ) (a : Tree) → flags.case_insensitive ≡ true
    → IsTrue (is_letter c) → IsClassOf (case_closure (just c)) a → PrimitiveTree flags (one c) a
both_cases flags c a folds letter is_class =
    subst (λ b. MatchBool b (IsClassOf (case_closure (just c)) a) (a ≡ character c))
    (sym (and_from flags.case_insensitive (is_letter c) folds letter)) is_class

-- The groups of a pattern are numbered in order.
use Rattle.regex_lite_syntax.proofs.Common.{◌≡◌, ℕ, ◌+◌, ◌≤◌, Bool, true, false, ◌&&◌, List, []}
use Rattle.regex_lite_syntax.proofs.Common.{◌∷◌, ◌++◌, MatchBool, sym, refl, ap, ◌∙◌, subst, arith}
use Rattle.regex_lite_syntax.proofs.Common.{is_letter, group, Branch, nothing, item, directive}
use Rattle.regex_lite_syntax.proofs.Common.{Alternatives, only, Grammar, AtomKind, single, escape}
use Rattle.regex_lite_syntax.proofs.Common.{bracketed, no_atom, atom_kind, IsClassOf, PrimitiveTree}
use Rattle.regex_lite_syntax.proofs.Common.{AtomFrom, Atom, one, some_of, look_at, GroupKind}
use Rattle.regex_lite_syntax.proofs.Common.{group_tree, Head, numbered, plain, Directive, sets}
use Rattle.regex_lite_syntax.proofs.Common.{Point, PastGap, Set, just, case_closure, Text, Tree}
use Rattle.regex_lite_syntax.proofs.Common.{sequence_of, choice_of, repeated, Flags}
use Rattle.regex_lite_syntax.specs.Grammar.Escapes.{Primitive}
use Rattle.regex_lite_syntax.specs.Tree.{character}
use Rattle.regex_lite_syntax.specs.Tree.Properties.{greatest_index}
use Rattle.regex_lite_syntax.specs.Grammar.Heads.{named}
use Rattle.regex_lite_syntax.specs.Grammar.{Item, atom, further}
use Rattle.regex_lite_syntax.specs.Grammar.Branch.{operator}
use Rattle.regex_lite_syntax.proofs.grammar.NumberedTreeLemmas.{IsNumbered, Within, AllWithin}
use Rattle.regex_lite_syntax.proofs.grammar.NumberedTreeLemmas.{all_with, all_without, leaf}
use Rattle.regex_lite_syntax.proofs.grammar.NumberedTreeLemmas.{sequence_within, choice_within}
use Rattle.regex_lite_syntax.proofs.grammar.NumberedTreeLemmas.{repeated_within}

-- a tree without groups
abbrev HasNoGroups : Tree → Type 0
HasNoGroups a = ((low : ℕ) → IsNumbered low a) × (greatest_index a ≡ 0)

class_none : (s : Set) (a : Tree) → IsClassOf s a → HasNoGroups a
class_none s a c = subst HasNoGroups (sym c.2) ((λ low. tt), refl)

one_none : (c : ℕ) (folds : Bool) (a : Tree)
    → MatchBool folds (IsClassOf (case_closure (just c)) a) (a ≡ character c) → HasNoGroups a
one_none c true a of = class_none (case_closure (just c)) a of
one_none c false a of = subst HasNoGroups (sym of) ((λ low. tt), refl)

piece_none : (flags : Flags) (p : Primitive) (a : Tree) → PrimitiveTree flags p a → HasNoGroups a
piece_none flags (one c) a of = one_none c (flags.case_insensitive && is_letter c) a of
piece_none flags (some_of s) a of = class_none s a of
piece_none flags (look_at test) a of = subst HasNoGroups (sym of) ((λ low. tt), refl)

atom_from_none : (k : AtomKind) (flags : Flags) (t past rest : Text) (a : Tree)
    → AtomFrom k flags t past rest a → HasNoGroups a
atom_from_none (single piece) flags t past rest a d = piece_none flags piece a d.1
atom_from_none escape flags t past rest a d = piece_none flags d.0 a d.2
atom_from_none bracketed flags t past rest a d = class_none d.0 a d.2
atom_from_none no_atom flags t past rest a d = absurd d

atom_none : (flags : Flags) (t rest : Text) (a : Tree) → Atom flags t rest a → HasNoGroups a
atom_none flags t rest a d =
    atom_from_none (atom_kind flags d.first) flags t d.past_first rest a d.goes_on

gap_keeps : (p q : Point) → PastGap p q → q.groups ≡ p.groups
gap_keeps p q past = ap (λ (z : Point). z.groups) past.1

pub directive_keeps : {p q : Point} → Directive p q → q.groups ≡ p.groups
directive_keeps (sets o f r new e g n letters h) = ap (λ (x : Point). x.groups) h

-- the body of a group is numbered on from the group itself
group_within : {level : ℕ} (p q : Point) (kind : GroupKind) (high : ℕ) (body : Tree)
    → Head level p q kind → Within q.groups high body → Within p.groups high (group_tree kind body)
group_within p q kind high body (numbered rest e no_mark q_is kind_is) is =
    let same : q.groups ≡ p.groups + 1 = ap (λ (z : Point). z.groups) q_is in
    let moved = subst (λ n. Within n high body) same is in
    subst (λ k. Within p.groups high (group_tree k body)) (sym kind_is) (record {
      in_order = (omega arith, moved.in_order);
      inside = omega (arith, moved.inside, moved.low_high);
      low_high = omega (arith, moved.low_high);
    })
group_within p q kind high body (named opened first rest name e gap n q_is kind_is) is =
    let same : q.groups ≡ p.groups + 1 = ap (λ (z : Point). z.groups) q_is in
    let moved = subst (λ n. Within n high body) same is in
    subst (λ k. Within p.groups high (group_tree k body)) (sym kind_is) (record {
      in_order = (omega arith, moved.in_order);
      inside = omega (arith, moved.inside, moved.low_high);
      low_high = omega (arith, moved.low_high);
    })
group_within p q kind high body (plain opened first rest new e gap letters q_is kind_is) is =
    let same : q.groups ≡ p.groups = ap (λ (z : Point). z.groups) q_is in
    subst (λ k. Within p.groups high (group_tree k body)) (sym kind_is)
    (subst (λ n. Within n high body) same is)

mutual
  item_within : {level : ℕ} {p q : Point} {a : Tree} → Item level p q a → Within p.groups q.groups a
  item_within {p} {q} {a} (atom d e) =
      let no_groups = atom_none p.flags p.rest q.rest a d in
      let same : q.groups ≡ p.groups = ap (λ (z : Point). z.groups) e in
      leaf p.groups q.groups a (no_groups.0 p.groups) no_groups.1 (omega (arith, same))
  item_within {p} {q} {a} (group first last end kind branches rest head d past c e a_is) =
      let inner = choice_within first.groups last.groups branches (alternatives_within d) in
      let whole = group_within p first kind last.groups (choice_of branches) head inner in
      let ends : q.groups ≡ last.groups
      = ap (λ (z : Point). z.groups) e ∙ gap_keeps last end past in
      subst (λ n. Within p.groups n a) (sym ends)
      (subst (λ x. Within p.groups last.groups x) (sym a_is) whole)

  branch_within : {level : ℕ} {p q : Point} {items : List Tree} → Branch level p q items
      → AllWithin p.groups q.groups items
  branch_within {p} {q} (nothing e items_are) =
      let same : p.groups ≡ q.groups = ap (λ (z : Point). z.groups) e in
      let less : p.groups ≤ q.groups = omega (arith, same) in
      subst (λ x. AllWithin p.groups q.groups x) (sym items_are) less
  branch_within {p} {q} (item last here before a d past i items_are) =
      let only_item = subst (λ n. Within n q.groups a) (gap_keeps last here past) (item_within i) in
      subst (λ x. AllWithin p.groups q.groups x) (sym items_are)
      (all_with p.groups last.groups q.groups before a (branch_within d) only_item)
  branch_within {p} {q} (operator last here before a least most greedy d past o e items_are) =
      let split = all_without p.groups last.groups before a (branch_within d) in
      let new = repeated_within split.0 last.groups least most greedy a split.2 in
      let ends : q.groups ≡ last.groups
      = ap (λ (z : Point). z.groups) e ∙ gap_keeps last here past in
      let again = repeated least most greedy a in
      let all = all_with p.groups split.0 last.groups before again split.1 new in
      subst (λ x. AllWithin p.groups q.groups x) (sym items_are)
      (subst (λ n. AllWithin p.groups n (before ++ again ∷ [])) (sym ends) all)
  branch_within {p} {q} {items} (directive last here d past s) =
      let ends : q.groups ≡ last.groups = directive_keeps s ∙ gap_keeps last here past in
      subst (λ n. AllWithin p.groups n items) (sym ends) (branch_within d)

  alternatives_within : {level : ℕ} {p q : Point} {branches : List Tree}
      → Alternatives level p q branches → AllWithin p.groups q.groups branches
  alternatives_within {p} {q} (only items d branches_are) =
      subst (λ x. AllWithin p.groups q.groups x) (sym branches_are)
      (q.groups, sequence_within p.groups q.groups items (branch_within d), omega arith)
  alternatives_within {p} {q} (further last here before items rest d past e b branches_are) =
      let moved = subst (λ n. Within n q.groups (sequence_of items)) (gap_keeps last here past)
      (sequence_within here.groups q.groups items (branch_within b)) in
      subst (λ x. AllWithin p.groups q.groups x) (sym branches_are)
      (all_with p.groups last.groups q.groups before (sequence_of items) (alternatives_within d)
      moved)

pub grammar_numbered : (flags : Flags) (pattern : Text) (tree : Tree) (groups deepest : ℕ)
    → Grammar flags pattern tree groups deepest → IsNumbered 0 tree
grammar_numbered flags pattern tree groups deepest g =
    let all = choice_within 0 g.last.groups g.branches (alternatives_within g.whole) in
    subst (λ x. IsNumbered 0 x) (sym g.tree_is) all.in_order

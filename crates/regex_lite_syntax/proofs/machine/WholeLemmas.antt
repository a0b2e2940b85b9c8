-- What runs from the beginning of a pattern say of the whole.
use Rattle.regex_lite_syntax.proofs.Common.{◌≡◌, ℕ, [], sym, ap, ◌∙◌, subst, Grammar, HasTree, Gap}
use Rattle.regex_lite_syntax.proofs.Common.{State, first_state, ended, Step, LeadsOn, Text, Tree}
use Rattle.regex_lite_syntax.proofs.Common.{choice_of, Flags}
use Rattle.regex_lite_syntax.proofs.machine.OneStepLemmas.{one_end, at_end}
use Rattle.regex_lite_syntax.proofs.machine.CompleteLemmas.{complete}

-- at most one tree, number and depth of groups
pub grammar_once : (flags : Flags) (pattern : Text) (a b : Tree)
    (groups groups' deepest deepest' : ℕ) → Grammar flags pattern a groups deepest
    → Grammar flags pattern b groups' deepest' → (a ≡ b) × (groups ≡ groups') × (deepest ≡ deepest')
grammar_once flags pattern a b groups groups' deepest deepest' g h =
    let u = complete flags pattern a groups deepest g in
    let v = complete flags pattern b groups' deepest' h in
    let same = one_end u.leads v.leads (λ q st. at_end u.last q u.ends st)
    (λ q st. at_end v.last q v.ends st) in (
      u.tree_is ∙ ap (λ s. choice_of (ended s)) same ∙ sym v.tree_is,
      u.groups_are ∙ ap (λ (s : State). s.point.groups) same ∙ sym v.groups_are,
      u.deepest_is ∙ ap (λ (s : State). s.point.deepest) same ∙ sym v.deepest_is,
    )

-- a run that has no further step before the end of the pattern refuses it
pub refuses : (flags : Flags) (pattern : Text) (s : State) → LeadsOn (first_state flags pattern) s
    → ((q : State) → Step s q → ⊥)
    → (s.frames ≡ [] → Gap s.point.flags.ignore_whitespace s.point.rest [] → ⊥)
    → HasTree flags pattern → ⊥
refuses flags pattern s l stuck short has =
    let u = complete flags pattern has.0 has.1.0 has.1.1 has.1.2 in
    let same = one_end u.leads l (λ q st. at_end u.last q u.ends st) stuck in
    short (subst (λ (x : State). x.frames ≡ []) same u.outermost)
    (subst (λ (x : State). Gap x.point.flags.ignore_whitespace x.point.rest []) same u.ends)

-- What is counted along a run: groups, their depth and names only grow, and each group takes a `(`.
use Rattle.regex_lite_syntax.proofs.Common.{◌≡◌, ℕ, ◌+◌, ◌≤◌, max, List, [], ◌∷◌, ◌++◌, length}
use Rattle.regex_lite_syntax.proofs.Common.{Option, sym, refl, ap, ◌∙◌, subst, append_assoc, arith}
use Rattle.regex_lite_syntax.proofs.Common.{append-nil, Grammar, NamesDiffer, GroupKind}
use Rattle.regex_lite_syntax.proofs.Common.{non_capturing, capturing, Head, numbered, plain, Point}
use Rattle.regex_lite_syntax.proofs.Common.{PastGap, State, first_state, Step, LeadsOn, stay, go}
use Rattle.regex_lite_syntax.proofs.Common.{Text, the, Tree, Flags}
use Rattle.regex_lite_syntax.specs.Grammar.Heads.{named}
use Rattle.regex_lite_syntax.specs.Parser.Machine.{opened}
use Rattle.regex_lite_syntax.proofs.machine.OneStepLemmas.{meets, at_end, leads_step}
use Rattle.regex_lite_syntax.proofs.machine.CompleteLemmas.{complete}
use Rattle.regex_lite_syntax.proofs.machine.StepLemmas.{step_open}
use Rattle.regex_lite_syntax.proofs.grammar.NameLemmas.{differ_before}
use Rattle.regex_lite_syntax.proofs.machine.ParenLemmas.{parens, one_paren, NoMore, gap_reads}
use Rattle.regex_lite_syntax.proofs.machine.ChangeLemmas.{Changes, opens, stays, step_changes}

-- at the second point as much has been counted as at the first, or more
pub record Grows (p q : Point) : Type 0 where
  pub deepest_grows : p.deepest ≤ q.deepest
  pub groups_grow : p.groups ≤ q.groups
  pub more : List Text
  pub names_grow : q.names ≡ p.names ++ more

same_counts : {p q : Point} → q.deepest ≡ p.deepest → q.groups ≡ p.groups → q.names ≡ p.names
    → Grows p q
same_counts {p} {q} deepest groups names = record {
  deepest_grows = omega (arith, deepest);
  groups_grow = omega (arith, groups);
  more = [];
  names_grow = names ∙ sym (append-nil p.names);
}

grows_on : {p q r : Point} → Grows p q → Grows q r → Grows p r
grows_on {p} a b = record {
  deepest_grows = omega (arith, a.deepest_grows, b.deepest_grows);
  groups_grow = omega (arith, a.groups_grow, b.groups_grow);
  more = a.more ++ b.more;
  names_grow =
      b.names_grow ∙ ap (λ xs. xs ++ b.more) a.names_grow ∙ append_assoc p.names a.more b.more;
}

gap_grows : {p q : Point} → PastGap p q → Grows p q
gap_grows past =
    same_counts (ap (λ (x : Point). x.deepest) past.1) (ap (λ (x : Point). x.groups) past.1)
    (ap (λ (x : Point). x.names) past.1)

change_grows : {s q : State} {p : Point} → Changes s p q → Grows p q.point
change_grows (opens head one_more) = record {
  deepest_grows = omega (arith, head.deepest);
  groups_grow = head.numbers.0;
  more = head.more;
  names_grow = head.names_grow;
}
change_grows (stays reads fewer groups deepest names) = same_counts deepest groups names

pub leads_grow : {s q : State} → LeadsOn s q → Grows s.point q.point
leads_grow {s} (stay e) =
    subst (λ (x : State). Grows s.point x.point) e (same_counts refl refl refl)
leads_grow {s} (go m st l) =
    grows_on (grows_on (gap_grows st.gap) (change_grows (step_changes st))) (leads_grow l)

-- a pattern that has been read up to this point has at least this many groups, this deep
pub record ReachesNumber (p : Point) (groups deepest : ℕ) : Type 0 where
  pub groups_reach : p.groups ≤ groups
  pub deepest_reach : p.deepest ≤ deepest
  pub names_differ : NamesDiffer p.names

-- each pattern that has a tree, where a run leads to the state: the tree's own run passes it too
pub reaches : {flags : Flags} {pattern : Text} {tree : Tree} {groups deepest : ℕ} {s : State}
    → LeadsOn (first_state flags pattern) s → Grammar flags pattern tree groups deepest
    → ReachesNumber s.point groups deepest
reaches {flags} {pattern} {tree} {groups} {deepest} {s} l g =
    let u = complete flags pattern tree groups deepest g in
    let grown = leads_grow (meets l u.leads (λ q st. at_end u.last q u.ends st)) in
    record {
      groups_reach = omega (arith, grown.groups_grow, u.groups_are);
      deepest_reach = omega (arith, grown.deepest_grows, u.deepest_is);
      names_differ = differ_before s.point.names grown.more
          (subst (λ names. NamesDiffer names) grown.names_grow u.names_differ);
    }

abbrev IsNumbered : GroupKind → Type 0
IsNumbered non_capturing = ⊥
IsNumbered (capturing index name) = Unit {0}

head_numbers : {level : ℕ} {p q : Point} {kind : GroupKind} → Head level p q kind → IsNumbered kind
    → p.groups + 1 ≤ q.groups
head_numbers {p} (numbered r e none h k) is =
    subst (λ (x : Point). p.groups + 1 ≤ x.groups) (sym h) (omega arith)
head_numbers {p} (named o f r name e g n h k) is =
    subst (λ (x : Point). p.groups + 1 ≤ x.groups) (sym h) (omega arith)
head_numbers (plain o f r new e g letters h k) is = absurd (subst (λ x. IsNumbered x) k is)

-- where a numbered group opens, a pattern that has a tree has as many of them
pub opens_number : {flags : Flags} {pattern : Text} {tree : Tree} {groups deepest index : ℕ}
    {name : Option Text} (s : State) (here first : Point) → LeadsOn (first_state flags pattern) s
    → PastGap s.point here → Head (length s.frames) here first (capturing index name)
    → Grammar flags pattern tree groups deepest → s.point.groups + 1 ≤ groups
unfolding opened
opens_number {index} {name} s here first l past head g =
    let reached =
    reaches (leads_step l (step_open s here first (capturing index name) past head)) g in
    omega (arith, (gap_grows past).groups_grow, head_numbers head tt, reached.groups_reach)

-- open groups and the `(` that are left are no more than before, nor are numbered groups and these
pub record Spends (s q : State) : Type 0 where
  pub frames_spend : length q.frames + parens q.point.rest ≤ length s.frames + parens s.point.rest
  pub groups_spend : q.point.groups + parens q.point.rest ≤ s.point.groups + parens s.point.rest

pub past_gap_reads : {p q : Point} → PastGap p q → NoMore p.rest q.rest
past_gap_reads {p} {q} past = gap_reads p.flags.ignore_whitespace p.rest q.rest past.0

spends : {s q : State} {p : Point} → PastGap s.point p → Changes s p q → Spends s q
spends past (opens head one_more) =
    let before = past_gap_reads past in
    let groups = ap (λ (x : Point). x.groups) past.1 in
    let taken = ap parens head.opens ∙ one_paren head.opened in
    record {
      frames_spend = omega (arith, before.within, head.reads.within, taken);
      groups_spend = omega (arith, before.within, head.reads.within, taken, groups, head.numbers);
    }
spends past (stays reads fewer same deepest names) =
    let before = past_gap_reads past in
    let groups = ap (λ (x : Point). x.groups) past.1 in
    record {
      frames_spend = omega (arith, before.within, reads.within, fewer);
      groups_spend = omega (arith, before.within, reads.within, groups, same);
    }

pub leads_spend : {s q : State} → LeadsOn s q → Spends s q
leads_spend {s} (stay e) =
    subst (λ x. Spends s x) e (record { frames_spend = omega arith; groups_spend = omega arith })
leads_spend {s} (go m st l) =
    let first = spends st.gap (step_changes st) in
    let more = leads_spend l in
    record {
      frames_spend = omega (arith, first.frames_spend, more.frames_spend);
      groups_spend = omega (arith, first.groups_spend, more.groups_spend);
    }

-- of the `(` of a pattern each open group has taken one
pub frames_in_parens : {flags : Flags} {pattern : Text} {s : State}
    → LeadsOn (first_state flags pattern) s → length s.frames + parens s.point.rest ≤ parens pattern
frames_in_parens l = let spent = leads_spend l in omega (arith, spent.frames_spend)

-- and each numbered one
pub groups_in_parens : {flags : Flags} {pattern : Text} {s : State}
    → LeadsOn (first_state flags pattern) s → s.point.groups + parens s.point.rest ≤ parens pattern
groups_in_parens l = let spent = leads_spend l in omega (arith, spent.groups_spend)

-- so where a `(` stands, the pattern has one more
pub more_parens : {flags : Flags} {pattern : Text} (s : State) (here : Point) (begun : Text)
    → LeadsOn (first_state flags pattern) s → PastGap s.point here → here.rest ≡ the "(" ∷ begun
    → (length s.frames + 1 ≤ parens pattern) × (s.point.groups + 1 ≤ parens pattern)
more_parens s here begun l past e =
    let before = past_gap_reads past in
    let taken = ap parens e ∙ one_paren begun in (
      omega (arith, before.within, taken, frames_in_parens l),
      omega (arith, before.within, taken, groups_in_parens l),
    )

-- a step leaves groups in one another no deeper than the number that are open, and as deep
deepens : {s q : State} {p : Point} → Changes s p q
    → (q.point.deepest ≤ max p.deepest (length q.frames))
    × (length s.frames ≤ p.deepest → length q.frames ≤ q.point.deepest)
deepens (opens head one_more) =
    let deepest = head.deepest in
    (omega (arith, deepest, one_more), λ h. omega (arith, deepest, one_more, h))
deepens (stays reads fewer groups deepest names) =
    (omega (arith, deepest), λ h. omega (arith, deepest, fewer, h))

same_deepest : (p q : Point) → PastGap p q → q.deepest ≡ p.deepest
same_deepest p q past = ap (λ (x : Point). x.deepest) past.1

pub step_deepest : {s q : State} → Step s q
    → q.point.deepest ≤ max s.point.deepest (length q.frames)
step_deepest {s} st =
    omega (arith, (deepens (step_changes st)).0, same_deepest s.point st.past st.gap)

deep_on : {s q : State} → length s.frames ≤ s.point.deepest → LeadsOn s q
    → length q.frames ≤ q.point.deepest
deep_on {s} h (stay e) = subst (λ (x : State). length x.frames ≤ x.point.deepest) e h
deep_on {s} h (go m st l) =
    let deep = (deepens (step_changes st)).1 in
    deep_on (deep (omega (arith, same_deepest s.point st.past st.gap, h))) l

-- and as deep as that they have stood
pub frames_deep : {flags : Flags} {pattern : Text} {s : State}
    → LeadsOn (first_state flags pattern) s → length s.frames ≤ s.point.deepest
frames_deep l = deep_on (omega arith) l

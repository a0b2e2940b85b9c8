-- No state of the machine has two steps, and a gap may be left before a step or with it.
use Rattle.regex_lite_syntax.proofs.Common.{◌≡◌, [], sym, refl, ap, ◌∙◌, subst, inl, inr, Gap}
use Rattle.regex_lite_syntax.proofs.Common.{EndsGap, WholeGap, Point, onward, PastGap, State, Kind}
use Rattle.regex_lite_syntax.proofs.Common.{stop, kind_at, Does, Step, LeadsOn, stay, go, bar}
use Rattle.regex_lite_syntax.proofs.Common.{closing, paren, Text}
use Rattle.regex_lite_syntax.specs.Parser.Machine.{opened, closed, parted, with_items, operator}
use Rattle.regex_lite_syntax.specs.Parser.Machine.{atom}
use Rattle.regex_lite_syntax.proofs.ListLemmas.{same_head, same_tail, snoc_same}
use Rattle.regex_lite_syntax.proofs.grammar.GapLemmas.{empty_gap, gap_at_end}
use Rattle.regex_lite_syntax.proofs.grammar.GapLemmas.{gap_to_end, whole_gap_once}
use Rattle.regex_lite_syntax.proofs.grammar.OperatorLemmas.{operator_once}
use Rattle.regex_lite_syntax.proofs.grammar.AtomLemmas.{atom_once}
use Rattle.regex_lite_syntax.proofs.grammar.HeadLemmas.{head_once, directive_once}
use Rattle.regex_lite_syntax.proofs.grammar.HeadLemmas.{head_or_directive}

does_once : (k : Kind) (s : State) (p : Point) (a b : State) → Does k s p a → Does k s p b → a ≡ b
does_once stop s p a b u v = absurd u
does_once paren s p a b (inl u) (inl v) =
    let head = head_once u.2 v.2 in
    cc (u.3, v.3, head.same_point, head.same_kind)
does_once paren s p a b (inl u) (inr v) = absurd (head_or_directive u.2 v.1)
does_once paren s p a b (inr u) (inl v) = absurd (head_or_directive v.2 u.1)
does_once paren s p a b (inr u) (inr v) = cc (u.2, v.2, directive_once u.1 v.1)
does_once closing s p a b u v =
    let frames = sym u.4 ∙ v.4 in
    cc (u.5, v.5, same_tail (sym u.3 ∙ v.3), same_head frames, same_tail frames)
does_once bar s p a b u v =
    u.2 ∙ ap (λ t. parted s (onward p t)) (same_tail (sym u.1 ∙ v.1)) ∙ sym v.2
does_once operator s p a b u v =
    let items = snoc_same u.1 v.1 u.2 v.2 (sym u.6 ∙ v.6) in
    let same = operator_once u.7 v.7 in
    cc (u.8, v.8, items.0, items.1, same.same_rest, same.same_min, same.same_max, same.same_greed)
does_once atom s p a b u v =
    let same = atom_once p.flags p.rest u.0 v.0 u.1 v.1 u.2 v.2 in
    cc (u.3, v.3, same.0, same.1)

-- past a gap that is as long as it can be there is one point
pub past_gap_once : (p q r : Point) → PastGap p q → PastGap p r
    → EndsGap p.flags.ignore_whitespace q.rest → EndsGap p.flags.ignore_whitespace r.rest → q ≡ r
past_gap_once p q r u v eq er =
    u.1 ∙ ap (onward p)
    (whole_gap_once p.flags.ignore_whitespace p.rest q.rest r.rest (u.0, eq) (v.0, er)) ∙ sym v.1

-- a state has at most one step
pub step_once : (s a b : State) → Step s a → Step s b → a ≡ b
step_once s a b u v =
    let e = past_gap_once s.point u.past v.past u.gap v.gap u.ends v.ends in
    does_once (kind_at u.past.rest) s u.past a b u.does
    (subst (λ p. Does (kind_at p.rest) s p b) (sym e) v.does)

pub leads_to : {s m q : State} → LeadsOn s m → LeadsOn m q → LeadsOn s q
leads_to {s} {m} {q} (stay e) l = subst (λ x. LeadsOn x q) (sym e) l
leads_to (go m st k) l = go m st (leads_to k l)

pub leads_as : {s q r : State} → LeadsOn s q → q ≡ r → LeadsOn s r
leads_as l e = leads_to l (stay e)

pub leads_step : {s m q : State} → LeadsOn s m → Step m q → LeadsOn s q
leads_step l st = leads_to l (go _ st (stay refl))

-- of two states that are reached, the one leads to the other where that has no step
pub meets : {s a b : State} → LeadsOn s a → LeadsOn s b → ((q : State) → Step b q → ⊥) → LeadsOn a b
meets {s} {a} {b} (stay e) l stuck = subst (λ x. LeadsOn x b) e l
meets {s} {a} {b} (go m st l) (stay e) stuck = absurd (stuck m (subst (λ x. Step x m) e st))
meets {s} {a} {b} (go m st l) (go n st' l') stuck =
    meets l (subst (λ x. LeadsOn x b) (step_once s n m st' st) l') stuck

ends : {s q : State} → LeadsOn s q → ((x : State) → Step s x → ⊥) → s ≡ q
ends (stay e) stuck = e
ends (go m st l) stuck = absurd (stuck m st)

-- two states that are reached and have no step are one
pub one_end : {s a b : State} → LeadsOn s a → LeadsOn s b → ((q : State) → Step a q → ⊥)
    → ((q : State) → Step b q → ⊥) → a ≡ b
one_end l l' stuck stuck' = ends (meets l l' stuck') stuck

-- what is done at a point does not depend on the point of the state
does_from : (k : Kind) (s : State) (here p : Point) (q : State) → Does k s p q
    → Does k (record s { point = here }) p q
unfolding opened closed parted with_items
does_from stop s here p q d = d
does_from _ s here p q d = d

-- the same state with another rest of the pattern
abbrev pub moved : State → Text → State
moved s u = record s { point = onward s.point u }

-- a step past a whole gap is a step before it
pub step_over_gap : (s q : State) (u : Text)
    → WholeGap s.point.flags.ignore_whitespace s.point.rest u → Step (moved s u) q → Step s q
step_over_gap s q u whole st =
    let verbose = s.point.flags.ignore_whitespace in
    let same : st.past.rest ≡ u = gap_at_end verbose u st.past.rest whole.1 st.gap.0 in
    record {
      past = st.past;
      gap = (subst (λ t. Gap verbose s.point.rest t) (sym same) whole.0, st.gap.1);
      ends = st.ends;
      does = does_from (kind_at st.past.rest) (moved s u) s.point st.past q st.does;
    }

-- and a step before it is a step past it
pub step_past_gap : (s q : State) (u : Text)
    → WholeGap s.point.flags.ignore_whitespace s.point.rest u → Step s q → Step (moved s u) q
step_past_gap s q u whole st =
    let verbose = s.point.flags.ignore_whitespace in
    let same = whole_gap_once verbose s.point.rest u st.past.rest whole (st.gap.0, st.ends) in
    record {
      past = st.past;
      gap = (subst (λ t. Gap verbose u t) same (empty_gap verbose u), st.gap.1);
      ends = st.ends;
      does = does_from (kind_at st.past.rest) s (onward s.point u) st.past q st.does;
    }

-- where a gap leads to the end there is no step
pub at_end : (s q : State) → Gap s.point.flags.ignore_whitespace s.point.rest [] → Step s q → ⊥
at_end s q g st =
    let verbose = s.point.flags.ignore_whitespace in
    let e = gap_to_end verbose s.point.rest st.past.rest (st.gap.0, st.ends) g in
    subst (λ t. Does (kind_at t) s st.past q) e st.does

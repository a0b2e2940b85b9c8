-- How far the grammar reads a pattern, as the machine runs it.
use Rattle.regex_lite_syntax.proofs.ListLemmas.{same_head}
use Rattle.regex_lite_syntax.proofs.Common.{◌≡◌, ℕ, ◌+◌, ◌≤◌, ◌⊎◌, List, [], ◌∷◌, ◌++◌, length}
use Rattle.regex_lite_syntax.proofs.Common.{drop, sym, refl, ap, ◌∙◌, subst, inl, inr, add-one}
use Rattle.regex_lite_syntax.proofs.Common.{arith, IsReadTo, Alternatives, Gap, NamesDiffer, Point}
use Rattle.regex_lite_syntax.proofs.Common.{start, Frame, State, first_state, Step, LeadsOn, stay}
use Rattle.regex_lite_syntax.proofs.Common.{go, Text, Tree, sequence_of, Flags}
use Rattle.regex_lite_syntax.specs.FaultPlaces.{ReadsOn, outside, in_group, IsUnclosedAt}
use Rattle.regex_lite_syntax.proofs.grammar.NameLemmas.{differ_before}
use Rattle.regex_lite_syntax.proofs.machine.CompleteLemmas.{standing, frame_at, into_group}
use Rattle.regex_lite_syntax.proofs.machine.CompleteLemmas.{alternatives_lead}
use Rattle.regex_lite_syntax.proofs.machine.GrowthLemmas.{leads_grow, past_gap_reads}
use Rattle.regex_lite_syntax.proofs.machine.OneStepLemmas.{step_once, leads_to}
use Rattle.regex_lite_syntax.proofs.machine.SoundLemmas.{Partial, all_of, Stacked, Stands}
use Rattle.regex_lite_syntax.proofs.machine.ChangeLemmas.{step_changes, change_reads}

-- what has been read of the innermost group, inside of those around it
reads_stacked : (begin : Point) (frames : List Frame) (begun : List Text) (from p : Point)
    (branches items : List Tree) → Stacked begin frames begun from
    → Partial (length frames) from p branches items → ReadsOn (length frames) begin p
reads_stacked begin [] begun from p branches items below here =
    let all = all_of 0 from p branches items here in
    outside (branches ++ sequence_of items ∷ []) refl
    (subst (λ x. Alternatives 0 x p (branches ++ sequence_of items ∷ [])) below.0 all)
reads_stacked begin (f ∷ frames) begun from p branches items below here =
    let level = length frames in
    let before =
    reads_stacked begin frames below.3 below.0 below.1 f.branches f.items below.9 below.4 in
    let all = all_of _ from p branches items here in
    in_group level below.1 below.2 from f.kind _ (sym (add-one level)) before below.5 below.6 all

-- the pattern is read up to where a state stands
pub reads_of : (begin : Point) (begun : List Text) (s : State) → Stands begin begun s
    → ReadsOn (length s.frames) begin s.point
reads_of begin begun s h =
    reads_stacked begin s.frames begun h.from s.point s.branches s.items h.below h.here

-- and the machine runs up to where it is read
pub record Runs (level : ℕ) (p q : Point) : Type 0 where
  pub frames : List Frame
  pub branches : List Tree
  pub items : List Tree
  pub depth : level ≡ length frames
  pub leads : LeadsOn (standing p [] [] []) (standing q frames branches items)

pub runs_of : {level : ℕ} {p q : Point} → ReadsOn level p q → Runs level p q
runs_of {p} {q} (outside branches none d) =
    let u = alternatives_lead d [] refl in record {
      frames = [];
      branches = u.before;
      items = u.items;
      depth = none;
      leads = u.leads;
    }
runs_of (in_group around last here first kind branches deeper before past head d) =
    let r = runs_of before in
    let f = frame_at here kind r.branches r.items in
    let into =
    into_group around last here first kind r.frames r.branches r.items r.depth past head in
    let depth = ap (λ n. n + 1) r.depth in
    let inner = deeper ∙ depth ∙ add-one (length r.frames) in
    let u = alternatives_lead d (f ∷ r.frames) inner in
    record {
      frames = f ∷ r.frames;
      branches = u.before;
      items = u.items;
      depth = inner;
      leads = leads_to r.leads (leads_to into u.leads);
    }

-- of two states that are reached, the one leads to the other
either_leads : {s a b : State} → LeadsOn s a → LeadsOn s b → LeadsOn a b ⊎ LeadsOn b a
either_leads {s} {a} {b} (stay e) l = inl (subst (λ x. LeadsOn x b) e l)
either_leads {s} {a} {b} (go m st l) (stay e) = inr (subst (λ x. LeadsOn x a) e (go m st l))
either_leads {s} {a} {b} (go m st l) (go n st' l') =
    either_leads l (subst (λ x. LeadsOn x b) (step_once s n m st' st) l')

-- less is left after a step
leads_shorter : {s q : State} → LeadsOn s q → length q.point.rest ≤ length s.point.rest
leads_shorter {s} (stay e) =
    subst (λ (x : State). length x.point.rest ≤ length s.point.rest) e (omega arith)
leads_shorter {s} {q} (go m st l) =
    let step = change_reads (step_changes st) in
    omega (arith, (past_gap_reads st.gap).shorter, step.shorter, leads_shorter l)

-- a state with no step, but one to where a name stands twice, is as far as the pattern is read
pub stuck_farthest : (flags : Flags) (pattern : Text) (s : State)
    → LeadsOn (first_state flags pattern) s
    → ((q : State) → Step s q → NamesDiffer q.point.names → ⊥)
    → (q : Point) → IsReadTo flags pattern q → length s.point.rest ≤ length q.rest
stuck_farthest flags pattern s l stuck q read =
    let r = runs_of read.reads in
    elim (either_leads l r.leads) [
      | inl on ↦ beyond (standing q r.frames r.branches r.items) on read.names_differ
      | inr back ↦ leads_shorter back
    ]
  where
    beyond : (x : State) → LeadsOn s x → NamesDiffer x.point.names
        → length s.point.rest ≤ length x.point.rest
    beyond x (stay e) differ =
        subst (λ (y : State). length s.point.rest ≤ length y.point.rest) e (omega arith)
    beyond x (go m st l') differ =
        let grown = leads_grow l' in
        absurd (stuck m st (differ_before m.point.names grown.more
        (subst (λ names. NamesDiffer names) grown.names_grow differ)))

-- where a gap leads to the end and groups are open, the innermost is not closed
pub unclosed_at : (flags : Flags) (pattern : Text) (s : State) (text : Text) (below : List Text)
    (k : ℕ) → Stands (start flags pattern) (text ∷ below) s → text ≡ drop k pattern
    → Gap s.point.flags.ignore_whitespace s.point.rest [] → NamesDiffer s.point.names
    → IsUnclosedAt flags pattern k
unclosed_at flags pattern s text below k h begins gap differ =
    of_frames s.frames h.below h.here
  where
    of_frames : (frames : List Frame) → Stacked (start flags pattern) frames (text ∷ below) h.from
        → Partial (length frames) h.from s.point s.branches s.items → IsUnclosedAt flags pattern k
    of_frames [] stacked here = cc stacked.1
    of_frames (f ∷ frames) stacked here =
        let level = length frames in
        record {
          level = level;
          last = stacked.1;
          here = stacked.2;
          first = h.from;
          kind = f.kind;
          end = s.point;
          branches = s.branches ++ sequence_of s.items ∷ [];
          before =
              reads_stacked (start flags pattern) frames stacked.3 stacked.0 stacked.1 f.branches
              f.items stacked.9 stacked.4;
          past = stacked.5;
          begins = sym (same_head stacked.8) ∙ begins;
          head = stacked.6;
          within = subst
              (λ n. Alternatives n h.from s.point (s.branches ++ sequence_of s.items ∷ []))
              (sym (add-one level)) (all_of _ h.from s.point s.branches s.items here);
          ends = gap;
          names_differ = differ;
        }

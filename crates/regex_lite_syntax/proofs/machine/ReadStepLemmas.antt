-- What the parser reads is a step of the machine, and where it refuses there is none.
use Rattle.regex_lite_syntax.proofs.Common.{◌≡◌, ℕ, Bool, true, false, List, [], ◌∷◌, ◌++◌, map}
use Rattle.regex_lite_syntax.proofs.Common.{reverse, Option, sym, refl, ap, ◌∙◌, subst, Atom}
use Rattle.regex_lite_syntax.proofs.Common.{Counted, EndsGap, NamesDiffer, Operator, State, Step}
use Rattle.regex_lite_syntax.proofs.Common.{frame_of, StepsTo, CanRead, Text, the, Tree, repeated}
use Rattle.regex_lite_syntax.proofs.Common.{tree_of, Parser}
use Rattle.regex_lite_syntax.specs.Parser.Machine.{closed, parted, with_items, BeginsAtom, operator}
use Rattle.regex_lite_syntax.specs.Parser.States.{state, FreshStep, Closes, EndsBranch, Adds}
use Rattle.regex_lite_syntax.proofs.machine.StepLemmas.{at_once, step_close, step_part}
use Rattle.regex_lite_syntax.proofs.machine.StepLemmas.{step_operate, step_atom, no_close}
use Rattle.regex_lite_syntax.proofs.machine.StepLemmas.{no_operand, no_counts, some_item}
use Rattle.regex_lite_syntax.proofs.machine.AskLemmas.{Asks}

-- a step that adds no name
pub fresh_step : {s q x : State} → Step s x → q ≡ x → x.point.names ≡ s.point.names → FreshStep s q
fresh_step {s} st is same = (
  subst (λ x. Step s x) (sym is) st,
  λ differ.
      subst (λ names. NamesDiffer names) (sym (ap (λ (x : State). x.point.names) is ∙ same)) differ,
)

pub reads_end : (p q : Parser) (t rest : Text) → t ≡ the ")" ∷ rest → Closes p q
    → StepsTo p q t rest
unfolding state closed
reads_end p q t rest e closes d =
    let s = state p t d in
    let c = closes t rest d in
    (d, fresh_step (step_close s s.point c.0 c.1 rest (at_once s.point) e c.2) c.3 refl)

pub reads_no_end : (p : Parser) (t rest : Text) → t ≡ the ")" ∷ rest → p.below.items ≡ []
    → CanRead p t → ⊥
unfolding state
reads_no_end p t rest e none can =
    let s = state p t can.0 in
    no_close s can.1 s.point rest (at_once s.point) e
    (ap (λ xs. reverse (map frame_of xs)) none) can.2

pub reads_bar : (p q : Parser) (t rest : Text) → t ≡ the "|" ∷ rest → EndsBranch p q
    → StepsTo p q t rest
unfolding state parted
reads_bar p q t rest e parts d =
    let s = state p t d in
    (d, fresh_step (step_part s s.point rest (at_once s.point) e) (parts t rest d) refl)

-- an operator takes the last item, and adds it again repeated
pub reads_repeated : (p q : Parser) (t rest : Text) (items : List Tree) (a : Tree) (least : ℕ)
    (most : Option ℕ)
    (greedy : Bool) → map tree_of p.here.items.items ≡ items ++ a ∷ []
    → ((d : ℕ) → state q rest d
    ≡ with_items (state p t d) (record (state p t d).point { rest = rest })
    (items ++ repeated least most greedy a ∷ []))
    → Operator p.here.flags t rest least most greedy → StepsTo p q t rest
unfolding state with_items
reads_repeated p q t rest items a least most greedy last repeats o d =
    let s = state p t d in (
      d,
      fresh_step (step_operate s s.point rest items a least most greedy (at_once s.point) last o)
          (repeats d) refl,
    )

pub reads_no_operator : (p : Parser) (t : Text) → Asks p.here.flags.ignore_whitespace t operator
    → p.here.items.items ≡ [] → CanRead p t → ⊥
unfolding state
reads_no_operator p t asked none can =
    let s = state p t can.0 in
    no_operand s can.1 s.point (at_once s.point) asked (ap (map tree_of) none) can.2

pub reads_no_counts : (p : Parser) (t rest : Text) → t ≡ the "{" ∷ rest
    → ((past : Text) (least : ℕ) (most : Option ℕ)
    → Counted p.here.flags.ignore_whitespace rest past least most → ⊥)
    → CanRead p t → ⊥
unfolding state
reads_no_counts p t rest e none can =
    let s = state p t can.0 in
    no_counts s can.1 s.point rest (at_once s.point) e none can.2

pub reads_atom : (p q : Parser) (t rest : Text) (a : Tree) → Atom p.here.flags t rest a → Adds p q a
    → StepsTo p q t rest
unfolding state with_items
reads_atom p q t rest a d adds n =
    let s = state p t n in
    (n, fresh_step (step_atom s s.point rest a (at_once s.point) d) (adds t rest n) refl)

still_ends : (verbose : Bool) (t more : Text) → EndsGap verbose t → BeginsAtom t
    → EndsGap verbose (t ++ more)
still_ends true [] more ends begins = cc
still_ends true (c ∷ t) more ends begins = ends
still_ends false t more ends begins = tt

still_begins : (t more : Text) → BeginsAtom t → BeginsAtom (t ++ more)
still_begins [] more begins = cc
still_begins (c ∷ t) more begins = begins

-- where an item has to begin, a step in a longer text is one that reads an item
pub reads_item : (p : Parser) (t more : Text) → EndsGap p.here.flags.ignore_whitespace t
    → BeginsAtom t
    → CanRead p (t ++ more) → (rest : Text) × (a : Tree) × Atom p.here.flags (t ++ more) rest a
unfolding state
reads_item p t more ends begins can =
    let s = state p (t ++ more) can.0 in
    some_item s can.1 s.point (at_once s.point)
    (still_ends p.here.flags.ignore_whitespace t more ends begins) (still_begins t more begins)
    can.2

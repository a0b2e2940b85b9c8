-- The steps of the machine by what stands past the gap, and the places that have no step.
use Rattle.regex_lite_syntax.proofs.Common.{◌≡◌, ℕ, ◌+◌, Bool, ◌≢◌, List, [], ◌∷◌, ◌++◌, length}
use Rattle.regex_lite_syntax.proofs.Common.{Some, Option, sym, refl, ap, ◌∙◌, subst, inl, inr}
use Rattle.regex_lite_syntax.proofs.Common.{arith, Atom, Counted, FlagLetters, Gap, EndsGap}
use Rattle.regex_lite_syntax.proofs.Common.{WholeGap, NameWritten, NameOpening, Named, GroupKind}
use Rattle.regex_lite_syntax.proofs.Common.{capturing, numbered_on, named_on, inside, Head}
use Rattle.regex_lite_syntax.proofs.Common.{Directive, Operator, Point, onward, PastGap, Frame}
use Rattle.regex_lite_syntax.proofs.Common.{State, Kind, kind_at, Does, Step, bar, closing, paren}
use Rattle.regex_lite_syntax.proofs.Common.{Text, the, Tree, repeated, Flags}
use Rattle.regex_lite_syntax.specs.Parser.Machine.{opened, closed, parted, with_items, operator}
use Rattle.regex_lite_syntax.specs.Parser.Machine.{atom}
use Rattle.regex_lite_syntax.proofs.ListLemmas.{no_last}
use Rattle.regex_lite_syntax.proofs.grammar.GapLemmas.{empty_gap}
use Rattle.regex_lite_syntax.proofs.grammar.OperatorLemmas.{counts_of}
use Rattle.regex_lite_syntax.proofs.grammar.FlagLetterLemmas.{empty_head, empty_directive}
use Rattle.regex_lite_syntax.proofs.grammar.NameLemmas.{past_opening}
use Rattle.regex_lite_syntax.proofs.grammar.NameOpeningLemmas.{opening_question, opening_or_plain}
use Rattle.regex_lite_syntax.proofs.grammar.NameOpeningLemmas.{opening_or_directive, no_opening}
use Rattle.regex_lite_syntax.proofs.grammar.HeadLemmas.{named_head, no_head, no_directive}
use Rattle.regex_lite_syntax.proofs.machine.OneStepLemmas.{past_gap_once}
use Rattle.regex_lite_syntax.proofs.machine.AskLemmas.{Asks, asks_paren, asks_closing, asks_bar}
use Rattle.regex_lite_syntax.proofs.machine.AskLemmas.{asks_brace, asks_head, asks_directive}
use Rattle.regex_lite_syntax.proofs.machine.AskLemmas.{asks_operator, asks_atom}

-- no gap need stand before what is read: so `here` may be the point of the state below
pub at_once : (p : Point) → PastGap p p
at_once p = (empty_gap p.flags.ignore_whitespace p.rest, refl)

-- the flags past a gap are those before it
same_flags : (p here : Point) → PastGap p here
    → here.flags.ignore_whitespace ≡ p.flags.ignore_whitespace
same_flags p here past = ap (λ (q : Point). q.flags.ignore_whitespace) past.1

-- what the character at a point past the gap asks for is done by a step
step_by : (k : Kind) (s : State) (here : Point) (q : State) → PastGap s.point here
    → Asks here.flags.ignore_whitespace here.rest k → Does k s here q → Step s q
step_by k s here q past asked d = record {
  past = here;
  gap = past;
  ends = subst (λ verbose. EndsGap verbose here.rest) (same_flags s.point here past) asked.ends;
  does = subst (λ j. Does j s here q) (sym asked.kind_is) d;
}

-- and each step does that
does_by : (k : Kind) (s : State) (here : Point) (q : State) → PastGap s.point here
    → Asks here.flags.ignore_whitespace here.rest k → Step s q → Does k s here q
does_by k s here q past asked st =
    let ends =
    subst (λ verbose. EndsGap verbose here.rest) (same_flags s.point here past) asked.ends in
    let same = past_gap_once s.point st.past here st.gap past st.ends ends in
    subst (λ j. Does j s here q) asked.kind_is
    (subst (λ p. Does (kind_at p.rest) s p q) same st.does)

pub step_open : (s : State) (here first : Point) (kind : GroupKind) → PastGap s.point here
    → Head (length s.frames) here first kind → Step s (opened s here first kind)
step_open s here first kind past head =
    step_by paren s here _ past (asks_head head) (inl (first, kind, head, refl))

-- a group that has a name
pub step_named : (s : State) (here : Point) (begun first rest name : Text) → PastGap s.point here
    → here.rest ≡ the "(" ∷ begun → Gap here.flags.ignore_whitespace begun first
    → Named first rest name
    → Step s
    (opened s here (named_on (numbered_on (inside (length s.frames) here here.flags rest)) name)
    (capturing (here.groups + 1) (Some name)))
step_named s here begun first rest name past e g n =
    step_open s here _ _ past (named_head (length s.frames) here begun first rest name e g n)

pub step_direct : (s : State) (here next : Point) → PastGap s.point here → Directive here next
    → Step s (with_items s next s.items)
step_direct s here next past d =
    step_by paren s here _ past (asks_directive d) (inr (next, d, refl))

pub step_close : (s : State) (here : Point) (f : Frame) (frames : List Frame) (rest : Text)
    → PastGap s.point here
    → here.rest ≡ the ")" ∷ rest → s.frames ≡ f ∷ frames → Step s (closed s here f frames rest)
step_close s here f frames rest past e below =
    step_by closing s here _ past (asks_closing here.flags.ignore_whitespace here.rest rest e)
    (rest, f, frames, e, below, refl)

pub step_part : (s : State) (here : Point) (rest : Text) → PastGap s.point here
    → here.rest ≡ the "|" ∷ rest → Step s (parted s (onward here rest))
step_part s here rest past e =
    step_by bar s here _ past (asks_bar here.flags.ignore_whitespace here.rest rest e)
    (rest, e, refl)

pub step_operate : (s : State) (here : Point) (rest : Text) (before : List Tree) (a : Tree)
    (least : ℕ) (most : Option ℕ) (greedy : Bool) → PastGap s.point here
    → s.items ≡ before ++ a ∷ [] → Operator here.flags here.rest rest least most greedy
    → Step s (with_items s (onward here rest) (before ++ repeated least most greedy a ∷ []))
step_operate s here rest before a least most greedy past items o =
    step_by operator s here _ past (asks_operator o here.flags.ignore_whitespace)
    (rest, before, a, least, most, greedy, items, o, refl)

pub step_atom : (s : State) (here : Point) (rest : Text) (a : Tree) → PastGap s.point here
    → Atom here.flags here.rest rest a
    → Step s (with_items s (onward here rest) (s.items ++ a ∷ []))
step_atom s here rest a past d =
    step_by atom s here _ past (asks_atom here.flags here.rest rest a d) (rest, a, d, refl)

-- nor at a `(` where neither a head nor a directive stands
pub no_open : (s q : State) (here : Point) (rest : Text) → PastGap s.point here
    → here.rest ≡ the "(" ∷ rest
    → ((first : Point) (kind : GroupKind) → Head (length s.frames) here first kind → ⊥)
    → ((next : Point) → Directive here next → ⊥) → Step s q → ⊥
no_open s q here rest past e no_group no_flags st =
    let d =
    does_by paren s here q past (asks_paren here.flags.ignore_whitespace here.rest rest e) st in
    neither d
  where
    neither : Does paren s here q → ⊥
    neither (inl d) = no_group d.0 d.1 d.2
    neither (inr d) = no_flags d.0 d.1

-- so not where past the `?` no name stands and no flags lead to a `:` or a `)`
pub no_flags : (s q : State) (here : Point) (opened first : Text) → PastGap s.point here
    → here.rest ≡ the "(" ∷ opened → WholeGap here.flags.ignore_whitespace opened (the "?" ∷ first)
    → ((rest name : Text) → Named (the "?" ∷ first) rest name → ⊥)
    → ((rest : Text) (new : Flags) → FlagLetters here.flags first (the ":" ∷ rest) new → ⊥)
    → ((rest : Text) (new : Flags) → FlagLetters here.flags first (the ")" ∷ rest) new → ⊥)
    → Step s q → ⊥
no_flags s q here opened first past e whole no_named no_colon no_paren =
    no_open s q here opened past e
    (λ into kind. no_head (length s.frames) here into kind opened first e whole no_named no_colon)
    (λ next. no_directive here next opened first e whole (λ rest new differ. no_paren rest new))

-- nor where a name is opened and none follows
pub no_name : (s q : State) (here : Point) (opened u begun : Text) → PastGap s.point here
    → here.rest ≡ the "(" ∷ opened → WholeGap here.flags.ignore_whitespace opened u
    → NameOpening u begun
    → ((rest name : Text) → NameWritten begun rest name → ⊥) → Step s q → ⊥
no_name s q here opened u begun past e whole opens none =
    let verbose = here.flags.ignore_whitespace in
    let question = opening_question u begun opens in
    let first = question.0 in
    let there = subst (λ t. NameOpening t begun) question.1 opens in
    no_flags s q here opened first past e (subst (λ t. WholeGap verbose opened t) question.1 whole)
    (λ rest name n. none rest name (past_opening (the "?" ∷ first) begun rest name there n))
    (λ rest new. opening_or_plain here.flags new first begun rest there)
    (λ rest new. opening_or_directive here.flags new first begun rest there)

-- nor at a directive that writes nothing
pub no_empty : (s q : State) (here : Point) (opened rest : Text) → PastGap s.point here
    → here.rest ≡ the "(" ∷ opened
    → WholeGap here.flags.ignore_whitespace opened (the "?" ∷ the ")" ∷ rest) → Step s q → ⊥
no_empty s q here opened rest past e whole =
    no_open s q here opened past e (λ into kind.
    no_head (length s.frames) here into kind opened (the ")" ∷ rest) e whole of_name of_head)
    (λ next. no_directive here next opened (the ")" ∷ rest) e whole of_directive)
  where
    of_name : (r name : Text) → Named (the "?" ∷ the ")" ∷ rest) r name → ⊥
    of_name r name n =
        no_opening (the ")") rest n.past (λ c. omega (arith, c)) (λ c. omega (arith, c)) n.opens

    of_head : (r : Text) (new : Flags)
        → FlagLetters here.flags (the ")" ∷ rest) (the ":" ∷ r) new → ⊥
    of_head r new = empty_head here.flags (the ")" ∷ rest) rest r new refl

    of_directive : (r : Text) (new : Flags) → the ")" ∷ rest ≢ the ")" ∷ r
        → FlagLetters here.flags (the ")" ∷ rest) (the ")" ∷ r) new → ⊥
    of_directive r new = empty_directive here.flags (the ")" ∷ rest) rest r new refl

-- nor at a `)` where no group is open
pub no_close : (s q : State) (here : Point) (rest : Text) → PastGap s.point here
    → here.rest ≡ the ")" ∷ rest
    → s.frames ≡ [] → Step s q → ⊥
no_close s q here rest past e outermost st =
    let d =
    does_by closing s here q past (asks_closing here.flags.ignore_whitespace here.rest rest e) st in
    cc (outermost, d.4)

-- nor at an operator that stands after no item
pub no_operand : (s q : State) (here : Point) → PastGap s.point here
    → Asks here.flags.ignore_whitespace here.rest operator → s.items ≡ [] → Step s q → ⊥
no_operand s q here past asked none st =
    let d = does_by operator s here q past asked st in no_last d.1 d.2 (sym none ∙ d.6)

-- nor at a brace that opens no counts
pub no_counts : (s q : State) (here : Point) (rest : Text) → PastGap s.point here
    → here.rest ≡ the "{" ∷ rest
    → ((past : Text) (least : ℕ) (most : Option ℕ)
    → Counted here.flags.ignore_whitespace rest past least most → ⊥)
    → Step s q → ⊥
no_counts s q here rest past e none st =
    let d =
    does_by operator s here q past (asks_brace here.flags.ignore_whitespace here.rest rest e) st in
    let counts = counts_of here.flags here.rest rest d.0 d.3 d.4 d.5 e d.7 in
    none counts.0 d.3 d.4 counts.1

-- where an item would have to begin, one does
pub some_item : (s q : State) (here : Point) → PastGap s.point here
    → EndsGap here.flags.ignore_whitespace here.rest → kind_at here.rest ≡ atom → Step s q
    → (rest : Text) × (a : Tree) × Atom here.flags here.rest rest a
some_item s q here past ends kind st =
    let d = does_by atom s here q past (record { ends = ends; kind_is = kind }) st in
    (d.0, d.1, d.2)

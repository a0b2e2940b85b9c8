-- What a head, a directive and a step change of what is counted.
use Rattle.regex_lite_syntax.proofs.Common.{◌≡◌, ℕ, ◌+◌, ◌≤◌, max, List, [], ◌∷◌, ◌++◌, length, sym}
use Rattle.regex_lite_syntax.proofs.Common.{refl, ap, subst, inl, inr, add-one, arith, append-nil}
use Rattle.regex_lite_syntax.proofs.Common.{GroupKind, Head, numbered, plain, Directive, sets}
use Rattle.regex_lite_syntax.proofs.Common.{Point, State, Kind, stop, kind_at, Does, Step, bar}
use Rattle.regex_lite_syntax.proofs.Common.{closing, paren, Text, the}
use Rattle.regex_lite_syntax.specs.Grammar.Heads.{named}
use Rattle.regex_lite_syntax.specs.Parser.Machine.{opened, closed, parted, with_items, operator}
use Rattle.regex_lite_syntax.specs.Parser.Machine.{atom}
use Rattle.regex_lite_syntax.proofs.machine.ParenLemmas.{NoMore, nothing_read, then_read}
use Rattle.regex_lite_syntax.proofs.machine.ParenLemmas.{past_first, one_read, gap_reads}
use Rattle.regex_lite_syntax.proofs.machine.ParenLemmas.{gap_and_one, operator_reads, atom_reads}
use Rattle.regex_lite_syntax.proofs.machine.ParenLemmas.{letters_read, named_reads}

-- a head takes one `(`, numbers one group at most and adds names
pub record TakesParen (level : ℕ) (p q : Point) : Type 0 where
  pub opened : Text
  pub opens : p.rest ≡ the "(" ∷ opened
  pub reads : NoMore opened q.rest
  pub deepest : q.deepest ≡ max p.deepest (level + 1)
  pub numbers : (p.groups ≤ q.groups) × (q.groups ≤ p.groups + 1)
  pub more : List Text
  pub names_grow : q.names ≡ p.names ++ more

pub head_takes : {level : ℕ} {p q : Point} {kind : GroupKind} → Head level p q kind
    → TakesParen level p q
head_takes {level} {p} (numbered r e none h k) =
    subst (λ x. TakesParen level p x) (sym h) (record {
      opened = r;
      opens = e;
      reads = nothing_read refl;
      deepest = refl;
      numbers = (omega arith, omega arith);
      more = [];
      names_grow = sym (append-nil p.names);
    })
head_takes {level} {p} (named o f r name e g n h k) =
    subst (λ x. TakesParen level p x) (sym h) (record {
      opened = o;
      opens = e;
      reads = then_read (gap_reads p.flags.ignore_whitespace o f g) (named_reads n);
      deepest = refl;
      numbers = (omega arith, omega arith);
      more = name ∷ [];
      names_grow = refl;
    })
head_takes {level} {p} (plain o f r new e g letters h k) =
    let question = gap_and_one p.flags.ignore_whitespace o f (the "?") g in
    subst (λ x. TakesParen level p x) (sym h) (record {
      opened = o;
      opens = e;
      reads = then_read question (then_read (letters_read letters) (past_first (the ":") r));
      deepest = refl;
      numbers = (omega arith, omega arith);
      more = [];
      names_grow = sym (append-nil p.names);
    })

pub directive_reads : {p q : Point} → Directive p q → NoMore p.rest q.rest
directive_reads {p} (sets o f r new e g n letters h) =
    let question = gap_and_one p.flags.ignore_whitespace o f (the "?") g in
    let reads = then_read question (then_read (letters_read letters) (past_first (the ")") r)) in
    subst (λ (x : Point). NoMore p.rest x.rest) (sym h) (then_read (one_read e) reads)

-- a directive changes nothing that is counted
directive_counts : {p q : Point} → Directive p q
    → (q.groups ≡ p.groups) × (q.deepest ≡ p.deepest) × (q.names ≡ p.names)
directive_counts (sets o f r new e g n letters h) = (
  ap (λ (x : Point). x.groups) h,
  ap (λ (x : Point). x.deepest) h,
  ap (λ (x : Point). x.names) h,
)

-- past a gap, at `p`, a step opens a group or changes nothing that is counted
pub data Changes (s : State) (p : Point) (q : State) : Type 0 where
  opens : TakesParen (length s.frames) p q.point → length q.frames ≡ length s.frames + 1
      → Changes s p q
  stays : NoMore p.rest q.point.rest → length q.frames ≤ length s.frames
      → q.point.groups ≡ p.groups → q.point.deepest ≡ p.deepest → q.point.names ≡ p.names
      → Changes s p q

does_change : (k : Kind) (s : State) (p : Point) (q : State) → Does k s p q → Changes s p q
unfolding opened closed parted with_items
does_change stop s p q d = absurd d
does_change paren s p q (inl d) =
    subst (λ x. Changes s p x) (sym d.3) (opens (head_takes d.2) (sym (add-one (length s.frames))))
does_change paren s p q (inr d) =
    let same = directive_counts d.1 in
    subst (λ x. Changes s p x) (sym d.2)
    (stays (directive_reads d.1) (omega arith) same.0 same.1 same.2)
does_change closing s p q d =
    let frames = ap length d.4 in
    subst (λ x. Changes s p x) (sym d.5)
    (stays (one_read d.3) (omega (arith, frames)) refl refl refl)
does_change bar s p q d =
    subst (λ x. Changes s p x) (sym d.2) (stays (one_read d.1) (omega arith) refl refl refl)
does_change operator s p q d =
    subst (λ x. Changes s p x) (sym d.8) (stays (operator_reads d.7) (omega arith) refl refl refl)
does_change atom s p q d =
    let reads = atom_reads p.flags p.rest d.0 d.1 d.2 in
    subst (λ x. Changes s p x) (sym d.3) (stays reads (omega arith) refl refl refl)

pub step_changes : {s q : State} (st : Step s q) → Changes s st.past q
step_changes {s} {q} st = does_change (kind_at st.past.rest) s st.past q st.does

-- no more is left than before
pub change_reads : {s q : State} {p : Point} → Changes s p q → NoMore p.rest q.point.rest
change_reads (opens head one_more) = then_read (one_read head.opens) head.reads
change_reads (stays reads fewer groups deepest names) = reads

-- What is read of a pattern is read of each longer pattern that begins with it.
use Rattle.regex_lite_syntax.proofs.Common.{◌≡◌, ◌≢◌, [], ◌∷◌, ◌++◌, sym, refl, ap, subst, inl, inr}
use Rattle.regex_lite_syntax.proofs.Common.{IsReadTo, AtomKind, single, escape, bracketed, no_atom}
use Rattle.regex_lite_syntax.proofs.Common.{atom_kind, AtomFrom, Atom, Point, start, State, Kind}
use Rattle.regex_lite_syntax.proofs.Common.{stop, kind_at, Does, Step, LeadsOn, stay, go, bar}
use Rattle.regex_lite_syntax.proofs.Common.{closing, paren, Text, Tree, Flags}
use Rattle.regex_lite_syntax.specs.Parser.Machine.{opened, closed, parted, with_items, operator}
use Rattle.regex_lite_syntax.specs.Parser.Machine.{atom}
use Rattle.regex_lite_syntax.proofs.grammar.LongerClassLemmas.{class_longer}
use Rattle.regex_lite_syntax.proofs.grammar.LongerEscapeLemmas.{NoBraceComes, escape_longer}
use Rattle.regex_lite_syntax.proofs.grammar.LongerGapLemmas.{GoesOn, Settles, settled, whole_longer}
use Rattle.regex_lite_syntax.proofs.grammar.LongerHeadLemmas.{longer, operator_longer, head_longer}
use Rattle.regex_lite_syntax.proofs.grammar.LongerHeadLemmas.{directive_longer}
use Rattle.regex_lite_syntax.proofs.machine.OneStepLemmas.{at_end}
use Rattle.regex_lite_syntax.proofs.machine.ReadOnLemmas.{runs_of, reads_of}
use Rattle.regex_lite_syntax.proofs.machine.SoundLemmas.{leads_keeps, stands_first}

module _ (more : Text) where
  atom_from : (k : AtomKind) (flags : Flags) (t past rest : Text) (a : Tree)
      → AtomFrom k flags t past rest a → NoBraceComes more rest
      → AtomFrom k flags (t ++ more) (past ++ more) (rest ++ more) a
  atom_from (single p) flags t past rest a d comes = (ap (λ u. u ++ more) d.0, d.1)
  atom_from escape flags t past rest a d comes =
      (d.0, escape_longer more flags.ignore_whitespace past rest d.0 d.1 (λ _ _. comes), d.2)
  atom_from bracketed flags t past rest a d comes = (d.0, class_longer more d.1, d.2)
  atom_from no_atom flags t past rest a d comes = absurd d

  pub atom_longer : (flags : Flags) (t rest : Text) (a : Tree) → Atom flags t rest a
      → NoBraceComes more rest → Atom flags (t ++ more) (rest ++ more) a
  atom_longer flags t rest a d comes = record {
    first = d.first;
    past_first = d.past_first ++ more;
    begins = ap (λ u. u ++ more) d.begins;
    goes_on = atom_from (atom_kind flags d.first) flags t d.past_first rest a d.goes_on comes;
  }

  -- the same state before a longer rest of the pattern
  abbrev pub longer_state : State → State
  longer_state s = record s { point = longer more s.point }

  -- past it nothing comes to stand that would belong to what was read
  abbrev pub SettlesPast : State → Type 0
  SettlesPast s = Settles more s.point.flags.ignore_whitespace s.point.rest

  does_longer : (k : Kind) (s : State) (p : Point) (q : State) → Does k s p q → SettlesPast q
      → Does k (longer_state s) (longer more p) (longer_state q)
  unfolding opened closed parted with_items
  does_longer stop s p q d settles = absurd d
  does_longer paren s p q (inl d) settles =
      let here = subst SettlesPast d.3 settles in
      inl (longer more d.0, d.1, head_longer more d.2 here, ap longer_state d.3)
  does_longer paren s p q (inr d) settles =
      inr (longer more d.0, directive_longer more d.1, ap longer_state d.2)
  does_longer closing s p q d settles =
      (d.0 ++ more, d.1, d.2, ap (λ u. u ++ more) d.3, d.4, ap longer_state d.5)
  does_longer bar s p q d settles = (d.0 ++ more, ap (λ u. u ++ more) d.1, ap longer_state d.2)
  does_longer operator s p q d settles =
      let here = subst SettlesPast d.8 settles in (
        d.0 ++ more,
        d.1,
        d.2,
        d.3,
        d.4,
        d.5,
        d.6,
        operator_longer more d.7 here,
        ap longer_state d.8,
      )
  does_longer atom s p q d settles =
      let here = subst SettlesPast d.3 settles in (
        d.0 ++ more,
        d.1,
        atom_longer p.flags p.rest d.0 d.1 d.2 here.brace,
        ap longer_state d.3,
      )

  kind_longer : (t : Text) → t ≢ [] → kind_at (t ++ more) ≡ kind_at t
  kind_longer [] some = absurd (some refl)
  kind_longer (c ∷ t) some = refl

  -- a step, past which nothing comes to stand that would belong to it
  pub step_longer : {s q : State} → Step s q → SettlesPast q
      → Step (longer_state s) (longer_state q)
  step_longer {s} {q} st settles =
      let verbose = s.point.flags.ignore_whitespace in
      let p = st.past in
      let whole =
      whole_longer more verbose s.point.rest p.rest (st.gap.0, st.ends) (some_past st) in
      record {
        past = longer more p;
        gap = (whole.0, ap (longer more) st.gap.1);
        ends = whole.1;
        does = subst (λ k. Does k (longer_state s) (longer more p) (longer_state q))
            (sym (kind_longer p.rest (some_past st)))
            (does_longer (kind_at p.rest) s p q st.does settles);
      }
    where
      some_past : (st : Step s q) → st.past.rest ≢ []
      some_past st e = subst (λ t. Does (kind_at t) s st.past q) e st.does

  -- before a step more than a gap is left
  goes_before : {s q : State} → Step s q → GoesOn s.point.flags.ignore_whitespace s.point.rest
  goes_before {s} {q} st g = at_end s q g st

  pub leads_longer : {s q : State} → LeadsOn s q → SettlesPast q
      → LeadsOn (longer_state s) (longer_state q)
  leads_longer (stay e) settles = stay (ap longer_state e)
  leads_longer {s} {q} (go m st l) settles =
      go (longer_state m) (step_longer st (left l)) (leads_longer l settles)
    where
      left : {m : State} → LeadsOn m q → SettlesPast m
      left (stay e) = subst SettlesPast (sym e) settles
      left {m} (go n st' l') =
          settled more m.point.flags.ignore_whitespace m.point.rest (goes_before st')

-- what is read of a pattern, but for more than a gap, is read of each that begins with it
pub read_longer : (flags : Flags) (pattern more : Text) (q : Point) → IsReadTo flags pattern q
    → GoesOn q.flags.ignore_whitespace q.rest → IsReadTo flags (pattern ++ more) (longer more q)
read_longer flags pattern more q read goes =
    let r = runs_of read.reads in
    let l = leads_longer more r.leads (settled more q.flags.ignore_whitespace q.rest goes) in
    let begin = start flags (pattern ++ more) in
    let on = leads_keeps begin _ _ l [] (stands_first flags (pattern ++ more)) in
    record { level = _; reads = reads_of begin on.0 _ on.1; names_differ = read.names_differ }

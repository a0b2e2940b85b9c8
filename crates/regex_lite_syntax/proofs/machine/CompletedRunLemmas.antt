-- What has been read of a pattern, and can be read on, is the beginning of an accepted pattern.
use Rattle.regex_lite_syntax.proofs.Common.{◌≡◌, ℕ, zero, suc, Bool, true, false, List, [], ◌∷◌}
use Rattle.regex_lite_syntax.proofs.Common.{◌++◌, length, sym, refl, subst, append_assoc, arith}
use Rattle.regex_lite_syntax.proofs.Common.{AreCharacters, BeginsSome, HasTree, atom_kind}
use Rattle.regex_lite_syntax.proofs.Common.{PrimitiveTree, AtomFrom, Atom, one, Gap, EndsGap}
use Rattle.regex_lite_syntax.proofs.Common.{WholeGap, NamesDiffer, onward, Frame, State}
use Rattle.regex_lite_syntax.proofs.Common.{first_state, ended, Step, LeadsOn, CanReadOn, Text}
use Rattle.regex_lite_syntax.proofs.Common.{Begins, the, choice_of, Flags, Parser}
use Rattle.regex_lite_syntax.specs.Tree.{character}
use Rattle.regex_lite_syntax.specs.Parser.Machine.{closed, with_items}
use Rattle.regex_lite_syntax.specs.Parser.States.{state}
use Rattle.regex_lite_syntax.proofs.CharacterLemmas.{joined_are, repeated_are}
use Rattle.regex_lite_syntax.proofs.ListLemmas.{same_head}
use Rattle.regex_lite_syntax.proofs.grammar.GapLemmas.{empty_gap, gap_to_end, ends_any}
use Rattle.regex_lite_syntax.proofs.grammar.SpacedLemmas.{printed_ends, whole_gap_leads}
use Rattle.regex_lite_syntax.proofs.grammar.LongerGapLemmas.{Settles, settled, question_ends}
use Rattle.regex_lite_syntax.proofs.grammar.LongerGapLemmas.{whole_longer}
use Rattle.regex_lite_syntax.proofs.grammar.ResumedGapLemmas.{resumed, gap_resumed}
use Rattle.regex_lite_syntax.proofs.grammar.ResumedGapLemmas.{resumed_characters}
use Rattle.regex_lite_syntax.proofs.machine.FaultLemmas.{Comes}
use Rattle.regex_lite_syntax.proofs.machine.LongerRunLemmas.{longer_state, step_longer}
use Rattle.regex_lite_syntax.proofs.machine.LongerRunLemmas.{leads_longer}
use Rattle.regex_lite_syntax.proofs.machine.OneStepLemmas.{leads_step, step_over_gap}
use Rattle.regex_lite_syntax.proofs.machine.SoundLemmas.{sound}
use Rattle.std.proofs.Common.{replicate}
use Rattle.regex_lite_syntax.proofs.machine.StateLemmas.{none_left}
use Rattle.regex_lite_syntax.proofs.machine.StepLemmas.{at_once, step_close, step_atom}

-- this many parentheses that close
abbrev closers : ℕ → Text
closers n = replicate n (the ")")

-- an item, and past it the parentheses
abbrev item_and_closers : ℕ → Text
item_and_closers n = the "_" ∷ closers n

item_ends : (verbose : Bool) (t : Text) → EndsGap verbose (the "_" ∷ t)
item_ends verbose t =
    ends_any verbose (the "_" ∷ t) (printed_ends (the "_") t (omega arith) (omega arith))

-- the item
item_atom : (flags : Flags) (t : Text) → Atom flags (the "_" ∷ t) t (character (the "_"))
item_atom flags t = record {
  first = the "_";
  past_first = t;
  begins = refl;
  goes_on = of_verbose flags.ignore_whitespace refl;
}
  where
    tree : (insensitive : Bool) → flags.case_insensitive ≡ insensitive
        → PrimitiveTree flags (one (the "_")) (character (the "_"))
    tree true e = rw e refl
    tree false e = rw e refl

    of_verbose : (verbose : Bool) → flags.ignore_whitespace ≡ verbose
        → AtomFrom (atom_kind flags (the "_")) flags (the "_" ∷ t) t t (character (the "_"))
    of_verbose true e = rw e (refl, tree flags.case_insensitive refl)
    of_verbose false e = rw e (refl, tree flags.case_insensitive refl)

-- a state past one of the parentheses
record PastCloser (s : State) (n : ℕ) : Type 0 where
  pub after : State
  pub step : Step s after
  pub fewer : length after.frames ≡ n
  pub left : after.point.rest ≡ closers n
  pub names : after.point.names ≡ s.point.names

past_closer : (s : State) (n : ℕ) (frames : List Frame) → s.frames ≡ frames
    → length frames ≡ suc n → s.point.rest ≡ closers (suc n) → PastCloser s n
unfolding closed
past_closer s n [] e many left = absurd (omega (arith, many))
past_closer s n (f ∷ frames) e many left =
    record {
      after = closed s s.point f frames (closers n);
      step = step_close s s.point f frames (closers n) (at_once s.point) left e;
      fewer = omega (arith, many);
      left = refl;
      names = refl;
    }

-- what has been read up to the parentheses that close all groups is an accepted pattern
closes_all : (flags : Flags) (pattern : Text) (n : ℕ) (s : State)
    → LeadsOn (first_state flags pattern) s → length s.frames ≡ n → s.point.rest ≡ closers n
    → NamesDiffer s.point.names → AreCharacters pattern → HasTree flags pattern
closes_all flags pattern zero s leads none left differ all =
    let verbose = s.point.flags.ignore_whitespace in (
      choice_of (ended s),
      (
        s.point.groups,
        s.point.deepest,
        sound flags pattern s leads (none_left s.frames none)
            (subst (λ t. Gap verbose s.point.rest t) left (empty_gap verbose s.point.rest)) differ
            all,
      ),
    )
closes_all flags pattern (suc n) s leads many left differ all =
    let past = past_closer s n s.frames refl many left in
    closes_all flags pattern n past.after (leads_step leads past.step) past.fewer past.left
    (subst (λ names. NamesDiffer names) (sym past.names) differ) all

-- so is what has been read up to a gap, past which an item and the parentheses stand
item_then_closers : (flags : Flags) (pattern : Text) (s : State)
    → LeadsOn (first_state flags pattern) s
    → Gap s.point.flags.ignore_whitespace s.point.rest (item_and_closers (length s.frames))
    → NamesDiffer s.point.names → AreCharacters pattern → HasTree flags pattern
unfolding with_items
item_then_closers flags pattern s leads gap differ all =
    let n = length s.frames in
    let after = with_items s (onward s.point (closers n)) (s.items ++ character (the "_") ∷ []) in
    let step : Step s after = step_atom s (onward s.point (item_and_closers n)) (closers n)
    (character (the "_")) (gap, refl) (item_atom s.point.flags (closers n)) in
    closes_all flags pattern n after (leads_step leads step) refl refl differ all

-- where the pattern can be read on, it is the beginning of an accepted one
pub reads_on : (flags : Flags) (pattern : Text) (p : Parser) (t u : Text) (starts : List ℕ)
    → Comes flags pattern p t starts → WholeGap p.here.flags.ignore_whitespace t u
    → (u ≡ [] → ⊥) → CanReadOn p u → BeginsSome flags pattern
unfolding state
reads_on flags pattern p t u starts c whole some reads =
    let verbose = p.here.flags.ignore_whitespace in
    let next = reads c.deepest in
    let more = next.0 in
    let q = next.1 in
    let left = next.4 in
    let after_verbose = q.point.flags.ignore_whitespace in
    let n = length q.frames in
    let all = more ++ closers n in
    let goes_on : Gap after_verbose q.point.rest [] → ⊥ = λ gap.
    let none = gap_to_end after_verbose (the "_" ∷ []) (the "_" ∷ [])
    (empty_gap after_verbose (the "_" ∷ []), item_ends after_verbose [])
    (subst (λ r. Gap after_verbose r []) left gap) in
    cc none in
    let st =
    step_longer (closers n) next.3.0 (settled (closers n) after_verbose q.point.rest goes_on) in
    let after = longer_state (closers n) q in
    let here = subst (λ x. Step (state p x c.deepest) after) (append_assoc u more (closers n)) st in
    let leads = leads_longer all c.leads
    (settled all verbose t (λ gap. some (gap_to_end verbose t u whole gap))) in
    let step = step_over_gap (state p (t ++ all) c.deepest) after (u ++ all)
    (whole_longer all verbose t u whole some) here in
    let item = subst (λ r. Gap after_verbose (q.point.rest ++ closers n) (r ++ closers n)) left
    (empty_gap after_verbose (q.point.rest ++ closers n)) in
    let characters = joined_are pattern all c.characters
    (joined_are more (closers n) next.2 (repeated_are n (the ")") refl)) in (
      all,
      item_then_closers flags (pattern ++ all) after (leads_step leads step) item
          (next.3.1 c.differ) characters,
    )

begins_none : (c : ℕ) (verbose : Bool) (t next : Text) → (c ≡ the "\n" → ⊥) → (c ≡ the "_" → ⊥)
    → (Begins c t → ⊥) → Begins c (t ++ (resumed verbose ++ the "_" ∷ next)) → ⊥
begins_none c true [] next no_feed no_item none is = no_feed (sym is)
begins_none c false [] next no_feed no_item none is = no_item (sym is)
begins_none c verbose (d ∷ t) next no_feed no_item none is = none is

-- an item past a gap at the end belongs to nothing before
settled_at_end : (verbose : Bool) (t next : Text) → Gap verbose t []
    → Settles (resumed verbose ++ the "_" ∷ next) verbose t
settled_at_end verbose t next gap = record {
  question = begins_none (the "?") verbose t next (λ e. omega (arith, e)) (λ e. omega (arith, e));
  brace = begins_none (the "{") verbose t next (λ e. omega (arith, e)) (λ e. omega (arith, e));
  past_gap = λ none first question.
      let all = t ++ (resumed verbose ++ the "_" ∷ next) in
      let same = whole_gap_leads verbose all (the "_" ∷ next) (the "?" ∷ first)
      (gap_resumed verbose t (the "_" ∷ next) gap, item_ends verbose next) question
      (question_ends first) in
      omega (arith, same_head same);
}

-- and where it ends with groups open
pub reads_on_at_end : (flags : Flags) (pattern : Text) (p : Parser) (t : Text) (starts : List ℕ)
    → Comes flags pattern p t starts → Gap p.here.flags.ignore_whitespace t []
    → BeginsSome flags pattern
unfolding state
reads_on_at_end flags pattern p t starts c gap =
    let verbose = p.here.flags.ignore_whitespace in
    let n = length (state p t c.deepest).frames in
    let all = resumed verbose ++ item_and_closers n in
    let leads = leads_longer all c.leads (settled_at_end verbose t (closers n) gap) in
    let characters = joined_are pattern all c.characters
    (resumed_characters verbose (item_and_closers n) (refl, repeated_are n (the ")") refl)) in (
      all,
      item_then_closers flags (pattern ++ all) (state p (t ++ all) c.deepest) leads
          (gap_resumed verbose t (item_and_closers n) gap) c.differ characters,
    )

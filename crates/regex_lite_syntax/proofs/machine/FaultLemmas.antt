-- What the parser has come to says of where the pattern's first fault stands.
use Rattle.regex_lite_syntax.proofs.Common.{◌≡◌, ℕ, ◌+◌, ◌<◌, true, false, ◌≢◌, List, [], ◌∷◌, ◌++◌}
use Rattle.regex_lite_syntax.proofs.Common.{map, reverse, length, drop, Some, None, Option}
use Rattle.regex_lite_syntax.proofs.Common.{option_map, sym, refl, ap, ◌∙◌, subst, inr, arith}
use Rattle.regex_lite_syntax.proofs.Common.{AreCharacters, is_cut_short, Refusal, syntax_error}
use Rattle.regex_lite_syntax.proofs.Common.{too_many_groups, out_of_memory, kind_of, IsReadTo}
use Rattle.regex_lite_syntax.proofs.Common.{BeginsNone, HasTree, Gap, WholeGap, NamesDiffer, Point}
use Rattle.regex_lite_syntax.proofs.Common.{start, State, first_state, ended, kind_at, LeadsOn}
use Rattle.regex_lite_syntax.proofs.Common.{stay, StepsTo, CanRead, BeginsTooMany, NoReading}
use Rattle.regex_lite_syntax.proofs.Common.{Refuses, Text, choice_of, SyntaxFault, Flags, Parser}
use Rattle.regex_lite_syntax.proofs.Common.{Stop}
use Rattle.std.proofs.Common.{MatchOption, option_to_list, length-drop}
use Rattle.std.proofs.lemmas.List.{length_push}
use Rattle.regex_lite_syntax.specs.declared.error.ErrorKind.TheVariants as kind
use Rattle.regex_lite_syntax.specs.FaultPlaces.{IsStuckAt, IsUnclosedAt, IsFaultAt, IsUntold}
use Rattle.regex_lite_syntax.specs.Parser.Starts.{Tracks}
use Rattle.regex_lite_syntax.specs.Parser.States.{state}
use Rattle.regex_lite_syntax.proofs.ListLemmas.{same_tail}
use Rattle.regex_lite_syntax.proofs.grammar.GapLemmas.{whole_gap_once, gap_to_end}
use Rattle.regex_lite_syntax.proofs.grammar.LongerGapLemmas.{settled, whole_longer}
use Rattle.regex_lite_syntax.proofs.machine.LongerRunLemmas.{leads_longer}
use Rattle.regex_lite_syntax.proofs.machine.OneStepLemmas.{step_over_gap, step_past_gap, leads_step}
use Rattle.regex_lite_syntax.proofs.machine.ReadOnLemmas.{reads_of, stuck_farthest, unclosed_at}
use Rattle.regex_lite_syntax.proofs.machine.RunLemmas.{ReachesNumber, frames_are, stuck_refused}
use Rattle.regex_lite_syntax.proofs.machine.RunLemmas.{open_refused, number_refused}
use Rattle.regex_lite_syntax.proofs.machine.SoundLemmas.{Stands, Keeps, opens, closes, stays}
use Rattle.regex_lite_syntax.proofs.machine.SoundLemmas.{stands_first, does_keeps, sound}
use Rattle.regex_lite_syntax.proofs.machine.StateLemmas.{none_left, reverse_pushed}
use Rattle.regex_lite_syntax.proofs.machine.ChangeLemmas.{head_takes}

-- the texts at which groups begin at these indices, the last of them first
abbrev pub texts_at : Text → List ℕ → List Text
texts_at pattern starts = reverse (map (λ i. drop i pattern) starts)

-- under these flags the parser has come from the pattern to this text, and the groups that are open
-- began at these indices
pub record Comes (flags : Flags) (pattern : Text) (p : Parser) (rest : Text) (starts : List ℕ)
    : Type 0 where
  pub deepest : ℕ
  pub leads : LeadsOn (first_state flags pattern) (state p rest deepest)
  pub differ : NamesDiffer p.names
  pub characters : AreCharacters pattern
  pub as_many : length starts ≡ length p.below.items
  pub stands : Stands (start flags pattern) (texts_at pattern starts) (state p rest deepest)

-- the same, where no limit on nesting is asked for
reaches_as : (flags : Flags) (pattern : Text) (p : Parser) (t : Text) (starts : List ℕ)
    → (c : Comes flags pattern p t starts) → ReachesNumber flags c.deepest pattern p t
reaches_as flags pattern p t starts c = record {
  deepest = c.deepest;
  leads = c.leads;
  within = omega arith;
  differ = c.differ;
  characters = c.characters;
}

-- where the groups begin that are open after a step
record Tracked (pattern : Text) (q : State) (next : List Text) (new : List ℕ) : Type 0 where
  texts : next ≡ texts_at pattern new
  many : length new ≡ length q.frames

tracked : (pattern : Text) (s q : State) (p : Point) (old new : List ℕ) (here : ℕ)
    (next : List Text) → p.rest ≡ drop here pattern
    → Keeps s p q (texts_at pattern old) next → length old ≡ length s.frames
    → Tracks old new (length q.frames) here → Tracked pattern q next new
tracked pattern s q p old new here next there (opens more e) many tracks =
    let is = tracks.opened (omega (arith, more, many)) in
    record {
      texts = e ∙ ap (λ t. t ∷ texts_at pattern old) there
          ∙ sym (reverse_pushed (λ i. drop i pattern) new old here is);
      many = omega (arith, ap length is ∙ length_push old here, more, many);
    }
tracked pattern s q p old new here next there (closes text fewer e) many tracks =
    let last = tracks.closed (omega (arith, fewer, many)) in
    record {
      texts = same_tail (sym e ∙ reverse_pushed (λ i. drop i pattern) old new last.0 last.1);
      many = omega (arith, ap length last.1 ∙ length_push new last.0, fewer, many);
    }
tracked pattern s q p old new here next there (stays same e) many tracks =
    let is = tracks.same (same ∙ sym many) in
    record {
      texts = e ∙ ap (texts_at pattern) (sym is);
      many = ap length is ∙ many ∙ sym same;
    }

-- before anything is read
pub comes_first : (flags : Flags) (pattern : Text) (p : Parser)
    → state p pattern 0 ≡ first_state flags pattern → NamesDiffer p.names → AreCharacters pattern
    → Comes flags pattern p pattern []
comes_first flags pattern p first differ characters = record {
  deepest = 0;
  leads = stay (sym first);
  differ = differ;
  characters = characters;
  as_many = ap (λ (x : State). length x.frames) (sym first) ∙ frames_are p pattern 0;
  stands = subst (λ x. Stands (start flags pattern) [] x) (sym first) (stands_first flags pattern);
}

-- over a gap and what stands past it
pub comes_next : (flags : Flags) (pattern : Text) (p q : Parser) (t u v : Text)
    (old new : List ℕ) (here : ℕ) → Comes flags pattern p t old
    → WholeGap p.here.flags.ignore_whitespace t u → u ≡ drop here pattern → StepsTo p q u v
    → Tracks old new (length q.below.items) here → Comes flags pattern q v new
unfolding state
comes_next flags pattern p q t u v old new here c whole there reads tracks =
    let begin = start flags pattern in
    let s = state p t c.deepest in
    let next = reads c.deepest in
    let after = state q v next.0 in
    let st = step_over_gap s after u whole next.1.0 in
    let past =
    whole_gap_once p.here.flags.ignore_whitespace t u st.past.rest whole (st.gap.0, st.ends) in
    let on =
    does_keeps (kind_at st.past.rest) begin (texts_at pattern old) s st.past after c.stands st.gap
    st.does in
    let frames = frames_are q v next.0 in
    let now = tracked pattern s after st.past old new here on.next (sym past ∙ there) on.keeps
    (c.as_many ∙ sym (frames_are p t c.deepest))
    (subst (λ n. Tracks old new n here) (sym frames) tracks) in
    record {
      deepest = next.0;
      leads = leads_step c.leads st;
      differ = next.1.1 c.differ;
      characters = c.characters;
      as_many = now.many ∙ frames;
      stands = subst (λ begun. Stands begin begun after) now.texts on.stands;
    }

-- where nothing can be read, the pattern is read no further
pub stuck_at : (flags : Flags) (pattern : Text) (p : Parser) (t u : Text) (starts : List ℕ)
    (here : ℕ) → Comes flags pattern p t starts → WholeGap p.here.flags.ignore_whitespace t u
    → u ≡ drop here pattern → (u ≡ [] → ⊥) → (CanRead p u → ⊥)
    → IsStuckAt flags pattern here × (HasTree flags pattern → ⊥)
unfolding state
stuck_at flags pattern p t u starts here c whole there more stuck =
    let s = state p t c.deepest in
    let read : IsReadTo flags pattern s.point = record {
      level = length s.frames;
      reads = reads_of _ _ s c.stands;
      names_differ = c.differ;
    } in (
      record {
        last = s.point;
        reads = read;
        gap = subst (λ x. WholeGap p.here.flags.ignore_whitespace t x) there whole;
        farthest = stuck_farthest flags pattern s c.leads
            (λ q st differ. stuck (c.deepest, q, step_past_gap s q u whole st, differ));
      },
      stuck_refused flags c.deepest pattern p t u (reaches_as flags pattern p t starts c) whole more
          stuck,
    )

-- at the end with no group open there is a tree
pub read_whole : (flags : Flags) (pattern : Text) (p : Parser) (t : Text) (starts : List ℕ)
    → Comes flags pattern p t starts → Gap p.here.flags.ignore_whitespace t [] → length starts ≡ 0
    → HasTree flags pattern
unfolding state
read_whole flags pattern p t starts c gap none =
    let s = state p t c.deepest in
    let frames = none_left s.frames (frames_are p t c.deepest ∙ sym c.as_many ∙ none) in (
      choice_of (ended s),
      (
        s.point.groups,
        s.point.deepest,
        sound flags pattern s c.leads frames gap c.differ c.characters,
      ),
    )

-- and with one open there is none
pub unclosed_fault : (flags : Flags) (pattern : Text) (p : Parser) (t : Text)
    (starts outer : List ℕ) (k : ℕ) → Comes flags pattern p t starts
    → Gap p.here.flags.ignore_whitespace t [] → starts ≡ outer ++ k ∷ []
    → IsUnclosedAt flags pattern k × (HasTree flags pattern → ⊥)
unfolding state
unclosed_fault flags pattern p t starts outer k c gap last =
    let s = state p t c.deepest in
    let texts = reverse_pushed (λ i. drop i pattern) starts outer k last in
    let some = ap length last ∙ length_push outer k in (
      unclosed_at flags pattern s (drop k pattern) (texts_at pattern outer) k
          (subst (λ begun. Stands (start flags pattern) begun s) texts c.stands) refl gap c.differ,
      open_refused flags c.deepest pattern p t (reaches_as flags pattern p t starts c) gap
          (λ none. let no = ap length none in omega (arith, no, some, c.as_many)),
    )

-- what is said where the pattern ends, of the start that was last
pub end_found : (flags : Flags) (pattern : Text) (p : Parser) (t : Text) (starts outer : List ℕ)
    (last : Option ℕ) (before after : ℕ)
    → Comes flags pattern p t starts → Gap p.here.flags.ignore_whitespace t []
    → starts ≡ outer ++ option_to_list last → before ≡ length starts
    → MatchOption last ((before ≡ 0) × (after ≡ 0)) (λ _. after + 1 ≡ before)
    → MatchOption last (HasTree flags pattern)
    (λ k. IsFaultAt flags pattern k × (HasTree flags pattern → ⊥))
end_found flags pattern p t starts outer None before after c gap is many cases =
    read_whole flags pattern p t starts c gap (sym many ∙ cases.0)
end_found flags pattern p t starts outer (Some k) before after c gap is many cases =
    let fault = unclosed_fault flags pattern p t starts outer k c gap is in
    (record { inside = at_head fault.0; place = inr fault.0 }, fault.1)
  where
    at_head : IsUnclosedAt flags pattern k → k < length pattern
    at_head u =
        omega (arith, length-drop k pattern, ap length (sym u.begins ∙ (head_takes u.head).opens))

none_before : (t more : Text) → t ++ more ≡ [] → t ≡ []
none_before [] more e = refl
none_before (c ∷ t) more e = absurd (cc e)

-- where nothing can be read, whatever follows, no accepted pattern begins with this one
pub stuck_for_good : (flags : Flags) (pattern : Text) (p : Parser) (t u : Text) (starts : List ℕ)
    → Comes flags pattern p t starts → WholeGap p.here.flags.ignore_whitespace t u
    → (u ≡ [] → ⊥) → ((more : Text) → CanRead p (u ++ more) → ⊥) → BeginsNone flags pattern
unfolding state
stuck_for_good flags pattern p t u starts c whole some stuck more has =
    let verbose = p.here.flags.ignore_whitespace in
    let longer = whole_longer more verbose t u whole some in
    let comes : ReachesNumber flags c.deepest (pattern ++ more) p (t ++ more) = record {
      deepest = c.deepest;
      leads = leads_longer more c.leads
          (settled more verbose t (λ gap. some (gap_to_end verbose t u whole gap)));
      within = omega arith;
      differ = c.differ;
      characters = has.1.2.characters;
    } in
    stuck_refused flags c.deepest (pattern ++ more) p (t ++ more) (u ++ more) comes longer
    (λ e. some (none_before u more e)) (stuck more) has

-- what a refusal says that is a syntax fault
pub syntax_says : (e : Refusal) (fault : SyntaxFault) (s : SyntaxFault → Type 0) (n g : Type 0)
    → e ≡ syntax_error fault → Refuses e s n g → s fault
syntax_says e fault s n g is says = subst (λ x. Refuses x s n g) is says

-- what is said of a longer pattern by a refusal to read on that doesn't come from the pattern's end
pub says_for_good : (flags : Flags) (pattern : Text) (p : Parser) (t u : Text) (starts : List ℕ)
    (e : Refusal) (fault : SyntaxFault)
    → Comes flags pattern p t starts → WholeGap p.here.flags.ignore_whitespace t u
    → (u ≡ [] → ⊥) → Refuses e (λ f. NoReading f (CanRead p) u) ⊥ (BeginsTooMany p u)
    → e ≡ syntax_error fault → is_cut_short fault ≡ false → BeginsNone flags pattern
says_for_good flags pattern p t u starts e fault c whole some says is whole_fault =
    stuck_for_good flags pattern p t u starts c whole some
    (λ more. syntax_says e fault _ _ _ is says more (λ short. cc (whole_fault, short)))

-- what a refusal says that is none
pub other_says : (flags : Flags) (pattern : Text) (p : Parser) (t u : Text) (starts : List ℕ)
    (e : Refusal) → Comes flags pattern p t starts → WholeGap p.here.flags.ignore_whitespace t u
    → kind_of e ≢ kind.Syntax
    → Refuses e (λ fault. NoReading fault (CanRead p) u) ⊥ (BeginsTooMany p u)
    → IsUntold flags pattern (kind_of e)
other_says flags pattern p t u starts (syntax_error fault) c whole other says = absurd (other refl)
other_says flags pattern p t u starts too_many_groups c whole other says =
    number_refused flags c.deepest pattern p t u (reaches_as flags pattern p t starts c) whole
    says.0 says.1
other_says flags pattern p t u starts out_of_memory c whole other says = tt
other_says flags pattern p t u starts _ c whole other says = absurd says

-- what is said of the start of the group that is open there is said of the stop
pub stop_found : (flags : Flags) (pattern : Text) (last : Option ℕ)
    → MatchOption last (HasTree flags pattern)
    (λ k. IsFaultAt flags pattern k × (HasTree flags pattern → ⊥))
    → MatchOption (option_map (λ k. record { start = k; is_cut_short = true }) last)
    (HasTree flags pattern)
    (λ (stop : Stop). IsFaultAt flags pattern stop.start × (HasTree flags pattern → ⊥))
stop_found flags pattern None found = found
stop_found flags pattern (Some k) found = found

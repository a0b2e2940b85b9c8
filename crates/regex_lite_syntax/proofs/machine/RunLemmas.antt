-- What the parser has come to says of the pattern.
use Rattle.regex_lite_syntax.proofs.Common.{◌≡◌, ℕ, ◌+◌, ◌^◌, ◌<◌, ◌≤◌, ◌≢◌, List, [], map, reverse}
use Rattle.regex_lite_syntax.proofs.Common.{length, sym, refl, ap, ◌∙◌, subst, inl, inr, arith}
use Rattle.regex_lite_syntax.proofs.Common.{AreCharacters, Refusal, syntax_error, too_deep}
use Rattle.regex_lite_syntax.proofs.Common.{too_many_groups, out_of_memory, kind_of, Grammar}
use Rattle.regex_lite_syntax.proofs.Common.{HasTree, Gap, WholeGap, NamesDiffer, depth, first_state}
use Rattle.regex_lite_syntax.proofs.Common.{LeadsOn, frame_of, StepsTo, CanRead, BeginsCapture}
use Rattle.regex_lite_syntax.proofs.Common.{BeginsTooMany, NoReading, Refuses, Text, Tree}
use Rattle.regex_lite_syntax.proofs.Common.{IsRegular, Flags, Parser}
use Rattle.std.proofs.lemmas.List.{length-reverse, length-map}
use Rattle.regex_lite_syntax.specs.Limits.{IsAdmitted, IsDueToPattern, PassesNesting, PassesGroups}
use Rattle.regex_lite_syntax.specs.Limits.{NestingRefused, GroupsRefused}
use Rattle.regex_lite_syntax.specs.Parser.States.{state, Finishes, FinishesTooDeep}
use Rattle.regex_lite_syntax.proofs.grammar.GapLemmas.{gap_to_end}
use Rattle.regex_lite_syntax.proofs.parse.DenialLemmas.{none_now}
use Rattle.regex_lite_syntax.proofs.machine.OneStepLemmas.{step_over_gap, step_past_gap, at_end}
use Rattle.regex_lite_syntax.proofs.machine.OneStepLemmas.{leads_step}
use Rattle.regex_lite_syntax.proofs.machine.StateLemmas.{none_left}
use Rattle.regex_lite_syntax.proofs.machine.SoundLemmas.{sound}
use Rattle.regex_lite_syntax.proofs.machine.WholeLemmas.{refuses, grammar_once}
use Rattle.regex_lite_syntax.proofs.machine.RegularLemmas.{grammar_regular}
use Rattle.regex_lite_syntax.proofs.machine.GrowthLemmas.{reaches, frames_in_parens, opens_number}
use Rattle.regex_lite_syntax.proofs.machine.GrowthLemmas.{more_parens, step_deepest, frames_deep}
use Rattle.regex_lite_syntax.proofs.machine.ChangeLemmas.{head_takes}

-- under these flags the parser has come from the pattern to this text, within the limit
pub record ReachesNumber (flags : Flags) (nest_limit : ℕ) (pattern : Text) (p : Parser)
    (rest : Text) : Type 0 where
  pub deepest : ℕ
  pub leads : LeadsOn (first_state flags pattern) (state p rest deepest)
  pub within : deepest ≤ nest_limit
  pub differ : NamesDiffer p.names
  pub characters : AreCharacters pattern

-- as many frames as open groups
pub frames_are : (p : Parser) (t : Text) (d : ℕ)
    → length (state p t d).frames ≡ length p.below.items
unfolding state
frames_are p t d = length-reverse (map frame_of p.below.items) ∙ length-map p.below.items frame_of

-- over a gap and what stands past it
pub reaches_next : (flags : Flags) (nest_limit : ℕ) (pattern : Text) (p q : Parser) (t u v : Text)
    → ReachesNumber flags nest_limit pattern p t → WholeGap p.here.flags.ignore_whitespace t u
    → StepsTo p q u v → length q.below.items ≤ nest_limit → ReachesNumber flags nest_limit pattern q
    v
unfolding state
reaches_next flags nest_limit pattern p q t u v r whole reads shallow =
    let next = reads r.deepest in
    let st = step_over_gap (state p t r.deepest) (state q v next.0) u whole next.1.0 in
    record {
      deepest = next.0;
      leads = leads_step r.leads st;
      within = omega (arith, step_deepest st, frames_are q v next.0, shallow, r.within);
      differ = next.1.1 r.differ;
      characters = r.characters;
    }

-- where more groups are open than the limit
pub open_too_deep : (flags : Flags) (nest_limit : ℕ) (pattern : Text) (p q : Parser) (t u v : Text)
    → ReachesNumber flags nest_limit pattern p t → WholeGap p.here.flags.ignore_whitespace t u
    → StepsTo p q u v → nest_limit < length q.below.items → NestingRefused flags nest_limit pattern
unfolding state
open_too_deep flags nest_limit pattern p q t u v r whole reads deep =
    let next = reads r.deepest in
    let st = step_over_gap (state p t r.deepest) (state q v next.0) u whole next.1.0 in
    let l = leads_step r.leads st in
    let frames = frames_are q v next.0 in
    record {
      with_tree = λ tree groups deepest g.
          inl (omega (arith, frames, deep, frames_deep l, (reaches l g).deepest_reach));
      without = λ none. omega (arith, frames, deep, frames_in_parens l);
    }

-- at the end with no group open
pub reaches_tree : (flags : Flags) (nest_limit : ℕ) (pattern : Text) (p : Parser) (t : Text)
    (a : Tree) → (r : ReachesNumber flags nest_limit pattern p t)
    → Gap p.here.flags.ignore_whitespace t [] → Finishes p a
    → Grammar flags pattern a p.groups r.deepest
unfolding state
reaches_tree flags nest_limit pattern p t a r gap finishes =
    let f = finishes t r.deepest in
    subst (λ b. Grammar flags pattern b p.groups r.deepest) (sym f.1)
    (sound flags pattern (state p t r.deepest) r.leads f.0 gap r.differ r.characters)

pub admitted : (flags : Flags) (nest_limit : ℕ) (pattern : Text) (p : Parser) (t : Text) (a : Tree)
    → ReachesNumber flags nest_limit pattern p t → Gap p.here.flags.ignore_whitespace t []
    → p.groups < 2 ^ 32 → Finishes p a → (nest_limit < depth a → ⊥)
    → IsAdmitted flags nest_limit pattern a × IsRegular a
admitted flags nest_limit pattern p t a r gap few finishes shallow =
    let g = reaches_tree flags nest_limit pattern p t a r gap finishes in (
      (p.groups, r.deepest, g, within, λ many. omega (arith, many, few)),
      grammar_regular flags pattern a p.groups r.deepest g,
    )
  where
    within : PassesNesting nest_limit a r.deepest → ⊥
    within (inl deep) = omega (arith, deep, r.within)
    within (inr deep) = shallow deep

no_levels : {X Y : Type 0} (f : X → Y) (xs : List X) → reverse (map f xs) ≡ [] → xs ≡ []
no_levels f xs e =
    none_left xs (sym (length-map xs f) ∙ sym (length-reverse (map f xs)) ∙ ap length e)

-- with a group open there is no tree
pub open_refused : (flags : Flags) (nest_limit : ℕ) (pattern : Text) (p : Parser) (t : Text)
    → ReachesNumber flags nest_limit pattern p t → Gap p.here.flags.ignore_whitespace t []
    → (p.below.items ≡ [] → ⊥) → HasTree flags pattern → ⊥
unfolding state
open_refused flags nest_limit pattern p t r gap open_groups =
    let s = state p t r.deepest in
    refuses flags pattern s r.leads (λ q st. at_end s q gap st)
    (λ none _. open_groups (no_levels frame_of p.below.items none))

-- and with a tree that is too deep no other
tree_refused : (flags : Flags) (nest_limit : ℕ) (pattern : Text) (a : Tree) (groups deepest : ℕ)
    → Grammar flags pattern a groups deepest → nest_limit < depth a
    → NestingRefused flags nest_limit pattern
tree_refused flags nest_limit pattern a groups deepest g deep = record {
  with_tree = λ tree groups' deepest' h.
      let same = grammar_once flags pattern a tree groups groups' deepest deepest' g h in
      inr (subst (λ b. nest_limit < depth b) same.0 deep);
  without = λ none. absurd (none (a, (groups, deepest, g)));
}

pub end_says : (flags : Flags) (nest_limit : ℕ) (pattern : Text) (p : Parser) (t : Text)
    (e : Refusal) → ReachesNumber flags nest_limit pattern p t → Gap p.here.flags.ignore_whitespace
    t [] → Refuses e (λ _. p.below.items ≢ []) (FinishesTooDeep p nest_limit) ⊥
    → IsDueToPattern flags nest_limit pattern (kind_of e)
end_says flags nest_limit pattern p t (syntax_error fault) r gap d =
    open_refused flags nest_limit pattern p t r gap d
end_says flags nest_limit pattern p t too_deep r gap d =
    let g = reaches_tree flags nest_limit pattern p t d.0 r gap d.1 in
    tree_refused flags nest_limit pattern d.0 p.groups r.deepest g d.2
end_says flags nest_limit pattern p t out_of_memory r gap d = tt
end_says flags nest_limit pattern p t _ r gap d = absurd d

-- before the end with nothing to be read, there is no tree either
pub stuck_refused : (flags : Flags) (nest_limit : ℕ) (pattern : Text) (p : Parser) (t u : Text)
    → ReachesNumber flags nest_limit pattern p t → WholeGap p.here.flags.ignore_whitespace t u
    → (u ≡ [] → ⊥) → (CanRead p u → ⊥) → HasTree flags pattern → ⊥
unfolding state
stuck_refused flags nest_limit pattern p t u r whole more stuck has =
    let s = state p t r.deepest in
    refuses flags pattern s r.leads (λ q st. stuck (
      r.deepest,
      q,
      step_past_gap s q u whole st,
      (reaches (leads_step r.leads st) has.1.2).names_differ,
    )) (λ _ gap. more (gap_to_end p.here.flags.ignore_whitespace t u whole gap)) has

-- where a further group can't be numbered
pub number_refused : (flags : Flags) (nest_limit : ℕ) (pattern : Text) (p : Parser) (t u : Text)
    → ReachesNumber flags nest_limit pattern p t → WholeGap p.here.flags.ignore_whitespace t u
    → PassesGroups (p.groups + 1) → BeginsCapture p u → GroupsRefused flags pattern
unfolding state
number_refused flags nest_limit pattern p t u r whole many capture =
    let s = state p t r.deepest in
    let here = (state p u r.deepest).point in
    let head = capture.1 r.deepest in
    let begun = head_takes head.1 in
    let more = more_parens s here begun.opened r.leads (whole.0, refl) begun.opens in
    record {
      with_tree = λ tree groups deepest g.
          omega (arith, many, opens_number s here head.0 r.leads (whole.0, refl) head.1 g);
      without = λ none. omega (arith, many, more.1);
    }

pub step_says : (flags : Flags) (nest_limit : ℕ) (pattern : Text) (p : Parser) (t u : Text)
    (e : Refusal) → ReachesNumber flags nest_limit pattern p t
    → WholeGap p.here.flags.ignore_whitespace t u → (u ≡ [] → ⊥)
    → Refuses e (λ fault. NoReading fault (CanRead p) u) ⊥ (BeginsTooMany p u)
    → IsDueToPattern flags nest_limit pattern (kind_of e)
step_says flags nest_limit pattern p t u (syntax_error fault) r whole more d =
    stuck_refused flags nest_limit pattern p t u r whole more (none_now fault (CanRead p) u d)
step_says flags nest_limit pattern p t u too_many_groups r whole more d =
    number_refused flags nest_limit pattern p t u r whole d.0 d.1
step_says flags nest_limit pattern p t u out_of_memory r whole more d = tt
step_says flags nest_limit pattern p t u _ r whole more d = absurd d

-- What a transition changes of a scan's position, by the kind of the transition.
use Rattle.regex_lite_meta.proofs.Common.{◌≡◌, ℕ, Some, None, Option, sym, refl, ap, ◌∙◌, inl, inr}
use Rattle.regex_lite_meta.proofs.Common.{MatchStart, DfaPosition, NextState, best_left}
use Rattle.regex_lite_meta.proofs.Common.{best_reported, subst}
use Rattle.regex_lite_meta.specs.LazyDfa.Automaton.{State, StoredStart, first_left}
use Rattle.regex_lite_meta.specs.declared.lazy_dfa.cursor.DfaCursor.{DfaCursor}
use Rattle.regex_lite_meta.specs.declared.lazy_dfa.state.TransitionKind as code
use Rattle.regex_lite_meta.specs.declared.lazy_dfa.state.TransitionKind.TheVariants as kind
use Rattle.regex_lite_meta.specs.LazyDfa.Cursors.{EndsScan, IsTaken, Stays, Takes, TakesToNothing}
use Rattle.regex_lite_meta.specs.LazyDfa.Stored.{HasKind, is_restarting, known_match_flag}
use Rattle.regex_lite_meta.specs.LazyDfa.Stored.{last_match_flag}
use Rattle.regex_lite_syntax.proofs.OptionLemmas.{not_there}

-- a match that there is, is one
pub reported_some : (found : Option (MatchStart × ℕ)) → (found ≡ None → ⊥) → best_reported found
    ≡ None → ⊥
reported_some None some e = some refl
reported_some (Some found) some e = not_there (sym e)

module _ (at row end : ℕ) (e : code.TransitionKind) (state : State) (before after : DfaPosition)
    (own : HasKind e state) (match_flag : Option StoredStart)
    (best : best_reported after.best ≡ best_left match_flag before.first at
    (best_reported before.best)) where
  -- the state has ways
  pub goes_on : (on : DfaCursor) → known_match_flag e ≡ Some match_flag → on.at ≡ end → on.row ≡ row
      → after.first ≡ first_left (is_restarting e) before.first at
      → after.start_state_at ≡ before.start_state_at →
      IsTaken at row end state before after on
  goes_on on reported ends is_to first in_start = let is = own.goes match_flag reported in record {
    ends = ends;
    is_to = is_to;
    best = best ∙ sym (ap (λ h. best_left h before.first at (best_reported before.best)) is.1);
    first = inr (
      is.0,
      first ∙ sym (ap (λ restarts. first_left restarts before.first at) is.2),
      in_start,
    );
  }

  -- it has none, and there is a match
  pub ends_scan : last_match_flag e ≡ Some match_flag → (best_reported after.best ≡ None → ⊥)
      → after ≡ record before { at = after.at; best = after.best } →
      EndsScan at state before after
  ends_scan reported some same = let is = own.ends match_flag reported in record {
    none = is.0;
    best = best ∙ sym (ap (λ h. best_left h before.first at (best_reported before.best)) is.1);
    some = some;
    same = same;
  }

-- a transition that isn't special changes nothing else
pub non_special_taken : (at end : ℕ) (next_state : NextState) (state : State)
    (reported : DfaPosition) (on : DfaCursor) → next_state.kind ≡ kind.NonSpecial → HasKind
    next_state.kind state → on.at ≡ end → on.row ≡ next_state.row →
    IsTaken at next_state.row end state reported reported on
non_special_taken at end next_state state reported on is own ends is_to =
    goes_on at next_state.row end next_state.kind state reported reported own None refl on
    (ap known_match_flag is) ends is_to
    (sym (ap (λ e. first_left (is_restarting e) reported.first at) is)) refl

-- a transition to a state without ways, which completes no match
pub to_nothing : (at row end : ℕ) (e : code.TransitionKind) (state : State)
    (before after : DfaPosition) (there : DfaCursor) (result : Option (Option DfaCursor)) → HasKind
    e state → last_match_flag e ≡ Some None → there.at ≡ end → there.row ≡ row → TakesToNothing
    there before after result → Takes at row end state before after result
to_nothing at row end e state before after there (Some (Some on)) own reported ends is_to
    (there_at, there_row, no_match, same) = let is = own.ends None reported in record {
      ends = there_at ∙ ends;
      is_to = there_row ∙ is_to;
      best =
          ap (λ (s : DfaPosition). best_reported s.best) same
          ∙ sym (ap (λ match_flag. best_left match_flag before.first at (best_reported before.best))
          is.1);
      first = inl (
        is.0,
        ap (λ (s : DfaPosition). s.first) same ∙ sym there_at,
        ap (λ (s : DfaPosition). s.start_state_at) same ∙ sym there_at,
        ap (λ (s : DfaPosition). s.best) same ∙ no_match,
      );
    }
to_nothing at row end e state before after there (Some None) own reported ends is_to (same, some) =
    ends_scan at row end e state before after own None
    (ap (λ (s : DfaPosition). best_reported s.best) same) reported
    (reported_some after.best (λ none. some (sym (ap (λ (s : DfaPosition). s.best) same) ∙ none)))
    (same ∙ sym (ap (λ (s : DfaPosition). record before { at = s.at; best = s.best }) same))
to_nothing at row end e state before after there None own reported ends is_to (same, no_match) =
    same ∙ sym (ap (λ (s : DfaPosition). record before { at = s.at }) same)

-- it changes no match
pub best_kept : (there : DfaCursor) (before after : DfaPosition)
    (result : Option (Option DfaCursor)) → TakesToNothing there before after result → after.best
    ≡ before.best
best_kept there before after (Some (Some on)) (at, row, none, same) =
    ap (λ (s : DfaPosition). s.best) same
best_kept there before after (Some None) (same, some) = ap (λ (s : DfaPosition). s.best) same
best_kept there before after None (same, none) = ap (λ (s : DfaPosition). s.best) same

module _ (at row end : ℕ) (state : State) where
  -- it may have been tried before
  pub takes_after : (before mid after : DfaPosition) (result : Option (Option DfaCursor))
      → Stays before mid → Takes at row end state mid after result →
      Takes at row end state before after result
  takes_after before mid after (Some (Some on)) same taken =
      let own = subst (λ (s : DfaPosition). IsTaken at row end state s after on) same taken in
      record { ends = own.ends; is_to = own.is_to; best = own.best; first = own.first }
  takes_after before mid after (Some None) same over =
      let own = subst (λ (s : DfaPosition). EndsScan at state s after) same over in
      record { none = own.none; best = own.best; some = own.some; same = own.same }
  takes_after before mid after None same stays =
      subst (λ (s : DfaPosition). Stays s after) same stays

-- Up to where a pattern begins accepted ones.
use Rattle.regex_lite_syntax.proofs.Common.{◌≡◌, ℕ, zero, suc, ◌-◌, ◌≤◌, Bool, true, false, ◌≢◌}
use Rattle.regex_lite_syntax.proofs.Common.{List, [], ◌∷◌, ◌++◌, length, take, drop, Some, None}
use Rattle.regex_lite_syntax.proofs.Common.{MatchBool, Option, option_map, sym, refl, ap, ◌∙◌}
use Rattle.regex_lite_syntax.proofs.Common.{subst, inl, inr, append_assoc, arith, append-nil}
use Rattle.regex_lite_syntax.proofs.Common.{is_cut_short, Refusal, syntax_error, too_many_groups}
use Rattle.regex_lite_syntax.proofs.Common.{out_of_memory, kind_of, BeginsNone, BeginsSome, HasTree}
use Rattle.regex_lite_syntax.proofs.Common.{WholeGap, GoesOnFrom, CanRead, CanReadOn, BeginsTooMany}
use Rattle.regex_lite_syntax.proofs.Common.{NoReading, Refuses, IfCutShort, Text, SyntaxFault}
use Rattle.regex_lite_syntax.proofs.Common.{Flags, Parser, Stop}
use Rattle.std.proofs.Common.{IfSome}
use Rattle.regex_lite_syntax.specs.declared.error.ErrorKind.{ErrorKind}
use Rattle.regex_lite_syntax.specs.declared.error.ErrorKind.TheVariants as kind
use Rattle.regex_lite_syntax.specs.FaultPlaces.{IsEndOfFault, IsUntold}
use Rattle.regex_lite_syntax.specs.Parser.FaultEnds.{IsRefusedUnread, IsEndAbove}
use Rattle.regex_lite_syntax.specs.Parser.States.{state}
use Rattle.regex_lite_syntax.proofs.machine.CompletedRunLemmas.{reads_on}
use Rattle.regex_lite_syntax.proofs.machine.FaultLemmas.{Comes, says_for_good}
use Rattle.regex_lite_syntax.proofs.machine.GrowthLemmas.{more_parens}
use Rattle.regex_lite_syntax.proofs.machine.ChangeLemmas.{head_takes}

-- the pattern begins an accepted one if it is one
pub tree_goes_on : (flags : Flags) (pattern : Text) → HasTree flags pattern
    → BeginsSome flags pattern
tree_goes_on flags pattern has = ([], subst (λ t. HasTree flags t) (sym (append-nil pattern)) has)

first_of_first : (j k : ℕ) (t : Text) → k ≤ j → take k t ++ drop k (take j t) ≡ take j t
first_of_first zero zero t fits = refl
first_of_first zero (suc k) t fits = absurd (omega (arith, fits))
first_of_first (suc j) zero t fits = refl
first_of_first (suc j) (suc k) [] fits = refl
first_of_first (suc j) (suc k) (c ∷ t) fits =
    ap (λ u. c ∷ u) (first_of_first j k t (omega (arith, fits)))

-- what begins an accepted pattern is no longer than what does
pub fewer_go_on : (flags : Flags) (t : Text) (j k : ℕ) → k ≤ j → BeginsSome flags (take j t)
    → BeginsSome flags (take k t)
fewer_go_on flags t j k fits some =
    let longer = ap (λ u. u ++ some.0) (first_of_first j k t fits) in (
      drop k (take j t) ++ some.0,
      subst (λ u. HasTree flags u)
          (sym longer ∙ append_assoc (take k t) (drop k (take j t)) some.0) some.1,
    )

-- from where the pattern goes on up to one number it goes on up to the next
goes_on_past : (flags : Flags) (t : Text) (start low k : ℕ) → GoesOnFrom flags t start low
    → GoesOnFrom flags t low k → GoesOnFrom flags t start k
goes_on_past flags t start low k before (inl e) = subst (GoesOnFrom flags t start) (sym e) before
goes_on_past flags t start low k before (inr some) = inr some

-- an end above where the pattern goes on is that of the fault
pub end_of_fault : (flags : Flags) (t : Text) (start low high end : ℕ) → start ≤ low
    → high ≤ length t → GoesOnFrom flags t start low → IsEndAbove flags t low high end
    → IsEndOfFault flags t start end
end_of_fault flags t start low high end above inside goes_on e =
    let past = e.past in
    record {
      past = omega (arith, above, past);
      inside = omega (arith, inside, e.inside);
      none = e.none;
      least = λ k after before.
          elim (goes_on_past flags t start low (end - 1) goes_on e.before) [
            | inl same ↦ absurd (omega (arith, same, after, before))
            | inr some ↦ fewer_go_on flags t (end - 1) k (omega (arith, before)) some
          ];
    }

-- and where the pattern begins no accepted one, the fault can't be told
pub unread_untold : (flags : Flags) (t : Text) (e : ErrorKind) → BeginsNone flags t
    → IsRefusedUnread t e → IsUntold flags t e
unread_untold flags t kind.Groups none many = record {
  with_tree = λ tree groups deepest g.
      let some = tree_goes_on flags t (tree, (groups, deepest, g)) in absurd (none some.0 some.1);
  without = λ no_tree. many;
}
unread_untold flags t kind.Memory none says = tt
unread_untold flags t _ none says = absurd says

-- what a refusal to read on says that isn't a syntax fault
pub refused_unread : (flags : Flags) (pattern : Text) (p : Parser) (t u : Text) (starts : List ℕ)
    (e : Refusal) → Comes flags pattern p t starts → WholeGap p.here.flags.ignore_whitespace t u
    → kind_of e ≢ kind.Syntax
    → Refuses e (λ fault. NoReading fault (CanRead p) u) ⊥ (BeginsTooMany p u)
    → IsRefusedUnread pattern (kind_of e)
unfolding state
refused_unread flags pattern p t u starts (syntax_error fault) c whole other says =
    absurd (other refl)
refused_unread flags pattern p t u starts too_many_groups c whole other says =
    let here = (state p u c.deepest).point in
    let begun = head_takes (says.1.1 c.deepest).1 in
    let more =
    more_parens (state p t c.deepest) here begun.opened c.leads (whole.0, refl) begun.opens in
    omega (arith, says.0, more.1)
refused_unread flags pattern p t u starts out_of_memory c whole other says = tt
refused_unread flags pattern p t u starts _ c whole other says = absurd says

-- whether the pattern goes on where the parser refuses to read on for a fault
pub goes_on_as : (flags : Flags) (pattern : Text) (p : Parser) (t u : Text) (starts : List ℕ)
    (e : Refusal) (fault : SyntaxFault)
    → Comes flags pattern p t starts → WholeGap p.here.flags.ignore_whitespace t u
    → (u ≡ [] → ⊥) → Refuses e (λ f. NoReading f (CanRead p) u) ⊥ (BeginsTooMany p u)
    → IfCutShort e (CanReadOn p u) → e ≡ syntax_error fault
    → MatchBool (is_cut_short fault) (BeginsSome flags pattern) (BeginsNone flags pattern)
goes_on_as flags pattern p t u starts e fault c whole some says completes is =
    of_cut (is_cut_short fault) refl
  where
    of_cut : (short : Bool) → is_cut_short fault ≡ short
        → MatchBool short (BeginsSome flags pattern) (BeginsNone flags pattern)
    of_cut true short = reads_on flags pattern p t u starts c whole some
        (subst (λ x. IfCutShort x (CanReadOn p u)) is completes short)
    of_cut false short = says_for_good flags pattern p t u starts e fault c whole some says is short

-- and where it ends with a group open
pub goes_on_open : (flags : Flags) (pattern : Text) (last : Option ℕ) → BeginsSome flags pattern
    → IfSome (option_map (λ k. record { start = k; is_cut_short = true }) last)
    (λ (stop : Stop).
    MatchBool stop.is_cut_short (BeginsSome flags pattern) (BeginsNone flags pattern))
goes_on_open flags pattern None some = tt
goes_on_open flags pattern (Some k) some = some

use Rattle.regex_lite_syntax.proofs.Common.{◌≡◌, ℕ, ◌+◌, false, [], ◌∷◌, ◌++◌, codes, sym, refl, ap}
use Rattle.regex_lite_syntax.proofs.Common.{◌∙◌, subst, inl, inr, arith, is_one_of, is_flag_letter}
use Rattle.regex_lite_syntax.proofs.Common.{with_p, without_p, EndedFlags, EndsInOpening, NoReading}
use Rattle.regex_lite_syntax.proofs.Common.{Text, the, SyntaxFault, Flags}
use Rattle.regex_lite_syntax.specs.declared.error.syntax.SyntaxFault.TheVariants.{
  LookUnsupported,
  CutShort,
}
use Rattle.regex_lite_syntax.specs.declared.error.unexpected_eof.UnexpectedEof.TheVariants.{
  FlagOrName,
}
use Rattle.regex_lite_syntax.proofs.parse.IndexLemmas.{drop_at, left_at_end}
use Rattle.regex_lite_syntax.proofs.grammar.LongerOpeningLemmas.{not_inside}
use Rattle.regex_lite_syntax.proofs.parse.letters.WholeFlagLemmas.{no_flags_other}
use Rattle.regex_lite_syntax.proofs.parse.letters.other_head.Goals as goal

-- no flags stand where this character does
no_flags_at : (fault : SyntaxFault) (t u : Text) (x c : ℕ) → t ≡ x ∷ u → x ≡ c
    → is_flag_letter c ≡ false → is_one_of (codes "-:)") c ≡ false → (old : Flags)
    → NoReading fault (λ t. (rest : Text) × (new : Flags) × EndedFlags old t rest new) t
no_flags_at fault t u x c here is no_flag no_end old more follows flags =
    let begins = ap (λ v. v ++ more) (here ∙ ap (λ y. y ∷ u) is) in
    no_flags_other old (t ++ more) flags.0 flags.1 c (u ++ more) begins no_flag no_end flags.2

pub returns-in-Some-eq61-clause-refused : goal.returns-in-Some-eq61-clause-refused
returns-in-Some-eq61-clause-refused c =
    let at = no_flags_at LookUnsupported _ _ _ in
    elim c.in-Some-eq61.field-0-test [
      | inl e ↦ at (the "!") c.in-Some-eq61.ensures.1 e refl refl
      | inr e ↦ at (the "=") c.in-Some-eq61.ensures.1 e refl refl
    ]

pub returns-in-Some-P-clause-refused : goal.returns-in-Some-P-clause-refused
returns-in-Some-P-clause-refused c =
    no_flags_at (CutShort FlagOrName) _ _ _ (the "P") c.in-Some-P.ensures.1
    c.in-Some-P.field-0-test refl refl

pub returns-in-Some-clause-goes_on : goal.returns-in-Some-clause-goes_on
returns-in-Some-clause-goes_on c inside =
    let past = drop_at c.args.chars.now (c.args.at + 1)
    (omega (arith, c.in-Some.ensures.0, c.if-at-chars.false)) in
    let here = ap (λ t. (the "?") ∷ t) c.in-Some.ensures.1 in
    not_inside c.in-Some.field-0 _ (λ is_p none. cc (past, none))
    (subst (λ t. EndsInOpening t) here inside)

pub returns-in-Some-2-clause-goes_on : goal.returns-in-Some-2-clause-goes_on
returns-in-Some-2-clause-goes_on c inside =
    let here = ap (λ t. (the "?") ∷ t) c.in-Some.ensures.1 in
    not_inside c.in-Some.field-0 _ (λ is_p none. c.in-Some.field-0-test.1 is_p)
    (subst (λ t. EndsInOpening t) here inside)

-- a `?` and no more is a part of what opens a name
question_opens : (t : Text) → t ≡ [] → EndsInOpening (the "?" ∷ t)
question_opens t none =
    subst (λ u. EndsInOpening (the "?" ∷ u)) (sym none) (the "<" ∷ [], (λ e. cc e), without_p refl)

pub returns-in-None-clause-completes : goal.returns-in-None-clause-completes
returns-in-None-clause-completes c short = question_opens _ c.in-None.ensures

-- and so is one before a `P`
p_opens : (t past : Text) (c : ℕ) → t ≡ c ∷ past → c ≡ the "P" → past ≡ []
    → EndsInOpening (the "?" ∷ t)
p_opens t past c here is none =
    subst (λ u. EndsInOpening (the "?" ∷ u))
    (sym (here ∙ ap (λ d. d ∷ past) is ∙ ap (λ u. the "P" ∷ u) none))
    (the "<" ∷ [], (λ e. cc e), with_p refl)

pub returns-in-Some-P-clause-completes : goal.returns-in-Some-P-clause-completes
returns-in-Some-P-clause-completes c short =
    p_opens _ _ _ c.in-Some-P.ensures.1 c.in-Some-P.field-0-test
    (left_at_end c.args.chars.now (c.args.at + 1) (omega (arith, c.if-at-chars.true)))

-- An operator is read in one way.
use Rattle.regex_lite_syntax.proofs.Common.{◌≡◌, ℕ, Bool, false, ◌∷◌, Some, Option, sym, refl, ap}
use Rattle.regex_lite_syntax.proofs.Common.{◌∙◌, subst, Counted, Gap, WholeGap, times, greed}
use Rattle.regex_lite_syntax.proofs.Common.{Operator, uncounted, uncounted_lazy, counted}
use Rattle.regex_lite_syntax.proofs.Common.{counted_lazy, Text, Begins, the, Flags}
use Rattle.regex_lite_syntax.proofs.ListLemmas.{same_head, same_tail}
use Rattle.regex_lite_syntax.proofs.grammar.GapLemmas.{gap_once}
use Rattle.regex_lite_syntax.proofs.grammar.CountLemmas.{counted_once}
use Rattle.regex_lite_syntax.proofs.grammar.LongerGapLemmas.{no_question_past, question_ends}

same_bounds : (c d least least' : ℕ) (most most' : Option ℕ) → c ≡ d → times c ≡ Some (least, most)
    → times d ≡ Some (least', most') → (least ≡ least') × (most ≡ most')
same_bounds c d least least' most most' e b b' =
    let both : (least, most) ≡ (least', most') = cc (sym b ∙ ap times e ∙ b') in
    (ap (λ (p : ℕ × Option ℕ). p.0) both, ap (λ (p : ℕ × Option ℕ). p.1) both)

-- a lazy operator and one that is not do not stand at one place
lazy_or_not : (c d : ℕ) (t rest rest' : Text) → t ≡ c ∷ rest → (Begins (the "?") rest → ⊥)
    → t ≡ d ∷ the "?" ∷ rest' → ⊥
lazy_or_not c d t rest rest' e none e' =
    none (subst (λ u. Begins (the "?") u) (sym (same_tail (sym e ∙ e'))) refl)

-- a character with times opens no counted operator
bounds_or_brace : (c least : ℕ) (most : Option ℕ) (t rest opened : Text)
    → times c ≡ Some (least, most) → t ≡ c ∷ rest → t ≡ the "{" ∷ opened → ⊥
bounds_or_brace c least most t rest opened b e e' =
    let none = ap times (same_head (sym e ∙ e')) in cc (b, none)

-- the two operators are one
pub record SameOperator (rest rest' : Text) (least least' : ℕ) (most most' : Option ℕ)
    (greedy greedy' : Bool) : Type 0 where
  pub same_rest : rest ≡ rest'
  pub same_min : least ≡ least'
  pub same_max : most ≡ most'
  pub same_greed : greedy ≡ greedy'

-- two counted operators of one place have the same times and close at one place
same_counts : (verbose : Bool) (t opened opened' rest rest' : Text) (least least' : ℕ)
    (most most' : Option ℕ)
    → t ≡ the "{" ∷ opened → t ≡ the "{" ∷ opened' → Counted verbose opened rest least most
    → Counted verbose opened' rest' least' most'
    → (rest ≡ rest') × (least ≡ least') × (most ≡ most')
same_counts verbose t opened opened' rest rest' least least' most most' e e' k k' =
    let from =
    subst (λ u. Counted verbose u rest' least' most') (sym (same_tail (sym e ∙ e'))) k' in
    counted_once verbose opened rest rest' least least' most most' k from

-- a gap leads to one `?`
same_question : (verbose : Bool) (t u rest rest' : Text) → t ≡ u → Gap verbose t (the "?" ∷ rest)
    → Gap verbose u (the "?" ∷ rest') → rest ≡ rest'
same_question verbose t u rest rest' e g g' =
    let from = subst (λ v. Gap verbose v (the "?" ∷ rest')) (sym e) g' in
    same_tail (gap_once verbose t _ _ g from (question_ends rest) (question_ends rest'))

pub operator_once : {flags : Flags} {t rest rest' : Text} {least least' : ℕ} {most most' : Option ℕ}
    {greedy greedy' : Bool}
    → Operator flags t rest least most greedy → Operator flags t rest' least' most' greedy'
    → SameOperator rest rest' least least' most most' greedy greedy'
operator_once {least} {least'} {most} {most'} (uncounted c e b n g) (uncounted d e' b' n' g') =
    let k = sym e ∙ e' in
    let same = same_bounds c d least least' most most' (same_head k) b b' in
    record {
      same_rest = same_tail k;
      same_min = same.0;
      same_max = same.1;
      same_greed = g ∙ sym g';
    }
operator_once {t} {rest} {rest'} (uncounted c e b n g) (uncounted_lazy d e' b' g') =
    absurd (lazy_or_not c d t rest rest' e n e')
operator_once {t} {least} {most} (uncounted c e b n g) (counted o e' k n' g') =
    absurd (bounds_or_brace c least most t _ o b e e')
operator_once {t} {least} {most} (uncounted c e b n g) (counted_lazy o past e' k q g') =
    absurd (bounds_or_brace c least most t _ o b e e')
operator_once {t} {rest} {rest'} (uncounted_lazy c e b g) (uncounted d e' b' n' g') =
    absurd (lazy_or_not d c t rest' rest e' n' e)
operator_once {least} {least'} {most} {most'} (uncounted_lazy c e b g) (uncounted_lazy d e' b' g') =
    let k = sym e ∙ e' in
    let same = same_bounds c d least least' most most' (same_head k) b b' in
    record {
      same_rest = same_tail (same_tail k);
      same_min = same.0;
      same_max = same.1;
      same_greed = g ∙ sym g';
    }
operator_once {t} {least} {most} (uncounted_lazy c e b g) (counted o e' k n' g') =
    absurd (bounds_or_brace c least most t _ o b e e')
operator_once {t} {least} {most} (uncounted_lazy c e b g) (counted_lazy o past e' k q g') =
    absurd (bounds_or_brace c least most t _ o b e e')
operator_once {t} {least'} {most'} (counted o e k n g) (uncounted d e' b' n' g') =
    absurd (bounds_or_brace d least' most' t _ o b' e' e)
operator_once {t} {least'} {most'} (counted o e k n g) (uncounted_lazy d e' b' g') =
    absurd (bounds_or_brace d least' most' t _ o b' e' e)
operator_once {flags} {t} {rest} {rest'} {least} {least'} {most} {most'} (counted o e k n g)
    (counted o' e' k' n' g') =
    let same =
    same_counts flags.ignore_whitespace t o o' rest rest' least least' most most' e e' k k' in
    record { same_rest = same.0; same_min = same.1; same_max = same.2; same_greed = g ∙ sym g' }
operator_once {flags} {t} {rest} {rest'} {least} {least'} {most} {most'} (counted o e k n g)
    (counted_lazy o' past' e' k' q' g') =
    let verbose = flags.ignore_whitespace in
    let same = same_counts verbose t o o' rest past' least least' most most' e e' k k' in
    absurd (n rest' (subst (λ u. Gap verbose u (the "?" ∷ rest')) (sym same.0) q'))
operator_once {t} {least'} {most'} (counted_lazy o past e k q g) (uncounted d e' b' n' g') =
    absurd (bounds_or_brace d least' most' t _ o b' e' e)
operator_once {t} {least'} {most'} (counted_lazy o past e k q g) (uncounted_lazy d e' b' g') =
    absurd (bounds_or_brace d least' most' t _ o b' e' e)
operator_once {flags} {t} {rest} {rest'} {least} {least'} {most} {most'}
    (counted_lazy o past e k q g)
    (counted o' e' k' n' g') =
    let verbose = flags.ignore_whitespace in
    let same = same_counts verbose t o o' past rest' least least' most most' e e' k k' in
    absurd (n' rest (subst (λ u. Gap verbose u (the "?" ∷ rest)) same.0 q))
operator_once {flags} {t} {rest} {rest'} {least} {least'} {most} {most'}
    (counted_lazy o past e k q g)
    (counted_lazy o' past' e' k' q' g') =
    let verbose = flags.ignore_whitespace in
    let same = same_counts verbose t o o' past past' least least' most most' e e' k k' in
    let rests = same_question verbose past past' rest rest' same.0 q q' in
    record { same_rest = rests; same_min = same.1; same_max = same.2; same_greed = g ∙ sym g' }

-- an operator that begins with a brace is counted
pub counts_of : (flags : Flags) (t opened rest : Text) (least : ℕ) (most : Option ℕ) (greedy : Bool)
    → t ≡ the "{" ∷ opened → Operator flags t rest least most greedy
    → (past : Text) × Counted flags.ignore_whitespace opened past least most
counts_of flags t opened rest least most greedy e (uncounted c e' b n g) =
    absurd (bounds_or_brace c least most t _ opened b e' e)
counts_of flags t opened rest least most greedy e (uncounted_lazy c e' b g) =
    absurd (bounds_or_brace c least most t _ opened b e' e)
counts_of flags t opened rest least most greedy e (counted o e' k n g) = (
  rest,
  subst (λ u. Counted flags.ignore_whitespace u rest least most) (same_tail (sym e' ∙ e)) k,
)
counts_of flags t opened rest least most greedy e (counted_lazy o past e' k q g) = (
  past,
  subst (λ u. Counted flags.ignore_whitespace u past least most) (same_tail (sym e' ∙ e)) k,
)

-- a counted operator, where no `?` stands past the gap after it
pub counted_greedy : (flags : Flags) (t opened rest u : Text) (least : ℕ) (most : Option ℕ)
    (greedy : Bool)
    → t ≡ the "{" ∷ opened → Counted flags.ignore_whitespace opened rest least most
    → WholeGap flags.ignore_whitespace rest u → (Begins (the "?") u → ⊥)
    → greedy ≡ greed flags false
    → Operator flags t rest least most greedy
counted_greedy flags t opened rest u least most greedy e k whole none g =
    counted opened e k (no_question_past flags.ignore_whitespace rest u whole none) g

-- Numbers in a longer text that begins with the text.
use Rattle.regex_lite_syntax.proofs.Common.{◌≡◌, ℕ, ◌^◌, ◌<◌, ◌≤◌, Bool, true, false, ◌≢◌, [], ◌∷◌}
use Rattle.regex_lite_syntax.proofs.Common.{◌++◌, length, Some, None, Option, sym, refl, ap, ◌∙◌}
use Rattle.regex_lite_syntax.proofs.Common.{subst, inl, inr, arith, append-nil, is_digit}
use Rattle.regex_lite_syntax.proofs.Common.{WhiteSpace, Side, WholeSide, Number, EndsNumber, Limit}
use Rattle.regex_lite_syntax.proofs.Common.{WholeGap, Spaced, Text, the}
use Rattle.regex_lite_syntax.specs.Grammar.Counted.{EndsSide}
use Rattle.regex_lite_syntax.proofs.grammar.GapLemmas.{empty_gap}
use Rattle.regex_lite_syntax.proofs.grammar.NumberLemmas.{NoDigit, DigitsRead, side_of, side_leads}
use Rattle.regex_lite_syntax.proofs.grammar.NumberLemmas.{digits_end, no_number, number_only}
use Rattle.regex_lite_syntax.proofs.grammar.NumberLemmas.{number_too_large}
use Rattle.regex_lite_syntax.proofs.grammar.LongerGapLemmas.{GoesOn, some_gap, gap_longer}
use Rattle.regex_lite_syntax.proofs.grammar.LongerGapLemmas.{whole_longer, gap_before}
use Rattle.regex_lite_syntax.proofs.grammar.LongerGapLemmas.{spaced_longer, no_gap_longer}
use Rattle.regex_lite_syntax.proofs.grammar.CountLemmas.{limit_before_other}

-- where no more follows, what is read is read of the text itself
pub of_text : (R : Text → Type 0) (t more : Text) → more ≡ [] → R (t ++ more) → R t
of_text R t more none r = subst R (ap (λ u. t ++ u) none ∙ append-nil t) r

-- where something is left past a whole side, more than a gap is left before it
side_goes_on : (verbose : Bool) (t rest : Text) → WholeSide verbose t rest → rest ≢ []
    → GoesOn verbose t
side_goes_on verbose t rest whole some gap =
    some (side_leads verbose t rest [] whole (side_of verbose t [] gap) tt)

-- and past it too
left_goes_on : (verbose : Bool) (t rest : Text) → WholeSide verbose t rest → rest ≢ []
    → GoesOn verbose rest
left_goes_on verbose t rest whole some =
    side_goes_on verbose rest rest (side_of verbose rest rest (empty_gap verbose rest), whole.1)
    some

-- where digits stand, something is left
pub spaced_some : (verbose : Bool) (ds t rest : Text) → 0 < length ds
    → Spaced verbose is_digit ds t rest → t ≢ []
spaced_some verbose [] t rest some s = absurd (omega (arith, some))
spaced_some verbose (d ∷ ds) t rest some s = some_gap verbose t s.0 d s.1

module _ (more : Text) where
  white_longer : (t rest : Text) → WhiteSpace t rest → rest ≢ []
      → WhiteSpace (t ++ more) (rest ++ more)
  white_longer [] rest w some = absurd (some w)
  white_longer (c ∷ t) rest (inl w) some = inl (ap (λ u. u ++ more) w)
  white_longer (c ∷ t) rest (inr w) some = inr (w.0, white_longer t rest w.1 some)

  pub side_longer : (verbose : Bool) (t rest : Text) → Side verbose t rest → rest ≢ []
      → Side verbose (t ++ more) (rest ++ more)
  side_longer true t rest side some = gap_longer more true t rest side some
  side_longer false t rest side some = white_longer t rest side some

  ends_side_longer : (verbose : Bool) (t : Text) → EndsSide verbose t → t ≢ []
      → EndsSide verbose (t ++ more)
  ends_side_longer verbose [] ends some = absurd (some refl)
  ends_side_longer true (c ∷ t) ends some = ends
  ends_side_longer false (c ∷ t) ends some = ends

  pub whole_side_longer : (verbose : Bool) (t rest : Text) → WholeSide verbose t rest → rest ≢ []
      → WholeSide verbose (t ++ more) (rest ++ more)
  whole_side_longer verbose t rest whole some =
      (side_longer verbose t rest whole.0 some, ends_side_longer verbose rest whole.1 some)

  -- where no digit stood past the gap, none does
  no_digit_longer : (verbose : Bool) (t : Text) → GoesOn verbose t → NoDigit verbose t
      → NoDigit verbose (t ++ more)
  no_digit_longer verbose t goes none c past gap digit =
      no_gap_longer more verbose t c (λ u. digits_end c u digit) goes
      (λ first here. none c first here digit) past gap

  pub digits_longer : {verbose : Bool} {read n : ℕ} {t u : Text} → DigitsRead verbose read t u n
      → DigitsRead verbose read (t ++ more) (u ++ more) n
  digits_longer {verbose} {read} {n} {t} {u} d = record {
    digits = d.digits;
    written = spaced_longer more verbose is_digit d.digits t u d.written;
    some = d.some;
    value = d.value;
  }

  -- a number ends where a side does that begins past its digits
  pub number_on : {verbose : Bool} {n : ℕ} {t u rest : Text} (p : Number verbose t u n)
      → Side verbose (p.last ++ more) rest → Number verbose (t ++ more) rest n
  number_on {verbose} {t} p after = record {
    first = p.first ++ more;
    last = p.last ++ more;
    digits = p.digits;
    before = side_longer verbose t p.first p.before
        (spaced_some verbose p.digits p.first p.last p.some p.written);
    written = spaced_longer more verbose is_digit p.digits p.first p.last p.written;
    after = after;
    some = p.some;
    value = p.value;
    in_range = p.in_range;
  }

  pub number_longer : {verbose : Bool} {n : ℕ} {t rest : Text} → Number verbose t rest n
      → rest ≢ [] → Number verbose (t ++ more) (rest ++ more) n
  number_longer {verbose} {rest} p some =
      number_on p (side_longer verbose p.last rest p.after some)

  pub limit_longer : (verbose : Bool) (t rest : Text) (most : Option ℕ) → Limit verbose t rest most
      → Limit verbose (t ++ more) (rest ++ more) most
  limit_longer verbose t rest None closes = gap_before more verbose t rest (the "}") closes
  limit_longer verbose t rest (Some n) number = number_longer number (λ e. cc e)

  -- a number that is too large is so with more digits too
  pub longer_too_large : {verbose : Bool} {read n m : ℕ} {first u rest : Text} (t : Text)
      → WholeSide verbose t first → first ≢ [] → DigitsRead verbose read first u n → 2 ^ 32 ≤ n
      → Number verbose (t ++ more) rest m → EndsNumber rest → ⊥
  longer_too_large {verbose} {read} {n} {m} {first} {u} {rest} t whole some d large p ends =
      number_too_large (whole_side_longer verbose t first whole some) (digits_longer d) large p ends

  -- where a character that is no digit stands past the side, no number comes to stand
  pub no_longer_number : {verbose : Bool} {m : ℕ} {rest : Text} (t first : Text)
      → WholeSide verbose t first → first ≢ [] → NoDigit verbose first
      → Number verbose (t ++ more) rest m → ⊥
  no_longer_number {verbose} {m} {rest} t first whole some none p =
      no_number (first ++ more) (whole_side_longer verbose t first whole some)
      (no_digit_longer verbose first (left_goes_on verbose t first whole some) none) p

  -- where all digits have been read, and something is left past the number, no other number comes
  -- to stand there
  pub longer_number_only : {verbose : Bool} {read n m : ℕ} {first u rest rest' : Text} (t : Text)
      → WholeSide verbose t first → first ≢ [] → DigitsRead verbose read first u n
      → NoDigit verbose u → WholeSide verbose u rest → (rest ≡ [] → more ≡ [])
      → Number verbose (t ++ more) rest' m → EndsNumber rest' → (rest' ≡ rest ++ more) × (m ≡ n)
  longer_number_only {verbose} {read} {n} {m} {first} {u} {rest} {rest'} t whole some d none
      after follows p ends = by_rest rest refl
    where
      by_rest : (r : Text) → rest ≡ r → (rest' ≡ rest ++ more) × (m ≡ n)
      by_rest [] e =
          let nothing = follows e in
          let now = of_text (λ v. Number verbose v rest' m) t more nothing p in
          let same = number_only whole d none after now ends in
          (same.0 ∙ sym (append-nil rest) ∙ ap (λ v. rest ++ v) (sym nothing), same.1)
      by_rest (c ∷ r) e =
          let left : rest ≢ [] = λ nothing. cc (e, nothing) in
          number_only (whole_side_longer verbose t first whole some) (digits_longer d)
          (no_digit_longer verbose u (side_goes_on verbose u rest after left) none)
          (whole_side_longer verbose u rest after left) p ends

  -- past a comma a number comes to stand, unless the brace that closes stands there
  pub longer_limit_is_number : {verbose : Bool} {most : Option ℕ} {rest : Text} (t u past : Text)
      (c : ℕ) → WholeGap verbose t u → u ≡ c ∷ past → (c ≡ the "}" → ⊥)
      → Limit verbose (t ++ more) rest most
      → (n : ℕ) × (most ≡ Some n) × Number verbose (t ++ more) (the "}" ∷ rest) n
  longer_limit_is_number {verbose} {most} {rest} t u past c whole here other limit =
      let longer = whole_longer more verbose t u whole (λ none. cc (here, none)) in
      limit_before_other (u ++ more) (past ++ more) c longer (ap (λ v. v ++ more) here) other limit

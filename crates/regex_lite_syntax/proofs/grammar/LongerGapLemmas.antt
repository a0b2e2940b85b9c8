-- Gaps, and characters with gaps between them, in a longer text that begins with the text.
use Rattle.regex_lite_syntax.proofs.Common.{◌≡◌, ℕ, Bool, true, false, ◌≢◌, [], ◌∷◌, ◌++◌, ◌==◌}
use Rattle.regex_lite_syntax.proofs.Common.{sym, refl, ap, ◌∙◌, subst, inl, inr, arith, both_ways}
use Rattle.regex_lite_syntax.proofs.Common.{eqb-true, not_from_false, append-nil, is_white_space}
use Rattle.regex_lite_syntax.proofs.Common.{Gap, EndsGap, WholeGap, Spaced, Text, Begins, the}
use Rattle.regex_lite_syntax.proofs.ListLemmas.{same_head}
use Rattle.regex_lite_syntax.proofs.grammar.GapLemmas.{empty_gap, gap_to_end}
use Rattle.regex_lite_syntax.proofs.grammar.ScanLemmas.{Scan, scan_of_spacing, spacing_of_scan}
use Rattle.regex_lite_syntax.proofs.grammar.SpacedLemmas.{whole_gap_leads, printed_ends}

-- a `?` ends a gap
pub question_ends : (t : Text) → EndsGap true (the "?" ∷ t)
question_ends t = printed_ends (the "?") t (omega arith) (omega arith)

-- where none stands past the whole gap, no gap leads to one
pub no_question_past : (verbose : Bool) (t u : Text) → WholeGap verbose t u
    → (Begins (the "?") u → ⊥) → (first : Text) → Gap verbose t (the "?" ∷ first) → ⊥
no_question_past verbose t u whole none first gap =
    let same = whole_gap_leads verbose t u _ whole gap (question_ends first) in
    none (subst (λ v. Begins (the "?") v) (sym same) refl)

-- more than a gap is left
abbrev pub GoesOn : (verbose : Bool) → Text → Type 0
GoesOn verbose t = Gap verbose t [] → ⊥

-- then something is left
pub some_left : (verbose : Bool) (t : Text) → GoesOn verbose t → t ≢ []
some_left verbose t goes e = goes (subst (λ u. Gap verbose t u) e (empty_gap verbose t))

-- where something is left past a gap, something is left before it
pub some_before : (verbose : Bool) (t rest : Text) → Gap verbose t rest → rest ≢ [] → t ≢ []
some_before true t rest g some e =
    some (subst (λ u. Scan false u rest) e (scan_of_spacing t rest g))
some_before false t rest g some e = some (g ∙ e)

-- a text that ends has no gap before a character
pub some_gap : (verbose : Bool) (t rest : Text) (c : ℕ) → Gap verbose t (c ∷ rest) → t ≢ []
some_gap verbose t rest c g = some_before verbose t (c ∷ rest) g (λ e. cc e)

-- each text begins with a gap that is as long as it can be
differs : (c d : ℕ) → (c == d) ≡ false → (d == d) ≡ true → c ≢ d
differs c d other same e = both_ways _ other (subst (λ x. (x == d) ≡ true) (sym e) same)

full_scan : (in_comment : Bool) (t : Text) → (u : Text) × Scan in_comment t u × EndsGap true u
full_scan in_comment [] = ([], refl, tt)
full_scan false (c ∷ t) =
    by_kind (is_white_space c) (c == the "#") refl refl (full_scan false t) (full_scan true t)
  where
    by_kind : (white sign : Bool) → is_white_space c ≡ white → (c == the "#") ≡ sign
        → ((u : Text) × Scan false t u × EndsGap true u)
        → ((u : Text) × Scan true t u × EndsGap true u)
        → (u : Text) × Scan false (c ∷ t) u × EndsGap true u
    by_kind true sign w s past commented = (past.0, inr (inl (w, past.1)), past.2)
    by_kind false true w s past commented =
        (commented.0, inr (inr (eqb-true c (the "#") s, commented.1)), commented.2)
    by_kind false false w s past commented =
        (c ∷ t, inl refl, (not_from_false _ w, differs c (the "#") s refl))
full_scan true (c ∷ t) =
    by_kind (c == the "\n") refl (full_scan false t) (full_scan true t)
  where
    by_kind : (feed : Bool) → (c == the "\n") ≡ feed
        → ((u : Text) × Scan false t u × EndsGap true u)
        → ((u : Text) × Scan true t u × EndsGap true u)
        → (u : Text) × Scan true (c ∷ t) u × EndsGap true u
    by_kind true f past commented = (past.0, inl (eqb-true c (the "\n") f, past.1), past.2)
    by_kind false f past commented =
        (commented.0, inr (differs c (the "\n") f refl, commented.1), commented.2)

pub full_gap : (verbose : Bool) (t : Text) → (u : Text) × WholeGap verbose t u
full_gap true t =
    let s = full_scan false t in (s.0, (spacing_of_scan t s.0 s.1, s.2))
full_gap false t = (t, (refl, tt))

module _ (more : Text) where
  scan_longer : (in_comment : Bool) (t rest : Text) → Scan in_comment t rest → rest ≢ []
      → Scan in_comment (t ++ more) (rest ++ more)
  scan_longer in_comment [] rest s some = absurd (some s)
  scan_longer false (c ∷ t) rest (inl s) some = inl (ap (λ u. u ++ more) s)
  scan_longer false (c ∷ t) rest (inr (inl s)) some =
      inr (inl (s.0, scan_longer false t rest s.1 some))
  scan_longer false (c ∷ t) rest (inr (inr s)) some =
      inr (inr (s.0, scan_longer true t rest s.1 some))
  scan_longer true (c ∷ t) rest (inl s) some = inl (s.0, scan_longer false t rest s.1 some)
  scan_longer true (c ∷ t) rest (inr s) some = inr (s.0, scan_longer true t rest s.1 some)

  pub gap_longer : (verbose : Bool) (t rest : Text) → Gap verbose t rest → rest ≢ []
      → Gap verbose (t ++ more) (rest ++ more)
  gap_longer true t rest g some = spacing_of_scan (t ++ more) (rest ++ more)
      (scan_longer false t rest (scan_of_spacing t rest g) some)
  gap_longer false t rest g some = ap (λ u. u ++ more) g

  pub gap_before : (verbose : Bool) (t rest : Text) (c : ℕ) → Gap verbose t (c ∷ rest)
      → Gap verbose (t ++ more) (c ∷ (rest ++ more))
  gap_before verbose t rest c g = gap_longer verbose t (c ∷ rest) g (λ e. cc e)

  ends_longer : (verbose : Bool) (t : Text) → EndsGap verbose t → t ≢ []
      → EndsGap verbose (t ++ more)
  ends_longer true [] ends some = absurd (some refl)
  ends_longer true (c ∷ t) ends some = ends
  ends_longer false t ends some = tt

  pub whole_longer : (verbose : Bool) (t rest : Text) → WholeGap verbose t rest → rest ≢ []
      → WholeGap verbose (t ++ more) (rest ++ more)
  whole_longer verbose t rest whole some =
      (gap_longer verbose t rest whole.0 some, ends_longer verbose rest whole.1 some)

  -- the gap that is as long as it can be, where more is left
  pub record LongerGap (verbose : Bool) (t : Text) : Type 0 where
    pub first : ℕ
    pub rest : Text
    pub gap : WholeGap verbose t (first ∷ rest)
    pub longer : WholeGap verbose (t ++ more) (first ∷ (rest ++ more))

  pub longer_gap : (verbose : Bool) (t : Text) → GoesOn verbose t → LongerGap verbose t
  longer_gap verbose t goes = let full = full_gap verbose t in of_end full.0 full.1
    where
      of_end : (u : Text) → WholeGap verbose t u → LongerGap verbose t
      of_end [] gap = absurd (goes gap.0)
      of_end (c ∷ u) gap = record {
        first = c;
        rest = u;
        gap = gap;
        longer = whole_longer verbose t (c ∷ u) gap (λ e. cc e);
      }

  -- where no gap led to a character, none does
  pub no_gap_longer : (verbose : Bool) (t : Text) (c : ℕ) → ((u : Text) → EndsGap true (c ∷ u))
      → GoesOn verbose t → ((first : Text) → Gap verbose t (c ∷ first) → ⊥)
      → (first : Text) → Gap verbose (t ++ more) (c ∷ first) → ⊥
  no_gap_longer verbose t c ends goes none first g =
      let w = longer_gap verbose t goes in
      let same =
      whole_gap_leads verbose (t ++ more) (w.first ∷ (w.rest ++ more)) (c ∷ first) w.longer g
      (ends first) in
      none w.rest (subst (λ d. Gap verbose t (d ∷ w.rest)) (same_head same) w.gap.0)

  -- nor to the end
  pub goes_on_longer : (verbose : Bool) (t : Text) → GoesOn verbose t → GoesOn verbose (t ++ more)
  goes_on_longer verbose t goes g =
      let w = longer_gap verbose t goes in
      cc (gap_to_end verbose (t ++ more) (w.first ∷ (w.rest ++ more)) w.longer g)

  pub begins_longer : (c : ℕ) (t : Text) → (Begins c t → ⊥) → t ≢ [] → Begins c (t ++ more) → ⊥
  begins_longer c [] none some = absurd (some refl)
  begins_longer c (d ∷ t) none some = none

  -- with what follows, neither a `?` nor a brace comes to stand past the text where none did
  pub record Settles (verbose : Bool) (t : Text) : Type 0 where
    pub question : (Begins (the "?") t → ⊥) → Begins (the "?") (t ++ more) → ⊥
    pub brace : (Begins (the "{") t → ⊥) → Begins (the "{") (t ++ more) → ⊥
    pub past_gap : ((first : Text) → Gap verbose t (the "?" ∷ first) → ⊥)
        → (first : Text) → Gap verbose (t ++ more) (the "?" ∷ first) → ⊥

  -- so it is where more than a gap is left
  pub settled : (verbose : Bool) (t : Text) → GoesOn verbose t → Settles verbose t
  settled verbose t goes =
      let some = some_left verbose t goes in
      record {
        question = λ none. begins_longer (the "?") t none some;
        brace = λ none. begins_longer (the "{") t none some;
        past_gap = no_gap_longer verbose t (the "?") question_ends goes;
      }

  pub spaced_longer : (verbose : Bool) (kind : ℕ → Bool) (cs t rest : Text)
      → Spaced verbose kind cs t rest → Spaced verbose kind cs (t ++ more) (rest ++ more)
  spaced_longer verbose kind [] t rest s = ap (λ u. u ++ more) s
  spaced_longer verbose kind (c ∷ cs) t rest s =
      (s.0 ++ more, gap_before verbose t s.0 c s.1, s.2, spaced_longer verbose kind cs s.0 rest s.3)

  -- where the whole gap leads to a character, it still does
  pub whole_before : (verbose : Bool) (t : Text) {u past : Text} {c : ℕ} → WholeGap verbose t u
      → u ≡ c ∷ past → WholeGap verbose (t ++ more) (c ∷ (past ++ more))
  whole_before verbose t {u} {past} {c} whole here =
      whole_longer verbose t (c ∷ past) (subst (λ v. WholeGap verbose t v) here whole) (λ e. cc e)

  -- and so where it leads to the end, and nothing more follows
  pub whole_to_end : (verbose : Bool) (t : Text) {u : Text} → WholeGap verbose t u → u ≡ []
      → more ≡ [] → WholeGap verbose (t ++ more) []
  whole_to_end verbose t whole end none = subst (λ m. WholeGap verbose (t ++ m) []) (sym none)
      (subst (λ v. WholeGap verbose v []) (sym (append-nil t))
      (subst (λ v. WholeGap verbose t v) end whole))

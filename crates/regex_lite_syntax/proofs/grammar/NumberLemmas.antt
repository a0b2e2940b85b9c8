-- Numbers with what may stand on their sides are read in one way.
use Rattle.regex_lite_syntax.proofs.Common.{◌≡◌, ℕ, ◌+◌, ◌*◌, ◌^◌, ◌<◌, ◌≤◌, Bool, true, false, ◌≢◌}
use Rattle.regex_lite_syntax.proofs.Common.{[], ◌∷◌, ◌++◌, length, IsTrue, sym, refl, ap, ◌∙◌}
use Rattle.regex_lite_syntax.proofs.Common.{subst, inl, inr, arith, length-append, and_parts}
use Rattle.regex_lite_syntax.proofs.Common.{both_ways, leb-true, not-true, fold-append}
use Rattle.regex_lite_syntax.proofs.Common.{is_white_space, is_digit, digit_value, number_of}
use Rattle.regex_lite_syntax.proofs.Common.{WhiteSpace, Side, WholeSide, Number, EndsNumber}
use Rattle.regex_lite_syntax.proofs.Common.{Spacing, no_more, Gap, EndsGap, WholeGap, Spaced, Text}
use Rattle.regex_lite_syntax.proofs.Common.{the}
use Rattle.std.proofs.Common.{fold}
use Rattle.regex_lite_syntax.specs.Grammar.Gaps.{further}
use Rattle.regex_lite_syntax.specs.Grammar.Counted.{EndsSide}
use Rattle.regex_lite_syntax.proofs.ListLemmas.{same_head, same_tail}
use Rattle.regex_lite_syntax.proofs.grammar.GapLemmas.{blank_once, empty_gap, ends_any, gap_once}
use Rattle.regex_lite_syntax.proofs.grammar.SpacedLemmas.{EndsGaps, printed_ends, whole_gap_leads}
use Rattle.regex_lite_syntax.proofs.grammar.SpacedLemmas.{spaced_more}

-- WhiteSpace space and sides.

white_once : (t u v : Text) → WhiteSpace t u → WhiteSpace t v → EndsSide false u
    → EndsSide false v → u ≡ v
white_once [] u v w x ue ve = w ∙ sym x
white_once (c ∷ t) u v (inl w) (inl x) ue ve = w ∙ sym x
white_once (c ∷ t) u v (inl w) (inr x) ue ve =
    absurd (both_ways (is_white_space c) (not-true _ (subst (λ y. EndsSide false y) w ue)) x.0)
white_once (c ∷ t) u v (inr w) (inl x) ue ve =
    absurd (both_ways (is_white_space c) (not-true _ (subst (λ y. EndsSide false y) x ve)) w.0)
white_once (c ∷ t) u v (inr w) (inr x) ue ve = white_once t u v w.1 x.1 ue ve

pub empty_white : (t : Text) → WhiteSpace t t
empty_white [] = refl
empty_white (c ∷ t) = inl refl

-- what no gap can go on with in verbose mode, no side can go on with
pub ends_side : (verbose : Bool) (t : Text) → EndsGap true t → EndsSide verbose t
ends_side true t ends = ends
ends_side false [] ends = tt
ends_side false (c ∷ t) ends = ends.0

whole_side_once : (verbose : Bool) (t u v : Text) → WholeSide verbose t u
    → WholeSide verbose t v → u ≡ v
whole_side_once true t u v g h = blank_once t u v g.0 h.0 g.1 h.1
whole_side_once false t u v g h = white_once t u v g.0 h.0 g.1 h.1

-- a whole side leads where any side leads that ends before what no gap goes on with
pub side_leads : (verbose : Bool) (t u v : Text) → WholeSide verbose t u → Side verbose t v
    → EndsGap true v → u ≡ v
side_leads verbose t u v whole side ends =
    whole_side_once verbose t u v whole (side, ends_side verbose v ends)

side_once : (verbose : Bool) (t u v : Text) → Side verbose t u → Side verbose t v → EndsGap true u
    → EndsGap true v → u ≡ v
side_once verbose t u v a b ue ve = side_leads verbose t u v (a, ends_side verbose u ue) b ve

-- a gap is a side, and goes on from one
pub side_of : (verbose : Bool) (t u : Text) → Gap verbose t u → Side verbose t u
side_of true t u gap = gap
side_of false t u gap = subst (λ v. WhiteSpace t v) (sym gap) (empty_white t)

blank_on : (t u v : Text) → Spacing t u → Spacing u v → Spacing t v
blank_on t u v (no_more e) d = subst (λ w. Spacing w v) (sym e) d
blank_on t u v (further past piece more) d = further past piece (blank_on past u v more d)

pub side_on : (verbose : Bool) (t u v : Text) → Side verbose t u → Gap verbose u v
    → Side verbose t v
side_on true t u v side gap = blank_on t u v side gap
side_on false t u v side gap = subst (λ w. WhiteSpace t w) (sym gap) side

-- Digits.

pub digit_bounds : (c : ℕ) → IsTrue (is_digit c) → (0x30 ≤ c) × (c ≤ 0x39)
digit_bounds c digit =
    let bounds = and_parts _ _ digit in (leb-true 0x30 c bounds.0, leb-true c 0x39 bounds.1)

pub digits_end : EndsGaps is_digit
digits_end c t digit =
    let bounds = digit_bounds c digit in
    printed_ends c t (omega (arith, bounds)) (omega (arith, bounds))

-- no digit stands past the gap
abbrev pub NoDigit : (verbose : Bool) → Text → Type 0
NoDigit verbose t = (c : ℕ) (rest : Text) → Gap verbose t (c ∷ rest) → IsTrue (is_digit c) → ⊥

-- digits from one place of which no more can be read begin with those that were read
spaced_prefix : (verbose : Bool) (ds es t u last : Text) → Spaced verbose is_digit ds t u
    → Spaced verbose is_digit es t last → NoDigit verbose last
    → (fs : Text) × (es ≡ ds ++ fs) × Spaced verbose is_digit fs u last
spaced_prefix verbose [] es t u last a b none =
    (es, refl, subst (λ v. Spaced verbose is_digit es v last) a b)
spaced_prefix verbose (d ∷ ds) [] t u last a b none =
    absurd (none d a.0 (subst (λ v. Gap verbose v (d ∷ a.0)) b a.1) a.2)
spaced_prefix verbose (d ∷ ds) (e ∷ es) t u last a b none =
    let first = gap_once verbose t _ _ b.1 a.1 (digits_end e b.0 b.2) (digits_end d a.0 a.2) in
    let more = spaced_prefix verbose ds es a.0 u last a.3
    (subst (λ v. Spaced verbose is_digit es v last) (same_tail first) b.3) none in
    (more.0, cc (same_head first, more.1), more.2)

number_grows : (digits : Text) (number : ℕ)
    → number ≤ fold (λ n d. n * 10 + digit_value d) number digits
number_grows [] number = omega arith
number_grows (d ∷ digits) number =
    let further = number_grows digits (number * 10 + digit_value d) in omega (arith, further)

-- what ends a number ends gaps and is no digit
pub ender_ends : (t : Text) → EndsNumber t → EndsGap true t
ender_ends [] (inl none) = absurd none
ender_ends [] (inr none) = absurd none
ender_ends (c ∷ t) (inl is) = printed_ends c t (omega (arith, is)) (omega (arith, is))
ender_ends (c ∷ t) (inr is) = printed_ends c t (omega (arith, is)) (omega (arith, is))

ender_no_digit : (c : ℕ) (t : Text) → EndsNumber (c ∷ t) → IsTrue (is_digit c) → ⊥
ender_no_digit c t (inl is) digit = both_ways (is_digit c) (ap is_digit is) digit
ender_no_digit c t (inr is) digit = both_ways (is_digit c) (ap is_digit is) digit

-- no number ends at the end, nor before another character
pub no_ender : (u : Text) → u ≡ [] → EndsNumber u → ⊥
no_ender u none ends = nothing_ends (subst (λ v. EndsNumber v) none ends)
  where
    nothing_ends : EndsNumber [] → ⊥
    nothing_ends (inl begins) = begins
    nothing_ends (inr begins) = begins

pub other_ender : (u past : Text) (c : ℕ) → u ≡ c ∷ past → (c ≡ the "," → ⊥) → (c ≡ the "}" → ⊥)
    → EndsNumber u → ⊥
other_ender u past c here no_comma no_brace ends = go (subst (λ v. EndsNumber v) here ends)
  where
    go : EndsNumber (c ∷ past) → ⊥
    go (inl is) = no_comma is
    go (inr is) = no_brace is

pub no_digit_before : (verbose : Bool) (t rest : Text) → Side verbose t rest → EndsNumber rest
    → NoDigit verbose t
no_digit_before verbose t rest side ends c past gap digit =
    let same =
    side_once verbose t rest (c ∷ past) side (side_of verbose t _ gap) (ender_ends rest ends)
    (digits_end c past digit) in
    ender_no_digit c past (subst (λ u. EndsNumber u) same ends) digit

-- nothing that is no digit is one past the gap
pub no_digit_past : (verbose : Bool) (t u : Text) → WholeGap verbose t u
    → ((c : ℕ) (rest : Text) → u ≡ c ∷ rest → IsTrue (is_digit c) → ⊥) → NoDigit verbose t
no_digit_past verbose t u whole none c rest gap digit =
    none c rest (whole_gap_leads verbose t u (c ∷ rest) whole gap (digits_end c rest digit)) digit

-- the first digit that a number has past a whole side
digits_past_side : (verbose : Bool) (es t u first last : Text) → WholeSide verbose t u
    → Side verbose t first
    → 0 < length es → Spaced verbose is_digit es first last → Spaced verbose is_digit es u last
digits_past_side verbose [] t u first last whole side some s = absurd (omega (arith, some))
digits_past_side verbose (e ∷ es) t u first last whole side some s =
    let here = side_leads verbose t u (e ∷ s.0) whole (side_on verbose t first _ side s.1)
    (digits_end e s.0 s.2) in
    (s.0, subst (λ v. Gap verbose v (e ∷ s.0)) (sym here) (empty_gap verbose (e ∷ s.0)), s.2, s.3)

-- Numbers.

-- digits that have been read from `t` to `u`, over this many characters, and the number that they
-- write
pub record DigitsRead (verbose : Bool) (read : ℕ) (t u : Text) (n : ℕ) : Type 0 where
  pub digits : Text
  pub written : Spaced verbose is_digit digits t u
  pub some : 0 < read → 0 < length digits
  pub value : n ≡ number_of 10 digits

pub no_digits_read : (verbose : Bool) (read : ℕ) (t : Text) → read ≡ 0
    → DigitsRead verbose read t t 0
no_digits_read verbose read t none = record {
  digits = [];
  written = refl;
  some = λ some. omega (arith, none, some);
  value = refl;
}

pub digit_read : {verbose : Bool} {read read' n m v : ℕ} {t u past : Text}
    → DigitsRead verbose read t u n
    → (c : ℕ) × Gap verbose u (c ∷ past) × IsTrue (is_digit c) × (v ≡ digit_value c)
    → m ≡ n * 10 + v → DigitsRead verbose read' t past m
digit_read {verbose} {read} {read'} {n} {m} {v} {t} {u} {past} d (c, gap, digit, is) more = record {
  digits = d.digits ++ c ∷ [];
  written = spaced_more verbose is_digit d.digits c t u past d.written gap digit;
  some = λ _. omega (arith, length-append d.digits (c ∷ []));
  value = cc (d.value, is, more, fold-append (λ n d. n * 10 + digit_value d) 0 d.digits (c ∷ []));
}

-- a number begins with the digits that have been read
pub number_begins : {verbose : Bool} {read n m : ℕ} {t first u rest : Text}
    → WholeSide verbose t first
    → DigitsRead verbose read first u n → (p : Number verbose t rest m) → EndsNumber rest
    → (more : Text) × Spaced verbose is_digit more u p.last
    × (m ≡ fold (λ n d. n * 10 + digit_value d) n more)
number_begins {verbose} {read} {n} {m} {t} {first} {u} {rest} whole d p ends =
    let all =
    digits_past_side verbose p.digits t first p.first p.last whole p.before p.some p.written in
    let split = spaced_prefix verbose d.digits p.digits first u p.last d.written all
    (no_digit_before verbose p.last rest p.after ends) in (
      split.0,
      split.2,
      cc (
        p.value,
        d.value,
        split.1,
        fold-append (λ n d. n * 10 + digit_value d) 0 d.digits split.0,
      ),
    )

pub number_too_large : {verbose : Bool} {read n m : ℕ} {t first u rest : Text}
    → WholeSide verbose t first
    → DigitsRead verbose read first u n → 2 ^ 32 ≤ n → Number verbose t rest m → EndsNumber rest → ⊥
number_too_large {verbose} {read} {n} {m} {t} {first} {u} {rest} whole d large p ends =
    let begins = number_begins whole d p ends in
    omega (arith, p.in_range, begins.2, number_grows begins.0 n, large)

pub no_number : {verbose : Bool} {m : ℕ} {t rest : Text} (first : Text) → WholeSide verbose t first
    → NoDigit verbose first → Number verbose t rest m → ⊥
no_number {verbose} {m} {t} {rest} first whole none p =
    go p.digits p.some
    (digits_past_side verbose p.digits t first p.first p.last whole p.before p.some p.written)
  where
    go : (ds : Text) → 0 < length ds → Spaced verbose is_digit ds first p.last → ⊥
    go [] some s = omega (arith, some)
    go (d ∷ ds) some s = none d s.0 s.1 s.2

pub number_read : {verbose : Bool} {read n : ℕ} {t first u rest : Text} → WholeSide verbose t first
    → DigitsRead verbose read first u n → 0 < read → WholeSide verbose u rest → n < 2 ^ 32
    → (p : Number verbose t rest n) × (p.last ≡ u)
number_read {verbose} {read} {n} {t} {first} {u} {rest} before d some after small =
    let number : Number verbose t rest n = record {
      first = first;
      last = u;
      digits = d.digits;
      before = before.0;
      written = d.written;
      after = after.0;
      some = d.some some;
      value = d.value;
      in_range = small;
    } in
    (number, refl)

-- where all digits have been read, no other number stands there
pub number_only : {verbose : Bool} {read n m : ℕ} {t first u rest rest' : Text}
    → WholeSide verbose t first
    → DigitsRead verbose read first u n → NoDigit verbose u → WholeSide verbose u rest
    → Number verbose t rest' m → EndsNumber rest' → (rest' ≡ rest) × (m ≡ n)
number_only {verbose} {read} {n} {m} {t} {first} {u} {rest} {rest'} before d none after p ends =
    let begins = number_begins before d p ends in go begins.0 begins.1 begins.2
  where
    go : (more : Text) → Spaced verbose is_digit more u p.last
        → m ≡ fold (λ n d. n * 10 + digit_value d) n more → (rest' ≡ rest) × (m ≡ n)
    go [] s value = (
      sym (side_leads verbose u rest rest' after (subst (λ v. Side verbose v rest') (sym s) p.after)
          (ender_ends rest' ends)),
      value,
    )
    go (d ∷ ds) s value = absurd (none d s.0 s.1 s.2)

-- the digits of a number stand past the whole side before them
pub own_digits : {verbose : Bool} {n : ℕ} {t u : Text} (p : Number verbose t u n)
    → (first : Text) × WholeSide verbose t first × (first ≢ [])
    × DigitsRead verbose 1 first p.last n
own_digits {verbose} {n} {t} p = go p.digits p.some p.written p.value
  where
    go : (ds : Text) → 0 < length ds → Spaced verbose is_digit ds p.first p.last
        → n ≡ number_of 10 ds
        → (first : Text) × WholeSide verbose t first × (first ≢ [])
        × DigitsRead verbose 1 first p.last n
    go [] some w value = absurd (omega (arith, some))
    go (d ∷ ds) some w value = (
      d ∷ w.0,
      (side_on verbose t p.first _ p.before w.1, ends_side verbose _ (digits_end d w.0 w.2)),
      (λ none. cc none),
      record {
        digits = d ∷ ds;
        written = (w.0, empty_gap verbose (d ∷ w.0), w.2, w.3);
        some = λ _. some;
        value = value;
      },
    )

pub number_once : (verbose : Bool) (t r s : Text) (n m : ℕ) → Number verbose t r n
    → Number verbose t s m → EndsNumber r → EndsNumber s → (s ≡ r) × (m ≡ n)
number_once verbose t r s n m p q ends_p ends_q =
    let own = own_digits p in
    number_only own.1 own.3 (no_digit_before verbose p.last r p.after ends_p)
    (p.after, ends_side verbose r (ender_ends r ends_p)) q ends_q

-- no number stands there where nothing is left past the side
pub no_number_at_end : {verbose : Bool} {n : ℕ} {t rest : Text} → WholeSide verbose t []
    → Number verbose t rest n → ⊥
no_number_at_end {verbose} {n} {t} {rest} whole p =
    no_number [] whole (no_digit_past verbose [] [] (empty_gap verbose [], ends_any verbose [] tt)
    (λ c past here digit. cc here)) p

-- nor where nothing is left past the gap
pub nothing_left : {verbose : Bool} {n : ℕ} {t rest : Text} → WholeGap verbose t []
    → Number verbose t rest n → ⊥
nothing_left {verbose} {n} {t} {rest} whole p =
    no_number_at_end (side_of verbose t [] whole.0, ends_side verbose [] tt) p

-- A gap that is as long as it can be ends at one place.
use Rattle.regex_lite_syntax.proofs.Common.{◌≡◌, ℕ, Bool, true, false, [], ◌∷◌, IsTrue, sym, refl}
use Rattle.regex_lite_syntax.proofs.Common.{ap, ◌∙◌, subst, inl, inr, both_ways, not-true}
use Rattle.regex_lite_syntax.proofs.Common.{is_white_space, Spacing, no_more, Gap, EndsGap}
use Rattle.regex_lite_syntax.proofs.Common.{WholeGap, Text, the}
use Rattle.regex_lite_syntax.proofs.grammar.ScanLemmas.{Scan, scan_of_spacing}

-- what no gap can go on with in verbose mode, no gap can go on with at all
pub ends_any : (verbose : Bool) (t : Text) → EndsGap true t → EndsGap verbose t
ends_any true t ends = ends
ends_any false t ends = tt

pub ends_nothing : (verbose : Bool) → EndsGap verbose []
ends_nothing true = tt
ends_nothing false = tt

-- a character that is neither white space nor `#` ends a gap
pub ends_before : (verbose : Bool) (c : ℕ) (rest t : Text) → t ≡ c ∷ rest → EndsGap true (c ∷ rest)
    → EndsGap verbose t
ends_before verbose c rest t e ends = ends_any verbose t (subst (λ u. EndsGap true u) (sym e) ends)

pub empty_gap : (verbose : Bool) (t : Text) → Gap verbose t t
empty_gap true t = no_more refl
empty_gap false t = refl

no_white : (c : ℕ) (t u : Text) → u ≡ c ∷ t → EndsGap true u → IsTrue (is_white_space c) → ⊥
no_white c t u e ends white =
    both_ways (is_white_space c) (not-true _ (subst (λ v. EndsGap true v) e ends).0) white

no_sign : (c : ℕ) (t u : Text) → u ≡ c ∷ t → EndsGap true u → c ≡ the "#" → ⊥
no_sign c t u e ends sign = let here = subst (λ v. EndsGap true v) e ends in here.1 sign

sign_or_white : (c : ℕ) → c ≡ the "#" → IsTrue (is_white_space c) → ⊥
sign_or_white c sign white = both_ways (is_white_space c) (ap is_white_space sign) white

scan_once : (in_comment : Bool) (t u v : Text) → Scan in_comment t u → Scan in_comment t v
    → EndsGap true u → EndsGap true v → u ≡ v
scan_once in_comment [] u v b d ue ve = b ∙ sym d
scan_once false (c ∷ t) u v (inl b) (inl d) ue ve = b ∙ sym d
scan_once false (c ∷ t) u v (inl b) (inr (inl d)) ue ve = absurd (no_white c t u b ue d.0)
scan_once false (c ∷ t) u v (inl b) (inr (inr d)) ue ve = absurd (no_sign c t u b ue d.0)
scan_once false (c ∷ t) u v (inr (inl b)) (inl d) ue ve = absurd (no_white c t v d ve b.0)
scan_once false (c ∷ t) u v (inr (inl b)) (inr (inl d)) ue ve = scan_once false t u v b.1 d.1 ue ve
scan_once false (c ∷ t) u v (inr (inl b)) (inr (inr d)) ue ve = absurd (sign_or_white c d.0 b.0)
scan_once false (c ∷ t) u v (inr (inr b)) (inl d) ue ve = absurd (no_sign c t v d ve b.0)
scan_once false (c ∷ t) u v (inr (inr b)) (inr (inl d)) ue ve = absurd (sign_or_white c b.0 d.0)
scan_once false (c ∷ t) u v (inr (inr b)) (inr (inr d)) ue ve = scan_once true t u v b.1 d.1 ue ve
scan_once true (c ∷ t) u v (inl b) (inl d) ue ve = scan_once false t u v b.1 d.1 ue ve
scan_once true (c ∷ t) u v (inl b) (inr d) ue ve = absurd (d.0 b.0)
scan_once true (c ∷ t) u v (inr b) (inl d) ue ve = absurd (b.0 d.0)
scan_once true (c ∷ t) u v (inr b) (inr d) ue ve = scan_once true t u v b.1 d.1 ue ve

pub blank_once : (t u v : Text) → Spacing t u → Spacing t v → EndsGap true u
    → EndsGap true v → u ≡ v
blank_once t u v b d ue ve =
    scan_once false t u v (scan_of_spacing t u b) (scan_of_spacing t v d) ue ve

pub whole_gap_once : (verbose : Bool) (t u v : Text) → WholeGap verbose t u
    → WholeGap verbose t v → u ≡ v
whole_gap_once true t u v g h = blank_once t u v g.0 h.0 g.1 h.1
whole_gap_once false t u v g h = g.0 ∙ sym h.0

-- two gaps that end before what no gap goes on with end at one place
pub gap_once : (verbose : Bool) (t u v : Text) → Gap verbose t u → Gap verbose t v → EndsGap true u
    → EndsGap true v → u ≡ v
gap_once verbose t u v g h ue ve =
    whole_gap_once verbose t u v (g, ends_any verbose u ue) (h, ends_any verbose v ve)

-- where no gap can go on, the gap is empty
scan_at_end : (t u : Text) → EndsGap true t → Scan false t u → u ≡ t
scan_at_end [] u ends s = s
scan_at_end (c ∷ t) u ends (inl s) = s
scan_at_end (c ∷ t) u ends (inr (inl s)) = absurd (no_white c t (c ∷ t) refl ends s.0)
scan_at_end (c ∷ t) u ends (inr (inr s)) = absurd (no_sign c t (c ∷ t) refl ends s.0)

pub gap_at_end : (verbose : Bool) (t u : Text) → EndsGap verbose t → Gap verbose t u → u ≡ t
gap_at_end true t u ends g = scan_at_end t u ends (scan_of_spacing t u g)
gap_at_end false t u ends g = g

-- where a gap leads to the end, the whole gap does
pub gap_to_end : (verbose : Bool) (t u : Text) → WholeGap verbose t u → Gap verbose t [] → u ≡ []
gap_to_end verbose t u whole g = whole_gap_once verbose t u [] whole (g, ends_nothing verbose)

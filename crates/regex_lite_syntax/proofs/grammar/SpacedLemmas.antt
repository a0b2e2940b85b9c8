-- Characters of one kind, each with a gap before it, are read in one way.
use Rattle.regex_lite_syntax.proofs.Common.{◌≡◌, ℕ, ◌≤◌, Bool, true, false, ◌&&◌, ◌||◌, [], ◌∷◌}
use Rattle.regex_lite_syntax.proofs.Common.{◌++◌, length, IsTrue, nat_le, sym, refl, ◌∙◌, subst}
use Rattle.regex_lite_syntax.proofs.Common.{inl, inr, arith, and_from, and_parts, both_ways}
use Rattle.regex_lite_syntax.proofs.Common.{eqb-true, le-leb, leb-true, not_from_false, or_cases}
use Rattle.regex_lite_syntax.proofs.Common.{is_white_space, is_letter, is_hex_digit}
use Rattle.regex_lite_syntax.proofs.Common.{is_boundary_character, Gap, EndsGap, WholeGap, Spaced}
use Rattle.regex_lite_syntax.proofs.Common.{Lacks, Text, Begins, the}
use Rattle.std.proofs.lemmas.Bool.{agree_below_at}
use Rattle.regex_lite_syntax.specs.Characters.{is_between}
use Rattle.regex_lite_syntax.proofs.ListLemmas.{same_head, same_tail}
use Rattle.regex_lite_syntax.proofs.grammar.GapLemmas.{ends_any, gap_once, whole_gap_once}

-- no character of the kind begins a gap
abbrev pub EndsGaps : (kind : ℕ → Bool) → Type 0
EndsGaps kind = (c : ℕ) (t : Text) → IsTrue (kind c) → EndsGap true (c ∷ t)

-- the ASCII characters past `#` that are printed are no white space
pub printed_ends : (c : ℕ) (t : Text) → 36 ≤ c → c ≤ 126 → EndsGap true (c ∷ t)
printed_ends c t low high =
    let whiteness =
    agree_below_at (λ d. nat_le 36 d && is_white_space d) (λ _. false) 127 c refl (omega arith) in
    (not_from_false _ (no_white (is_white_space c) whiteness), λ sign. omega (arith, sign))
  where
    no_white : (white : Bool) → (nat_le 36 c && white) ≡ false → white ≡ false
    no_white true e = absurd (both_ways _ e (and_from _ true (le-leb 36 c low) refl))
    no_white false e = refl

between_ends : (first last c : ℕ) (t : Text) → 36 ≤ first → last ≤ 126
    → IsTrue (is_between first last c) → EndsGap true (c ∷ t)
between_ends first last c t low high inside =
    let bounds = and_parts _ _ inside in
    let above = leb-true first c bounds.0 in
    let below = leb-true c last bounds.1 in
    printed_ends c t (omega (arith, above)) (omega (arith, below))

either : {P : Type 0} (x y : Bool) → (IsTrue x → P) → (IsTrue y → P) → IsTrue (x || y) → P
either x y of_x of_y h = elim (or_cases x y h) [ inl e ↦ of_x e | inr e ↦ of_y e ]

letters_end : EndsGaps is_letter
letters_end c t =
    either _ _ (between_ends 0x61 0x7A c t (omega arith) (omega arith))
    (between_ends 0x41 0x5A c t (omega arith) (omega arith))

pub boundary_characters_end : EndsGaps is_boundary_character
boundary_characters_end c t =
    either _ _ (letters_end c t) (λ is_dash. let e = eqb-true c (the "-") is_dash in
    printed_ends c t (omega (arith, e)) (omega (arith, e)))

pub hex_digits_end : EndsGaps is_hex_digit
hex_digits_end c t =
    either _ _ (either _ _ (between_ends 0x30 0x39 c t (omega arith) (omega arith))
    (between_ends 0x61 0x66 c t (omega arith) (omega arith)))
    (between_ends 0x41 0x46 c t (omega arith) (omega arith))

-- a whole gap leads where any gap leads that ends before what no gap goes on with
pub whole_gap_leads : (verbose : Bool) (t u v : Text) → WholeGap verbose t u → Gap verbose t v
    → EndsGap true v → u ≡ v
whole_gap_leads verbose t u v whole gap ends =
    whole_gap_once verbose t u v whole (gap, ends_any verbose v ends)

-- where the characters have ended, the brace that closes stands past the whole gap
pub brace_past : (verbose : Bool) (t u last rest : Text) → WholeGap verbose t u → t ≡ last
    → Gap verbose last (the "}" ∷ rest) → u ≡ the "}" ∷ rest
brace_past verbose t u last rest whole ended closes =
    whole_gap_leads verbose t u _ whole
    (subst (λ v. Gap verbose v (the "}" ∷ rest)) (sym ended) closes)
    (printed_ends (the "}") rest (omega arith) (omega arith))

-- a gap that ends before `}` and one that ends before a character of another kind do not stand at
-- one place
pub brace_or_other : (verbose : Bool) (kind : ℕ → Bool) (t past rest : Text) (c : ℕ) → EndsGaps kind
    → kind (the "}") ≡ false → Gap verbose t (c ∷ past) → IsTrue (kind c)
    → Gap verbose t (the "}" ∷ rest) → ⊥
brace_or_other verbose kind t past rest c ends other gap is_kind closing =
    let same = gap_once verbose t _ _ gap closing (ends c past is_kind)
    (printed_ends (the "}") rest (omega arith) (omega arith)) in
    both_ways (kind (the "}")) other (subst (λ d. IsTrue (kind d)) (same_head same) is_kind)

-- as many characters, from one place
pub spaced_once : (verbose : Bool) (kind : ℕ → Bool) (cs ds t r s : Text) → EndsGaps kind
    → Spaced verbose kind cs t r → Spaced verbose kind ds t s → length cs ≡ length ds
    → (cs ≡ ds) × (r ≡ s)
spaced_once verbose kind [] [] t r s ends a b e = (refl, sym a ∙ b)
spaced_once verbose kind [] (d ∷ ds) t r s ends a b e = absurd (omega (arith, e))
spaced_once verbose kind (c ∷ cs) [] t r s ends a b e = absurd (omega (arith, e))
spaced_once verbose kind (c ∷ cs) (d ∷ ds) t r s ends a b e =
    let first = gap_once verbose t _ _ a.1 b.1 (ends c a.0 a.2) (ends d b.0 b.2) in
    let rest = spaced_once verbose kind cs ds a.0 r s ends a.3
    (subst (λ u. Spaced verbose kind ds u s) (sym (same_tail first)) b.3) (omega (arith, e)) in
    (cc (same_head first, rest.0), rest.1)

-- characters from one place up to a `}`, which is none of them
pub spaced_to_brace_once : (verbose : Bool) (kind : ℕ → Bool) (cs ds t last last' r s : Text)
    → EndsGaps kind
    → kind (the "}") ≡ false
    → Spaced verbose kind cs t last → Gap verbose last (the "}" ∷ r)
    → Spaced verbose kind ds t last' → Gap verbose last' (the "}" ∷ s) → (cs ≡ ds) × (r ≡ s)
spaced_to_brace_once verbose kind [] [] t last last' r s ends other a g b h =
    let closing = gap_once verbose t _ _ (subst (λ u. Gap verbose u (the "}" ∷ r)) (sym a) g)
    (subst (λ u. Gap verbose u (the "}" ∷ s)) (sym b) h)
    (printed_ends (the "}") r (omega arith) (omega arith))
    (printed_ends (the "}") s (omega arith) (omega arith)) in
    (refl, same_tail closing)
spaced_to_brace_once verbose kind [] (d ∷ ds) t last last' r s ends other a g b h =
    absurd (brace_or_other verbose kind t b.0 r d ends other b.1 b.2
    (subst (λ u. Gap verbose u (the "}" ∷ r)) (sym a) g))
spaced_to_brace_once verbose kind (c ∷ cs) [] t last last' r s ends other a g b h =
    absurd (brace_or_other verbose kind t a.0 s c ends other a.1 a.2
    (subst (λ u. Gap verbose u (the "}" ∷ s)) (sym b) h))
spaced_to_brace_once verbose kind (c ∷ cs) (d ∷ ds) t last last' r s ends other a g b h =
    let first = gap_once verbose t _ _ a.1 b.1 (ends c a.0 a.2) (ends d b.0 b.2) in
    let rest = spaced_to_brace_once verbose kind cs ds a.0 last last' r s ends other a.3 g
    (subst (λ u. Spaced verbose kind ds u last') (sym (same_tail first)) b.3) h in
    (cc (same_head first, rest.0), rest.1)

-- past the whole gap stands the first of the characters
pub next_spaced : (verbose : Bool) (kind : ℕ → Bool) (c d : ℕ) (ds t u past last : Text)
    → EndsGaps kind → WholeGap verbose t u → u ≡ c ∷ past → Spaced verbose kind (d ∷ ds) t last
    → (d ≡ c) × Spaced verbose kind ds past last
next_spaced verbose kind c d ds t u past last ends whole here s =
    let same = sym (whole_gap_leads verbose t u _ whole s.1 (ends d s.0 s.2)) ∙ here in
    (same_head same, subst (λ v. Spaced verbose kind ds v last) (same_tail same) s.3)

pub spaced_begins : (verbose : Bool) (kind : ℕ → Bool) (c : ℕ) (cs t u last : Text) → EndsGaps kind
    → WholeGap verbose t u → Spaced verbose kind (c ∷ cs) t last → Begins c u
spaced_begins verbose kind c cs t u last ends whole s =
    let same = whole_gap_leads verbose t u _ whole s.1 (ends c s.0 s.2) in
    subst (λ v. Begins c v) (sym same) refl

pub spaced_before : (verbose : Bool) (kind : ℕ → Bool) (c : ℕ) (cs t u past last : Text)
    → WholeGap verbose t u → u ≡ c ∷ past → IsTrue (kind c) → Spaced verbose kind cs past last
    → Spaced verbose kind (c ∷ cs) t last
spaced_before verbose kind c cs t u past last whole here is_kind s =
    (past, subst (λ v. Gap verbose t v) here whole.0, is_kind, s)

-- one character more
pub spaced_more : (verbose : Bool) (kind : ℕ → Bool) (cs : Text) (c : ℕ) (t u past : Text)
    → Spaced verbose kind cs t u
    → Gap verbose u (c ∷ past) → IsTrue (kind c) → Spaced verbose kind (cs ++ c ∷ []) t past
spaced_more verbose kind [] c t u past s gap is =
    (past, subst (λ v. Gap verbose v (c ∷ past)) (sym s) gap, is, refl)
spaced_more verbose kind (d ∷ cs) c t u past s gap is =
    (s.0, s.1, s.2, spaced_more verbose kind cs c s.0 u past s.3 gap is)

pub not_spaced : (verbose : Bool) (kind : ℕ → Bool) (d : ℕ) (ds t u last : Text) → EndsGaps kind
    → WholeGap verbose t u → Lacks kind u → Spaced verbose kind (d ∷ ds) t last → ⊥
not_spaced verbose kind d ds t u last ends whole lacks s =
    let same = whole_gap_leads verbose t u _ whole s.1 (ends d s.0 s.2) in
    both_ways (kind d) (subst (λ v. Lacks kind v) same lacks) s.2

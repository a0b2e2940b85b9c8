-- Offsets: they grow with the positions, and lie on character boundaries.
use Rattle.regex_lite_engine.proofs.Common.{◌≡◌, ℕ, zero, suc, ◌+◌, ◌<◌, ◌≤◌, List, [], ◌∷◌, ◌++◌}
use Rattle.regex_lite_engine.proofs.Common.{length, take, drop, slice_get, Some, IsUtf8, sum_by}
use Rattle.regex_lite_engine.proofs.Common.{chars, IsCharBoundary, sym, refl, ap, ◌∙◌, subst, arith}
use Rattle.regex_lite_engine.proofs.Common.{length-append, sum_by-cons, encodes-chars, len_utf8}
use Rattle.regex_lite_engine.proofs.Common.{offset, IsOffset, inl, inr, cases_lt}
use lib.Utf8.{encode, encodes}
use Rattle.std.proofs.Math.Seq.{drop-append_seam}
use Rattle.std.proofs.lemmas.List.{drop-drop, take-take}
use Rattle.std.proofs.lemmas.List.Sums.{sum_by-take-le}
use Rattle.std.proofs.lemmas.Str.{IsUtf8-past_char, length-encode}
use Rattle.std.proofs.lemmas.Str.{len_utf8_bounds, IsCharBoundary-from_drop}
use Rattle.regex_lite_syntax.proofs.OptionLemmas.{not_there, same_some}

pub length_encodes : (cs : List ℕ) → length (encodes cs) ≡ sum_by len_utf8 cs
length_encodes [] = refl
length_encodes (c ∷ cs) = let more = length_encodes cs in
    omega
    (arith, more, length-append (encode c) (encodes cs), length-encode c, sum_by-cons len_utf8 c cs)

pub offset_next : (cs : List ℕ) (p c : ℕ) → slice_get cs p ≡ Some c
    → offset cs (suc p) ≡ offset cs p + len_utf8 c
offset_next [] p c e = absurd (not_there e)
offset_next (x ∷ cs) zero c e =
    let same : len_utf8 x ≡ len_utf8 c = ap len_utf8 (same_some e) in
    omega (arith, same, sum_by-cons len_utf8 x [])
offset_next (x ∷ cs) (suc p) c e =
    let more = offset_next cs p c e in
    omega
    (arith, more, sum_by-cons len_utf8 x (take (suc p) cs), sum_by-cons len_utf8 x (take p cs))

-- each character takes a byte at least
pub offset_less : (cs : List ℕ) (p q : ℕ) → p < q → q ≤ length cs → offset cs p < offset cs q
offset_less [] p q lt le = absurd (omega (arith, lt, le))
offset_less (x ∷ cs) p zero lt le = absurd (omega (arith, lt))
offset_less (x ∷ cs) zero (suc q) lt le =
    let one = len_utf8_bounds x in let low = one.0 in
    omega (arith, low, sum_by-cons len_utf8 x (take q cs))
offset_less (x ∷ cs) (suc p) (suc q) lt le =
    let more = offset_less cs p q (omega (arith, lt)) (omega (arith, le)) in
    omega (arith, more, sum_by-cons len_utf8 x (take p cs), sum_by-cons len_utf8 x (take q cs))

-- offsets do not fall
pub offset_grows : (cs : List ℕ) (p q : ℕ) → p ≤ q → offset cs p ≤ offset cs q
offset_grows cs p q le =
    subst (λ t. sum_by len_utf8 t ≤ offset cs q) (take-take p q cs le)
    (sum_by-take-le len_utf8 (take q cs) p)

-- positions are in the order of their offsets
pub positions_order : (cs : List ℕ) (p q : ℕ) → p ≤ length cs → offset cs p ≤ offset cs q → p ≤ q
positions_order cs p q inside le = elim (cases_lt q p) [
  | inl less ↦ let shorter = offset_less cs q p less inside in absurd (omega (arith, shorter, le))
  | inr later ↦ later
]

pub offset_most : (cs : List ℕ) (p : ℕ) → offset cs p ≤ length (encodes cs)
offset_most [] zero = omega arith
offset_most [] (suc p) = omega arith
offset_most (x ∷ cs) zero = omega arith
offset_most (x ∷ cs) (suc p) =
    let more = offset_most cs p in omega (
      arith,
      more,
      sum_by-cons len_utf8 x (take p cs),
      length-append (encode x) (encodes cs),
      length-encode x,
    )

-- what follows the offset are the bytes of the characters that follow the position
pub rest_at : (cs : List ℕ) (p : ℕ) → drop (offset cs p) (encodes cs) ≡ encodes (drop p cs)
rest_at [] zero = refl
rest_at [] (suc p) = refl
rest_at (x ∷ cs) zero = refl
rest_at (x ∷ cs) (suc p) =
    let size : length (encode x) ≡ len_utf8 x = length-encode x in
    ap (λ k. drop k (encode x ++ encodes cs))
    (sum_by-cons len_utf8 x (take p cs) ∙ ap (λ n. n + offset cs p) (sym size))
    ∙ sym (drop-drop (offset cs p) (length (encode x)) (encode x ++ encodes cs))
    ∙ ap (drop (offset cs p)) (drop-append_seam (encode x) (encodes cs))
    ∙ rest_at cs p

pub utf8_rest : (cs : List ℕ) (p : ℕ) → IsUtf8 (encodes cs) → IsUtf8 (encodes (drop p cs))
utf8_rest [] zero u = u
utf8_rest [] (suc p) u = u
utf8_rest (x ∷ cs) zero u = u
utf8_rest (x ∷ cs) (suc p) u =
    utf8_rest cs p (IsUtf8-past_char (encode x ++ encodes cs) (encodes cs) x u refl)

pub boundary_at : (bs : List ℕ) (p at : ℕ) → IsUtf8 bs → IsOffset (chars bs) p at
    → IsCharBoundary bs at
boundary_at bs p at u (le, e) =
    let same : encodes (chars bs) ≡ bs = encodes-chars bs u in
    subst (λ z. IsCharBoundary bs z) (sym e)
    (subst (λ z. IsCharBoundary z (offset (chars bs) p)) same
    (IsCharBoundary-from_drop (encodes (chars bs)) (offset (chars bs) p) (offset_most (chars bs) p)
    (subst IsUtf8 (sym (rest_at (chars bs) p))
    (utf8_rest (chars bs) p (subst IsUtf8 (sym same) u)))))

-- Where a search stands in the haystack, and the characters beside it.
use Rattle.regex_lite_engine.proofs.Common.{◌≡◌, ℕ, zero, suc, ◌+◌, ◌-◌, ◌<◌, ◌≤◌, ◌⊎◌, List, []}
use Rattle.regex_lite_engine.proofs.Common.{◌∷◌, ◌++◌, length, take, drop, slice_get, Some, None}
use Rattle.regex_lite_engine.proofs.Common.{IsUtf8, chars, IsCharBoundary, sym, refl, ap, ◌∙◌}
use Rattle.regex_lite_engine.proofs.Common.{subst, inl, inr, append-nil, arith, length-append}
use Rattle.regex_lite_engine.proofs.Common.{cases_lt, length-take-le, slice_get_within}
use Rattle.regex_lite_engine.proofs.Common.{encodes-chars, len_utf8, Text, offset, IsOffset}
use Rattle.regex_lite_engine.proofs.Common.{position_at, IsHere, Here}
use Rattle.std.proofs.lemmas.Str.{IsUtf8-take, chars-append, IsCharBoundary-at_seam, IsUtf8-encode}
use Rattle.std.proofs.lemmas.Str.{chars-nil, chars_past_char}
use Rattle.std.specs.Char.{IsScalar}
use lib.Utf8.{encode}
use Rattle.std.proofs.Math.Seq.{take-append_seam}
use Rattle.regex_lite_syntax.specs.Text.{before}
use Rattle.regex_lite_engine.proofs.OffsetLemmas.{offset_less, offset_most, offset_next}
use Rattle.regex_lite_syntax.proofs.OptionLemmas.{not_there}
use Rattle.regex_lite_engine.proofs.PositionLemmas.{after_at, chars_cut, position_is, same_position}

pub none_before : (bs : List ℕ) (p at : ℕ) → at ≤ length bs → IsOffset (chars bs) p at
    → length (take at bs) ≡ 0 → None ≡ before (chars bs) p
none_before bs zero at le is empty = refl
none_before bs (suc p) at le (within, e) empty =
    let less = offset_less (chars bs) 0 (suc p) (omega arith) within in
    absurd (omega (arith, less, e, empty, length-take-le at bs le))

last_of : (xs ys : List ℕ) (c : ℕ) → slice_get ((xs ++ c ∷ []) ++ ys) (length xs) ≡ Some c
last_of [] ys c = refl
last_of (x ∷ xs) ys c = last_of xs ys c

pub some_before : (bs rest : List ℕ) (p at c : ℕ) → IsUtf8 bs → IsCharBoundary bs at → IsScalar c
    → IsOffset (chars bs) p at → take at bs ≡ rest ++ encode c → Some c ≡ before (chars bs) p
some_before bs rest p at c u b scalar is e =
    sym (ap (before (chars bs)) p_is ∙ ap (λ z. slice_get z (length (chars rest)))
    (chars_cut bs at u b ∙ ap (λ z. z ++ chars (drop at bs)) xs)
    ∙ last_of (chars rest) (chars (drop at bs)) c)
  where
    uc : IsUtf8 (encode c)
    uc = IsUtf8-encode c scalar

    ut : IsUtf8 (take at bs)
    ut = IsUtf8-take bs at u b

    ur : IsUtf8 rest
    ur =
        subst IsUtf8 (ap (take (length rest)) e ∙ take-append_seam rest (encode c))
        (IsUtf8-take (take at bs) (length rest) ut
        (IsCharBoundary-at_seam (take at bs) rest (encode c) e uc))

    one : chars (encode c) ≡ c ∷ []
    one =
        chars_past_char (encode c) [] c uc (sym (append-nil (encode c))) ∙ ap (λ z. c ∷ z) chars-nil

    xs : chars (take at bs) ≡ chars rest ++ c ∷ []
    xs = ap chars e ∙ chars-append rest (encode c) ur ∙ ap (λ z. chars rest ++ z) one

    p_is : p ≡ suc (length (chars rest))
    p_is = let pos = position_is bs at u b in
        let same : p ≡ position_at bs at =
        same_position (chars bs) p (position_at bs at) is.0 pos.0 (sym is.1 ∙ pos.1) in
        omega (arith, same, ap length xs, length-append (chars rest) (c ∷ []))

pub moved : (bs : List ℕ) (p c : ℕ) (x : Here) → IsHere (chars bs) p x → x.after ≡ Some c
    → IsOffset (chars bs) (suc p) (x.at + len_utf8 c)
moved bs p c x is e =
    let at : slice_get (chars bs) p ≡ Some c = sym is.ahead ∙ e in
    let within = slice_get_within (chars bs) p c at in let next = offset_next (chars bs) p c at in
    (omega (arith, within), omega (arith, next, is.bytes))

pub here_next : (bs : List ℕ) (p c : ℕ) (x y : Here) → IsUtf8 bs → x.after ≡ Some c
    → y.before ≡ Some c → y.at ≡ x.at + len_utf8 c → y.after ≡ slice_get (chars (drop y.at bs)) 0 →
    IsHere (chars bs) p x → IsHere (chars bs) (p + 1) y
here_next bs p c x y u e eb ey ea is =
    let next : IsOffset (chars bs) (suc p) y.at =
    subst (IsOffset (chars bs) (suc p)) (sym ey) (moved bs p c x is e) in
    subst (λ z. IsHere (chars bs) z y) (omega arith)
    (record {
      inside = next.0;
      bytes = next.1;
      behind = eb ∙ sym (sym is.ahead ∙ e);
      ahead = ea ∙ after_at bs (suc p) y.at u next;
    })

pub here_begins : (bs : List ℕ) (at : ℕ) (x : Here) → IsUtf8 bs → IsCharBoundary bs at → x.at ≡ at
    → ((p : ℕ) → IsOffset (chars bs) p at → x.before ≡ before (chars bs) p) →
    x.after ≡ slice_get (chars (drop at bs)) 0 → IsHere (chars bs) (position_at bs at) x
here_begins bs at x u edge e eb ea = let is = position_is bs at u edge in
    record {
      inside = is.0;
      bytes = e ∙ is.1;
      behind = eb (position_at bs at) is;
      ahead = ea ∙ after_at bs (position_at bs at) at u is;
    }

-- there is less to come
pub less_left : (bs : List ℕ) (p q : ℕ) (x y : Here) → IsUtf8 bs → IsHere (chars bs) p x
    → IsHere (chars bs) (q + 1) y → p ≤ q → length bs - y.at < length bs - x.at
less_left bs p q x y u is js later =
    let a = is.bytes in let b = js.bytes in let within = js.inside in
    let less = offset_less (chars bs) p (q + 1) (omega (arith, later)) within in
    let most : offset (chars bs) (q + 1) ≤ length bs =
    subst (λ z. offset (chars bs) (q + 1) ≤ length z) (encodes-chars bs u)
    (offset_most (chars bs) (q + 1)) in
    omega (arith, a, b, less, most)

pub at_most : (bs : List ℕ) (p : ℕ) (x : Here) → IsUtf8 bs → IsHere (chars bs) p x
    → x.at ≤ length bs
at_most bs p x u is = let a = is.bytes in
    let most : offset (chars bs) p ≤ length bs =
    subst (λ z. offset (chars bs) p ≤ length z) (encodes-chars bs u) (offset_most (chars bs) p) in
    omega (arith, a, most)

-- at the end of the text
pub over_at : {Q : Type 0} (h : Text) (p : ℕ) (x : Here) → IsHere h p x → (x.after ≡ None) ⊎ Q
    → (p ≡ length h) ⊎ Q
over_at h p x is (inr q) = inr q
over_at h p x is (inl e) = inl (go (cases_lt p (length h)))
  where
    there : (cs : List ℕ) (q : ℕ) → q < length cs → slice_get cs q ≡ None → ⊥
    there [] q lt e = omega (arith, lt)
    there (c ∷ cs) zero lt e = not_there (sym e)
    there (c ∷ cs) (suc q) lt e = there cs q (omega (arith, lt)) e

    go : (p < length h) ⊎ (length h ≤ p) → p ≡ length h
    go (inl lt) = absurd (there h p lt (sym is.ahead ∙ e))
    go (inr le) = let within = is.inside in omega (arith, le, within)

-- What the bytes at a character say of matches that begin there, or at the next one.
use Rattle.regex_lite_engine.proofs.Common.{◌≡◌, ℕ, zero, suc, ◌+◌, ◌<◌, ◌≤◌, Bool, true, false}
use Rattle.regex_lite_engine.proofs.Common.{◌&&◌, ◌⊎◌, List, [], ◌∷◌, ◌++◌, length, take, drop}
use Rattle.regex_lite_engine.proofs.Common.{if◌then◌else◌, IsTrue, nat_lt, slice_get, slice_index}
use Rattle.regex_lite_engine.proofs.Common.{slice_index_or, Some, None, IsUtf8, sum_by, Option}
use Rattle.regex_lite_engine.proofs.Common.{chars, IsCharBoundary, sym, refl, ap, ◌∙◌, subst, inl}
use Rattle.regex_lite_engine.proofs.Common.{inr, arith, length-drop, cases_lt, nat_tests, take_all}
use Rattle.regex_lite_engine.proofs.Common.{slice_get_within, encodes-chars, len_utf8, Text, after}
use Rattle.regex_lite_engine.proofs.Common.{stops_at, MayBegin, offset, IsHere, FirstSet, Here}
use Rattle.std.proofs.Common.{◌||◌, is_none}
use Rattle.regex_lite_syntax.specs.Prefilter.FirstSet.{begins_with, may_begin}
use lib.Utf8.{encode, encodes}
use Rattle.std.proofs.lemmas.Str.{char_from_byte, byte_from_char}
use Rattle.regex_lite_syntax.proofs.LookupLemmas.{there_is}
use Rattle.regex_lite_syntax.proofs.OptionLemmas.{not_there, same_some}
use Rattle.regex_lite_engine.proofs.OffsetLemmas.{length_encodes, offset_next, offset_less}
use Rattle.regex_lite_engine.proofs.OffsetLemmas.{offset_most, rest_at, boundary_at}

first_of : (i : ℕ) (cs : List ℕ) (c : ℕ) → slice_get cs i ≡ Some c
    → drop i cs ≡ c ∷ drop (suc i) cs
first_of i [] c e = absurd (not_there e)
first_of zero (x ∷ cs) c e = ap (λ z. z ∷ cs) (same_some e)
first_of (suc i) (x ∷ cs) c e = first_of i cs c e

get_drop : (k : ℕ) (bs : List ℕ) → slice_index (drop k bs) 0 ≡ slice_index bs k
get_drop zero bs = refl
get_drop (suc k) [] = refl
get_drop (suc k) (b ∷ bs) = get_drop k bs

-- the bytes from a character on
rest_of : (bs : List ℕ) (i c : ℕ) → IsUtf8 bs → slice_get (chars bs) i ≡ Some c
    → drop (offset (chars bs) i) bs ≡ encode c ++ encodes (drop (suc i) (chars bs))
rest_of bs i c u e =
    ap (drop (offset (chars bs) i)) (sym (encodes-chars bs u)) ∙ rest_at (chars bs) i
    ∙ ap encodes (first_of i (chars bs) c e)

-- a match can begin with a character if the scan stops at its first byte
pub first_byte : (s : FirstSet) (bs : List ℕ) (i c : ℕ) → IsUtf8 bs → slice_get (chars bs) i ≡ Some
    c → i < length (chars bs) → offset (chars bs) i < length bs
    → begins_with s c ≡ stops_at s (slice_index bs (offset (chars bs) i))
first_byte s bs i c u e within short = by_byte (cases_lt byte 128)
  where
    at : ℕ
    at = offset (chars bs) i

    byte : ℕ
    byte = slice_index bs at

    rest : drop at bs ≡ encode c ++ encodes (drop (suc i) (chars bs))
    rest = rest_of bs i c u e

    head : slice_index (drop at bs) 0 ≡ byte
    head = get_drop at bs

    some : 0 < length (drop at bs)
    some = omega (arith, short, length-drop at bs)

    edge : IsCharBoundary bs at
    edge = boundary_at bs i at u (omega (arith, within), refl)

    begins : Bool → Bool
    begins b = s.any && (if b then slice_index_or s.ascii c true else s.others)

    stops : Bool → Bool
    stops b = s.any && (if b then slice_index_or s.ascii byte true
        else (if nat_lt byte 192 then false else s.others))

    by_byte : (byte < 128) ⊎ (128 ≤ byte) → begins_with s c ≡ stops_at s byte
    by_byte (inl lt) =
        let same : c ≡ byte =
        char_from_byte (drop at bs) (encodes (drop (suc i) (chars bs))) c rest
        (omega (arith, lt, head)) some
        ∙ head in
        let low : nat_lt byte 128 ≡ true = grind (arith, nat_tests) in
        let low_c : nat_lt c 128 ≡ true = ap (λ z. nat_lt z 128) same ∙ low in
        ap begins low_c ∙ ap (λ z. s.any && slice_index_or s.ascii z true) same
        ∙ sym (ap stops low)
    by_byte (inr high) =
        let lead : 192 ≤ byte = edge.1 short high in
        let high_c : 128 ≤ c = by_char (cases_lt c 128) in
        let off : nat_lt byte 128 ≡ false = grind (arith, nat_tests) in
        let lead_off : nat_lt byte 192 ≡ false = grind (arith, nat_tests) in
        let off_c : nat_lt c 128 ≡ false = grind (arith, nat_tests) in
        ap begins off_c
        ∙ sym (ap stops off ∙ ap (λ z. s.any && (if z then false else s.others)) lead_off)
      where
        by_char : (c < 128) ⊎ (128 ≤ c) → 128 ≤ c
        by_char (inr le) = le
        by_char (inl lt) =
            let same = byte_from_char (drop at bs) (encodes (drop (suc i) (chars bs))) c rest lt in
            absurd (omega (arith, same, head, high, lt))

-- an ASCII byte at the place of a character is that character
pub ascii_there : (bs : List ℕ) (i : ℕ) → IsUtf8 bs → i < length (chars bs)
    → offset (chars bs) i < length bs → slice_index bs (offset (chars bs) i) < 128
    → slice_get (chars bs) i ≡ Some (slice_index bs (offset (chars bs) i))
ascii_there bs i u within short ascii =
    let at = offset (chars bs) i in
    let own = there_is (chars bs) i within in
    let head = get_drop at bs in
    let some : 0 < length (drop at bs) = omega (arith, short, length-drop at bs) in
    let same = char_from_byte (drop at bs) (encodes (drop (suc i) (chars bs))) own.0
    (rest_of bs i own.0 u own.1) (omega (arith, ascii, head)) some in
    own.1 ∙ ap Some (same ∙ head)

-- where the scan stops, or at the end, one can begin
pub stopped : (s : FirstSet) (bs : List ℕ) (q : ℕ) (y : Here) → IsUtf8 bs → IsHere (chars bs) q y
    → (y.at < length bs → stops_at s (slice_index bs y.at) ≡ true)
    → may_begin s y.before y.after ≡ true
stopped s bs q y u is stops = by_next y.after refl
  where
    ahead : (c : ℕ) → y.after ≡ Some c → begins_with s c ≡ true
    ahead c e =
        let at_q : slice_get (chars bs) q ≡ Some c = sym is.ahead ∙ e in
        let within = slice_get_within (chars bs) q c at_q in
        let less = offset_less (chars bs) q (suc q) (omega arith) (omega (arith, within)) in
        let most : offset (chars bs) (suc q) ≤ length bs =
        subst (λ z. offset (chars bs) (suc q) ≤ length z) (encodes-chars bs u)
        (offset_most (chars bs) (suc q)) in
        let at = is.bytes in
        first_byte s bs q c u at_q within (omega (arith, less, most))
        ∙ ap (λ z. stops_at s (slice_index bs z)) (sym at) ∙ stops (omega (arith, at, less, most))

    by_next : (o : Option ℕ) → y.after ≡ o → may_begin s y.before o ≡ true
    by_next None e = refl
    by_next (Some c) e = ap (λ z. z || (s.at_start && is_none y.before)) (ahead c e)

-- none begins where that is known
pub never_at : (s : FirstSet) (h : Text) (p : ℕ) (x : Here) → IsHere h p x
    → may_begin s x.before x.after ≡ false → MayBegin s h p → ⊥
never_at s h p x is off may =
    let by_last = subst (λ o. IsTrue (may_begin s o (after h p))) (sym is.behind) may in
    let by_next = subst (λ o. IsTrue (may_begin s x.before o)) (sym is.ahead) by_last in
    let never = subst IsTrue off by_next in cc

-- after the haystack's start a match begins with a character of the set
pub begins_later : (s : FirstSet) (h : Text) (i : ℕ) → (d : ℕ) × (slice_get h i ≡ Some d)
    → (c : ℕ) × (slice_get h (suc i) ≡ Some c) × (begins_with s c ≡ false)
    → MayBegin s h (suc i) → ⊥
begins_later s h i (d, behind) (c, ahead, off) may =
    let by_next = subst (λ o. IsTrue (may_begin s (slice_get h i) o)) ahead may in
    let by_last = subst (λ o. IsTrue (may_begin s o (Some c))) behind by_next in
    let by_char = subst (λ z. IsTrue (z || (s.at_start && false))) off by_last in
    neither s.at_start by_char
  where
    neither : (a : Bool) → IsTrue (false || (a && false)) → ⊥
    neither true t = cc
    neither false t = cc

-- at the haystack's start too, where none begins whatever comes next
pub begins_first : (s : FirstSet) (h : Text)
    → (c : ℕ) × (slice_get h 0 ≡ Some c) × (begins_with s c ≡ false) → s.at_start ≡ false
    → MayBegin s h 0 → ⊥
begins_first s h (c, ahead, off) none may =
    let by_next = subst (λ o. IsTrue (may_begin s None o)) ahead may in
    let by_char = subst (λ z. IsTrue (z || (s.at_start && true))) off by_next in
    let never = subst (λ z. IsTrue (false || (z && true))) none by_char in cc

pub whole : (bs : List ℕ) → IsUtf8 bs → offset (chars bs) (length (chars bs)) ≡ length bs
whole bs u =
    let all : take (length (chars bs)) (chars bs) ≡ chars bs =
    take_all (length (chars bs)) (chars bs) (omega arith) in
    ap (sum_by len_utf8) all ∙ sym (length_encodes (chars bs)) ∙ ap length (encodes-chars bs u)

-- after an ASCII character the next one begins at the next byte
module _ (bs : List ℕ) (i : ℕ) (u : IsUtf8 bs) (within : i < length (chars bs))
    (short : offset (chars bs) i + 1 < length bs)
    (ascii : slice_index bs (offset (chars bs) i) < 128) where
  abbrev pub at : ℕ
  at = offset (chars bs) i

  abbrev here : (c : ℕ) × (slice_get (chars bs) i ≡ Some c)
  here = there_is (chars bs) i within

  low : here.0 < 128
  low =
      let less : at < length bs = omega (arith, short) in
      let same : here.0 ≡ slice_index bs at =
      same_some (sym here.1 ∙ ascii_there bs i u within less ascii) in
      omega (arith, same, ascii)

  pub next_at : offset (chars bs) (suc i) ≡ at + 1
  next_at =
      let test : nat_lt here.0 128 ≡ true = grind (arith, nat_tests, low) in
      let one : len_utf8 here.0 ≡ 1 = rw test refl in
      omega (arith, offset_next (chars bs) i here.0 here.1, one)

  pub inside : suc i < length (chars bs)
  inside = elim (cases_lt (suc i) (length (chars bs))) [
    | inl lt ↦ lt
    | inr le ↦
        let last : suc i ≡ length (chars bs) = omega (arith, le, within) in
        let end = ap (offset (chars bs)) last ∙ whole bs u in
        absurd (omega (arith, end, next_at, short))
  ]

  pub second_off : (second : FirstSet) → stops_at second (slice_index bs (at + 1)) ≡ false
      → MayBegin second (chars bs) (suc i) → ⊥
  second_off second off =
      let next = there_is (chars bs) (suc i) inside in
      begins_later second (chars bs) i here (
        next.0,
        next.1,
        first_byte second bs (suc i) next.0 u next.1 inside (omega (arith, next_at, short))
            ∙ ap (λ z. stops_at second (slice_index bs z)) next_at ∙ off,
      )

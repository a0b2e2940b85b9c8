-- The character at an offset.
use Rattle.regex_lite_meta.proofs.Common.{◌≡◌, ℕ, ◌<◌, List, length, take, drop, slice_get}
use Rattle.regex_lite_meta.proofs.Common.{slice_index, Some, IsUtf8, chars, IsCharBoundary, sym, ap}
use Rattle.regex_lite_meta.proofs.Common.{◌∙◌, subst, inl, inr, arith, cases_lt, take_all, len_utf8}
use Rattle.regex_lite_meta.proofs.Common.{offset, IsOffset, position_at}
use Rattle.std.proofs.Common.{sum_by}
use Rattle.std.proofs.lemmas.Str.{encodes-chars}
use Rattle.regex_lite_engine.proofs.PositionLemmas.{position_is, after_at}
use Rattle.regex_lite_engine.proofs.search.FirstByteLemmas.{ascii_there}
use Rattle.regex_lite_engine.proofs.OffsetLemmas.{length_encodes}

-- a position before the end of the bytes is before that of the characters
before_end : (bs : List ℕ) (p at : ℕ) → IsUtf8 bs → IsOffset (chars bs) p at → at < length bs
    → p < length (chars bs)
before_end bs p at u (inside, is) short = elim (cases_lt p (length (chars bs))) [
  | inl lt ↦ lt
  | inr le ↦
      let last : p ≡ length (chars bs) = omega (arith, le, inside) in
      let all : take (length (chars bs)) (chars bs) ≡ chars bs =
      take_all (length (chars bs)) (chars bs) (omega arith) in
      let whole : offset (chars bs) (length (chars bs)) ≡ length bs =
      ap (sum_by len_utf8) all ∙ sym (length_encodes (chars bs))
      ∙ ap length (encodes-chars bs u) in
      let end = is ∙ ap (offset (chars bs)) last ∙ whole in
      absurd (omega (arith, end, short))
]

-- an ASCII byte at the offset of a character is that character
pub ascii_begins : (bs : List ℕ) (at : ℕ) → IsUtf8 bs → IsCharBoundary bs at → at < length bs
    → slice_index bs at < 128 → slice_get (chars (drop at bs)) 0 ≡ Some (slice_index bs at)
ascii_begins bs at u edge short ascii =
    let p = position_at bs at in
    let is = position_is bs at u edge in
    let within = before_end bs p at u is short in
    after_at bs p at u is
    ∙ ascii_there bs p u within (subst (λ z. z < length bs) is.1 short)
    (subst (λ z. slice_index bs z < 128) is.1 ascii)
    ∙ ap (λ z. Some (slice_index bs z)) (sym is.1)

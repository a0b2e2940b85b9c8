-- The positions of offsets: of the haystack's start and end, of a position, and of the next one.
use Rattle.regex_lite_engine.proofs.Common.{◌≡◌, ℕ, zero, suc, ◌+◌, ◌<◌, ◌≤◌, ◌⊎◌, List, [], ◌∷◌}
use Rattle.regex_lite_engine.proofs.Common.{◌++◌, length, take, drop, slice_get, Some, IsUtf8}
use Rattle.regex_lite_engine.proofs.Common.{sum_by, chars, IsCharBoundary, sym, refl, ap, ◌∙◌}
use Rattle.regex_lite_engine.proofs.Common.{subst, inl, inr, arith, length-append, cases_order}
use Rattle.regex_lite_engine.proofs.Common.{length-take-le, take-append-drop, slice_get_within}
use Rattle.regex_lite_engine.proofs.Common.{encodes-chars, len_utf8, after, offset, IsOffset}
use Rattle.regex_lite_engine.proofs.Common.{position_at, search_start}
use Rattle.std.proofs.lemmas.Str.{IsUtf8-take, chars-append, IsUtf8-drop, chars-nil}
use Rattle.std.proofs.lemmas.Str.{chars_from_encodes, chars_past_char}
use lib.Utf8.{encode, encodes}
use Rattle.std.proofs.Math.Seq.{take-append_seam}
use Rattle.regex_lite_engine.proofs.OffsetLemmas.{boundary_at, length_encodes, offset_less}
use Rattle.regex_lite_engine.proofs.OffsetLemmas.{offset_next, rest_at, utf8_rest}

-- the characters that follow a place
pub chars_at : (bs : List ℕ) (p at : ℕ) → IsUtf8 bs → IsOffset (chars bs) p at
    → chars (drop at bs) ≡ drop p (chars bs)
chars_at bs p at u (le, e) =
    let same : encodes (chars bs) ≡ bs = encodes-chars bs u in
    let cut : encodes (drop p (chars bs)) ≡ drop at bs =
    sym (rest_at (chars bs) p) ∙ ap (drop (offset (chars bs) p)) same
    ∙ ap (λ z. drop z bs) (sym e) in
    sym (chars_from_encodes (drop p (chars bs)) (drop at bs)
    (subst IsUtf8 cut (utf8_rest (chars bs) p (subst IsUtf8 (sym same) u))) cut)

pub chars_cut : (bs : List ℕ) (at : ℕ) → IsUtf8 bs → IsCharBoundary bs at
    → chars bs ≡ chars (take at bs) ++ chars (drop at bs)
chars_cut bs at u b =
    ap chars (sym (take-append-drop at bs))
    ∙ chars-append (take at bs) (drop at bs) (IsUtf8-take bs at u b)

pub position_is : (bs : List ℕ) (at : ℕ) → IsUtf8 bs → IsCharBoundary bs at
    → IsOffset (chars bs) (position_at bs at) at
position_is bs at u b = (within, spans)
  where
    xs : List ℕ
    xs = chars (take at bs)

    ys : List ℕ
    ys = chars (drop at bs)

    both : chars bs ≡ xs ++ ys
    both = chars_cut bs at u b

    within : position_at bs at ≤ length (chars bs)
    within = omega (arith, ap length both, length-append xs ys)

    spans : at ≡ offset (chars bs) (position_at bs at)
    spans =
        sym (length-take-le at bs b.0)
        ∙ ap length (sym (encodes-chars (take at bs) (IsUtf8-take bs at u b))) ∙ length_encodes xs
        ∙ ap (sum_by len_utf8) (sym (take-append_seam xs ys))
        ∙ ap (λ z. sum_by len_utf8 (take (length xs) z)) (sym both)

-- an offset has one position
pub same_position : (cs : List ℕ) (p q : ℕ) → p ≤ length cs → q ≤ length cs
    → offset cs p ≡ offset cs q → p ≡ q
same_position cs p q lp lq e = go (cases_order p q)
  where
    go : (p ≡ q) ⊎ ((p < q) ⊎ (q < p)) → p ≡ q
    go (inl d) = d
    go (inr (inl lt)) = let less = offset_less cs p q lt lq in absurd (omega (arith, less, e))
    go (inr (inr lt)) = let less = offset_less cs q p lt lp in absurd (omega (arith, less, e))

get_drop : (p : ℕ) (cs : List ℕ) → slice_get (drop p cs) 0 ≡ slice_get cs p
get_drop zero cs = refl
get_drop (suc p) [] = refl
get_drop (suc p) (c ∷ cs) = get_drop p cs

pub after_at : (bs : List ℕ) (p at : ℕ) → IsUtf8 bs → IsOffset (chars bs) p at
    → slice_get (chars (drop at bs)) 0 ≡ after (chars bs) p
after_at bs p at u is = ap (λ z. slice_get z 0) (chars_at bs p at u is) ∙ get_drop p (chars bs)

pub first_position : (bytes : List ℕ) → position_at bytes 0 ≡ 0
first_position bytes = ap length chars-nil

-- a search that starts inside the haystack starts from that position
pub start_position : (bytes : List ℕ) (at : ℕ) → IsCharBoundary bytes at
    → search_start bytes at ≡ position_at bytes at
start_position bytes at edge = let inside = edge.0 in omega (arith, inside)

module _ (bytes : List ℕ) (utf8 : IsUtf8 bytes) where
  pub position_of : (p at : ℕ) → IsOffset (chars bytes) p at → position_at bytes at ≡ p
  position_of p at (inside, is) =
      let own = position_is bytes at utf8 (boundary_at bytes p at utf8 (inside, is)) in
      same_position (chars bytes) (position_at bytes at) p own.0 inside (sym own.1 ∙ is)

  -- after a character stands the next position
  pub next_position : (at c : ℕ) (rest : List ℕ) → IsCharBoundary bytes at
      → drop at bytes ≡ encode c ++ rest
      → IsCharBoundary bytes (at + len_utf8 c)
      × (position_at bytes (at + len_utf8 c) ≡ suc (position_at bytes at))
  next_position at c rest edge parts = (
    boundary_at bytes (suc p) (at + len_utf8 c) utf8 is_offset,
    position_of (suc p) (at + len_utf8 c) is_offset,
  )
    where
      p : ℕ
      p = position_at bytes at

      own : IsOffset (chars bytes) p at
      own = position_is bytes at utf8 edge

      here : slice_get (chars bytes) p ≡ Some c
      here =
          sym (after_at bytes p at utf8 own)
          ∙ ap (λ own. slice_get own 0)
          (chars_past_char (drop at bytes) rest c (IsUtf8-drop bytes at utf8 edge) parts)

      is_offset : IsOffset (chars bytes) (suc p) (at + len_utf8 c)
      is_offset =
          let within = slice_get_within (chars bytes) p c here in
          let next = offset_next (chars bytes) p c here in
          let same = own.1 in
          (omega (arith, within), omega (arith, next, same))

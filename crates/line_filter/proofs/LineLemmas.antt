-- Where lines of bytes end.
use Rattle.std.proofs.Common.{◌≡◌, ◌<◌, ◌==◌, ℕ, zero, suc, true, false, List, []}
use Rattle.std.proofs.Common.{◌∷◌, ◌++◌, length, refl, ap, ◌∙◌, arith, take, drop, if◌then◌else◌}
use Rattle.std.specs.Prelude.{slice_index}
use Rattle.std.proofs.Math.Seq.{drop-length, take-length}
use Rattle.line_filter.specs.Lines.{lines_of, with_byte}

-- there is a line feed at this index
abbrev pub IsFeed : (bytes : List ℕ) → (index : ℕ) → Type 0
IsFeed bytes index = (slice_index bytes index == 10) ≡ true

-- a line feed is a line of its own
with_feed : (byte : ℕ) (lines : List (List ℕ)) → (byte == 10) ≡ true
    → with_byte byte lines ≡ (byte ∷ []) ∷ lines
with_feed byte [] is = refl
with_feed byte (line ∷ lines) is = rw (is) refl

-- any other byte belongs to the first line
with_other : (byte : ℕ) (line : List ℕ) (lines : List (List ℕ)) → ¬ ((byte == 10) ≡ true)
    → with_byte byte (line ∷ lines) ≡ (byte ∷ line) ∷ lines
with_other byte line lines isnt =
    elim (byte == 10) as (λ is. ¬ (is ≡ true)
    → (if is then (byte ∷ []) ∷ line ∷ lines else (byte ∷ line) ∷ lines)
    ≡ (byte ∷ line) ∷ lines) [
      | true ↦ λ isnt. absurd (isnt refl)
      | false ↦ λ isnt. refl
    ] isnt

-- a byte before some lines leaves those after them as they are
with_more : (byte : ℕ) (lines more : List (List ℕ)) → 0 < length lines
    → with_byte byte (lines ++ more) ≡ with_byte byte lines ++ more
with_more byte [] more some = absurd (omega (arith, some))
with_more byte (line ∷ lines) more some =
    elim (byte == 10) as (λ is.
    (if is then (byte ∷ []) ∷ line ∷ (lines ++ more) else (byte ∷ line) ∷ (lines ++ more))
    ≡ (if is then (byte ∷ []) ∷ line ∷ lines else (byte ∷ line) ∷ lines) ++ more) [
      | true ↦ refl
      | false ↦ refl
    ]

-- there is a line where there is a byte
some_line : (byte : ℕ) (bytes : List ℕ) → 0 < length (lines_of (byte ∷ bytes))
some_line byte bytes =
    elim (lines_of bytes) as (λ lines. 0 < length (with_byte byte lines)) [
      | [] ↦ omega arith
      | line ∷ lines ↦ elim (byte == 10) as (λ is. 0 < length
          (if is then (byte ∷ []) ∷ line ∷ lines else (byte ∷ line) ∷ lines)) [
            | true ↦ omega arith
            | false ↦ omega arith
          ]
    ]

some_taken : (bytes : List ℕ) (n : ℕ) → n < length bytes
    → 0 < length (lines_of (take (suc n) bytes))
some_taken [] n inside = absurd (omega (arith, inside))
some_taken (byte ∷ bytes) n inside = some_line byte (take n bytes)

-- the bytes up to a line feed are whole lines, whatever follows
pub whole_upto : (bytes more : List ℕ) (at : ℕ) → at < length bytes → IsFeed bytes at
    → lines_of (bytes ++ more)
    ≡ lines_of (take (suc at) bytes) ++ lines_of (drop (suc at) bytes ++ more)
whole_upto [] more at inside is = absurd (omega (arith, inside))
whole_upto (byte ∷ bytes) more zero inside is = with_feed byte (lines_of (bytes ++ more)) is
whole_upto (byte ∷ bytes) more (suc at) inside is =
    ap (with_byte byte) (whole_upto bytes more at (omega (arith, inside)) is)
    ∙ with_more byte (lines_of (take (suc at) bytes))
    (lines_of (drop (suc at) bytes ++ more)) (some_taken bytes at (omega (arith, inside)))

-- those up to the first line feed are the first line
pub first_line : (bytes : List ℕ) (at : ℕ) → at < length bytes → IsFeed bytes at
    → ((i : ℕ) → i < at → ¬ (IsFeed bytes i))
    → lines_of bytes ≡ take (suc at) bytes ∷ lines_of (drop (suc at) bytes)
first_line [] at inside is none = absurd (omega (arith, inside))
first_line (byte ∷ bytes) zero inside is none = with_feed byte (lines_of bytes) is
first_line (byte ∷ bytes) (suc at) inside is none =
    ap (with_byte byte)
    (first_line bytes at (omega (arith, inside)) is (λ i less. none (suc i) (omega (arith, less))))
    ∙ with_other byte (take (suc at) bytes) (lines_of (drop (suc at) bytes)) (none 0 (omega arith))

-- without a line feed they are one line
only_line : (byte : ℕ) (bytes : List ℕ)
    → ((i : ℕ) → i < length (byte ∷ bytes) → ¬ (IsFeed (byte ∷ bytes) i))
    → lines_of (byte ∷ bytes) ≡ (byte ∷ bytes) ∷ []
only_line byte [] none = refl
only_line byte (next ∷ bytes) none =
    ap (with_byte byte) (only_line next bytes (λ i less. none (suc i) (omega (arith, less))))
    ∙ with_other byte (next ∷ bytes) [] (none 0 (omega arith))

pub one_line : (bytes : List ℕ) → 0 < length bytes
    → ((i : ℕ) → i < length bytes → ¬ (IsFeed bytes i))
    → lines_of bytes ≡ take (length bytes) bytes ∷ lines_of (drop (length bytes) bytes)
one_line [] some none = absurd (omega (arith, some))
one_line (byte ∷ bytes) some none =
    rw (take-length (byte ∷ bytes), drop-length (byte ∷ bytes)) (only_line byte bytes none)

-- Which places of a block come before the lowest bit of the mask of two letters.
use Rattle.regex_lite_syntax.proofs.Common.{◌≡◌, ℕ, ◌%◌, ◌^◌, ◌<◌, ◌≤◌, List, map, length, get_or}
use Rattle.regex_lite_syntax.proofs.Common.{replicate, cond, sym, ap, ◌∙◌, inl, inr, arith}
use Rattle.regex_lite_syntax.proofs.Common.{bit_and, bit_or, cases_eq, false≢true, IsLetter}
use Rattle.regex_lite_syntax.proofs.Common.{Letter, ne_eqb}
use Rattle.std.proofs.Common.{ap₂, eqb, not, ⊎_elim}
use Rattle.std.proofs.lemmas.Bool.{cond-true, cond-false, eq-eqb}
use Rattle.std.proofs.lemmas.List.{length-map}
use Rattle.std.proofs.lemmas.List.Sums.{prefix_len-le-length, prefix_len_passes}
use Rattle.std.proofs.lemmas.Simd.{first_set_mask_l, get_or-replicate, get_or-zip2}
use Rattle.std.proofs.lemmas.Simd.{length-replicate, length-zip2, mask_l-mod}
use lib.Lanes.{mask_l, top, zip2}
use Rattle.std.specs.List.{prefix_len}
use Rattle.regex_lite_syntax.specs.Prefilter.Finders.{first_place}

-- a lane that is set where the bytes are equal
abbrev pub hit : (byte other : ℕ) → ℕ
hit byte other = cond (eqb byte other) 255 0

-- those of a letter
abbrev pub hits : (bytes : List ℕ) (letter : Letter) → List ℕ
hits bytes letter =
    zip2 bit_or (zip2 hit bytes (replicate 16 letter.byte))
    (zip2 hit bytes (replicate 16 letter.other))

hit_equal : (byte other : ℕ) → byte ≡ other → hit byte other ≡ 255
hit_equal byte other same = cond-true _ _ _ (eq-eqb byte other same)

-- of two lanes one of which is set
set_left : (byte one other : ℕ) → byte ≡ one → bit_or (hit byte one) (hit byte other) ≡ 255
set_left byte one other same = elim (cases_eq byte other) [
  | inl both ↦ ap₂ bit_or (hit_equal byte one same) (hit_equal byte other both)
  | inr apart ↦ ap₂ bit_or (hit_equal byte one same) (cond-false _ _ _ (ne_eqb byte other apart))
]

set_right : (byte one other : ℕ) → byte ≡ other → bit_or (hit byte one) (hit byte other) ≡ 255
set_right byte one other same = elim (cases_eq byte one) [
  | inl both ↦ ap₂ bit_or (hit_equal byte one both) (hit_equal byte other same)
  | inr apart ↦ ap₂ bit_or (cond-false _ _ _ (ne_eqb byte one apart)) (hit_equal byte other same)
]

length_hit : (bytes : List ℕ) (byte : ℕ) → length bytes ≡ 16
    → length (zip2 hit bytes (replicate 16 byte)) ≡ 16
length_hit bytes byte long =
    length-zip2 hit bytes (replicate 16 byte) (long ∙ sym (length-replicate 16 byte)) ∙ long

length_hits : (bytes : List ℕ) (letter : Letter) → length bytes ≡ 16
    → length (hits bytes letter) ≡ 16
length_hits bytes letter long =
    length-zip2 bit_or _ _ (length_hit bytes letter.byte long
    ∙ sym (length_hit bytes letter.other long)) ∙ length_hit bytes letter.byte long

hit_at : (bytes : List ℕ) (byte k : ℕ) → length bytes ≡ 16 → k < 16
    → get_or (zip2 hit bytes (replicate 16 byte)) k 0 ≡ hit (get_or bytes k 0) byte
hit_at bytes byte k long below =
    get_or-zip2 hit bytes (replicate 16 byte) k 0 0 0 (omega (arith, long, below))
    (omega (arith, length-replicate 16 byte, below))
    ∙ ap (hit (get_or bytes k 0)) (get_or-replicate 16 k byte 0 below)

-- where the letter is, its lane is set
set_at : (bytes : List ℕ) (letter : Letter) (k : ℕ) → length bytes ≡ 16 → k < 16
    → IsLetter letter (get_or bytes k 0) → get_or (hits bytes letter) k 0 ≡ 255
set_at bytes letter k long below is =
    get_or-zip2 bit_or _ _ k 0 0 0 (omega (arith, length_hit bytes letter.byte long, below))
    (omega (arith, length_hit bytes letter.other long, below))
    ∙ ap₂ bit_or (hit_at bytes letter.byte k long below) (hit_at bytes letter.other k long below)
    ∙ ⊎_elim (set_left (get_or bytes k 0) letter.byte letter.other)
    (set_right (get_or bytes k 0) letter.byte letter.other) is

-- the place of the lowest bit that is set is in the block or behind it, and at none before it both
-- letters are
pub none_before_place : (firsts seconds : List ℕ) (first second : Letter) (place : ℕ)
    → length firsts ≡ 16 → length seconds ≡ 16
    → place ≡ first_place
    (mask_l (map (top 7) (zip2 bit_and (hits firsts first) (hits seconds second))) % 2 ^ 64)
    → (place ≤ 16) × ((k : ℕ) → k < place → IsLetter first (get_or firsts k 0)
    → ¬ IsLetter second (get_or seconds k 0))
none_before_place firsts seconds first second place long as_long is =
    let lanes = zip2 bit_and (hits firsts first) (hits seconds second) in
    let one = length_hits firsts first long in
    let other = length_hits seconds second as_long in
    let all : length lanes ≡ 16 = length-zip2 bit_and _ _ (one ∙ sym other) ∙ one in
    let counted : place ≡ prefix_len (λ x. not (top 7 x)) lanes =
    is ∙ ap first_place (mask_l-mod (map (top 7) lanes) 64
    (omega (arith, length-map lanes (top 7), all)))
    ∙ first_set_mask_l (top 7) lanes 16 all (omega arith) in
    let few : place ≤ 16 =
    omega (arith, counted, prefix_len-le-length (λ x. not (top 7 x)) lanes, all) in (
      few,
      λ k below is_first is_second.
          let set : get_or lanes k 0 ≡ 255 =
          get_or-zip2 bit_and _ _ k 0 0 0 (omega (arith, one, few, below))
          (omega (arith, other, few, below))
          ∙ ap₂ bit_and (set_at firsts first k long (omega (arith, few, below)) is_first)
          (set_at seconds second k as_long (omega (arith, few, below)) is_second) in
          false≢true (sym (ap (λ x. not (top 7 x)) set)
          ∙ prefix_len_passes (λ x. not (top 7 x)) lanes k 0 (omega (arith, counted, below))),
    )

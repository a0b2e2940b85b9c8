-- Where matches can begin whose first two characters are known.
use Rattle.regex_lite_engine.proofs.Common.{◌≡◌, ℕ, suc, ◌+◌, ◌<◌, ◌≤◌, Bool, true, false, ◌&&◌}
use Rattle.regex_lite_engine.proofs.Common.{List, length, replicate, if◌then◌else◌, IsTrue, nat_lt}
use Rattle.regex_lite_engine.proofs.Common.{slice_index, slice_index_or, Some, Option}
use Rattle.regex_lite_engine.proofs.Common.{sym, refl, ap, ◌∙◌, subst, inl}
use Rattle.regex_lite_engine.proofs.Common.{inr, arith, cases_eq, cases_lt, nat_tests}
use Rattle.regex_lite_engine.proofs.Common.{get_or-map-range_with_len, Text, after, character}
use Rattle.regex_lite_engine.proofs.Common.{look, concat, Trees, more, IsPassed}
use Rattle.regex_lite_engine.proofs.Common.{stops_at, MayBegin, PrefixSets, ◌⊎◌}
use Rattle.std.proofs.Common.{◌||◌, is_none, nat_eq}
use Rattle.regex_lite_syntax.specs.Prefilter.Bytes.{suits}
use Rattle.regex_lite_syntax.specs.declared.prefilter.Prefilter.TheVariants.{Pair}
use Rattle.regex_lite_syntax.specs.Prefilter.PrefixSets.{ArePrefixSetsOfTree}
use Rattle.regex_lite_syntax.specs.Prefilter.FirstSet.{begins_with, may_begin}
use Rattle.regex_lite_syntax.specs.Text.{before}
use Rattle.regex_lite_syntax.specs.declared.hir.look.Look.{Look}
use Rattle.regex_lite_engine.specs.Search.Prefixes.{just_starts, sets_of_prefix}

module _ (code : ℕ) where
  -- what is noted of an ASCII character
  noted : (c : ℕ) → c < 128 → slice_index_or (just_starts code).ascii c true ≡ nat_eq c code
  noted c low = get_or-map-range_with_len (λ z. nat_eq z code) 0 128 c c true low (omega arith)

  -- whether a match can begin with a character, which is ASCII or not
  abbrev begins : (c : ℕ) → Bool → Bool
  begins c b = true && (if b then slice_index_or (just_starts code).ascii c true else false)

  pub begins_apart : (c : ℕ) → (c ≡ code → ⊥) → begins_with (just_starts code) c ≡ false
  begins_apart c apart = by_size (cases_lt c 128)
    where
      by_size : (c < 128) ⊎ (128 ≤ c) → begins_with (just_starts code) c ≡ false
      by_size (inl low) =
          let test : nat_lt c 128 ≡ true = grind (arith, nat_tests) in
          let none : nat_eq c code ≡ false = grind (arith, nat_tests) in
          ap (begins c) test ∙ noted c low ∙ none
      by_size (inr high) =
          let test : nat_lt c 128 ≡ false = grind (arith, nat_tests) in
          ap (begins c) test

  pub begins_same : code < 128 → begins_with (just_starts code) code ≡ true
  begins_same low =
      let test : nat_lt code 128 ≡ true = grind (arith, nat_tests) in
      let same : nat_eq code code ≡ true = grind (arith, nat_tests) in
      ap (begins code) test ∙ noted code low ∙ same

  pub stops_apart : (byte : ℕ) → (byte ≡ code → ⊥) → stops_at (just_starts code) byte ≡ false
  stops_apart byte apart = by_size (cases_lt byte 128)
    where
      stops : Bool → Bool
      stops b = true && (if b then slice_index_or (just_starts code).ascii byte true
          else (if nat_lt byte 192 then false else false))

      either : (b : Bool) → (if b then false else false) ≡ false
      either true = refl
      either false = refl

      by_size : (byte < 128) ⊎ (128 ≤ byte) → stops_at (just_starts code) byte ≡ false
      by_size (inl low) =
          let test : nat_lt byte 128 ≡ true = grind (arith, nat_tests) in
          let none : nat_eq byte code ≡ false = grind (arith, nat_tests) in
          ap stops test ∙ noted byte low ∙ none
      by_size (inr high) =
          let test : nat_lt byte 128 ≡ false = grind (arith, nat_tests) in
          ap stops test ∙ either (nat_lt byte 192)

  -- at the haystack's start too
  pub may_not : (b : Option ℕ) (c : ℕ) → (c ≡ code → ⊥)
      → may_begin (just_starts code) b (Some c) ≡ false
  may_not b c apart = ap (λ z. z || (false && is_none b)) (begins_apart c apart)

  pub may_before : code < 128 → (h : Text) (i : ℕ) → after h i ≡ Some code
      → MayBegin (just_starts code) h i
  may_before low h i there =
      subst (λ o. IsTrue (may_begin (just_starts code) (before h i) o)) (sym there)
      (subst (λ z. IsTrue (z || (false && is_none (before h i)))) (sym (begins_same low)) refl)

module _ (first second : ℕ) where
  abbrev prefixes : PrefixSets
  prefixes = sets_of_prefix first second

  -- a row of parts that begins with two characters
  pub two_first : (rest : Trees) → first < 128 → second < 128
      → ArePrefixSetsOfTree (concat (more (character first) (more (character second) rest)))
      prefixes
  two_first rest low below = record {
    first = λ h i j (k, (there, next), left). may_before first low h i there;
    second = λ h i j (k, (there, next), (l, (later, after_it), left)).
        may_before second below h (suc i) (subst (λ z. after h z ≡ Some second) next later);
  }

  -- or with a look before them
  pub two_after_look : (test : Look) (rest : Trees) → first < 128 → second < 128
      → ArePrefixSetsOfTree (concat (more (look test)
      (more (character first) (more (character second) rest)))) prefixes
  two_after_look test rest low below = record {
    first = λ h i j (k, (holds, same), (l, (there, next), left)).
        may_before first low h i (subst (λ z. after h z ≡ Some first) (sym same) there);
    second = λ h i j (k, (holds, same), (l, (there, next), (m, (later, after_it), left))).
        may_before second below h (suc i)
        (subst (λ z. after h z ≡ Some second) (next ∙ ap suc (sym same)) later);
  }

  -- a byte at which they don't stand is passed
  pub passed_apart : (bytes : List ℕ) (at : ℕ) → (slice_index bytes at ≡ first → ⊥)
      → IsPassed prefixes bytes at
  passed_apart bytes at apart = inl (stops_apart first (slice_index bytes at) apart)

  pub passed_by_second : (bytes : List ℕ) (at : ℕ) → first < 128 → at + 1 < length bytes
      → (slice_index bytes (at + 1) ≡ second → ⊥) → IsPassed prefixes bytes at
  passed_by_second bytes at low short apart = elim (cases_eq (slice_index bytes at) first) [
    | inl same ↦
        inr (
          short,
          omega (arith, same, low),
          stops_apart second (slice_index bytes (at + 1)) apart,
        )
    | inr other ↦ passed_apart bytes at other
  ]

  -- so is one where the prefilter for both is not suited
  pub passed_unsuited : (bytes : List ℕ) (at : ℕ) → first < 128 → at + 1 < length bytes
      → suits (Pair (replicate 2 first) (replicate 2 second)) (slice_index bytes at)
      (slice_index bytes (at + 1)) ≡ false
      → IsPassed prefixes bytes at
  passed_unsuited bytes at low short off = elim (cases_eq (slice_index bytes at) first) [
    | inl same ↦ elim (cases_eq (slice_index bytes (at + 1)) second) [
      | inl same_too ↦ absurd (both same same_too)
      | inr other ↦ passed_by_second bytes at low short other
    ]
    | inr other ↦ passed_apart bytes at other
  ]
    where
      reported : Bool → Bool → Bool
      reported x y = (x || (x || false)) && (y || (y || false))

      both : slice_index bytes at ≡ first → slice_index bytes (at + 1) ≡ second → ⊥
      both same same_too =
          let one : nat_eq (slice_index bytes at) first ≡ true = grind (arith, nat_tests) in
          let two : nat_eq (slice_index bytes (at + 1)) second ≡ true
          = grind (arith, nat_tests) in
          let suited : reported (nat_eq (slice_index bytes at) first)
          (nat_eq (slice_index bytes (at + 1)) second) ≡ true
          = ap (λ x. reported x (nat_eq (slice_index bytes (at + 1)) second)) one
          ∙ ap (λ y. reported true y) two in
          let never : true ≡ false = sym suited ∙ off in
          cc

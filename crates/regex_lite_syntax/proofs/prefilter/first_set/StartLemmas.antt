-- Where a match can begin, while characters are added, and what a tree can begin with.
use Rattle.regex_lite_syntax.proofs.Common.{◌≡◌, ℕ, zero, suc, ◌+◌, ◌<◌, ◌≤◌, min, Bool, true}
use Rattle.regex_lite_syntax.proofs.Common.{false, ◌&&◌, ◌||◌, ◌⊎◌, List, [], ◌∷◌, length, get_or}
use Rattle.regex_lite_syntax.proofs.Common.{take, replicate, is_none, if◌then◌else◌, IsTrue, nat_lt}
use Rattle.regex_lite_syntax.proofs.Common.{slice_index_or, Some, None, Option, sym, refl, ap, ◌∙◌}
use Rattle.regex_lite_syntax.proofs.Common.{subst, inl, inr, arith, cases_lt, nat_tests, in_ranges}
use Rattle.regex_lite_syntax.proofs.Common.{Text, after, Tree, repetition, Trees, more, Matches}
use Rattle.regex_lite_syntax.proofs.Common.{Chain, SomeBranch, ClassRange, begins_with, may_begin}
use Rattle.regex_lite_syntax.proofs.Common.{MayBegin, IsWider, BeginsOrPasses, FirstSet, class}
use Rattle.regex_lite_syntax.proofs.Common.{just}
use Rattle.regex_lite_syntax.specs.Tree.{character}
use Rattle.regex_lite_syntax.specs.Prefilter.FirstSet.{HasAll}
use Rattle.std.specs.Char.{is_ascii}
use Rattle.std.proofs.lemmas.Bool.{or_right}
use Rattle.std.proofs.lemmas.List.{get_or_default}
use Rattle.regex_lite_syntax.specs.Sets.{span}
use Rattle.regex_lite_syntax.specs.Ranges.{AreRuns, next_character}
use Rattle.regex_lite_syntax.proofs.RangeLemmas.{next_above, runs_from}
use Rattle.regex_lite_syntax.specs.Text.{before}
use Rattle.regex_lite_syntax.specs.Tree.Matches.{Passes}

pub one_is_true : (a b : Bool) → (a || b) ≡ true → (a ≡ true) ⊎ (b ≡ true)
one_is_true true b e = inl refl
one_is_true false b e = inr e

all_true : (n c : ℕ) → slice_index_or (replicate n true) c true ≡ true
all_true zero c = refl
all_true (suc n) zero = refl
all_true (suc n) (suc c) = all_true n c

pub everywhere_begins : (s : FirstSet) → s.any ≡ true → s.ascii ≡ replicate 128 true
    → s.others ≡ true → (c : ℕ) → begins_with s c ≡ true
everywhere_begins s any ascii others c =
    ap (λ z. z && inside (nat_lt c 128)) any ∙ by_test (nat_lt c 128)
  where
    inside : Bool → Bool
    inside b = if b then slice_index_or s.ascii c true else s.others

    by_test : (b : Bool) → inside b ≡ true
    by_test true = ap (λ z. slice_index_or z c true) ascii ∙ all_true 128 c
    by_test false = others

pub grown_on : (s t u : FirstSet) → IsWider s t → IsWider t u → IsWider s u
grown_on s t u first second = record {
  with = λ c e. second.with c (first.with c e);
  at_start = λ e. second.at_start (first.at_start e);
}

either : (a b c d : Bool) → (a ≡ true → c ≡ true) → (b ≡ true → d ≡ true) → IsTrue (a || b)
    → IsTrue (c || d)
either true b c d f g t = subst (λ z. IsTrue (z || d)) (sym (f refl)) refl
either false b true d f g t = refl
either false true false d f g t = subst IsTrue (sym (g refl)) refl
either false false false d f g t = absurd cc

pub may_grown : (s t : FirstSet) (h : Text) (i : ℕ) → IsWider s t → MayBegin s h i → MayBegin t h i
may_grown s t h i grown = by_next (after h i)
  where
    both : (a b c : Bool) → (a ≡ true → b ≡ true) → (a && c) ≡ true → (b && c) ≡ true
    both true b c f e = ap (λ z. z && c) (f refl) ∙ e
    both false b c f e = absurd cc

    by_next : (o : Option ℕ) → IsTrue (may_begin s (before h i) o)
        → IsTrue (may_begin t (before h i) o)
    by_next None m = refl
    by_next (Some c) m =
        either (begins_with s c) (s.at_start && is_none (before h i)) (begins_with t c)
        (t.at_start && is_none (before h i)) (grown.with c)
        (both s.at_start t.at_start (is_none (before h i)) grown.at_start) m

-- a character of the range was added
pub in_span : (s : FirstSet) (start end c : ℕ) → s.any ≡ true
    → (is_ascii end ≡ false → s.others ≡ true)
    → ((d : ℕ) → start ≤ d → d < min (end + 1) 128 → slice_index_or s.ascii d true ≡ true)
    → span start end c ≡ true → begins_with s c ≡ true
in_span s start end c any others filled inside =
    let low : start ≤ c = grind (arith, nat_tests) in
    let high : c ≤ end = grind (arith, nat_tests) in
    ap (λ z. z && (if nat_lt c 128 then slice_index_or s.ascii c true else s.others)) any
    ∙ by_ascii low high (cases_lt c 128)
  where
    by_ascii : start ≤ c → c ≤ end → (c < 128) ⊎ (128 ≤ c)
        → (if nat_lt c 128 then slice_index_or s.ascii c true else s.others) ≡ true
    by_ascii low high (inl lt) =
        let test : nat_lt c 128 ≡ true = grind (arith, nat_tests) in
        ap (λ z. if z then slice_index_or s.ascii c true else s.others) test
        ∙ filled c low (omega (arith, high, lt))
    by_ascii low high (inr le) =
        let test : nat_lt c 128 ≡ false = grind (arith, nat_tests) in
        let not_ascii : is_ascii end ≡ false = grind (arith, nat_tests) in
        ap (λ z. if z then slice_index_or s.ascii c true else s.others) test ∙ others not_ascii

-- those that are not ASCII are alike
pub begins_as_one : (s : FirstSet) (c : ℕ) → 128 ≤ c → begins_with s c ≡ begins_with s 128
begins_as_one s c le =
    let wide : nat_lt c 128 ≡ false = grind (arith, nat_tests) in
    ap (λ b. s.any && (if b then slice_index_or s.ascii c true else s.others)) wide

-- what stands before a range is in the ranges before it
held_before : (n : ℕ) (ranges : List ClassRange) (k c : ℕ) (none : ClassRange) → AreRuns n ranges
    → k < length ranges → c < (get_or ranges k none).start → in_ranges ranges c ≡ true
    → in_ranges (take k ranges) c ≡ true
held_before n [] k c none runs within below e = absurd (omega (arith, within))
held_before n (r ∷ ranges) zero c none runs within below e =
    elim (one_is_true (span r.start r.end c) (in_ranges ranges c) e) [
      | inl first ↦
          let from : r.start ≤ c = grind (arith, nat_tests) in
          absurd (omega (arith, from, below))
      | inr rest ↦
          let later = runs_from (next_character r.end + 1) ranges c runs.4 rest in
          let above = next_above r.end in
          absurd (omega (arith, later, above, below, runs.3))
    ]
held_before n (r ∷ ranges) (suc k) c none runs within below e =
    elim (one_is_true (span r.start r.end c) (in_ranges ranges c) e) [
      | inl first ↦ ap (λ z. z || in_ranges (take k ranges) c) first
      | inr rest ↦
          or_right (span r.start r.end c) _
          (held_before (next_character r.end + 1) ranges k c none runs.4 (omega (arith, within))
          below rest)
    ]

-- the ranges after one that is not ASCII aren't either
pub past_ascii_begin : (s : FirstSet) (ranges : List ClassRange) (k c : ℕ) (none : ClassRange)
    → AreRuns 0 ranges → k < length ranges → is_ascii (get_or ranges k none).start ≡ false
    → begins_with s (get_or ranges k none).start ≡ true
    → (in_ranges (take k ranges) c ≡ true → begins_with s c ≡ true)
    → in_ranges ranges c ≡ true → begins_with s c ≡ true
past_ascii_begin s ranges k c none runs within past begins before inside = by_ascii (cases_lt c 128)
  where
    by_ascii : (c < 128) ⊎ (128 ≤ c) → begins_with s c ≡ true
    by_ascii (inl lt) =
        let far : 128 ≤ (get_or ranges k none).start = grind (arith, nat_tests) in
        let below : c < (get_or ranges k none).start = omega (arith, lt, far) in
        before (held_before 0 ranges k c none runs within below inside)
    by_ascii (inr le) =
        let far : 128 ≤ (get_or ranges k none).start = grind (arith, nat_tests) in
        begins_as_one s c le ∙ sym (begins_as_one s (get_or ranges k none).start far) ∙ begins

-- the haystack's start
pub may_at_start : (s : FirstSet) (h : Text) (i : ℕ) → s.at_start ≡ true
    → IsTrue (is_none (before h i))
    → MayBegin s h i
may_at_start s h i at_start none = by_next (after h i)
  where
    last : (a b : Bool) → IsTrue b → IsTrue (a || (true && b))
    last true b t = refl
    last false b t = t

    by_next : (o : Option ℕ) → IsTrue (may_begin s (before h i) o)
    by_next None = refl
    by_next (Some c) = subst (λ z. IsTrue (begins_with s c || (z && is_none (before h i))))
        (sym at_start) (last (begins_with s c) (is_none (before h i)) none)

-- each pass begins where one can, or reads nothing
pub passes_begin : (body : Tree) (s : FirstSet) (passable : Bool) → BeginsOrPasses body s passable
    → (h : Text) (n i j : ℕ) → Passes (Matches h body) n i j → MayBegin s h i ⊎ (i ≡ j)
passes_begin body s passable each h zero i j e = inr e
passes_begin body s passable each h (suc n) i j (k, first, rest) = elim (each h i k first) [
  | inl begins ↦ inl begins
  | inr (t, same) ↦
      passes_begin body s passable each h n i j
      (subst (λ z. Passes (Matches h body) n z j) (sym same) rest)
]

pub repetition_begins : (least : ℕ) (most : Option ℕ) (greedy : Bool) (body : Tree) (s : FirstSet)
    (passable result : Bool) → (passable ≡ true → IsTrue result) → (least ≡ 0 → IsTrue result)
    → BeginsOrPasses body s passable
    → BeginsOrPasses (repetition least most greedy body) s result
repetition_begins least most greedy body s passable result by_body by_least each h i j
    (n, low, high, passes) =
    by_passes least n low passes by_least
  where
    by_passes : (least n : ℕ) → least ≤ n → Passes (Matches h body) n i j
        → (least ≡ 0 → IsTrue result) → MayBegin s h i ⊎ (IsTrue result × (i ≡ j))
    by_passes zero n le passes none = elim (passes_begin body s passable each h n i j passes) [
      | inl begins ↦ inl begins
      | inr same ↦ inr (none refl, same)
    ]
    by_passes (suc least) zero le passes none = absurd (omega (arith, le))
    by_passes (suc least) (suc n) le (k, first, rest) none = elim (each h i k first) [
      | inl begins ↦ inl begins
      | inr (t, same) ↦ elim (passes_begin body s passable each h n k j rest) [
        | inl begins ↦ inl (subst (λ z. MayBegin s h z) (sym same) begins)
        | inr on ↦ inr (by_body (is_true passable t), same ∙ on)
      ]
    ]
      where
        is_true : (b : Bool) → IsTrue b → b ≡ true
        is_true true t = refl
        is_true false t = absurd cc

module _ (a : Tree) (rest : Trees) (s t : FirstSet) (passable : Bool) (grown : IsWider s t)
    (first : BeginsOrPasses a t passable) (h : Text) (i j : ℕ) where
  -- after one part more
  pub part_more : MayBegin s h i ⊎ Chain h (more a rest) i j
      → MayBegin t h i ⊎ (IsTrue passable × Chain h rest i j)
  part_more (inl begins) = inl (may_grown s t h i grown begins)
  part_more (inr (k, here, on)) = elim (first h i k here) [
    | inl begins ↦ inl begins
    | inr (p, same) ↦ inr (p, subst (λ z. Chain h rest z j) (sym same) on)
  ]

  -- after one branch more
  pub branch_more : (before after : Bool) → (IsTrue before → IsTrue after)
      → (IsTrue passable → IsTrue after)
      → MayBegin s h i ⊎ ((IsTrue before × (i ≡ j)) ⊎ SomeBranch h (more a rest) i j)
      → MayBegin t h i ⊎ ((IsTrue after × (i ≡ j)) ⊎ SomeBranch h rest i j)
  branch_more before after kept new (inl begins) = inl (may_grown s t h i grown begins)
  branch_more before after kept new (inr (inl (p, same))) = inr (inl (kept p, same))
  branch_more before after kept new (inr (inr (inr on))) = inr (inr on)
  branch_more before after kept new (inr (inr (inl here))) = elim (first h i j here) [
    | inl begins ↦ inl begins
    | inr (p, same) ↦ inr (inl (new p, same))
  ]

-- a match can begin with a character where what is stored of it lets it
pub begins_alike : (s t : FirstSet) (c : ℕ) → s.any ≡ t.any → s.others ≡ t.others
    → slice_index_or s.ascii c true ≡ slice_index_or t.ascii c true
    → begins_with s c ≡ begins_with t c
begins_alike s t c any others ascii =
    ap (λ a. a && (if nat_lt c 128 then slice_index_or s.ascii c true else s.others)) any
    ∙ ap (λ b. t.any && (if nat_lt c 128 then b else s.others)) ascii
    ∙ ap (λ o. t.any && (if nat_lt c 128 then slice_index_or t.ascii c true else o)) others

-- what is stored of an ASCII character
pub stored_at : (s : FirstSet) (c : ℕ) → c < 128 → c < length s.ascii
    → (s.any && slice_index_or s.ascii c false) ≡ begins_with s c
stored_at s c lt inside =
    let narrow : nat_lt c 128 ≡ true = grind (arith, nat_tests) in
    ap (λ b. s.any && b) (get_or_default s.ascii c false true inside
    ∙ sym (ap (λ b. if b then slice_index_or s.ascii c true else s.others) narrow))

-- two sets together, by what is stored of each character
pub union_at : (s t u : FirstSet) → u.any ≡ (s.any || t.any)
    → ((c : ℕ) → c < 128
    → slice_index_or u.ascii c true ≡ (begins_with s c || begins_with t c))
    → u.others ≡ (begins_with s 128 || begins_with t 128)
    → (c : ℕ) → begins_with u c ≡ (begins_with s c || begins_with t c)
union_at s t u any ascii others c = by_width (cases_lt c 128)
  where
    kept : (a b x y : Bool) → ((a || b) && ((a && x) || (b && y))) ≡ ((a && x) || (b && y))
    kept true b x y = refl
    kept false true x y = refl
    kept false false x y = refl

    char : FirstSet → Bool
    char z = if nat_lt c 128 then slice_index_or z.ascii c true else z.others

    stored : char u ≡ (begins_with s c || begins_with t c) → begins_with u c
        ≡ (begins_with s c || begins_with t c)
    stored e =
        ap (λ a. a && char u) any ∙ ap (λ b. (s.any || t.any) && b) e
        ∙ kept s.any t.any (char s) (char t)

    by_width : (c < 128) ⊎ (128 ≤ c) → begins_with u c ≡ (begins_with s c || begins_with t c)
    by_width (inl lt) =
        let narrow : nat_lt c 128 ≡ true = grind (arith, nat_tests) in
        stored (ap (λ b. if b then slice_index_or u.ascii c true else u.others) narrow ∙ ascii c lt)
    by_width (inr le) =
        let wide : nat_lt c 128 ≡ false = grind (arith, nat_tests) in
        stored (ap (λ b. if b then slice_index_or u.ascii c true else u.others) wide ∙ others
        ∙ sym (ap (λ b. b || begins_with t c) (begins_as_one s c le)
        ∙ ap (λ b. begins_with s 128 || b) (begins_as_one t c le)))

-- a match of what reads one character begins with it
read_begins : (s : FirstSet) (h : Text) (i c : ℕ) → after h i ≡ Some c → begins_with s c ≡ true
    → MayBegin s h i
read_begins s h i c there begins = rw (there, begins) refl

pub character_begins : (c : ℕ) (s : FirstSet) → HasAll s (just c)
    → BeginsOrPasses (character c) s false
character_begins c s all h i j (there, past) =
    inl (read_begins s h i c there (all c (grind (arith, nat_tests))))

pub class_begins : (ranges : List ClassRange) (s : FirstSet) → HasAll s (in_ranges ranges)
    → BeginsOrPasses (class ranges) s false
class_begins ranges s all h i j (c, there, inside, past) =
    inl (read_begins s h i c there (all c inside))

-- The index of several patterns with one pattern more, and what it says of each.
use Rattle.regex_lite_syntax.proofs.Common.{◌≡◌, ℕ, zero, suc, ◌+◌, ◌-◌, ◌*◌, ◌<◌, ◌≤◌, Bool, true}
use Rattle.regex_lite_syntax.proofs.Common.{false, ◌&&◌, ◌||◌, ◌⊎◌, List, [], ◌∷◌, ◌++◌, length}
use Rattle.regex_lite_syntax.proofs.Common.{if◌then◌else◌, nat_lt, ◌==◌, slice_get, Some, None}
use Rattle.regex_lite_syntax.proofs.Common.{Option, sym, refl, ap, ◌∙◌, subst, inl, inr, arith}
use Rattle.regex_lite_syntax.proofs.Common.{or-false, cases_eq, cases_lt, nat_tests, Tree}
use Rattle.regex_lite_syntax.proofs.Common.{IsIndexOf, AreEachPrefixSetsOf, begins_with_pair}
use Rattle.regex_lite_syntax.proofs.Common.{column, first_row, second_row, has, goes_on_with}
use Rattle.regex_lite_syntax.proofs.Common.{belongs, begins_with, PrefixSets, PrefixIndex}
use Rattle.std.proofs.Common.{MatchOption}
use Rattle.std.proofs.lemmas.Option.{slice_get_past, slice_get_within}
use Rattle.regex_lite_syntax.specs.Prefilter.PrefixSets.{ArePrefixSetsOfTree}
use Rattle.std.specs.List.{list_any}
use Rattle.std.proofs.lemmas.Bool.{or_parts}
use Rattle.std.proofs.lemmas.List.{length-append}
use Rattle.regex_lite_syntax.specs.Prefilter.PrefixIndex.{IsWalkable}
use Rattle.regex_lite_syntax.specs.Prefilter.Rows.{one_belongs}
use Rattle.regex_lite_syntax.proofs.OptionLemmas.{same_some}
use Rattle.regex_lite_syntax.proofs.LookupLemmas.{get_left, get_last}

pub get_beyond : {X : Type 0} (xs : List X) (x : X) (k : ℕ) → length xs < k
    → slice_get (xs ++ x ∷ []) k ≡ None
get_beyond xs x k lt =
    let more = length-append xs (x ∷ []) in
    slice_get_past (xs ++ x ∷ []) k (omega (arith, more, lt))

-- whether the last of the parts belongs, and whether one of the others does
pub belongs_with : (parts : List PrefixSets) (part : PrefixSets) (n row : ℕ)
    → (one_belongs (slice_get parts n) row || (n == length parts && belongs part row))
    ≡ one_belongs (slice_get (parts ++ part ∷ []) n) row
belongs_with parts part n row = elim (cases_eq n (length parts)) [
  | inl same ↦
      let past = slice_get_past parts n (omega (arith, same)) in
      let is : (n == length parts) ≡ true = grind (arith, nat_tests) in
      ap (λ o. one_belongs o row || (n == length parts && belongs part row)) past
      ∙ ap (λ b. b && belongs part row) is
      ∙ sym (ap (λ o. one_belongs o row)
      (ap (slice_get (parts ++ part ∷ [])) same ∙ get_last parts part))
  | inr apart ↦
      let off : (n == length parts) ≡ false = grind (arith, nat_tests) in
      ap (λ b. one_belongs (slice_get parts n) row || (b && belongs part row)) off
      ∙ or-false (one_belongs (slice_get parts n) row)
      ∙ ap (λ o. one_belongs o row) (sym (same_get (cases_lt n (length parts)) apart))
]
  where
    same_get : (n < length parts) ⊎ (length parts ≤ n) → (n ≡ length parts → ⊥)
        → slice_get (parts ++ part ∷ []) n ≡ slice_get parts n
    same_get (inl lt) apart = get_left parts (part ∷ []) n lt
    same_get (inr le) apart =
        get_beyond parts part n (omega (arith, le, apart)) ∙ sym (slice_get_past parts n le)

-- with the prefix sets of one tree more
pub prefixes_of_more : (trees : List Tree) (parts : List PrefixSets) (tree : Tree)
    (part : PrefixSets) → AreEachPrefixSetsOf trees parts → ArePrefixSetsOfTree tree part
    → AreEachPrefixSetsOf (trees ++ tree ∷ []) (parts ++ part ∷ [])
prefixes_of_more trees parts tree part w of_tree = record {
  all = length-append parts (part ∷ []) ∙ ap (λ n. n + 1) w.all
      ∙ sym (length-append trees (tree ∷ []));
  each = λ k t p has_tree has_part. by_place k t p has_tree has_part (cases_eq k (length trees));
}
  where
    by_place : (k : ℕ) (t : Tree) (p : PrefixSets) → slice_get (trees ++ tree ∷ []) k ≡ Some t
        → slice_get (parts ++ part ∷ []) k ≡ Some p → (k ≡ length trees) ⊎ (k ≡ length trees → ⊥)
        → ArePrefixSetsOfTree t p
    by_place k t p has_tree has_part (inl same) =
        let tree_is : tree ≡ t = same_some (sym (get_last trees tree)
        ∙ ap (slice_get (trees ++ tree ∷ [])) (sym same) ∙ has_tree) in
        let part_is : part ≡ p = same_some (sym (get_last parts part)
        ∙ ap (slice_get (parts ++ part ∷ [])) (w.all ∙ sym same) ∙ has_part) in
        subst (λ z. ArePrefixSetsOfTree z p) tree_is
        (subst (ArePrefixSetsOfTree tree) part_is of_tree)
    by_place k t p has_tree has_part (inr apart) =
        let within = slice_get_within (trees ++ tree ∷ []) k t has_tree in
        let more = length-append trees (tree ∷ []) in
        let below : k < length trees = omega (arith, within, more, apart) in
        w.each k t p (sym (get_left trees (tree ∷ []) k below) ∙ has_tree)
        (sym (get_left parts (part ∷ []) k (omega (arith, below, w.all))) ∙ has_part)

-- what none of them does, this one doesn't
none_does : {X : Type 0} (p : X → Bool) (xs : List X) (k : ℕ) → list_any p xs ≡ false
    → MatchOption (slice_get xs k) (Unit {0}) (λ x. p x ≡ false)
none_does p [] k none = tt
none_does p (x ∷ xs) zero none = (or_parts (p x) (list_any p xs) none).0
none_does p (x ∷ xs) (suc k) none = none_does p xs k (or_parts (p x) (list_any p xs) none).1

-- an index can be walked over
pub walkable : (parts : List PrefixSets) (prefixes : PrefixIndex) → IsIndexOf parts prefixes
    → length parts ≡ prefixes.count → IsWalkable prefixes
walkable parts prefixes w all = record {
  sized = w.sized;
  none_beyond = λ row n row_in beyond n_in. (
      w.bits row n row_in n_in
      ∙ ap (λ o. one_belongs o row) (slice_get_past parts n (omega (arith, beyond, all))));
  all_pairs = w.all_pairs;
  not_in_rows = λ a b n a_in b_in n_in off. (
      let room : n < 64 * prefixes.rows.width = omega (arith, n_in, w.sized.enough) in
      let low : first_row a ≡ a = column_of a a_in in
      let high : second_row b ≡ 129 + b = ap (λ k. 129 + k) (column_of b b_in) in
      let first = w.bits (first_row a) n (omega (arith, low, a_in)) room in
      let second = w.bits (second_row b) n (omega (arith, high, b_in)) room in
      ap (λ z. z && has prefixes.rows (second_row b) n)
      (first ∙ ap (one_belongs (slice_get parts n)) low)
      ∙ ap (λ z. one_belongs (slice_get parts n) a && z)
      (second ∙ ap (one_belongs (slice_get parts n)) high)
      ∙ by_part a b a_in b_in (slice_get parts n)
      (none_does (begins_with_pair a b) parts n (sym (w.pairs a b a_in b_in) ∙ off)));
}
  where
    column_of : (c : ℕ) → c < 128 → column c ≡ c
    column_of c lt =
        let narrow : nat_lt c 128 ≡ true = grind (arith, nat_tests) in
        ap (λ t. if t then c else 128) narrow

    by_part : (a b : ℕ) → a < 128 → b < 128 → (o : Option PrefixSets)
        → MatchOption o (Unit {0}) (λ part. begins_with_pair a b part ≡ false)
        → (one_belongs o a && one_belongs o (129 + b)) ≡ false
    by_part a b a_in b_in None off = refl
    by_part a b a_in b_in (Some part) off =
        let low : nat_lt a 129 ≡ true = grind (arith, nat_tests) in
        let high : nat_lt (129 + b) 129 ≡ false = grind (arith, nat_tests) in
        let low_b : nat_lt (129 + b) 258 ≡ true = grind (arith, nat_tests) in
        let back : 129 + b - 129 ≡ b = omega arith in
        ap (λ t. (if t then begins_with part.first a
        else (if nat_lt a 258 then goes_on_with part.second (a - 129) else part.first.at_start))
        && belongs part (129 + b)) low
        ∙ ap (λ t. begins_with part.first a && (if t then begins_with part.first (129 + b)
        else (if nat_lt (129 + b) 258 then goes_on_with part.second (129 + b - 129)
        else part.first.at_start))) high
        ∙ ap (λ t. begins_with part.first a && (if t then goes_on_with part.second (129 + b - 129)
        else part.first.at_start)) low_b
        ∙ ap (λ k. begins_with part.first a && goes_on_with part.second k) back
        ∙ off

-- Where the index leaves a pattern out, its tree does not match.
use Rattle.regex_lite_syntax.proofs.Common.{◌≡◌, ℕ, suc, ◌+◌, ◌-◌, ◌<◌, Bool, true, false, ◌&&◌}
use Rattle.regex_lite_syntax.proofs.Common.{◌||◌, List, map, is_none, if◌then◌else◌, IsTrue, nat_lt}
use Rattle.regex_lite_syntax.proofs.Common.{slice_get, Some, None, Option, option_map, sym, refl}
use Rattle.regex_lite_syntax.proofs.Common.{ap, ◌∙◌, inl, inr, arith, cases_lt, nat_tests, Text}
use Rattle.regex_lite_syntax.proofs.Common.{after, Tree, Matches, may_start, IsIndexOf, column}
use Rattle.regex_lite_syntax.proofs.Common.{first_row, second_row, start_row, has, goes_on_with}
use Rattle.regex_lite_syntax.proofs.Common.{belongs, begins_with, may_begin, MayBegin, IsWider}
use Rattle.regex_lite_syntax.proofs.Common.{IsUnionOf, PrefixSets, PrefixIndex, FirstSet}
use Rattle.std.proofs.Common.{IfSome, true≢false}
use Rattle.std.proofs.lemmas.Option.{slice_get-map}
use Rattle.regex_lite_syntax.specs.Prefilter.PrefixSets.{ArePrefixSetsOfTree}
use Rattle.regex_lite_syntax.specs.Prefilter.PrefixIndex.{may_start_at}
use Rattle.std.proofs.lemmas.Map.Keys.{any_passes_from_place}
use Rattle.regex_lite_syntax.specs.Text.{before}
use Rattle.regex_lite_syntax.specs.Prefilter.PrefixSets.{AreSecondOfTree}
use Rattle.regex_lite_syntax.specs.Prefilter.Rows.{one_belongs}
use Rattle.regex_lite_syntax.proofs.prefilter.first_set.StartLemmas.{begins_as_one, may_grown}
use Rattle.regex_lite_syntax.proofs.prefilter.prefix_index.WalkLemmas.{column_in}

member_grown : (many : List FirstSet) (all one : FirstSet) (k : ℕ) → IsUnionOf many all
    → slice_get many k ≡ Some one → IsWider one all
member_grown many all one k w there = record {
  with = λ c is. (
      w.with c ∙ any_passes_from_place (λ part. begins_with part c) many k one there is);
  at_start = λ is. (
      w.at_start ∙ any_passes_from_place (λ (part : FirstSet). part.at_start) many k one there is);
}

-- none of the patterns matches where none can begin
pub none_matches : (parts : List PrefixSets) (any : FirstSet) (part : PrefixSets) (k : ℕ)
    → IsUnionOf (map (λ (p : PrefixSets). p.first) parts) any → slice_get parts k ≡ Some part
    → (tree : Tree) → ArePrefixSetsOfTree tree part → (haystack : Text) (i : ℕ)
    → (MayBegin any haystack i → ⊥) → (j : ℕ) → Matches haystack tree i j → ⊥
none_matches parts any part k w there tree of_tree h i off j m =
    let firsts = slice_get-map (λ (p : PrefixSets). p.first) parts k
    ∙ ap (option_map (λ (p : PrefixSets). p.first)) there in
    off (may_grown part.first any h i
    (member_grown (map (λ (p : PrefixSets). p.first) parts) any part.first k w firsts)
    (of_tree.first h i j m))

-- a character that isn't ASCII begins as all such do
begins_in_column : (s : FirstSet) (c : ℕ) → begins_with s (column c) ≡ begins_with s c
begins_in_column s c = elim (cases_lt c 128) [
  | inl lt ↦
      let narrow : nat_lt c 128 ≡ true = grind (arith, nat_tests) in
      ap (λ b. begins_with s (if b then c else 128)) narrow
  | inr le ↦
      let wide : nat_lt c 128 ≡ false = grind (arith, nat_tests) in
      ap (λ b. begins_with s (if b then c else 128)) wide ∙ sym (begins_as_one s c le)
]

first_belongs : (part : PrefixSets) (c : ℕ) → belongs part (first_row c) ≡ begins_with part.first c
first_belongs part c =
    let inside = column_in c in
    let low : nat_lt (column c) 129 ≡ true = grind (arith, nat_tests) in
    ap (λ b. if b then begins_with part.first (column c)
    else (if nat_lt (column c) 258 then goes_on_with part.second (column c - 129)
    else part.first.at_start)) low
    ∙ begins_in_column part.first c

goes_on_in_column : (o : Option FirstSet) (c : ℕ) → goes_on_with o (column c) ≡ goes_on_with o c
goes_on_in_column None c = refl
goes_on_in_column (Some s) c = begins_in_column s c

second_belongs : (part : PrefixSets) (d : ℕ)
    → belongs part (second_row d) ≡ goes_on_with part.second d
second_belongs part d =
    let inside = column_in d in
    let high : nat_lt (129 + column d) 129 ≡ false = grind (arith, nat_tests) in
    let low : nat_lt (129 + column d) 258 ≡ true = grind (arith, nat_tests) in
    let back : 129 + column d - 129 ≡ column d = omega arith in
    ap (λ b. if b then begins_with part.first (129 + column d)
    else (if nat_lt (129 + column d) 258 then goes_on_with part.second (129 + column d - 129)
    else part.first.at_start)) high
    ∙ ap (λ b. if b then goes_on_with part.second (129 + column d - 129)
    else part.first.at_start) low
    ∙ ap (goes_on_with part.second) back
    ∙ goes_on_in_column part.second d

starts_one : (x y n g : Bool) → IsTrue (x || (y && n)) → g ≡ true → ((x && g) || (n && y)) ≡ true
starts_one true y n true t e = refl
starts_one true y n false t e = absurd cc
starts_one false true true g t e = refl
starts_one false false n g t e = absurd cc
starts_one false true false g t e = absurd cc

starts_first : (x y n : Bool) → IsTrue (x || (y && n)) → (x || (n && y)) ≡ true
starts_first true y n t = refl
starts_first false true true t = refl
starts_first false false n t = absurd cc
starts_first false true false t = absurd cc

-- a pattern is listed where it can begin by both characters
module _ (parts : List PrefixSets) (prefixes : PrefixIndex) (index : IsIndexOf parts prefixes)
    (part : PrefixSets) (k : ℕ) (there : slice_get parts k ≡ Some part)
    (inside : k < prefixes.count) where
  has_own : (row : ℕ) → row < 259 → has prefixes.rows row k ≡ belongs part row
  has_own row lt =
      index.bits row k lt (omega (arith, inside, index.sized.enough))
      ∙ ap (λ o. one_belongs o row) there

  has_first : (c : ℕ) → has prefixes.rows (first_row c) k ≡ begins_with part.first c
  has_first c =
      let low = column_in c in
      has_own (first_row c) (omega (arith, low)) ∙ first_belongs part c

  has_second : (d : ℕ) → has prefixes.rows (second_row d) k ≡ goes_on_with part.second d
  has_second d =
      let low = column_in d in
      has_own (second_row d) (omega (arith, low)) ∙ second_belongs part d

  has_start : has prefixes.rows start_row k ≡ part.first.at_start
  has_start = has_own start_row (omega arith)

  goes_on : (c d : ℕ) (o : Option FirstSet) → IfSome o (λ s. IsTrue (may_begin s (Some c) (Some d)))
      → goes_on_with o d ≡ true
  goes_on c d None t = refl
  goes_on c d (Some s) t = by_char (begins_with s d) s.at_start t
    where
      by_char : (x y : Bool) → IsTrue (x || (y && false)) → x ≡ true
      by_char true y t = refl
      by_char false true t = absurd cc
      by_char false false t = absurd cc

  pub is_listed : (b o1 o2 : Option ℕ) → IsTrue (may_begin part.first b o1)
      → IfSome part.second (λ s. IsTrue (may_begin s o1 o2)) → may_start prefixes b o1 o2 k ≡ true
  is_listed b None o2 first second = refl
  is_listed b (Some c) None first second =
      ap (λ z. z || (is_none b && has prefixes.rows start_row k)) (has_first c)
      ∙ ap (λ z. begins_with part.first c || (is_none b && z)) has_start
      ∙ starts_first (begins_with part.first c) part.first.at_start (is_none b) first
  is_listed b (Some c) (Some d) first second =
      ap (λ z. (z && has prefixes.rows (second_row d) k)
      || (is_none b && has prefixes.rows start_row k)) (has_first c)
      ∙ ap (λ z. (begins_with part.first c && z) || (is_none b && has prefixes.rows start_row k))
      (has_second d)
      ∙ ap (λ z. (begins_with part.first c && goes_on_with part.second d) || (is_none b && z))
      has_start
      ∙ starts_one (begins_with part.first c) part.first.at_start (is_none b)
      (goes_on_with part.second d) first (goes_on c d part.second second)

  pub left_out_matches : (tree : Tree) → ArePrefixSetsOfTree tree part → (haystack : Text) (i : ℕ)
      → may_start_at prefixes haystack i k ≡ false → (j : ℕ) → Matches haystack tree i j → ⊥
  left_out_matches tree of_tree h i off j m =
      let listed = is_listed (before h i) (after h i) (after h (suc i)) (of_tree.first h i j m)
      (by_second part.second of_tree.second) in
      true≢false (sym listed ∙ off)
    where
      by_second : (o : Option FirstSet) → IfSome o (AreSecondOfTree tree)
          → IfSome o (λ s. IsTrue (may_begin s (after h i) (after h (suc i))))
      by_second None reported = tt
      by_second (Some s) reported = reported h i j m

-- The addresses that the numbers of several patterns' places stand for, and what is stored at such
-- a number.
use Rattle.regex_lite_engine.proofs.Common.{◌≡◌, ℕ, zero, suc, ◌+◌, ◌-◌, ◌<◌, ◌≤◌, true, false}
use Rattle.regex_lite_engine.proofs.Common.{List, [], ◌∷◌, map, length, get_or, if◌then◌else◌}
use Rattle.regex_lite_engine.proofs.Common.{nat_lt, slice_get, Some, option_map, sym, refl, ap, ◌∙◌}
use Rattle.regex_lite_engine.proofs.Common.{subst, arith, nat_tests, Tree, IsRegular, Address}
use Rattle.regex_lite_engine.proofs.Common.{whole_places, Arrow, complete, with_arrows}
use Rattle.regex_lite_engine.proofs.Common.{renamed_arrow, renamed, in_pattern, HasTree, LeadsBelow}
use Rattle.regex_lite_engine.proofs.Common.{LeadInto, LeadsInto, written_out, pattern_table}
use Rattle.regex_lite_engine.proofs.Common.{patterns_table}
use Rattle.regex_lite_engine.specs.Graph.Places.{Place}
use Rattle.regex_lite_engine.proofs.laws.several.PartLemmas.{renamed_twice}
use Rattle.regex_lite_engine.proofs.count.PlaceCountLemmas.{length_pattern}
use Rattle.regex_lite_engine.proofs.nfa.write.NumberingLemmas.{IsAt, as_many}
use Rattle.regex_lite_engine.proofs.nfa.write.RenumberingLemmas.{numbering_of, is_at_number}
use Rattle.regex_lite_engine.proofs.nfa.write.RenumberingLemmas.{pattern_is, leads_below}
use Rattle.regex_lite_engine.proofs.graph.ListedAddressLemmas.{whole_addresses}
use Rattle.regex_lite_syntax.proofs.OptionLemmas.{not_there, same_some}
use Rattle.regex_lite_engine.proofs.nfa.write.SeveralRowLemmas.{before, total, length_table, placed}
use Rattle.regex_lite_engine.proofs.nfa.write.SeveralRowLemmas.{fits_in}

-- names that agree on the numbers to which a place leads
renamed_arrows_alike : {A : Type 0} (Part : ℕ → Type 0) (f g : ℕ → A)
    → ((q : ℕ) → Part q → f q ≡ g q) → (arrows : List (Arrow ℕ)) → LeadInto Part arrows
    → map (renamed_arrow f) arrows ≡ map (renamed_arrow g) arrows
renamed_arrows_alike Part f g alike [] into = refl
renamed_arrows_alike Part f g alike (arrow ∷ arrows) into =
    let here = alike arrow.to into.0 in
    let later = renamed_arrows_alike Part f g alike arrows into.1 in
    λ t. record { condition = arrow.condition; mark = arrow.mark; to = here t } ∷ later t

renamed_alike : {A : Type 0} (Part : ℕ → Type 0) (f g : ℕ → A)
    → ((q : ℕ) → Part q → f q ≡ g q) → (place : Place ℕ) → LeadsInto Part place
    → renamed f place ≡ renamed g place
renamed_alike Part f g alike complete into = refl
renamed_alike Part f g alike (with_arrows arrows) into =
    ap with_arrows (renamed_arrows_alike Part f g alike arrows into)

lead_up : (first end last : ℕ) → end ≤ last → (arrows : List (Arrow ℕ))
    → LeadInto (λ q. (first ≤ q) × (q < end)) arrows
    → LeadInto (λ q. (first ≤ q) × (q < last)) arrows
lead_up first end last le [] into = tt
lead_up first end last le (arrow ∷ arrows) into =
    ((into.0.0, omega (arith, into.0.1, le)), lead_up first end last le arrows into.1)

pub leads_up : (first end last : ℕ) → end ≤ last → (place : Place ℕ)
    → LeadsInto (λ q. (first ≤ q) × (q < end)) place
    → LeadsInto (λ q. (first ≤ q) × (q < last)) place
leads_up first end last le complete into = tt
leads_up first end last le (with_arrows arrows) into = lead_up first end last le arrows into

-- what a number stands for, where the first pattern has number k and its places begin at the base
abbrev name_from : List Tree → (k base : ℕ) → ℕ → Address
name_from [] k base q = []
name_from (tree ∷ trees) k base q =
    if nat_lt q (base + whole_places tree) then k ∷ get_or (whole_addresses tree) (q - base) []
    else name_from trees (suc k) (base + whole_places tree) q

if_less : {A : Type 0} (q n : ℕ) (x y : A) → q < n → (if nat_lt q n then x else y) ≡ x
if_less q n x y less =
    let test : nat_lt q n ≡ true = grind (arith, nat_tests) in
    ap (λ b. if b then x else y) test

if_not_less : {A : Type 0} (q n : ℕ) (x y : A) → n ≤ q → (if nat_lt q n then x else y) ≡ y
if_not_less q n x y le =
    let test : nat_lt q n ≡ false = grind (arith, nat_tests) in
    ap (λ b. if b then x else y) test

named : (trees : List Tree) (k base number : ℕ) (tree : Tree) → HasTree trees number tree → (q : ℕ)
    → q < whole_places tree
    → name_from trees k base (base + before trees number + q)
    ≡ (k + number) ∷ get_or (whole_addresses tree) q []
named [] k base number tree there q less = absurd (not_there there)
named (own ∷ trees) k base zero tree there q less =
    let same : own ≡ tree = same_some there in
    let few : q < whole_places own = subst (λ t. q < whole_places t) (sym same) less in
    let at : base + 0 + q - base ≡ q = omega arith in
    let number : k ≡ k + 0 = omega arith in
    if_less (base + 0 + q) (base + whole_places own)
    (k ∷ get_or (whole_addresses own) (base + 0 + q - base) [])
    (name_from trees (suc k) (base + whole_places own) (base + 0 + q)) (omega (arith, few))
    ∙ ap (λ n. k ∷ get_or (whole_addresses own) n []) at
    ∙ ap (λ t. k ∷ get_or (whole_addresses t) q []) same
    ∙ ap (λ n. n ∷ get_or (whole_addresses tree) q []) number
named (own ∷ trees) k base (suc number) tree there q less =
    let all = base + (whole_places own + before trees number) + q in
    let same : all ≡ base + whole_places own + before trees number + q = omega arith in
    let one_more : suc k + number ≡ k + suc number = omega arith in
    if_not_less all (base + whole_places own) (k ∷ get_or (whole_addresses own) (all - base) [])
    (name_from trees (suc k) (base + whole_places own) all) (omega arith)
    ∙ ap (name_from trees (suc k) (base + whole_places own)) same
    ∙ named trees (suc k) (base + whole_places own) number tree there q less
    ∙ ap (λ n. n ∷ get_or (whole_addresses tree) q []) one_more

module _ (trees : List Tree)
    (regular : (k : ℕ) (tree : Tree) → HasTree trees k tree → IsRegular tree)
  where
    abbrev table : List (Place ℕ)
    table = patterns_table trees 0

    pub name_of_patterns : ℕ → Address
    name_of_patterns = name_from trees 0 0

    pub many : length table ≡ total trees
    many = length_table trees 0

    pub many_addresses : (number : ℕ) (tree : Tree) → HasTree trees number tree
        → length (whole_addresses tree) ≡ whole_places tree
    many_addresses number tree there =
        sym
        (as_many (numbering_of 0 (whole_addresses tree)) (written_out tree) (whole_addresses tree)
        (pattern_table tree 0) (pattern_is tree (regular number tree there) 0))
        ∙ length_pattern tree 0

    pub name_at : (number : ℕ) (tree : Tree) → HasTree trees number tree → (q : ℕ)
        → q < whole_places tree
        → name_of_patterns (before trees number + q) ≡ number ∷ get_or (whole_addresses tree) q []
    unfolding name_of_patterns
    name_at number tree there q less =
        let same : before trees number + q ≡ 0 + before trees number + q = omega arith in
        let own : 0 + number ≡ number = omega arith in
        ap (name_from trees 0 0) same ∙ named trees 0 0 number tree there q less
        ∙ ap (λ n. n ∷ get_or (whole_addresses tree) q []) own

    pub record Stored (number : ℕ) (tree : Tree) (q : ℕ) (place : Place ℕ) : Type 0 where
      pub alike : in_pattern number (Some tree) (get_or (whole_addresses tree) q [])
          ≡ Some (renamed name_of_patterns place)
      pub inside : LeadsBelow (length table) place

    pub stored : (number : ℕ) (tree : Tree) → HasTree trees number tree → (q : ℕ) (place : Place ℕ)
        → q < whole_places tree → slice_get table (before trees number + q) ≡ Some place
        → Stored number tree q place
    stored number tree there q place few at = record {
      alike = ap (option_map (renamed (λ b. number ∷ b))) is_at.0
          ∙ ap Some (renamed_twice (λ n. get_or all (n - base) []) (λ b. number ∷ b) place)
          ∙ ap Some
          (renamed_alike Own (λ n. number ∷ get_or all (n - base) []) name_of_patterns same
          place is_at.1);
      inside = leads_below base (length table) place
          (leads_up base (base + length all) (length table) high place is_at.1);
    }
      where
        base : ℕ
        base = 0 + before trees number

        all : List Address
        all = whole_addresses tree

        Own : ℕ → Type 0
        Own n = (base ≤ n) × (n < base + length all)

        in_table : slice_get (pattern_table tree (0 + before trees number)) q ≡ Some place
        in_table = sym (placed trees 0 number tree there q few) ∙ at

        is_at : IsAt (numbering_of base all) (written_out tree) (get_or all q []) place
        is_at =
            is_at_number (numbering_of base all) (written_out tree) all (pattern_table tree base)
            (pattern_is tree (regular number tree there) base) q place in_table

        high : base + length all ≤ length table
        high =
            omega (arith, many, fits_in trees number tree there, many_addresses number tree there)

        same : (n : ℕ) → Own n → number ∷ get_or all (n - base) [] ≡ name_of_patterns n
        same n inside =
            let at : before trees number + (n - base) ≡ n = omega (arith, inside.0) in
            sym (name_at number tree there (n - base)
            (omega (arith, inside.0, inside.1, many_addresses number tree there)))
            ∙ ap name_of_patterns at

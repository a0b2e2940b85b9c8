-- The layout of the whole pattern is the written-out one, with numbers in the place of addresses.
use Rattle.regex_lite_engine.proofs.Common.{◌≡◌, ℕ, zero, suc, ◌+◌, ◌-◌, ◌^◌, ◌<◌, ◌≤◌, List, []}
use Rattle.regex_lite_engine.proofs.Common.{◌∷◌, ◌++◌, map, length, get_or, slice_get, Some, None}
use Rattle.regex_lite_engine.proofs.Common.{option_map, sym, refl, ap, ◌∙◌, subst, append_assoc}
use Rattle.regex_lite_engine.proofs.Common.{arith, length-append, length-map, slice_get-map, Tree}
use Rattle.regex_lite_engine.proofs.Common.{IsRegular, Address, entry, Arrow, complete, with_arrows}
use Rattle.regex_lite_engine.proofs.Common.{reading_of, stack_bound_of, IsRenumbered, IsNumberOf}
use Rattle.regex_lite_engine.proofs.Common.{Content, place_of, LeadBelow, LeadsBelow, LeadInto}
use Rattle.regex_lite_engine.proofs.Common.{LeadsInto, place_at, whole, end_address, start_address}
use Rattle.regex_lite_engine.proofs.Common.{written_out, pattern_layout, pattern_table}
use Rattle.std.proofs.Math.Seq.{get_or-append_seam}
use Rattle.regex_lite_engine.specs.Graph.Places.{Place}
use Rattle.regex_lite_engine.specs.Graph.Stored.{IsClosed}
use Rattle.regex_lite_engine.specs.declared.nfa.place.Place as code
use Rattle.regex_lite_engine.proofs.graph.AddressLemmas.{in_part, addresses}
use Rattle.regex_lite_engine.proofs.nfa.write.NumberingLemmas.{Numbering, Stands, InRow, IsAt}
use Rattle.regex_lite_engine.proofs.nfa.write.NumberingLemmas.{AreAt, Fits, as_many, part_at}
use Rattle.regex_lite_engine.proofs.nfa.write.NumberedTreeLemmas.{fits_capture, fits_tree}
use Rattle.regex_lite_engine.proofs.nfa.write.ApartLemmas.{Apart, apart_first, apart_part}
use Rattle.regex_lite_engine.proofs.nfa.write.ApartLemmas.{apart_get}
use Rattle.regex_lite_engine.proofs.nfa.write.ApartAddressLemmas.{InPart, each_in_part}
use Rattle.regex_lite_engine.proofs.nfa.write.ApartAddressLemmas.{apart_addresses}
use Rattle.regex_lite_engine.proofs.graph.ListedAddressLemmas.{whole_addresses, listed_whole}
use Rattle.regex_lite_engine.proofs.graph.AmongLemmas.{address_number}
use Rattle.regex_lite_syntax.proofs.OptionLemmas.{not_there}

-- numbers from the base on stand for the addresses of a list in its order
abbrev pub numbering_of : (base : ℕ) → List Address → Numbering
numbering_of base all = record {
  address = λ n. get_or all (n - base) [];
  first = base;
  end = base + length all;
}

row_of : (base : ℕ) (all before list : List Address) → all ≡ before ++ in_part 0 list
    → InRow (numbering_of base all) (1 ∷ []) (base + length before) list
row_of base all before [] e = tt
row_of base all before (a ∷ list) e =
    let rest = in_part 0 list in
    let so_far = before ++ (1 ∷ a) ∷ [] in
    let long = ap length e ∙ length-append before ((1 ∷ a) ∷ rest) in
    let longer = length-append before ((1 ∷ a) ∷ []) in
    let found = get_or-append_seam before (1 ∷ a) rest [] in
    let own : base + length before - base ≡ length before = omega arith in
    let here = ap (λ n. get_or all n []) own ∙ ap (λ x. get_or x (length before) []) e ∙ found in
    let moved = e ∙ sym (append_assoc before ((1 ∷ a) ∷ []) rest) in
    let later = row_of base all so_far list moved in
    let same : base + length so_far ≡ base + length before + 1 = omega (arith, longer) in (
      (here, (omega arith, omega (arith, long))),
      subst (λ n. InRow (numbering_of base all) (1 ∷ []) n list) same later,
    )

pub is_at_number : (by : Numbering) (content : Address → Content) (list : List Address)
    (ps : List (Place ℕ)) → AreAt by content list ps → (q : ℕ) (place : Place ℕ)
    → slice_get ps q ≡ Some place → IsAt by content (get_or list q []) place
is_at_number by content [] [] r q place e = absurd (not_there e)
is_at_number by content [] (p ∷ ps) r q place e = absurd r
is_at_number by content (a ∷ list) [] r q place e = absurd r
is_at_number by content (a ∷ list) (p ∷ ps) r zero place e =
    let same : p ≡ place = cc in subst (λ x. IsAt by content a x) same r.0
is_at_number by content (a ∷ list) (p ∷ ps) r (suc q) place e =
    is_at_number by content list ps r.1 q place e

lead_below : (first end : ℕ) (arrows : List (Arrow ℕ))
    → LeadInto (λ q. (first ≤ q) × (q < end)) arrows → LeadBelow end arrows
lead_below first end [] r = tt
lead_below first end (arrow ∷ arrows) r = (r.0.1, lead_below first end arrows r.1)

pub leads_below : (first end : ℕ) (place : Place ℕ)
    → LeadsInto (λ q. (first ≤ q) × (q < end)) place → LeadsBelow end place
leads_below first end complete r = tt
leads_below first end (with_arrows arrows) r = lead_below first end arrows r

pub apart_whole : (tree : Tree) → Apart (whole_addresses tree)
apart_whole tree =
    let list = addresses (whole tree) in
    let inner = apart_part 0 list (apart_addresses (whole tree)) in
    let in_tree = each_in_part 0 list in
    apart_first end_address (InPart 0) (λ r. omega arith) (in_part 0 list) in_tree inner

module _ (tree : Tree) (regular : IsRegular tree) where
  abbrev all : List Address
  all = whole_addresses tree

  abbrev content : Address → Content
  content = place_at (whole tree) (1 ∷ []) end_address

  module _ (base : ℕ) where
    abbrev by : Numbering
    by = numbering_of base all

    pub pattern_fits : Fits by content (addresses (whole tree)) (entry (whole tree) (1 ∷ []))
        (pattern_layout tree base)
    pattern_fits =
        let in_row = row_of base all (end_address ∷ []) (addresses (whole tree)) refl in
        let inner = fits_tree by tree regular in
        let fits = fits_capture by 0 None tree inner (1 ∷ []) end_address (base + 1) base in
        let here : base - base ≡ 0 = omega arith in
        fits (ap (λ n. get_or all n []) here, (omega arith, omega arith)) in_row

    -- the pattern is entered where it starts
    pub pattern_start : Stands by (pattern_layout tree base).1 start_address
    pattern_start = pattern_fits.0

    pub pattern_is : AreAt by (written_out tree) all (pattern_table tree base)
    pattern_is =
        let list = addresses (whole tree) in
        let inner = part_at by (written_out tree) content 0 list (pattern_layout tree base).0 in
        ((refl, tt), inner (λ a. refl) pattern_fits.1)

  -- from number 0 on
  at_zero : (n : ℕ) → (by 0).address n ≡ get_or all n []
  at_zero n = let same : n - 0 ≡ n = omega arith in ap (λ m. get_or all m []) same

  as_long : length (pattern_table tree 0) ≡ length all
  as_long = as_many (by 0) (written_out tree) all (pattern_table tree 0) (pattern_is 0)

  place_is : (q : ℕ) (place : Place ℕ) → slice_get (pattern_table tree 0) q ≡ Some place
      → IsAt (by 0) (written_out tree) (get_or all q []) place
  place_is = is_at_number (by 0) (written_out tree) all (pattern_table tree 0) (pattern_is 0)

  apart_numbers : (p q : ℕ) → p < length (pattern_table tree 0) → q < length (pattern_table tree 0)
      → (by 0).address p ≡ (by 0).address q → p ≡ q
  apart_numbers p q l m same =
      let less_p : p < length all = omega (arith, as_long) in
      let less_q : q < length all = omega (arith, as_long) in
      apart_get all (apart_whole tree) p q less_p less_q (sym (at_zero p) ∙ same ∙ at_zero q)

  each_numbered : (a : Address) (place : Place Address) → written_out tree a ≡ Some place
      → (q : ℕ) × (q < length (pattern_table tree 0)) × ((by 0).address q ≡ a)
  each_numbered a place e =
      let number = address_number a all (listed_whole tree a place e) in
      (number.0, omega (arith, as_long, number.1), at_zero number.0 ∙ number.2)

  arrows_inside : (q : ℕ) (place : Place ℕ) → slice_get (pattern_table tree 0) q ≡ Some place
      → LeadsBelow (length (pattern_table tree 0)) place
  arrows_inside q place e =
      let same : 0 + length all ≡ length (pattern_table tree 0) = omega (arith, as_long) in
      subst (λ n. LeadsBelow n place) same
      (leads_below 0 (0 + length all) place (place_is q place e).1)

  pub whole_names : ℕ → Address
  whole_names = (by 0).address

  pub renumbered : IsRenumbered (written_out tree) whole_names (pattern_table tree 0)
  unfolding whole_names
  renumbered = record {
    apart = apart_numbers;
    alike = λ q place e. ap (written_out tree) (at_zero q) ∙ (place_is q place e).0;
    each = each_numbered;
    inside = arrows_inside;
  }

  pub starts : IsNumberOf whole_names (pattern_table tree 0) start_address (pattern_layout tree 0).1
  unfolding whole_names
  starts = record {
    inside = omega (arith, as_long, (pattern_fits 0).0.1.1);
    same = (pattern_fits 0).0.0;
  }

  module _ (places : List code.Place) (table_is : map place_of places ≡ pattern_table tree 0) where
    as_many_places : length (pattern_table tree 0) ≡ length places
    as_many_places = ap length (sym table_is) ∙ length-map places place_of

    -- a table with these places leads to its own places
    pub closed : (arrows reading : ℕ) → length places < 2 ^ 32 → arrows < 2 ^ 34
        → reading < length places → reading_of (pattern_table tree 0) ≡ reading
        → stack_bound_of (pattern_table tree 0) < length places → IsClosed places arrows reading
    closed arrows reading few_places few_arrows few_reading each_reading few_stack_bound = record {
      each_inside = λ q place e. (
          let stored = ap (λ table. slice_get table q) (sym table_is)
          ∙ slice_get-map place_of places q ∙ ap (option_map place_of) e in
          subst (λ n. LeadsBelow n (place_of place)) as_many_places
          (renumbered.inside q (place_of place) stored)
          );
      few_places = few_places;
      few_arrows = few_arrows;
      few_reading = λ some. few_reading;
      each_reading = ap reading_of table_is ∙ each_reading;
      few_stack_bound = λ some. omega (arith, ap stack_bound_of table_is, few_stack_bound);
    }

    -- and it has the place where the pattern starts
    pub start_inside : (start : ℕ) → start ≡ (pattern_layout tree 0).1 → start < length places
    start_inside start start_is = omega (arith, start_is, starts.inside, as_many_places)

-- Ways through a table of numbered places are ways through the places at the addresses that the
-- numbers stand for.
use Rattle.regex_lite_engine.proofs.Common.{◌≡◌, ℕ, zero, suc, ◌<◌, List, [], ◌∷◌, length, IsTrue}
use Rattle.regex_lite_engine.proofs.Common.{slice_get, Some, None, Option, option_map, unwrap_or}
use Rattle.regex_lite_engine.proofs.Common.{sym, refl, ap, ◌∙◌, subst, arith, slice_get-map, Text}
use Rattle.regex_lite_engine.proofs.Common.{Tree, Address, Arrow, complete, with_arrows}
use Rattle.regex_lite_engine.proofs.Common.{renamed_arrow, renamed, taken, arrived, arrow_taken}
use Rattle.regex_lite_engine.proofs.Common.{step_from, step, IsRenumbered, IsNumberOf, Content}
use Rattle.regex_lite_engine.proofs.Common.{LeadBelow, LeadsBelow, LeadInto, LeadsInto, Leads}
use Rattle.regex_lite_engine.proofs.Common.{IsWay, end_address, start_address, written_out}
use Rattle.regex_lite_engine.proofs.Common.{place_of_pattern, IsWayThrough, marked, over}
use Rattle.regex_lite_engine.proofs.Common.{mark_of_arrow, mark_of, marks_along, place_with}
use Rattle.regex_lite_engine.proofs.Common.{is_complete, numbered_step, IsNumberedWay}
use Rattle.regex_lite_engine.specs.Graph.Places.{Place}
use Rattle.regex_lite_engine.proofs.laws.search.NamedWayLemmas.{known_on, unnamed_walk}
use Rattle.regex_lite_engine.proofs.laws.search.NamedWayLemmas.{named_way, unnamed_way}
use Rattle.regex_lite_engine.proofs.laws.search.OneEndLemmas.{one_end}
use Rattle.regex_lite_syntax.proofs.OptionLemmas.{same_some}

place_within : {X : Type 0} (list : List X) (q : ℕ) (other : X) → q < length list
    → slice_get list q ≡ Some (unwrap_or (slice_get list q) other)
place_within [] q other less = absurd (omega (arith, less))
place_within (x ∷ list) zero other less = refl
place_within (x ∷ list) (suc q) other less = place_within list q other (omega (arith, less))

-- a place leads as its renamed one does
abbrev pub name_pair : {A B : Type 0} → (A → B) → A × ℕ → B × ℕ
name_pair name n = (name n.0, n.1)

arrived_renamed : {A B : Type 0} (name : A → B) (a : A) (o : Option ℕ)
    → arrived (name a) o ≡ option_map (name_pair name) (arrived a o)
arrived_renamed name a None = refl
arrived_renamed name a (Some j) = refl

taken_renamed : {A B : Type 0} (haystack : Text) (name : A → B) (i : ℕ) (o : Option (Arrow A))
    → arrow_taken haystack i (option_map (renamed_arrow name) o)
    ≡ option_map (name_pair name) (arrow_taken haystack i o)
taken_renamed haystack name i None = refl
taken_renamed haystack name i (Some arrow) =
    arrived_renamed name arrow.to (taken haystack arrow.condition i)

pub step_renamed : {A B : Type 0} (haystack : Text) (name : A → B) (place : Place A) (i k : ℕ)
    → step_from haystack (renamed name place) i k
    ≡ option_map (name_pair name) (step_from haystack place i k)
step_renamed haystack name complete i k = refl
step_renamed haystack name (with_arrows arrows) i k =
    ap (λ o. arrow_taken haystack i o) (slice_get-map (renamed_arrow name) arrows k)
    ∙ taken_renamed haystack name i (slice_get arrows k)

mark_renamed_arrow : {A B : Type 0} (name : A → B) (o : Option (Arrow A))
    → mark_of_arrow (option_map (renamed_arrow name) o) ≡ mark_of_arrow o
mark_renamed_arrow name None = refl
mark_renamed_arrow name (Some arrow) = refl

pub mark_renamed : {A B : Type 0} (name : A → B) (place : Place A) (k : ℕ)
    → mark_of (renamed name place) k ≡ mark_of place k
mark_renamed name complete k = refl
mark_renamed name (with_arrows arrows) k =
    ap mark_of_arrow (slice_get-map (renamed_arrow name) arrows k)
    ∙ mark_renamed_arrow name (slice_get arrows k)

-- where a match is complete under other names, it is complete
renamed_complete : (name : ℕ → Address) (place : Place ℕ) → renamed name place ≡ complete
    → IsTrue (is_complete place)
renamed_complete name complete e = refl
renamed_complete name (with_arrows arrows) e = absurd cc

is_complete_place : (place : Place ℕ) → IsTrue (is_complete place) → place ≡ complete
is_complete_place complete e = refl
is_complete_place (with_arrows arrows) e = absurd cc

into : (Part : ℕ → Type 0) (arrows : List (Arrow ℕ)) (k : ℕ) (arrow : Arrow ℕ)
    → LeadInto Part arrows → slice_get arrows k ≡ Some arrow → Part arrow.to
into Part [] k arrow all e = absurd cc
into Part (first ∷ rest) zero arrow all e =
    subst (λ (a : Arrow ℕ). Part a.to) (same_some e) all.0
into Part (first ∷ rest) (suc k) arrow all e = into Part rest k arrow all.1 e

-- part of the table has places that stand at addresses, under these names for its numbers, and no
-- arrow leads out of it
pub record IsPart (content : Address → Content) (name : ℕ → Address) (table : List (Place ℕ))
    (Part : ℕ → Type 0) : Type 0 where
  pub within : (q : ℕ) → Part q → q < length table
  pub apart : (p q : ℕ) → Part p → Part q → name p ≡ name q → p ≡ q
  pub alike : (q : ℕ) (place : Place ℕ) → Part q → slice_get table q ≡ Some place
      → content (name q) ≡ Some (renamed name place)
  pub inside : (q : ℕ) (place : Place ℕ) → Part q → slice_get table q ≡ Some place
      → LeadsInto Part place

-- the number is one of the part, and stands for the address
pub record IsPartNumber (name : ℕ → Address) (Part : ℕ → Type 0) (a : Address) (q : ℕ)
    : Type 0 where
  pub inside : Part q
  pub same : name q ≡ a

lead_into : (n : ℕ) (arrows : List (Arrow ℕ)) → LeadBelow n arrows → LeadInto (λ q. q < n) arrows
lead_into n [] below = tt
lead_into n (arrow ∷ arrows) below = (below.0, lead_into n arrows below.1)

leads_into : (n : ℕ) (place : Place ℕ) → LeadsBelow n place → LeadsInto (λ q. q < n) place
leads_into n complete below = tt
leads_into n (with_arrows arrows) below = lead_into n arrows below

-- the whole table is one
pub whole_part : (content : Address → Content) (name : ℕ → Address) (table : List (Place ℕ))
    → IsRenumbered content name table → IsPart content name table (λ q. q < length table)
whole_part content name table r = record {
  within = λ q less. less;
  apart = r.apart;
  alike = λ q place less e. r.alike q place e;
  inside = λ q place less e. leads_into (length table) place (r.inside q place e);
}

pub whole_number : (name : ℕ → Address) (table : List (Place ℕ)) (a : Address) (q : ℕ)
    → IsNumberOf name table a q → IsPartNumber name (λ q. q < length table) a q
whole_number name table a q is = record { inside = is.inside; same = is.same }

-- an arrow leads from a place of the part to one of the part
module _ (haystack : Text) (table : List (Place ℕ)) (Part : ℕ → Type 0)
    (within : (q : ℕ) → Part q → q < length table)
    (inside : (q : ℕ) (place : Place ℕ) → Part q → slice_get table q ≡ Some place
    → LeadsInto Part place) where
  pub stays_within : (x y : ℕ × ℕ) (k : ℕ) → Part x.0 → numbered_step table haystack x k ≡ Some y
      → Part y.0
  stays_within x y k known s =
      by_place (place_with table x.0) (place_within table x.0 (with_arrows []) (within x.0 known)) s
    where
      by_result : (a : ℕ) (o : Option ℕ) → Part a → arrived a o ≡ Some y → Part y.0
      by_result a None low e = absurd cc
      by_result a (Some j) low e =
          let same : (a, j) ≡ y = same_some e in
          subst (λ (z : ℕ × ℕ). Part z.0) same low

      by_arrow : (arrows : List (Arrow ℕ)) → slice_get table x.0 ≡ Some (with_arrows arrows)
          → (o : Option (Arrow ℕ)) → slice_get arrows k ≡ o → arrow_taken haystack x.1 o ≡ Some y
          → Part y.0
      by_arrow arrows at None there e = absurd cc
      by_arrow arrows at (Some arrow) there e =
          by_result arrow.to (taken haystack arrow.condition x.1)
          (into Part arrows k arrow (inside x.0 (with_arrows arrows) known at) there) e

      by_place : (place : Place ℕ) → slice_get table x.0 ≡ Some place
          → step_from haystack place x.1 k ≡ Some y → Part y.0
      by_place complete at e = absurd cc
      by_place (with_arrows arrows) at e = by_arrow arrows at (slice_get arrows k) refl e

  -- and so do arrows one after another
  pub leads_within : (ks : List ℕ) (x y : ℕ × ℕ) → Part x.0
      → Leads (ℕ × ℕ) (numbered_step table haystack) x ks y → Part y.0
  leads_within [] x y known e = subst (λ (z : ℕ × ℕ). Part z.0) e known
  leads_within (k ∷ ks) x y known (l, s, rest) =
      leads_within ks l y (stays_within x l k known s) rest

module _ (tree : Tree) (haystack : Text) (table : List (Place ℕ)) (start : ℕ)
    (name : ℕ → Address) (Part : ℕ → Type 0) (r : IsPart (written_out tree) name table Part)
    (first : IsPartNumber name Part start_address start) where
  abbrev Known : ℕ × ℕ → Type 0
  Known n = Part n.0

  abbrev in_table : ℕ × ℕ → ℕ → Option (ℕ × ℕ)
  in_table = numbered_step table haystack

  abbrev in_pattern : Address × ℕ → ℕ → Option (Address × ℕ)
  in_pattern = step haystack (place_of_pattern tree)

  abbrev named : ℕ × ℕ → Address × ℕ
  named = name_pair name

  here : (q : ℕ) → Part q → slice_get table q ≡ Some (place_with table q)
  here q known = place_within table q (with_arrows []) (r.within q known)

  written_at : (q : ℕ) → Part q
      → written_out tree (name q) ≡ Some (renamed name (place_with table q))
  written_at q known = r.alike q (place_with table q) known (here q known)

  place_named : (q : ℕ) → Part q
      → place_of_pattern tree (name q) ≡ renamed name (place_with table q)
  place_named q less = ap (λ o. unwrap_or o (with_arrows [])) (written_at q less)

  alike : (x : ℕ × ℕ) (k : ℕ) → Known x
      → in_pattern (named x) k ≡ option_map named (in_table x k)
  alike x k less =
      ap (λ p. step_from haystack p x.1 k) (place_named x.0 less)
      ∙ step_renamed haystack name (place_with table x.0) x.1 k

  stays : (x y : ℕ × ℕ) (k : ℕ) → Known x → in_table x k ≡ Some y → Known y
  stays x y k known s = stays_within haystack table Part r.within r.inside x y k known s

  apart : (x y : ℕ × ℕ) → Known x → Known y → named x ≡ named y → x ≡ y
  apart x y p q e =
      let there = r.apart x.0 y.0 p q (ap (λ (z : Address × ℕ). z.0) e) in
      λ t. (there t, (e t).1)

  pub marks_named : (ks : List ℕ) (x : ℕ × ℕ) → Known x
      → marks_along haystack (place_of_pattern tree) (Some (named x)) ks
      ≡ marks_along haystack (place_with table) (Some x) ks
  marks_named [] x known = refl
  marks_named (k ∷ ks) x known =
      let here = ap (λ p. marked (mark_of p k) x.1) (place_named x.0 known)
      ∙ ap (λ o. marked o x.1) (mark_renamed name (place_with table x.0) k) in
      let later = ap (λ o. marks_along haystack (place_of_pattern tree) o ks) (alike x k known)
      ∙ by_step (in_table x k) refl (λ y s. marks_named ks y (stays x y k known s)) in
      λ t. over (later t) (here t)
    where
      none_marked : (ls : List ℕ)
          → marks_along haystack (place_of_pattern tree) None ls
          ≡ marks_along haystack (place_with table) None ls
      none_marked [] = refl
      none_marked (l ∷ ls) = refl

      by_step : (o : Option (ℕ × ℕ)) → in_table x k ≡ o
          → ((y : ℕ × ℕ) → in_table x k ≡ Some y
          → marks_along haystack (place_of_pattern tree) (Some (named y)) ks
          ≡ marks_along haystack (place_with table) (Some y) ks)
          → marks_along haystack (place_of_pattern tree) (option_map named o) ks
          ≡ marks_along haystack (place_with table) o ks
      by_step None e on = none_marked ks
      by_step (Some y) e on = on y e

  pub begins : (i : ℕ) → (start_address, i) ≡ named (start, i)
  begins i = ap (λ a. (a, i)) (sym first.same)

  -- a way through the pattern, with numbers
  pub in_numbers : (i j : ℕ) (ks : List ℕ) → IsWayThrough tree haystack i ks j
      → (q : ℕ) × IsNumberedWay table haystack start i ks q j
  in_numbers i j ks is =
      let moved = subst (λ n. IsWay (Address × ℕ) in_pattern n ks (end_address, j)) (begins i) is in
      let walk = unnamed_walk in_table in_pattern named Known stays alike apart ks (start, i)
      (end_address, j) first.inside moved.0 in
      let known = known_on in_table in_pattern named Known stays alike apart ks (start, i) walk.0
      first.inside walk.2 in
      let way = unnamed_way in_table in_pattern named Known stays alike apart ks (start, i) walk.0
      first.inside walk.2 moved.1 in
      let at : name walk.0.0 ≡ end_address = ap (λ (z : Address × ℕ). z.0) walk.1 in
      let position : walk.0.1 ≡ j = ap (λ (z : Address × ℕ). z.1) walk.1 in
      let written = sym (written_at walk.0.0 known) ∙ ap (written_out tree) at in
      let ends = renamed_complete name (place_with table walk.0.0) (same_some written) in (
        walk.0.0,
        record {
          is_way = subst (λ n. IsWay (ℕ × ℕ) in_table (start, i) ks (walk.0.0, n)) position way;
          ends = ends;
        },
      )

  -- and the other way round
  pub in_addresses : (i q j : ℕ) (ks : List ℕ) → IsNumberedWay table haystack start i ks q j
      → IsWayThrough tree haystack i ks j
  in_addresses i q j ks numbered =
      let way = numbered.is_way in
      let is_end = is_complete_place (place_with table q) numbered.ends in
      let known = known_on in_table in_pattern named Known stays alike apart ks (start, i) (q, j)
      first.inside way.0 in
      let there = named_way in_table in_pattern named Known stays alike apart ks (start, i) (q, j)
      first.inside way in
      let written = written_at q known ∙ ap (λ p. Some (renamed name p)) is_end in
      let at : name q ≡ end_address = one_end tree (name q) written in
      let ended =
      subst (λ a. IsWay (Address × ℕ) in_pattern (named (start, i)) ks (a, j)) at there in
      subst (λ n. IsWay (Address × ℕ) in_pattern n ks (end_address, j)) (sym (begins i)) ended

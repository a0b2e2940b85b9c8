-- Of a table that stands for several patterns, the places of one pattern stand for that pattern.
use Rattle.regex_lite_engine.proofs.Common.{◌≡◌, ℕ, ◌<◌, List, [], ◌∷◌, map, length, slice_get}
use Rattle.regex_lite_engine.proofs.Common.{Some, sym, refl, ap, ◌∙◌, Tree, Address, Arrow}
use Rattle.regex_lite_engine.proofs.Common.{complete, with_arrows, renamed_arrow, renamed}
use Rattle.regex_lite_engine.proofs.Common.{IsRenumbered, IsNumberOf, in_pattern, side_by_side}
use Rattle.regex_lite_engine.proofs.Common.{HasTree, start_of, LeadBelow, LeadsBelow, LeadInto}
use Rattle.regex_lite_engine.proofs.Common.{LeadsInto, start_address, written_out}
use Rattle.regex_lite_syntax.proofs.ListLemmas.{same_head, same_tail}
use Rattle.regex_lite_engine.specs.Graph.Places.{Place}
use Rattle.regex_lite_engine.proofs.laws.search.NamedWayLemmas.{mapped_back}
use Rattle.regex_lite_engine.proofs.laws.search.NumberedWayLemmas.{IsPart, IsPartNumber}

renamed_arrows_twice : {A B C : Type 0} (f : A → B) (g : B → C) (arrows : List (Arrow A))
    → map (renamed_arrow g) (map (renamed_arrow f) arrows)
    ≡ map (renamed_arrow (λ a. g (f a))) arrows
renamed_arrows_twice f g [] = refl
renamed_arrows_twice f g (arrow ∷ arrows) =
    ap (λ z. renamed_arrow (λ a. g (f a)) arrow ∷ z) (renamed_arrows_twice f g arrows)

pub renamed_twice : {A B C : Type 0} (f : A → B) (g : B → C) (place : Place A)
    → renamed g (renamed f place) ≡ renamed (λ a. g (f a)) place
renamed_twice f g complete = refl
renamed_twice f g (with_arrows arrows) = ap with_arrows (renamed_arrows_twice f g arrows)

renamed_arrows_same : {A : Type 0} (arrows : List (Arrow A))
    → map (renamed_arrow (λ a. a)) arrows ≡ arrows
renamed_arrows_same [] = refl
renamed_arrows_same (arrow ∷ arrows) = ap (λ z. arrow ∷ z) (renamed_arrows_same arrows)

renamed_same : {A : Type 0} (place : Place A) → renamed (λ a. a) place ≡ place
renamed_same complete = refl
renamed_same (with_arrows arrows) = ap with_arrows (renamed_arrows_same arrows)

abbrev arrows_in : {A : Type 0} → Place A → List (Arrow A)
arrows_in complete = []
arrows_in (with_arrows arrows) = arrows

-- the address in its pattern
abbrev pub rest_of : Address → Address
rest_of [] = []
rest_of (number ∷ a) = a

module _ (trees : List Tree) (number : ℕ) (tree : Tree) (there : HasTree trees number tree)
    (name : ℕ → Address) (table : List (Place ℕ))
    (r : IsRenumbered (side_by_side trees) name table) where
  -- the numbers that stand for places of the pattern
  abbrev pub InPattern : ℕ → Type 0
  InPattern q = (q < length table) × ((a : Address) × (name q ≡ number ∷ a))

  abbrev pub name_in_pattern : ℕ → Address
  name_in_pattern q = rest_of (name q)

  record Written (a : Address) (place : Place ℕ) : Type 0 where
    own : Place Address
    is : written_out tree a ≡ Some own
    same : renamed (λ b. number ∷ b) own ≡ renamed name place

  written : (q : ℕ) (place : Place ℕ) (a : Address) → name q ≡ number ∷ a
      → slice_get table q ≡ Some place → Written a place
  written q place a e at =
      let here : in_pattern number (Some tree) a ≡ Some (renamed name place)
      = sym (ap (λ o. in_pattern number o a) there) ∙ ap (side_by_side trees) (sym e)
      ∙ r.alike q place at in
      let back =
      mapped_back (renamed (λ b. number ∷ b)) (written_out tree a) (renamed name place) here in
      record { own = back.0; is = back.1; same = back.2 }

  own_place : (own : Place Address) (place : Place ℕ)
      → renamed (λ b. number ∷ b) own ≡ renamed name place → own ≡ renamed name_in_pattern place
  own_place own place e =
      sym (renamed_same own) ∙ sym (renamed_twice (λ b. number ∷ b) rest_of own)
      ∙ ap (renamed rest_of) e ∙ renamed_twice name rest_of place

  lead_into : (own : List (Arrow Address)) (arrows : List (Arrow ℕ))
      → map (renamed_arrow (λ b. number ∷ b)) own ≡ map (renamed_arrow name) arrows
      → LeadBelow (length table) arrows → LeadInto InPattern arrows
  lead_into own [] e below = tt
  lead_into [] (arrow ∷ arrows) e below = absurd cc
  lead_into (one ∷ own) (arrow ∷ arrows) e below =
      let to = ap (λ (z : Arrow Address). z.to) (same_head e) in
      ((below.0, (one.to, sym to)), lead_into own arrows (same_tail e) below.1)

  leads_into : (own : Place Address) (place : Place ℕ)
      → renamed (λ b. number ∷ b) own ≡ renamed name place → LeadsBelow (length table) place
      → LeadsInto InPattern place
  leads_into own complete e below = tt
  leads_into complete (with_arrows arrows) e below = absurd cc
  leads_into (with_arrows own) (with_arrows arrows) e below =
      lead_into own arrows (ap arrows_in e) below

  pub part_of_list : IsPart (written_out tree) name_in_pattern table InPattern
  part_of_list = record {
    within = λ q known. known.0;
    apart = λ p q known other same. (
        let a : name p ≡ number ∷ known.1.0 = known.1.1 in
        let b : name q ≡ number ∷ other.1.0 = other.1.1 in
        let rest = sym (ap rest_of a) ∙ same ∙ ap rest_of b in
        r.apart p q known.0 other.0 (a ∙ ap (λ z. number ∷ z) rest ∙ sym b));
    alike = λ q place known at. (
        let w = written q place known.1.0 known.1.1 at in
        ap (λ z. written_out tree (rest_of z)) known.1.1 ∙ w.is
        ∙ ap Some (own_place w.own place w.same));
    inside = λ q place known at. (
        let w = written q place known.1.0 known.1.1 at in
        leads_into w.own place w.same (r.inside q place at));
  }

  pub entry_of_part : (entry : ℕ) → IsNumberOf name table (start_of number) entry
      → IsPartNumber name_in_pattern InPattern start_address entry
  entry_of_part entry is = record {
    inside = (is.inside, (start_address, is.same));
    same = ap rest_of is.same;
  }

-- How many characters a way reads at most, where each arrow leads to a lower number; and the
-- position before a character.
use Rattle.regex_lite_meta.proofs.Common.{◌≡◌, ℕ, zero, suc, ◌+◌, ◌-◌, ◌<◌, ◌≤◌, Bool, true, false}
use Rattle.regex_lite_meta.proofs.Common.{List, [], ◌∷◌, length, take, map, slice_get, Some, None}
use Rattle.regex_lite_meta.proofs.Common.{Option, sym, refl, ap, ◌∙◌, subst, arith, All, IsUtf8}
use Rattle.regex_lite_meta.proofs.Common.{chars, IsCharBoundary, Text, offset, position_at, IsHere}
use Rattle.regex_lite_meta.proofs.Common.{Here, len_utf8, place_of, slice_get_within}
use Rattle.std.proofs.Common.{if◌then◌else◌, unwrap_or, get_or, drop}
use Rattle.std.proofs.lemmas.List.{drop-take, take-take}
use Rattle.std.proofs.Math.Seq.{drop-cons}
use Rattle.std.proofs.lemmas.List.Sums.{sum_by-cons, sum_by-take-drop, sum_by-take-le, sum_by_more}
use Rattle.std.proofs.lemmas.Option.{unwrap_or-slice_get}
use Rattle.regex_lite_syntax.proofs.OptionLemmas.{not_there, same_some}
use Rattle.regex_lite_syntax.specs.Text.{after, before}
use Rattle.regex_lite_syntax.specs.declared.class.ClassRange.{ClassRange}
use Rattle.regex_lite_syntax.specs.Tree.Looks.{holds_between}
use Rattle.regex_lite_engine.specs.Graph.Places.{Arrow, Condition, Place, arrived, arrow_taken}
use Rattle.regex_lite_engine.specs.Graph.Places.{complete, condition_reads, free, go, holding}
use Rattle.regex_lite_engine.specs.Graph.Places.{one_of, read_past, reading, reading_arrows}
use Rattle.regex_lite_engine.specs.Graph.Places.{reading_count, reading_of, step_from, taken}
use Rattle.regex_lite_engine.specs.Graph.Places.{with_arrows}
use Rattle.regex_lite_engine.specs.Graph.Stored.{LeadBelow, LeadsBelow}
use Rattle.regex_lite_engine.specs.declared.nfa.place.Place as code
use Rattle.regex_lite_engine.specs.declared.nfa.place.Place.TheVariants as stored
use Rattle.regex_lite_engine.specs.Graph.Ways.{Leads}
use Rattle.regex_lite_engine.specs.Search.NumberedAnswer.{numbered_step, place_with}
use Rattle.regex_lite_engine.specs.Search.Pending.{Node}
use Rattle.regex_lite_engine.proofs.OffsetLemmas.{boundary_at, offset_next}
use Rattle.regex_lite_engine.proofs.PositionLemmas.{position_of}
use Rattle.regex_lite_engine.specs.Graph.Parts.{IsOwnPart, IsWithin, row_of}
use Rattle.regex_lite_engine.proofs.laws.search.NumberedWayLemmas.{stays_within}
use Rattle.regex_lite_meta.specs.LazyDfa.Automaton.{ReadsAtMost}

module _ (h : Text) where
  -- an arrow reads a character or none
  taken_reads : (a : Condition) (i j : ℕ) → taken h a i ≡ Some j → j ≤ i + condition_reads a
  taken_reads free i j e = let same = same_some e in omega (arith, same)
  taken_reads (holding l) i j e = by_test (holds_between l (before h i) (after h i)) e
    where
      by_test : (b : Bool) → (if b then Some i else None) ≡ Some j → j ≤ i + 0
      by_test true e = let same = same_some e in omega (arith, same)
      by_test false e = absurd (not_there e)
  taken_reads (reading set) i j e = by_next (after h i) e
    where
      by_next : (o : Option ℕ) → read_past set i o ≡ Some j → j ≤ i + 1
      by_next None e = absurd (not_there e)
      by_next (Some c) e = by_test (set c) e
        where
          by_test : (b : Bool) → (if b then Some (suc i) else None) ≡ Some j → j ≤ i + 1
          by_test true e = let same = same_some e in omega (arith, same)
          by_test false e = absurd (not_there e)

  arrow_reads : (q i : ℕ) (arrow : Arrow ℕ) (n : Node) → arrow_taken h i (Some arrow) ≡ Some n
      → arrow.to < q → (n.0 < q) × (n.1 ≤ i + condition_reads arrow.condition)
  arrow_reads q i arrow n e below = by_end (taken h arrow.condition i) refl e
    where
      by_end : (o : Option ℕ) → taken h arrow.condition i ≡ o → arrived arrow.to o ≡ Some n
          → (n.0 < q) × (n.1 ≤ i + condition_reads arrow.condition)
      by_end None t e = absurd (not_there e)
      by_end (Some j) t e =
          let same = same_some e in
          let place = ap (λ (z : Node). z.0) same in
          let position = ap (λ (z : Node). z.1) same in
          let few = taken_reads arrow.condition i j t in
          (omega (arith, place, below), omega (arith, position, few))

  arrows_read : (q i : ℕ) (arrows : List (Arrow ℕ)) (k : ℕ) (n : Node)
      → arrow_taken h i (slice_get arrows k) ≡ Some n → LeadBelow q arrows
      → (n.0 < q) × (n.1 ≤ i + reading_arrows arrows)
  arrows_read q i [] k n e below = absurd (not_there e)
  arrows_read q i (arrow ∷ arrows) zero n e below =
      let own = arrow_reads q i arrow n e below.0 in
      let few = own.1 in
      (own.0, omega (arith, few))
  arrows_read q i (arrow ∷ arrows) (suc k) n e below =
      let more = arrows_read q i arrows k n e below.1 in
      let few = more.1 in
      (more.0, omega (arith, few))

  place_reads : (q i : ℕ) (place : Place ℕ) (k : ℕ) (n : Node) → step_from h place i k ≡ Some n
      → LeadsBelow q place → (n.0 < q) × (n.1 ≤ i + reading_count place)
  place_reads q i complete k n e below = absurd (not_there e)
  place_reads q i (with_arrows arrows) k n e below = arrows_read q i arrows k n e below

module _ (table : List (Place ℕ)) (entries : List ℕ) (low len : ℕ)
    (part : IsOwnPart table entries low len)
    (below : (q : ℕ) (place : Place ℕ) → IsWithin low len q → slice_get table q ≡ Some place
    → LeadsBelow q place) where
  -- how many places read a character up to this one
  abbrev reading_to : ℕ → ℕ
  reading_to q = reading_of (take (q + 1) table)

  abbrev nowhere : Place ℕ
  nowhere = with_arrows []

  reading_here : (q : ℕ) → q < length table
      → reading_to q ≡ reading_of (take q table) + reading_count (place_with table q)
  reading_here q inside =
      sum_by_more reading_count table q nowhere inside
      ∙ ap (λ place. reading_of (take q table) + reading_count place)
      (sym (unwrap_or-slice_get table q nowhere))

  reading_grows : (r q : ℕ) → r < q → reading_to r ≤ reading_of (take q table)
  reading_grows r q less =
      subst (λ t. reading_of t ≤ reading_of (take q table))
      (take-take (r + 1) q table (omega (arith, less)))
      (sum_by-take-le reading_count (take q table) (r + 1))

  module _ (h : Text) where
    step_reads : (m : Node) (k : ℕ) (n : Node) → IsWithin low len m.0
        → numbered_step table h m k ≡ Some n → n.1 + reading_to n.0 ≤ m.1 + reading_to m.0
    step_reads m k n within e = by_place (slice_get table m.0) refl
      where
        by_place : (o : Option (Place ℕ)) → slice_get table m.0 ≡ o
            → n.1 + reading_to n.0 ≤ m.1 + reading_to m.0
        by_place None at =
            absurd
            (not_there
            (sym (ap (λ o. step_from h (unwrap_or o nowhere) m.1 k) at) ∙ e))
        by_place (Some place) at =
            let here : place_with table m.0 ≡ place = ap (λ o. unwrap_or o nowhere) at in
            let own = place_reads h m.0 m.1 (place_with table m.0) k n e
            (subst (LeadsBelow m.0) (sym here) (below m.0 place within at)) in
            let few = own.1 in
            let all = reading_here m.0 (slice_get_within table m.0 place at) in
            let rest = reading_grows n.0 m.0 own.0 in
            omega (arith, few, all, rest)

    way_reads : (way : List ℕ) (m n : Node) → IsWithin low len m.0
        → Leads Node (numbered_step table h) m way n
        → IsWithin low len n.0 × (n.1 + reading_to n.0 ≤ m.1 + reading_to m.0)
    way_reads [] m n within e =
        let same = ap (λ (z : Node). z.1 + reading_to z.0) e in
        (subst (λ (z : Node). IsWithin low len z.0) e within, omega (arith, same))
    way_reads (k ∷ ks) m n within (l, s, along) =
        let first = step_reads m k l within s in
        let rest = way_reads ks l n (stays_within h table (IsWithin low len) in_table part.closed m
        l k within s) along in
        let more = rest.1 in
        (rest.0, omega (arith, first, more))
      where
        in_table : (q : ℕ) → IsWithin low len q → q < length table
        in_table q within = let high = part.inside in omega (arith, high, within.1)

  -- up to a place of the part no more read than those before it and those in it
  reading_within : (q : ℕ) → IsWithin low len q
      → reading_to q ≤ reading_of (take low table) + reading_of (row_of table low len)
  reading_within q within =
      let upper = reading_grows q (low + len) (omega (arith, within.1)) in
      let both = sum_by-take-drop reading_count (take (low + len) table) low in
      let before = ap reading_of (take-take low (low + len) table (omega arith)) in
      let row = ap reading_of (drop-take low len table) in
      omega (arith, upper, both, before, row)

  -- then a way reads at most a character at each place of the part that reads one
  pub reads_at_most : ReadsAtMost table entries (reading_of (row_of table low len))
  reads_at_most = λ h number entry i way r j is leads.
      let within = part.entered number entry is in
      let (there, few) = way_reads h way (entry, i) (r, j) within leads in
      let all = reading_within entry within in
      let before = take-take low (r + 1) table (let above = there.0 in omega (arith, above)) in
      let least = sum_by-take-le reading_count (take (r + 1) table) low in
      let same = ap reading_of before in
      omega (arith, few, all, least, same)

branches_read : (entries : List ℕ) → reading_arrows (map go entries) ≡ 0
branches_read [] = refl
branches_read (entry ∷ entries) = let none = branches_read entries in omega (arith, none)

-- a place reads with one arrow at most, and with none unless it is for a character or a set
pub reads_one : (place : code.Place) → reading_count (place_of place) ≤ 1
reads_one (stored.Empty to) = omega arith
reads_one (stored.Char c to) = omega arith
reads_one (stored.Class to []) = omega arith
reads_one (stored.Class to (range ∷ ranges)) = omega arith
reads_one (stored.Look look to) = omega arith
reads_one (stored.Slot slot to) = omega arith
reads_one (stored.Choice first second) = omega arith
reads_one (stored.Branches entries) = let none = branches_read entries.items in omega (arith, none)
reads_one stored.Match = omega arith

pub reads_none : (place : code.Place) → ((c to : ℕ) → place ≡ stored.Char c to → ⊥)
    → ((to : ℕ) (set : List ClassRange) → place ≡ stored.Class to set → ⊥)
    → reading_count (place_of place) ≡ 0
reads_none (stored.Empty to) no_char no_class = refl
reads_none (stored.Char c to) no_char no_class = absurd (no_char c to refl)
reads_none (stored.Class to set) no_char no_class = absurd (no_class to set refl)
reads_none (stored.Look look to) no_char no_class = refl
reads_none (stored.Slot slot to) no_char no_class = refl
reads_none (stored.Choice first second) no_char no_class = refl
reads_none (stored.Branches entries) no_char no_class = branches_read entries.items
reads_none stored.Match no_char no_class = refl

-- the next place, and those after it
pub left_after : (places : List code.Place) (q : ℕ) (here : code.Place) → q < length places
    → here ≡ get_or places q here
    → reading_of (map place_of (drop q places))
    ≡ reading_count (place_of here) + reading_of (map place_of (drop (q + 1) places))
left_after places q here less is =
    let next : suc q ≡ q + 1 = omega arith in
    let all = ap (λ row. reading_of (map place_of row)) (drop-cons places q here less) in
    let both = sum_by-cons reading_count (place_of (get_or places q here))
    (map place_of (drop (suc q) places)) in
    let same = ap (λ place. reading_count (place_of place)) is in
    let rest = ap (λ n. reading_of (map place_of (drop n places))) next in
    omega (arith, all, both, same, rest)

-- a place of a set has one arrow or none
pub one_of_below : (n : ℕ) (set : List ClassRange) (to : ℕ) → to < n → LeadsBelow n (one_of set to)
one_of_below n [] to less = tt
one_of_below n (range ∷ ranges) to less = (less, tt)

pub branches_below : (n : ℕ) (entries : List ℕ) → All (λ entry. entry < n) entries
    → LeadBelow n (map go entries)
branches_below n [] all = tt
branches_below n (entry ∷ entries) all = (
  all 0 entry (omega arith),
  branches_below n entries (λ k d lt. all (suc k) d (omega (
    arith,
    lt,
  ))),
)

-- before the character that ends there lies the position before
pub step_back : (bs : List ℕ) (p c : ℕ) (here : Here) → IsUtf8 bs → IsHere (chars bs) p here
    → here.before ≡ Some c →
    (r : ℕ) × (r + 1 ≡ p) × (len_utf8 c ≤ here.at) × IsCharBoundary bs (here.at - len_utf8 c)
    × (position_at bs (here.at - len_utf8 c) ≡ r)
step_back bs zero c here utf8 is ends = absurd (not_there (sym is.behind ∙ ends))
step_back bs (suc r) c here utf8 is ends =
    let next = offset_next (chars bs) r c (sym is.behind ∙ ends) in
    let bytes = is.bytes in
    let at : here.at - len_utf8 c ≡ offset (chars bs) r = omega (arith, next, bytes) in
    let within = is.inside in
    let inside : r ≤ length (chars bs) = omega (arith, within) in (
      r,
      omega arith,
      omega (arith, next, bytes),
      boundary_at bs r (here.at - len_utf8 c) utf8 (inside, at),
      position_of bs utf8 r (here.at - len_utf8 c) (inside, at),
    )

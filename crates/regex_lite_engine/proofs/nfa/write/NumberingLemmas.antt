-- Numbers in the place of addresses, and that places in a row are what stands at their addresses.
use Rattle.regex_lite_engine.proofs.Common.{◌≡◌, ℕ, suc, ◌+◌, ◌<◌, ◌≤◌, List, [], ◌∷◌, ◌++◌, length}
use Rattle.regex_lite_engine.proofs.Common.{Some, sym, refl, ap, ◌∙◌, subst, append_assoc, arith}
use Rattle.regex_lite_engine.proofs.Common.{Address, part, renamed, Content, LeadsInto, Fragment}
use Rattle.regex_lite_engine.specs.Graph.Places.{Place}
use Rattle.regex_lite_engine.specs.Nfa.Fragments.{before}
use Rattle.regex_lite_engine.proofs.graph.AddressLemmas.{in_part}

-- what the numbers from the first on to below the end stand for
pub record Numbering : Type 0 where
  pub address : ℕ → Address
  pub first : ℕ
  pub end : ℕ

module _ (by : Numbering) where
  abbrev pub Inside : ℕ → Type 0
  Inside n = (by.first ≤ n) × (n < by.end)

  -- the number stands for the address
  abbrev pub Stands : ℕ → Address → Type 0
  Stands n a = (by.address n ≡ a) × Inside n

  -- the numbers from n on stand for these addresses in the tree at `pre`, one after another
  abbrev pub InRow : (pre : Address) → ℕ → List Address → Type 0
  InRow pre n [] = Unit {0}
  InRow pre n (a ∷ list) = Stands n (pre ++ a) × InRow pre (n + 1) list

  -- the place is what stands at the address, and leads to such numbers
  abbrev pub IsAt : (Address → Content) → Address → Place ℕ → Type 0
  IsAt content a place = (content a ≡ Some (renamed by.address place)) × LeadsInto Inside place

  abbrev pub AreAt : (Address → Content) → List Address → List (Place ℕ) → Type 0
  AreAt content [] [] = Unit {0}
  AreAt content [] (p ∷ ps) = ⊥
  AreAt content (a ∷ list) [] = ⊥
  AreAt content (a ∷ list) (p ∷ ps) = IsAt content a p × AreAt content list ps

  -- the part has the places that stand at these addresses, and is entered at that one
  abbrev pub Fits : (Address → Content) → List Address → (entry : Address) → Fragment → Type 0
  Fits content list entry written = Stands written.1 entry × AreAt content list written.0

  -- a body that fits what stands inside it, wherever it is written
  pub record Body : Type 0 where
    pub layout : ℕ → ℕ → Fragment
    pub list : List Address
    pub enter : Address → Address
    pub inside : Address → (exit : Address) → Address → Content
    pub fits : (pre after : Address) (base exit : ℕ) → Stands exit after → InRow pre base list
        → Fits (inside pre after) list (enter pre) (layout base exit)

  pub as_many : (content : Address → Content) (list : List Address) (ps : List (Place ℕ))
      → AreAt content list ps → length ps ≡ length list
  as_many content [] [] r = refl
  as_many content [] (p ∷ ps) r = absurd r
  as_many content (a ∷ list) [] r = absurd r
  as_many content (a ∷ list) (p ∷ ps) r = ap suc (as_many content list ps r.1)

  pub both_at : (content : Address → Content) (xs ys : List Address) (ps qs : List (Place ℕ))
      → AreAt content xs ps → AreAt content ys qs → AreAt content (xs ++ ys) (ps ++ qs)
  both_at content [] ys [] qs r s = s
  both_at content [] ys (p ∷ ps) qs r s = absurd r
  both_at content (a ∷ xs) ys [] qs r s = absurd r
  both_at content (a ∷ xs) ys (p ∷ ps) qs r s = (r.0, both_at content xs ys ps qs r.1 s)

  pub part_at : (content inner : Address → Content) (k : ℕ) (list : List Address)
      (ps : List (Place ℕ)) → ((a : Address) → content (suc k ∷ a) ≡ inner a)
      → AreAt inner list ps → AreAt content (in_part k list) ps
  part_at content inner k [] [] e r = tt
  part_at content inner k [] (p ∷ ps) e r = absurd r
  part_at content inner k (a ∷ list) [] e r = absurd r
  part_at content inner k (a ∷ list) (p ∷ ps) e r =
      ((e a ∙ r.0.0, r.0.1), part_at content inner k list ps e r.1)

  pub row_split : (pre : Address) (n : ℕ) (xs ys : List Address) → InRow pre n (xs ++ ys)
      → InRow pre n xs × InRow pre (n + length xs) ys
  row_split pre n [] ys row =
      let same : n ≡ n + 0 = omega arith in (tt, subst (λ m. InRow pre m ys) same row)
  row_split pre n (a ∷ xs) ys row =
      let later = row_split pre (n + 1) xs ys row.1 in
      let same : n + 1 + length xs ≡ n + suc (length xs) = omega arith in
      ((row.0, later.0), subst (λ m. InRow pre m ys) same later.1)

  pub row_first : (pre : Address) (n : ℕ) (xs ys : List Address) → InRow pre n (xs ++ ys)
      → InRow pre n xs
  row_first pre n xs ys row = (row_split pre n xs ys row).0

  -- the addresses after others that have their places
  pub row_after : (pre : Address) (n : ℕ) (content : Address → Content) (xs ys : List Address)
      (ps : List (Place ℕ)) → AreAt content xs ps → InRow pre n (xs ++ ys)
      → InRow pre (n + length ps) ys
  row_after pre n content xs ys ps r row =
      let same = sym (as_many content xs ps r) in
      subst (λ m. InRow pre (n + m) ys) same (row_split pre n xs ys row).1

  row_part : (pre : Address) (k n : ℕ) (list : List Address) → InRow pre n (in_part k list)
      → InRow (part pre k) n list
  row_part pre k n [] row = tt
  row_part pre k n (a ∷ list) row =
      let here = row.0.0 ∙ sym (append_assoc pre (suc k ∷ []) a) in
      ((here, row.0.1), row_part pre k (n + 1) list row.1)

  -- a body in part k
  pub fits_part : (b : Body) (pre after : Address) (k base exit : ℕ) (content : Address → Content)
      → ((a : Address) → content (suc k ∷ a) ≡ b.inside (part pre k) after a)
      → Stands exit after → InRow pre base (in_part k b.list)
      → Fits content (in_part k b.list) (b.enter (part pre k)) (b.layout base exit)
  fits_part b pre after k base exit content e stands row =
      let one = b.fits (part pre k) after base exit stands (row_part pre k base b.list row) in
      let inner = b.inside (part pre k) after in
      (one.0, part_at content inner k b.list (b.layout base exit).0 e one.1)

  -- a body in part k, written after what it leads to
  pub fits_before : (b : Body) (pre after : Address) (k base : ℕ) (content : Address → Content)
      (later : List Address) (rest : Fragment)
      → ((a : Address) → content (suc k ∷ a) ≡ b.inside (part pre k) after a)
      → Fits content later after rest → InRow pre base (later ++ in_part k b.list)
      → Fits content (later ++ in_part k b.list) (b.enter (part pre k))
      (before rest (b.layout (base + length rest.0) rest.1))
  fits_before b pre after k base content later rest e fits row =
      let here = in_part k b.list in
      let now = base + length rest.0 in
      let row_here = row_after pre base content later here rest.0 fits.1 row in
      let one = fits_part b pre after k now rest.1 content e fits.0 row_here in
      (one.0, both_at content later here rest.0 (b.layout now rest.1).0 fits.1 one.1)

  -- places with one more after them
  pub fits_last : (pre : Address) (base : ℕ) (content : Address → Content) (list : List Address)
      (a : Address) (ps : List (Place ℕ)) (p : Place ℕ) → AreAt content list ps → IsAt content a p
      → InRow pre base (list ++ a ∷ [])
      → Fits content (list ++ a ∷ []) (pre ++ a) (ps ++ p ∷ [], base + length ps)
  fits_last pre base content list a ps p others last row =
      let row_here = row_after pre base content list (a ∷ []) ps others row in
      (row_here.0, both_at content list (a ∷ []) ps (p ∷ []) others (last, tt))

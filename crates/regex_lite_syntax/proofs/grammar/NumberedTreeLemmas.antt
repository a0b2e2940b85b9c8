-- Trees whose groups are numbered in order.
use Rattle.regex_lite_syntax.proofs.Common.{◌≡◌, ℕ, zero, suc, ◌<◌, ◌≤◌, max, Bool, List, [], ◌∷◌}
use Rattle.regex_lite_syntax.proofs.Common.{◌++◌, length, Option, refl, add-one, arith, Tree}
use Rattle.regex_lite_syntax.proofs.Common.{repetition, concat, alternation, Trees, more, trees}
use Rattle.regex_lite_syntax.proofs.Common.{sequence_of, choice_of, repeated}
use Rattle.std.specs.Prelude.{slice_index}
use Rattle.std.specs.List.Sorted.{IsStrictlyIncreasing}
use Rattle.std.proofs.lemmas.List.Kept.{AllPairs-from_increasing}
use Rattle.regex_lite_syntax.specs.Tree.{empty, capture, none}
use Rattle.regex_lite_syntax.specs.Tree.Properties.{greatest_index, greatest_index_in}
use Rattle.regex_lite_syntax.specs.Tree.Numbering.{indices, indices_in, IndicesDiffer}
use Rattle.regex_lite_syntax.proofs.TreeLemmas.{repeated_is}

-- the indices of the groups are above the number; those inside a group are above its own, and those
-- of a part above those of the parts before it
abbrev mutual
  pub IsNumbered : (above : ℕ) → Tree → Type 0
  IsNumbered above (repetition least most greedy body) = IsNumbered above body
  IsNumbered above (capture index name body) = (above < index) × IsNumbered index body
  IsNumbered above (concat parts) = AreNumbered above parts
  IsNumbered above (alternation branches) = AreNumbered above branches
  IsNumbered above _ = Unit {0}

  pub AreNumbered : (above : ℕ) → Trees → Type 0
  AreNumbered above none = Unit {0}
  AreNumbered above (more a rest) =
      IsNumbered above a × AreNumbered (max above (greatest_index a)) rest

-- what is above a number is above a lesser one
mutual
  above_less : (a : Tree) (low mid : ℕ) → low ≤ mid → IsNumbered mid a → IsNumbered low a
  above_less (repetition least most greedy body) low mid less is = above_less body low mid less is
  above_less (capture index name body) low mid less is = (omega (arith, less, is.0), is.1)
  above_less (concat parts) low mid less is = all_above_less parts low mid less is
  above_less (alternation branches) low mid less is = all_above_less branches low mid less is
  above_less _ low mid less is = tt

  all_above_less : (list : Trees) (low mid : ℕ) → low ≤ mid → AreNumbered mid list
      → AreNumbered low list
  all_above_less none low mid less is = tt
  all_above_less (more a rest) low mid less is = (
    above_less a low mid less is.0,
    all_above_less rest (max low (greatest_index a)) (max mid (greatest_index a))
        (omega (arith, less)) is.1,
  )

-- the groups of the tree are numbered from above the one number to the other
pub record Within (low high : ℕ) (a : Tree) : Type 0 where
  pub in_order : IsNumbered low a
  pub inside : greatest_index a ≤ high
  pub low_high : low ≤ high

-- so are those of the trees, one after another
abbrev pub AllWithin : (low high : ℕ) → List Tree → Type 0
AllWithin low high [] = low ≤ high
AllWithin low high (a ∷ rest) = (mid : ℕ) × Within low mid a × AllWithin mid high rest

ordered : (low high : ℕ) (list : List Tree) → AllWithin low high list → low ≤ high
ordered low high [] is = is
ordered low high (a ∷ rest) (mid, first, later) =
    let further = ordered mid high rest later in omega (arith, first.low_high, further)

wider : (low mid high : ℕ) (a : Tree) → Within low mid a → mid ≤ high → Within low high a
wider low mid high a is less = record {
  in_order = is.in_order;
  inside = omega (arith, is.inside, less);
  low_high = omega (arith, is.low_high, less);
}

pub all_with : (low mid high : ℕ) (before : List Tree) (a : Tree) → AllWithin low mid before
    → Within mid high a → AllWithin low high (before ++ a ∷ [])
all_with low mid high [] a first last = (
  high,
  record {
    in_order = above_less a low mid first last.in_order;
    inside = last.inside;
    low_high = omega (arith, first, last.low_high);
  },
  omega arith,
)
all_with low mid high (b ∷ before) a (via, first, later) last =
    (via, first, all_with via mid high before a later last)

pub all_without : (low high : ℕ) (before : List Tree) (a : Tree)
    → AllWithin low high (before ++ a ∷ [])
    → (mid : ℕ) × AllWithin low mid before × Within mid high a
all_without low high [] a (via, first, less) = (low, omega arith, wider low via high a first less)
all_without low high (b ∷ before) a (via, first, later) =
    let rest = all_without via high before a later in
    (rest.0, (via, first, rest.1), rest.2)

are_numbered : (low high : ℕ) (list : List Tree) → AllWithin low high list
    → AreNumbered low (trees list)
are_numbered low high [] is = tt
are_numbered low high (a ∷ rest) (mid, first, later) = (
  first.in_order,
  all_above_less (trees rest) (max low (greatest_index a)) mid
      (omega (arith, first.inside, first.low_high)) (are_numbered mid high rest later),
)

greatest_inside : (low high : ℕ) (list : List Tree) → AllWithin low high list
    → greatest_index_in (trees list) ≤ high
greatest_inside low high [] is = omega arith
greatest_inside low high (a ∷ rest) (mid, first, later) =
    omega (arith, first.inside, greatest_inside mid high rest later, ordered mid high rest later)

pub leaf : (low high : ℕ) (a : Tree) → IsNumbered low a → greatest_index a ≡ 0 → low ≤ high
    → Within low high a
leaf low high a is no_index less = record {
  in_order = is;
  inside = omega (arith, no_index);
  low_high = less;
}

of_list : (low high : ℕ) (list : List Tree) → AllWithin low high list
    → Within low high (concat (trees list)) × Within low high (alternation (trees list))
of_list low high list is =
    let less = ordered low high list is in
    let numbers = are_numbered low high list is in
    let greatest = greatest_inside low high list is in (
      record { in_order = numbers; inside = greatest; low_high = less },
      record { in_order = numbers; inside = greatest; low_high = less },
    )

pub sequence_within : (low high : ℕ) (items : List Tree) → AllWithin low high items
    → Within low high (sequence_of items)
sequence_within low high [] is = leaf low high empty tt refl is
sequence_within low high (a ∷ []) (mid, first, less) = wider low mid high a first less
sequence_within low high (a ∷ b ∷ rest) is = (of_list low high (a ∷ b ∷ rest) is).0

pub choice_within : (low high : ℕ) (branches : List Tree) → AllWithin low high branches
    → Within low high (choice_of branches)
choice_within low high [] is = leaf low high empty tt refl is
choice_within low high (a ∷ []) (mid, first, less) = wider low mid high a first less
choice_within low high (a ∷ b ∷ rest) is = (of_list low high (a ∷ b ∷ rest) is).1

pub repeated_within : (low high least : ℕ) (most : Option ℕ) (greedy : Bool) (a : Tree)
    → Within low high a → Within low high (repeated least most greedy a)
repeated_within low high least most greedy a is =
    repeated_is (Within low high) least most greedy a
    (record { in_order = is.in_order; inside = is.inside; low_high = is.low_high })
    (leaf low high empty tt refl is.low_high) is

-- each number is above the one before it, the first above `low`
abbrev Growing : (low : ℕ) → List ℕ → Type 0
Growing low [] = Unit {0}
Growing low (n ∷ rest) = (low < n) × Growing n rest

abbrev Below : (high : ℕ) → List ℕ → Type 0
Below high [] = Unit {0}
Below high (n ∷ rest) = (n ≤ high) × Below high rest

growing_less : (low mid : ℕ) (list : List ℕ) → low ≤ mid → Growing mid list → Growing low list
growing_less low mid [] less is = tt
growing_less low mid (n ∷ rest) less is = (omega (arith, less, is.0), is.1)

growing_append : (low mid : ℕ) (first later : List ℕ) → low ≤ mid → Growing low first
    → Below mid first → Growing mid later → Growing low (first ++ later)
growing_append low mid [] later less p q r = growing_less low mid later less r
growing_append low mid (n ∷ rest) later less p q r =
    (p.0, growing_append n mid rest later q.0 p.1 q.1 r)

below_more : (low high : ℕ) (list : List ℕ) → low ≤ high → Below low list → Below high list
below_more low high [] less is = tt
below_more low high (n ∷ rest) less is =
    (omega (arith, less, is.0), below_more low high rest less is.1)

below_append : (high : ℕ) (first later : List ℕ) → Below high first → Below high later
    → Below high (first ++ later)
below_append high [] later p q = q
below_append high (n ∷ rest) later p q = (p.0, below_append high rest later p.1 q)

mutual
  indices_below : (a : Tree) → Below (greatest_index a) (indices a)
  indices_below (repetition least most greedy body) = indices_below body
  indices_below (capture index name body) =
      let high = max index (greatest_index body) in (
        omega arith,
        below_more (greatest_index body) high (indices body) (omega arith) (indices_below body),
      )
  indices_below (concat parts) = all_below parts
  indices_below (alternation branches) = all_below branches
  indices_below _ = tt

  all_below : (list : Trees) → Below (greatest_index_in list) (indices_in list)
  all_below none = tt
  all_below (more a rest) =
      let high = max (greatest_index a) (greatest_index_in rest) in
      below_append high (indices a) (indices_in rest)
      (below_more (greatest_index a) high (indices a) (omega arith) (indices_below a))
      (below_more (greatest_index_in rest) high (indices_in rest) (omega arith) (all_below rest))

mutual
  indices_grow : (a : Tree) (low : ℕ) → IsNumbered low a → Growing low (indices a)
  indices_grow (repetition least most greedy body) low is = indices_grow body low is
  indices_grow (capture index name body) low is = (is.0, indices_grow body index is.1)
  indices_grow (concat parts) low is = all_grow parts low is
  indices_grow (alternation branches) low is = all_grow branches low is
  indices_grow _ low is = tt

  all_grow : (list : Trees) (low : ℕ) → AreNumbered low list → Growing low (indices_in list)
  all_grow none low is = tt
  all_grow (more a rest) low is =
      let mid = max low (greatest_index a) in
      growing_append low mid (indices a) (indices_in rest) (omega arith) (indices_grow a low is.0)
      (below_more (greatest_index a) mid (indices a) (omega arith) (indices_below a))
      (all_grow rest mid is.1)

below_next : (low : ℕ) (list : List ℕ) (k : ℕ) → Growing low list → suc k < length list
    → slice_index list k < slice_index list (suc k)
below_next low [] k is inside = absurd (omega (arith, inside))
below_next low (n ∷ []) k is inside = absurd (omega (arith, inside))
below_next low (n ∷ m ∷ rest) zero is inside = is.1.0
below_next low (n ∷ m ∷ rest) (suc k) is inside =
    below_next n (m ∷ rest) k is.1 (omega (arith, inside))

pub numbered_increasing : (a : Tree) (low : ℕ) → IsNumbered low a → IsStrictlyIncreasing (indices a)
numbered_increasing a low is k inside =
    rw (add-one k) (below_next low (indices a) k (indices_grow a low is) (omega (arith, inside)))

pub numbered_differ : (a : Tree) (low : ℕ) → IsNumbered low a → IndicesDiffer a
numbered_differ a low is i j d less inside =
    let grows = AllPairs-from_increasing (indices a) (numbered_increasing a low is) in
    λ same. omega (arith, grows i j d less inside, same)

-- What is left of a search: the sum over the pairs that were not entered.
use Rattle.regex_lite_engine.proofs.Common.{◌≡◌, ℕ, zero, suc, ◌+◌, ◌-◌, ◌*◌, ◌<◌, ◌≤◌, Bool, true}
use Rattle.regex_lite_engine.proofs.Common.{false, ◌⊎◌, List, [], ◌∷◌, length, set, replicate}
use Rattle.regex_lite_engine.proofs.Common.{if◌then◌else◌, slice_get, slice_index_or, slice_set}
use Rattle.regex_lite_engine.proofs.Common.{Some, IsUtf8, sum_by, chars, IsCharBoundary, sym, refl}
use Rattle.regex_lite_engine.proofs.Common.{ap, ◌∙◌, inl, inr, arith, mul-le-mul_left, cases_lt}
use Rattle.regex_lite_engine.proofs.Common.{get_or-replicate, get_or-set_other, get_or-set_same}
use Rattle.regex_lite_engine.proofs.Common.{get_or_past, length-replicate, sum_by-cons}
use Rattle.regex_lite_engine.proofs.Common.{slice_get_within, Pairs, pair_number, was_entered}
use Rattle.regex_lite_engine.proofs.Common.{characters_left, lone, offset, position_at}
use Rattle.std.proofs.Math.Nat.{mul-suc, mul_comm}
use Rattle.regex_lite_engine.specs.Backtrack.Capacity.{AreAll, left_in, left_from, left_of}
use Rattle.regex_lite_engine.specs.Graph.Places.{Place}
use Rattle.regex_lite_engine.proofs.OffsetLemmas.{offset_less, positions_order}
use Rattle.regex_lite_syntax.proofs.OptionLemmas.{not_there, same_some}
use Rattle.regex_lite_engine.proofs.search.CountLemmas.{test_most}
use Rattle.regex_lite_engine.proofs.PositionLemmas.{position_is}

-- a pair that does not lie in the stretch
stretch_other : (f : Place ℕ → ℕ) (entered : List Bool) (k pair : ℕ) (table : List (Place ℕ))
    → (k < pair) ⊎ (pair + length table ≤ k)
    → left_in f (set entered k true) pair table ≡ left_in f entered pair table
stretch_other f entered k pair [] out = refl
stretch_other f entered k pair (x ∷ table) out =
    let same : (if slice_index_or (set entered k true) pair false then 0 else f x)
    ≡ (if slice_index_or entered pair false then 0 else f x)
    =
    ap (λ (b : Bool). if b then 0 else f x)
    (get_or-set_other entered k pair true false (apart out)) in
    let more = stretch_other f entered k (suc pair) table (onward out) in
    omega (arith, same, more)
  where
    apart : (k < pair) ⊎ (pair + suc (length table) ≤ k) → pair ≡ k → ⊥
    apart (inl lt) e = omega (arith, lt, e)
    apart (inr le) e = omega (arith, le, e)

    onward : (k < pair) ⊎ (pair + suc (length table) ≤ k)
        → (k < suc pair) ⊎ (suc pair + length table ≤ k)
    onward (inl lt) = inl (omega (arith, lt))
    onward (inr le) = inr (omega (arith, le))

-- a pair of the stretch that is new
stretch_enter : (f : Place ℕ → ℕ) (entered : List Bool) (k pair : ℕ) (table : List (Place ℕ))
    (q : ℕ) (x : Place ℕ)
    → slice_get table q ≡ Some x → k ≡ pair + q → k < length entered
    → slice_index_or entered k false ≡ false
    → left_in f (set entered k true) pair table + f x ≡ left_in f entered pair table
stretch_enter f entered k pair [] q x e at short new = absurd (not_there e)
stretch_enter f entered k pair (y ∷ table) zero x e at short new =
    let here : pair ≡ k = omega (arith, at) in
    let same : f y ≡ f x = ap f (same_some e) in
    let was : (if slice_index_or entered pair false then 0 else f y) ≡ f y
    =
    ap (λ (b : Bool). if b then 0 else f y) (ap (λ z. slice_index_or entered z false) here ∙ new) in
    let now : (if slice_index_or (set entered k true) pair false then 0 else f y) ≡ 0
    = ap (λ (b : Bool). if b then 0 else f y)
    (ap (λ z. slice_index_or (set entered k true) z false) here
    ∙ get_or-set_same entered k true false short) in
    let rest = stretch_other f entered k (suc pair) table (inl (omega (arith, at))) in
    omega (arith, same, was, now, rest)
stretch_enter f entered k pair (y ∷ table) (suc q) x e at short new =
    let same : (if slice_index_or (set entered k true) pair false then 0 else f y)
    ≡ (if slice_index_or entered pair false then 0 else f y)
    = ap (λ (b : Bool). if b then 0 else f y)
    (get_or-set_other entered k pair true false (λ z. omega (arith, at, z))) in
    let more = stretch_enter f entered k (suc pair) table q x e (omega (arith, at)) short new in
    omega (arith, same, more)

-- nothing of the stretch was entered
stretch_blank : (f : Place ℕ → ℕ) (n pair : ℕ) (table : List (Place ℕ))
    → left_in f (replicate n false) pair table ≡ sum_by f table
stretch_blank f n pair [] = refl
stretch_blank f n pair (x ∷ table) =
    let new : (if slice_index_or (replicate n false) pair false then 0 else f x) ≡ f x
    = ap (λ (b : Bool). if b then 0 else f x) (blank (cases_lt pair n)) in
    let more = stretch_blank f n (suc pair) table in
    omega (arith, new, more, sum_by-cons f x table)
  where
    blank : (pair < n) ⊎ (n ≤ pair) → slice_index_or (replicate n false) pair false ≡ false
    blank (inl lt) = get_or-replicate n pair false false lt
    blank (inr le) =
        let long = length-replicate n false in
        get_or_past (replicate n false) pair false (omega (arith, le, long))

stretch_most : (f : Place ℕ → ℕ) (entered : List Bool) (pair : ℕ) (table : List (Place ℕ))
    → left_in f entered pair table ≤ sum_by f table
stretch_most f entered pair [] = omega arith
stretch_most f entered pair (x ∷ table) =
    let here = test_most (slice_index_or entered pair false) (f x) in
    let more = stretch_most f entered (suc pair) table in
    omega (arith, here, more, sum_by-cons f x table)

-- the pairs of an earlier offset come before those of a later one
pair_earlier : (places first q at at' : ℕ) → q < places → first ≤ at → at < at'
    → pair_number places first q at < pair_number places first 0 at'
pair_earlier places first q at at' lt low later =
    let next : suc (at - first) ≤ at' - first = omega (arith, low, later) in
    let more : places * suc (at - first) ≤ places * (at' - first) = mul-le-mul_left places next in
    let one = mul-suc places (at - first) in
    let a = mul_comm (at - first) places in
    let b = mul_comm (at' - first) places in
    omega (arith, lt, more, one, a, b)

-- and after all pairs of an earlier one
pair_later : (places first q at at' : ℕ) → first ≤ at' → at' < at
    → pair_number places first 0 at' + places ≤ pair_number places first q at
pair_later places first q at at' low later =
    let next : suc (at' - first) ≤ at - first = omega (arith, low, later) in
    let more : places * suc (at' - first) ≤ places * (at - first) = mul-le-mul_left places next in
    let one = mul-suc places (at' - first) in
    let a = mul_comm (at - first) places in
    let b = mul_comm (at' - first) places in
    omega (arith, more, one, a, b)

module _ (table : List (Place ℕ)) (haystack : List ℕ) (utf8 : IsUtf8 haystack) (pairs : Pairs)
    (all : AreAll table haystack pairs) where
  -- there is a cell for the pair
  pub pair_inside : (q at : ℕ) → q < length table → pairs.first ≤ at → at ≤ length haystack
      → pair_number pairs.places pairs.first q at < length pairs.entered
  pair_inside q at lt low high =
      let count = length table in
      let next : suc (at - pairs.first) ≤ length haystack - pairs.first + 1 =
      omega (arith, low, high) in
      let more : count * suc (at - pairs.first) ≤ count * (length haystack - pairs.first + 1) =
      mul-le-mul_left count next in
      let one = mul-suc count (at - pairs.first) in
      let a : (at - pairs.first) * pairs.places ≡ count * (at - pairs.first)
      = ap (λ z. (at - pairs.first) * z) all.places ∙ mul_comm (at - pairs.first) count in
      omega (arith, lt, all.all, more, one, a)

  module _ (f : Place ℕ → ℕ) (q : ℕ) (x : Place ℕ) (got : slice_get table q ≡ Some x) (at : ℕ)
      (edge : IsCharBoundary haystack at) (low : pairs.first ≤ at) where
    abbrev pair : ℕ
    pair = pair_number pairs.places pairs.first q at

    abbrev entered_now : Pairs
    entered_now = record pairs { entered = slice_set pairs.entered pair true }

    inside : q < pairs.places
    inside =
        let lt = slice_get_within table q x got in let own = all.places in omega (arith, lt, own)

    is_at : at ≡ offset (chars haystack) (position_at haystack at)
    is_at = (position_is haystack at utf8 edge).1

    -- at a position after the pair's
    from_beyond : (p n : ℕ) → position_at haystack at < p → p + n ≤ length (chars haystack) + 1
        → left_from table haystack f entered_now p n ≡ left_from table haystack f pairs p n
    from_beyond p zero beyond within = refl
    from_beyond p (suc n) beyond within =
        let less =
        offset_less (chars haystack) (position_at haystack at) p beyond (omega (arith, within)) in
        let there = is_at in
        let before =
        pair_earlier pairs.places pairs.first q at (offset (chars haystack) p) inside low
        (omega (arith, less, there)) in
        let same = stretch_other f pairs.entered pair
        (pair_number pairs.places pairs.first 0 (offset (chars haystack) p))
        table (inl before) in
        let more = from_beyond (suc p) n (omega (arith, beyond)) (omega (arith, within)) in
        omega (arith, same, more)

    -- at positions of which one is the pair's
    from_enter : was_entered pairs q at ≡ false → (p n : ℕ) → p ≤ position_at haystack at
        → position_at haystack at < p + n → p + n ≤ length (chars haystack) + 1
        → pairs.first ≤ offset (chars haystack) p
        → left_from table haystack f entered_now p n + f x ≡ left_from table haystack f pairs p n
    from_enter new p zero before past within low' = absurd (omega (arith, before, past))
    from_enter new p (suc n) before past within low' =
        go (cases_lt p (position_at haystack at))
        (λ lt le. from_enter new (suc p) n lt (omega (arith, past)) (omega (arith, within)) le)
      where
        from : ℕ
        from = pair_number pairs.places pairs.first 0 (offset (chars haystack) p)

        go : (p < position_at haystack at) ⊎ (position_at haystack at ≤ p)
            → (suc p ≤ position_at haystack at → pairs.first ≤ offset (chars haystack) (suc p)
            → left_from table haystack f entered_now (suc p) n + f x
            ≡ left_from table haystack f pairs (suc p) n)
            → left_from table haystack f entered_now p (suc n) + f x
            ≡ left_from table haystack f pairs p (suc n)
        go (inl lt) others =
            let there = is_at in
            let less = offset_less (chars haystack) p (position_at haystack at) lt
            (position_is haystack at utf8 edge).0 in
            let later = pair_later pairs.places pairs.first q at (offset (chars haystack) p) low'
            (omega (arith, less, there)) in
            let own = all.places in
            let same =
            stretch_other f pairs.entered pair from table (inr (omega (arith, later, own))) in
            let inside_text = (position_is haystack at utf8 edge).0 in
            let step =
            offset_less (chars haystack) p (suc p) (omega arith) (omega (arith, lt, inside_text)) in
            let more = others (omega (arith, lt)) (omega (arith, low', step)) in
            omega (arith, same, more)
        go (inr le) others =
            let here : p ≡ position_at haystack at = omega (arith, before, le) in
            let same : offset (chars haystack) p ≡ at =
            ap (offset (chars haystack)) here ∙ sym is_at in
            let number : pair ≡ from + q
            = sym (ap (λ z. pair_number pairs.places pairs.first q z) same) ∙ omega arith in
            let short = pair_inside q at (slice_get_within table q x got) low edge.0 in
            let own = stretch_enter f pairs.entered pair from table q x got number short new in
            let rest = from_beyond (suc p) n (omega (arith, le)) (omega (arith, within)) in
            omega (arith, own, rest)

    -- entering a new pair takes what its place counts
    pub left_enter : was_entered pairs q at ≡ false
        → left_of table haystack f entered_now + f x ≡ left_of table haystack f pairs
    left_enter new =
        let start = position_is haystack pairs.first utf8 all.boundary in
        let here = position_is haystack at utf8 edge in
        let order = positions_order (chars haystack) (position_at haystack pairs.first)
        (position_at haystack at)
        start.0 (omega (arith, start.1, here.1, low)) in
        from_enter new (position_at haystack pairs.first)
        (characters_left (chars haystack) (position_at haystack pairs.first) + 1) order
        (omega (arith, start.0, here.0)) (omega (arith, start.0))
        (omega (arith, start.1))

    -- what is left has room for a pair that is new
    pub left_room : was_entered pairs q at ≡ false → f x ≤ left_of table haystack f pairs
    left_room new = let more = left_enter new in omega (arith, more)

module _ (table : List (Place ℕ)) (haystack : List ℕ) where
  from_blank : (f : Place ℕ → ℕ) (pairs : Pairs) (n : ℕ) → pairs.entered ≡ replicate n false
      → (p m : ℕ)
      → left_from table haystack f pairs p m ≡ sum_by f table * m
  from_blank f pairs n none p zero = omega arith
  from_blank f pairs n none p (suc m) =
      let pair = pair_number pairs.places pairs.first 0 (offset (chars haystack) p) in
      let here : left_in f pairs.entered pair table ≡ sum_by f table
      = ap (λ z. left_in f z pair table) none ∙ stretch_blank f n pair table in
      let more = from_blank f pairs n none (suc p) m in
      let one = mul-suc (sum_by f table) m in
      omega (arith, here, more, one)

  -- of a search that has entered nothing all is left
  pub left_blank : (f : Place ℕ → ℕ) (pairs : Pairs) (n : ℕ) → pairs.entered ≡ replicate n false
      → left_of table haystack f pairs
      ≡ sum_by f table * (characters_left (chars haystack) (position_at haystack pairs.first) + 1)
  left_blank f pairs n none =
      from_blank f pairs n none (position_at haystack pairs.first)
      (characters_left (chars haystack) (position_at haystack pairs.first) + 1)

  from_most : (f : Place ℕ → ℕ) (pairs : Pairs) (p m : ℕ)
      → left_from table haystack f pairs p m ≤ sum_by f table * m
  from_most f pairs p zero = omega arith
  from_most f pairs p (suc m) =
      let pair = pair_number pairs.places pairs.first 0 (offset (chars haystack) p) in
      let here = stretch_most f pairs.entered pair table in
      let more = from_most f pairs (suc p) m in
      let one = mul-suc (sum_by f table) m in
      omega (arith, here, more, one)

  -- no more is ever left
  pub left_most : (f : Place ℕ → ℕ) (pairs : Pairs)
      → left_of table haystack f pairs
      ≤ sum_by f table * (characters_left (chars haystack) (position_at haystack pairs.first) + 1)
  left_most f pairs =
      from_most f pairs (position_at haystack pairs.first)
      (characters_left (chars haystack) (position_at haystack pairs.first) + 1)

-- each place counts one
pub lone_all : (table : List (Place ℕ)) → sum_by lone table ≡ length table
lone_all [] = refl
lone_all (x ∷ table) = let more = lone_all table in omega (arith, more, sum_by-cons lone x table)

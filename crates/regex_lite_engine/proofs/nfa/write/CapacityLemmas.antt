-- What a part of a list of trees takes, beside what is after it.
use Rattle.regex_lite_engine.proofs.Common.{◌≡◌, ℕ, zero, suc, ◌+◌, ◌-◌, ◌*◌, ◌<◌, ◌≤◌, Bool, List}
use Rattle.regex_lite_engine.proofs.Common.{[], ◌∷◌, map, length, get_or, drop, Option, None, ap}
use Rattle.regex_lite_engine.proofs.Common.{arith, rules, trees, greatest_index, greatest_index_in}
use Rattle.regex_lite_engine.proofs.Common.{tree_of, copies, own_places, places, places_in}
use Rattle.regex_lite_syntax.specs.declared.hir.Hir.{Hir}

pub part_places : (parts : List Hir) (i : ℕ) (part : Hir) → i < length parts
    → part ≡ get_or parts i part
    → places (tree_of part) + places_in (trees (map tree_of (drop (suc i) parts)))
    ≤ places_in (trees (map tree_of parts))
part_places [] i part inside is = absurd (omega arith)
part_places (a ∷ rest) zero part inside is =
    let same = ap (λ hir. places (tree_of hir)) is in omega (arith, same)
part_places (a ∷ rest) (suc i) part inside is =
    omega (arith, part_places rest i part (omega arith) is)

pub part_index : (parts : List Hir) (i : ℕ) (part : Hir) → i < length parts
    → part ≡ get_or parts i part
    → greatest_index (tree_of part) ≤ greatest_index_in (trees (map tree_of parts))
part_index [] i part inside is = absurd (omega arith)
part_index (a ∷ rest) zero part inside is =
    let same = ap (λ hir. greatest_index (tree_of hir)) is in omega (arith, same)
part_index (a ∷ rest) (suc i) part inside is =
    omega (arith, part_index rest i part (omega arith) is)

-- the copy in the loop, with the choice, and those before it
pub endless_room : {most : Option ℕ} (least body : ℕ) (nullable_body : Bool) → most ≡ None
    → 0 < least
    → copies least most * body + own_places least most nullable_body
    ≡ (least - 1) * body + (body + 1)
endless_room zero body nullable_body endless some = absurd (omega arith)
endless_room (suc n) body nullable_body endless some = rw endless (search rules)

-- without a copy before the loop
pub star_room : {most : Option ℕ} {least : ℕ} (body : ℕ) (nullable_body : Bool) → least ≡ 0
    → most ≡ None → copies least most * body + own_places least most nullable_body
    ≡ body + own_places 0 None nullable_body
star_room body nullable_body none endless = rw (none, endless) (omega arith)

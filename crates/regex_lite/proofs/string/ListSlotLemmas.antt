-- The slots that searches for several patterns keep are enough for the groups of each pattern.
use Rattle.regex_lite.proofs.Common.{◌≡◌, ℕ, zero, suc, ◌*◌, ◌<◌, ◌≤◌, List, [], ◌∷◌, length, take}
use Rattle.regex_lite.proofs.Common.{IfSome, slice_get, Some, None, Option, sym, refl, ap, ◌∙◌}
use Rattle.regex_lite.proofs.Common.{arith, Tree, StoredGroups, Outcome, groups_at, most_captures}
use Rattle.regex_lite.proofs.Common.{kept_slots, all_slots, most_groups, Expression, AreTrees}
use Rattle.regex_lite.proofs.Common.{AreSlotsForAllGroups, CompiledList}
use Rattle.regex_lite.specs.CompiledList.{IsBuiltList}
use Rattle.regex_lite.proofs.ListBuildLemmas.{one_list}
use Rattle.regex_lite_engine.specs.Graph.StoredList.{TellGroupsOf}

-- a search has kept as many slots as were asked for
module _ (n : ℕ) where
  pub room_kept : (list : List Expression) (reported : Option (ℕ × Outcome))
      → IfSome reported (λ found. length found.1.slots.items ≡ n) → AreSlotsForAllGroups list n
      → IfSome reported (λ found. AreSlotsForAllGroups list (length found.1.slots.items))
  room_kept list None len room = tt
  room_kept list (Some found) len room = (room.0, room.1, len ∙ room.2)

  -- where none were, there is room for those of the whole match
  pub room_whole : (whole : List (Option ℕ)) (reported : Option (ℕ × Outcome))
      → IfSome reported (λ found. length found.1.slots.items ≡ n) → (n ≡ 0 → length whole ≡ 2)
      → IfSome reported (λ found. found.1.slots.items ≡ [] → length whole ≡ 2)
  room_whole whole None len room = tt
  room_whole whole (Some found) len room = λ none. room (sym len ∙ ap (λ slots. length slots) none)

-- no pattern has more groups than the one with the most
pub most_at : (all : List StoredGroups) (number : ℕ) → number < length all
    → length (groups_at all number).capture_names ≤ most_groups all
most_at [] number less = absurd (omega (arith, less))
most_at (own ∷ rest) zero less = omega arith
most_at (own ∷ rest) (suc number) less =
    omega (arith, most_at rest number (omega (arith, less)))

pub in_whole : {A : Type 0} (xs : List A) (n k : ℕ) (x : A) → slice_get (take n xs) k ≡ Some x
    → slice_get xs k ≡ Some x
in_whole xs zero k x there = absurd cc
in_whole [] (suc n) k x there = absurd cc
in_whole (y ∷ xs) (suc n) zero x there = there
in_whole (y ∷ xs) (suc n) (suc k) x there = in_whole xs n k x there

-- there are at least two slots for each group of a pattern with no more groups than the most
pub enough_kept : (kept : List (Option ℕ)) (span : ℕ × ℕ) (most own : ℕ)
    → length kept ≡ kept_slots most → own ≤ most → 2 * own ≤ length (all_slots kept span)
enough_kept kept span zero own len le = omega (arith, le)
enough_kept [] span (suc zero) own len le = omega (arith, le)
enough_kept (slot ∷ kept) span (suc zero) own len le = absurd (omega (arith, len))
enough_kept [] span (suc (suc most)) own len le = absurd (omega (arith, len))
enough_kept (slot ∷ kept) span (suc (suc most)) own len le = omega (arith, len, le)

-- as many slots are kept as the pattern with the most groups needs
pub most_are : (trees : List Tree) (all : List StoredGroups) → length all ≡ length trees
    → TellGroupsOf trees all → most_groups all ≡ most_captures trees
most_are [] [] same tell = refl
most_are [] (own ∷ rest) same tell = absurd (omega (arith, same))
most_are (tree ∷ trees) [] same tell = absurd (omega (arith, same))
most_are (tree ∷ trees) (own ∷ rest) same tell =
    let first = (tell 0 tree own refl refl).captures in
    let others = most_are trees rest (omega (arith, same))
    (λ number t o there at. tell (suc number) t o there at) in
    rw (first, others) refl

-- as many are kept as the list does
pub width_kept : (list : List Expression) (compiled : CompiledList) (built : IsBuiltList compiled)
    → AreTrees list built.trees → (n : ℕ) → AreSlotsForAllGroups list n → n ≡ compiled.kept_slots
width_kept list compiled built given n room =
    room.2
    ∙ ap (λ (trees : List Tree). kept_slots (most_captures trees))
    (one_list list room.0 built.trees room.1 given) ∙ sym (built.slots ∙ ap kept_slots
    (most_are built.trees compiled.graph.groups built.groups.all built.groups.each))

-- The slots that a search keeps for the groups of a match, and those of all groups.
use Rattle.std.specs.Prelude.{◌*◌, ℕ, zero, suc, List, [], ◌∷◌, Option, Some, length, max}
use Rattle.regex_lite_engine.specs.Graph.StoredList.{StoredGroups}

-- the number of slots that are kept for this many groups: two for each, but none if the whole match
-- is the only group, since its span is known
abbrev pub kept_slots : (groups : ℕ) → ℕ
kept_slots (suc zero) = 0
kept_slots groups = 2 * groups

-- the slots of all groups of a match with this span, of which these were kept: the two of the whole
-- match if none were
abbrev pub all_slots : (kept : List (Option ℕ)) → (span : ℕ × ℕ) → List (Option ℕ)
all_slots [] span = Some span.0 ∷ Some span.1 ∷ []
all_slots (slot ∷ kept) span = slot ∷ kept

-- the number of groups of the pattern with the most, given the stored groups of each pattern
abbrev pub most_groups : List StoredGroups → ℕ
most_groups [] = 0
most_groups (own ∷ rest) = max (length own.capture_names) (most_groups rest)

-- What is returned for the names of groups.
use Rattle.std.specs.Prelude.{◌≡◌, ℕ, List, Option, Some, None, slice_get}
use Rattle.regex_lite.specs.Expression.{Expression, AreNames, OfTree}
use Rattle.regex_lite.specs.Groups.{index_of}
use Rattle.regex_lite_c.specs.Buffers.{IsWritten}
use Rattle.regex_lite_c.specs.declared.answer.TheConstants.{NO, YES, NO_GROUP}

-- the name of a group was written to the buffer; or it has none, or doesn't exist, and nothing
-- changes
abbrev pub IsNameReported : Option (Option (List ℕ)) → (old new : List ℕ) → (old_len len answer : ℕ)
    → Type 0
IsNameReported None old new old_len len answer =
    (answer ≡ NO_GROUP) × (new ≡ old) × (len ≡ old_len)
IsNameReported (Some None) old new old_len len answer =
    (answer ≡ NO) × (new ≡ old) × (len ≡ old_len)
IsNameReported (Some (Some name)) old new old_len len answer = IsWritten name old new len answer

-- the answer for the name of the group with this index
abbrev pub IsNameAnswer : Expression → (index : ℕ) → (old new : List ℕ)
    → (old_len len answer : ℕ) → Type 0
IsNameAnswer re index old new old_len len answer =
    (names : List (Option (List ℕ))) × OfTree re (AreNames names)
    × IsNameReported (slice_get names index) old new old_len len answer

-- an index was written; or there is none, and nothing changes
abbrev pub IsIndexReported : Option ℕ → (old new answer : ℕ) → Type 0
IsIndexReported None old new answer = (answer ≡ NO) × (new ≡ old)
IsIndexReported (Some index) old new answer = (answer ≡ YES) × (new ≡ index)

-- the answer for the index of the group with this name
abbrev pub IsIndexAnswer : Expression → (name : List ℕ) → (old new answer : ℕ) → Type 0
IsIndexAnswer re name old new answer =
    (names : List (Option (List ℕ))) × OfTree re (AreNames names)
    × IsIndexReported (index_of names name) old new answer

-- What a handle holds.
use Rattle.std.specs.Prelude.{List, Option, None, Some}
use base.Fml.{Fml, ftrue, fex}
use denote.RattleType.{RattleType}
use denote.RawPtr.{Ptr, block_ptr, null_ptr}
use Rattle.std.specs.Global.{Global}
use Rattle.std.specs.Box.Ownership.{box_owns}
use Rattle.std.specs.contracts.impls.GlobalAllocator.TheImpl.{ghosts}
use Rattle.regex_lite.specs.Expression.{Expression}
use Rattle.regex_lite.specs.contracts.string.list.RegexList as patterns
use Rattle.regex_lite.specs.contracts.string.regex.Regex as regex
use Rattle.regex_lite_c.specs.Searchers.{TextSearch}
use Rattle.regex_lite_c.specs.contracts.searcher.TextSearcher as searcher

-- the box of a value, which any `Global` can free, since all are equal
abbrev pub boxed_at : (row : RattleType) → Ptr → row.Denot → Fml
boxed_at row place value =
    fex Global (λ alloc. box_owns (ghosts.dealloc_token alloc) row place value)

abbrev pub nowhere : Fml
nowhere = fex ⊥ (λ _. ftrue)

-- a null handle holds nothing, and any other points to a box with a value of this type
abbrev pub holds_of : (row : RattleType) → Ptr → Option row.Denot → Fml
holds_of row null_ptr None = ftrue
holds_of row null_ptr (Some value) = nowhere
holds_of row (block_ptr b o) None = nowhere
holds_of row (block_ptr b o) (Some value) = boxed_at row (block_ptr b o) value

-- the handle of a regex
abbrev pub holds : Ptr → Option Expression → Fml
holds ptr value = holds_of regex.the_row ptr value

-- the handle of a list of patterns
abbrev pub holds_list : Ptr → Option (List Expression) → Fml
holds_list ptr value = holds_of patterns.the_row ptr value

-- the handle of a searcher with its text
abbrev pub holds_searcher : Ptr → Option TextSearch → Fml
holds_searcher ptr value = holds_of searcher.the_row ptr value

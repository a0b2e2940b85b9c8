-- Tables of the names of groups, and how they are filled.
use Rattle.std.specs.Option.{option_or}
use Rattle.std.specs.Prelude.{◌≡◌, ◌==◌, ℕ, List, Option, None, map, option_map, slice_index_or}
use Rattle.std.specs.declared.alloc.Global.{Global}
use Rattle.std.specs.declared.rc.RcStr.{RcStr}
use Rattle.regex_lite_syntax.specs.Text.{Text}
use Rattle.regex_lite_syntax.specs.Tree.Properties.{name_if}
use Rattle.regex_lite_syntax.specs.Tree.Views.{text_of_name}

-- the name that the table has for the group with this index
abbrev pub name_at : List (Option (RcStr Global)) → ℕ → Option Text
name_at names k = slice_index_or (map (option_map text_of_name) names) k None

-- the name of a single group
abbrev pub name_if_at : (index : ℕ) → Option Text → ℕ → Option Text
name_if_at index name k = name_if (index == k) name

-- the table after has the names of the table before and, where that has none, these names
abbrev pub AddsNames : (names : ℕ → Option Text) (before after : List (Option (RcStr Global)))
    → Type 0
AddsNames names before after =
    (k : ℕ) → name_at after k ≡ option_or (name_at before k) (names k)

-- A set of names that has the names of a list.
use Rattle.std.specs.Prelude.{◌≡◌, ℕ, Bool, List}
use Rattle.std.specs.List.{list_any}
use Rattle.std.specs.Ordering.{nat_cmp}
use Rattle.std.specs.Cmp.Lexicographic.{slice_cmp}
use Rattle.std.specs.Str.{bytes_eq}
use Rattle.std.specs.Rc.{rc_str_bytes}
use Rattle.std.specs.BTreeSet.{BTreeSet, contains_by}
use Rattle.std.specs.declared.alloc.Global.{Global}
use Rattle.std.specs.declared.rc.RcStr.{RcStr}

-- one of the names has these bytes
abbrev pub has_name : List (RcStr Global) → List ℕ → Bool
has_name names bytes = list_any (λ name. bytes_eq bytes (rc_str_bytes name)) names

-- a name of the set has these bytes
abbrev pub set_has_name : BTreeSet (RcStr Global) → List ℕ → Bool
set_has_name set bytes = contains_by (λ name. slice_cmp nat_cmp bytes (rc_str_bytes name)) set

-- the set has the names of the list
abbrev pub Knows : BTreeSet (RcStr Global) → List (RcStr Global) → Type 0
Knows set names = (bytes : List ℕ) → set_has_name set bytes ≡ has_name names bytes

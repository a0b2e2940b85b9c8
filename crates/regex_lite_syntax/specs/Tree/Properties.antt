-- Properties of a tree: whether it can match the empty text, and properties of its groups.
use Rattle.std.specs.Prelude.{ℕ, zero, suc, ◌≡◌, ◌+◌, ◌^◌, ◌==◌, nat_lt, max, Bool, true}
use Rattle.std.specs.Prelude.{false, ◌&&◌, ◌||◌, Option, Some, None, if◌then◌else◌}
use Rattle.std.specs.Option.{option_or}
use Rattle.regex_lite_syntax.specs.Text.{Text}
use Rattle.regex_lite_syntax.specs.Tree.{Tree, Trees, empty, character, class, look}
use Rattle.regex_lite_syntax.specs.Tree.{repetition, capture, concat, alternation, none, more}
use Rattle.regex_lite_syntax.specs.declared.hir.properties.Properties.{Properties}

-- no pass is required
abbrev pub is_zero : ℕ → Bool
is_zero zero = true
is_zero (suc n) = false

abbrev mutual
  -- the tree may match without reading a character
  pub nullable : Tree → Bool
  nullable empty = true
  nullable (character c) = false
  nullable (class ranges) = false
  nullable (look test) = true
  nullable (repetition least most greedy body) = is_zero least || nullable body
  nullable (capture index name body) = nullable body
  nullable (concat parts) = all_nullable parts
  nullable (alternation branches) = any_nullable branches

  pub all_nullable : Trees → Bool
  all_nullable none = true
  all_nullable (more a rest) = nullable a && all_nullable rest

  pub any_nullable : Trees → Bool
  any_nullable none = false
  any_nullable (more a rest) = nullable a || any_nullable rest

abbrev mutual
  -- the greatest index of a group, 0 if there is none
  pub greatest_index : Tree → ℕ
  greatest_index empty = 0
  greatest_index (character c) = 0
  greatest_index (class ranges) = 0
  greatest_index (look test) = 0
  greatest_index (repetition least most greedy body) = greatest_index body
  greatest_index (capture index name body) = max index (greatest_index body)
  greatest_index (concat parts) = greatest_index_in parts
  greatest_index (alternation branches) = greatest_index_in branches

  pub greatest_index_in : Trees → ℕ
  greatest_index_in none = 0
  greatest_index_in (more a rest) = max (greatest_index a) (greatest_index_in rest)

-- the number of groups of a match, including the whole match as group 0
abbrev pub captures_len : Tree → ℕ
captures_len tree = greatest_index tree + 1

-- the name, if this is the group
abbrev pub name_if : Bool → Option Text → Option Text
name_if true name = name
name_if false name = None

abbrev mutual
  -- the name of the group with this index, if the tree has the group and the group has a name
  pub group_name : Tree → ℕ → Option Text
  group_name empty k = None
  group_name (character c) k = None
  group_name (class ranges) k = None
  group_name (look test) k = None
  group_name (repetition least most greedy body) k = group_name body k
  group_name (capture index name body) k = option_or (name_if (index == k) name) (group_name body k)
  group_name (concat parts) k = group_name_in parts k
  group_name (alternation branches) k = group_name_in branches k

  pub group_name_in : Trees → ℕ → Option Text
  group_name_in none k = None
  group_name_in (more a rest) k = option_or (group_name a k) (group_name_in rest k)

-- the sum, if both are known
abbrev pub sum : Option ℕ → Option ℕ → Option ℕ
sum None b = None
sum (Some a) None = None
sum (Some a) (Some b) = Some (a + b)

-- the common number, if there is one
abbrev pub common : Option ℕ → Option ℕ → Option ℕ
common None b = None
common (Some a) None = None
common (Some a) (Some b) = if a == b then Some a else None

-- the number of groups that take part in a repetition; if no pass is required, it is known only if
-- there are none
abbrev pub in_passes : (least : ℕ) → Option ℕ → Option ℕ
in_passes (suc n) groups = groups
in_passes zero (Some zero) = Some zero
in_passes zero _ = None

abbrev mutual
  -- the least number of groups that take part in every match, if it is known
  pub static_groups : Tree → Option ℕ
  static_groups empty = Some 0
  static_groups (character c) = Some 0
  static_groups (class ranges) = Some 0
  static_groups (look test) = Some 0
  static_groups (repetition least most greedy body) = in_passes least (static_groups body)
  static_groups (capture index name body) = sum (Some 1) (static_groups body)
  static_groups (concat parts) = static_sum parts
  static_groups (alternation branches) = static_common branches

  pub static_sum : Trees → Option ℕ
  static_sum none = Some 0
  static_sum (more a rest) = sum (static_groups a) (static_sum rest)

  pub static_common : Trees → Option ℕ
  static_common none = Some 0
  static_common (more a none) = static_groups a
  static_common (more a (more b rest)) = common (static_groups a) (static_common (more b rest))

-- the least number of groups that take part in every match, including the whole match, if it is
-- known
abbrev pub static_captures_len : Tree → Option ℕ
static_captures_len tree = sum (Some 1) (static_groups tree)

-- the number, if it fits 32 bits
abbrev pub in_32_bits : Option ℕ → Option ℕ
in_32_bits None = None
in_32_bits (Some n) = if nat_lt n (2 ^ 32) then Some n else None

-- the properties are those of the tree
pub record ArePropertiesOf (tree : Tree) (properties : Properties) : Type 0 where
  pub nullable : properties.nullable ≡ nullable tree
  pub greatest_index : properties.greatest_index ≡ greatest_index tree
  pub static_groups : properties.static_groups ≡ in_32_bits (static_groups tree)

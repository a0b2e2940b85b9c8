-- The whole match, which is group 0, has no name: the groups of a pattern are numbered from 1.
use Rattle.regex_lite_syntax.proofs.Common.{◌≡◌, ℕ, ◌≤◌, false, ◌==◌, None, Option, refl, ap, ◌∙◌}
use Rattle.regex_lite_syntax.proofs.Common.{arith, ne_eqb, option_or, Text, Tree}
use Rattle.regex_lite_syntax.proofs.Common.{repetition, concat, alternation, Trees, more}
use Rattle.regex_lite_syntax.proofs.Common.{group_name, group_name_in, IsRegular}
use Rattle.regex_lite_syntax.specs.Tree.{capture, none}
use Rattle.regex_lite_syntax.specs.Tree.Properties.{name_if}
use Rattle.regex_lite_syntax.specs.Tree.Regular.{AreRegular}

not_this : (index : ℕ) (name rest : Option Text) → 1 ≤ index → rest ≡ None
    → option_or (name_if (index == 0) name) rest ≡ None
not_this index name rest from_one unnamed =
    let other : (index == 0) ≡ false = ne_eqb index 0 (λ e. omega (e, from_one, arith)) in
    ap (λ this. option_or (name_if this name) rest) other ∙ unnamed

mutual
  pub no_name : (tree : Tree) → IsRegular tree → group_name tree 0 ≡ None
  no_name (repetition least most greedy body) regular = no_name body regular.1
  no_name (capture index name body) regular =
      not_this index name (group_name body 0) regular.0 (no_name body regular.1)
  no_name (concat parts) regular = no_name_in parts regular.1
  no_name (alternation branches) regular = no_name_in branches regular.1
  no_name _ regular = refl

  no_name_in : (trees : Trees) → AreRegular trees → group_name_in trees 0 ≡ None
  no_name_in none regular = refl
  no_name_in (more a rest) regular =
      ap (λ name. option_or name (group_name_in rest 0)) (no_name a regular.0)
      ∙ no_name_in rest regular.1

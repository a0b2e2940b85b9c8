-- Trees as the grammar gives them.
use Rattle.std.specs.Prelude.{◌≤◌, ℕ, Option, Some, None, IsTrue}
use Rattle.regex_lite_syntax.specs.Characters.{is_character}
use Rattle.regex_lite_syntax.specs.Ranges.{AreRuns}
use Rattle.regex_lite_syntax.specs.Tree.{Tree, Trees, empty, character, class, look}
use Rattle.regex_lite_syntax.specs.Tree.{repetition, capture, concat, alternation, none, more}

-- the least number is at most the most, if there is a limit
abbrev pub InOrder : (least : ℕ) → (most : Option ℕ) → Type 0
InOrder least None = Unit {0}
InOrder least (Some most) = least ≤ most

-- two trees or more
abbrev pub HasTwo : Trees → Type 0
HasTwo none = ⊥
HasTwo (more a none) = ⊥
HasTwo (more a (more b rest)) = Unit {0}

-- a character is a Unicode scalar value, a set is given by its maximal runs in order, a
-- repetition's least number is at most its most, a group's index is at least 1, and a list has two
-- parts or more
abbrev mutual
  pub IsRegular : Tree → Type 0
  IsRegular (repetition least most greedy body) = InOrder least most × IsRegular body
  IsRegular (capture index name body) = (1 ≤ index) × IsRegular body
  IsRegular (concat parts) = HasTwo parts × AreRegular parts
  IsRegular (alternation branches) = HasTwo branches × AreRegular branches
  IsRegular empty = Unit {0}
  IsRegular (character c) = IsTrue (is_character c)
  IsRegular (class ranges) = AreRuns 0 ranges
  IsRegular (look test) = Unit {0}

  pub AreRegular : Trees → Type 0
  AreRegular none = Unit {0}
  AreRegular (more a rest) = IsRegular a × AreRegular rest

-- The numbers of places and arrows of a pattern that is written out, by cases on the tree.
use Rattle.std.specs.Prelude.{ℕ, zero, suc, ◌+◌, ◌-◌, ◌*◌, Bool, true, false}
use Rattle.std.specs.Prelude.{List, [], ◌∷◌, length, Option, Some, None}
use Rattle.regex_lite_syntax.specs.declared.class.ClassRange.{ClassRange}
use Rattle.regex_lite_syntax.specs.Tree.{Tree, Trees, empty, character, class, look}
use Rattle.regex_lite_syntax.specs.Tree.{repetition, capture, concat, alternation, none, more}
use Rattle.regex_lite_syntax.specs.Tree.Properties.{nullable}

-- the number of copies of its body that a repetition has
abbrev pub copies : (least : ℕ) → (most : Option ℕ) → ℕ
copies zero None = 1
copies (suc n) None = suc n
copies least (Some most) = least + (most - least)

-- the places besides the copies, by the least number and the difference between the most and the
-- least: none in {n}, an empty place in {0}, choice and join in {0,1}, and otherwise the choices
-- and the join, with an empty place if no copy comes before them
abbrev pub bounded_places : (least above : ℕ) → ℕ
bounded_places zero zero = 1
bounded_places (suc n) zero = 0
bounded_places zero (suc zero) = 2
bounded_places zero (suc (suc d)) = d + 4
bounded_places (suc n) (suc d) = d + 2

-- the places besides the copies
abbrev pub own_places : (least : ℕ) → (most : Option ℕ) → (nullable_body : Bool) → ℕ
own_places zero None true = 3
own_places zero None false = 1
own_places (suc n) None nullable_body = 1
own_places least (Some most) nullable_body = bounded_places least (most - least)

-- the arrows of these places
abbrev pub bounded_arrows : (least above : ℕ) → ℕ
bounded_arrows zero zero = 1
bounded_arrows (suc n) zero = 0
bounded_arrows zero (suc zero) = 3
bounded_arrows zero (suc (suc d)) = 2 * (d + 2) + 2
bounded_arrows (suc n) (suc d) = 2 * (d + 1) + 1

abbrev pub own_arrows : (least : ℕ) → (most : Option ℕ) → (nullable_body : Bool) → ℕ
own_arrows zero None true = 5
own_arrows zero None false = 2
own_arrows (suc n) None nullable_body = 2
own_arrows least (Some most) nullable_body = bounded_arrows least (most - least)

-- the number of these arrows that leave a choice, two for each choice
abbrev pub own_choice_arrows : (least : ℕ) → (most : Option ℕ) → (nullable_body : Bool) → ℕ
own_choice_arrows zero None true = 4
own_choice_arrows zero None false = 2
own_choice_arrows (suc n) None nullable_body = 2
own_choice_arrows least (Some most) nullable_body = 2 * (most - least)

-- the arrow that reads a character of the set; an empty set has none
abbrev pub class_arrows : List ClassRange → ℕ
class_arrows [] = 0
class_arrows (range ∷ rest) = 1

abbrev mutual
  pub places : Tree → ℕ
  places empty = 1
  places (character c) = 1
  places (class ranges) = 1
  places (look test) = 1
  places (repetition least most greedy body) =
      copies least most * places body + own_places least most (nullable body)
  places (capture index name body) = places body + 2
  places (concat parts) = places_in parts
  places (alternation branches) = places_in branches + 2

  pub places_in : Trees → ℕ
  places_in none = 0
  places_in (more a rest) = places a + places_in rest

abbrev mutual
  pub arrows : Tree → ℕ
  arrows empty = 1
  arrows (character c) = 1
  arrows (class ranges) = class_arrows ranges
  arrows (look test) = 1
  arrows (repetition least most greedy body) =
      copies least most * arrows body + own_arrows least most (nullable body)
  arrows (capture index name body) = arrows body + 2
  arrows (concat parts) = arrows_in parts
  -- one arrow to each branch, and one after the join
  arrows (alternation branches) = arrows_in branches + count branches + 1

  pub arrows_in : Trees → ℕ
  arrows_in none = 0
  arrows_in (more a rest) = arrows a + arrows_in rest

  pub count : Trees → ℕ
  count none = 0
  count (more a rest) = 1 + count rest

abbrev mutual
  -- the arrows of choices
  pub choice_arrows : Tree → ℕ
  choice_arrows empty = 0
  choice_arrows (character c) = 0
  choice_arrows (class ranges) = 0
  choice_arrows (look test) = 0
  choice_arrows (repetition least most greedy body) =
      copies least most * choice_arrows body + own_choice_arrows least most (nullable body)
  choice_arrows (capture index name body) = choice_arrows body
  choice_arrows (concat parts) = choice_arrows_in parts
  choice_arrows (alternation branches) = choice_arrows_in branches + count branches

  pub choice_arrows_in : Trees → ℕ
  choice_arrows_in none = 0
  choice_arrows_in (more a rest) = choice_arrows a + choice_arrows_in rest

abbrev mutual
  -- the places that read a character; that of an empty set reads none
  pub reading_places : Tree → ℕ
  reading_places empty = 0
  reading_places (character c) = 1
  reading_places (class ranges) = class_arrows ranges
  reading_places (look test) = 0
  reading_places (repetition least most greedy body) = copies least most * reading_places body
  reading_places (capture index name body) = reading_places body
  reading_places (concat parts) = reading_places_in parts
  reading_places (alternation branches) = reading_places_in branches

  pub reading_places_in : Trees → ℕ
  reading_places_in none = 0
  reading_places_in (more a rest) = reading_places a + reading_places_in rest

abbrev mutual
  -- the ranges of sets, in each copy
  pub ranges : Tree → ℕ
  ranges empty = 0
  ranges (character c) = 0
  ranges (class set) = length set
  ranges (look test) = 0
  ranges (repetition least most greedy body) = copies least most * ranges body
  ranges (capture index name body) = ranges body
  ranges (concat parts) = ranges_in parts
  ranges (alternation branches) = ranges_in branches

  pub ranges_in : Trees → ℕ
  ranges_in none = 0
  ranges_in (more a rest) = ranges a + ranges_in rest

-- the whole pattern: two places of group 0 with their arrows, and the one where the match is
-- complete
abbrev pub whole_places : Tree → ℕ
whole_places tree = places tree + 3

abbrev pub whole_arrows : Tree → ℕ
whole_arrows tree = arrows tree + 2

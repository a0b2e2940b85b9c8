-- The outline of a tree: its parts in preorder, the order of the pattern.
use Rattle.std.specs.Prelude.{ℕ, ◌+◌, List, [], ◌∷◌, ◌++◌, map}
use Rattle.regex_lite_syntax.specs.Tree.{Tree, Trees, empty, character, class, look}
use Rattle.regex_lite_syntax.specs.Tree.{repetition, capture, concat, alternation, none, more}
use Rattle.regex_lite_syntax.specs.declared.class.ClassRange.{ClassRange}
use Rattle.regex_lite_syntax.specs.declared.hir.outline.Part.{Part}
use Rattle.regex_lite_syntax.specs.declared.hir.outline.PartKind.{PartKind}
use Rattle.regex_lite_syntax.specs.declared.hir.outline.PartKind.TheVariants as kind

-- the kind of a tree's root, without a group's name
abbrev pub kind_of_root : Tree → PartKind
kind_of_root empty = kind.Empty
kind_of_root (character c) = kind.Char c
kind_of_root (class ranges) = kind.Class
kind_of_root (look test) = kind.Look test
kind_of_root (repetition least most greedy body) = kind.Repetition least most greedy
kind_of_root (capture index name body) = kind.Capture index
kind_of_root (concat parts) = kind.Concat
kind_of_root (alternation branches) = kind.Alternation

-- the root of a tree at this depth, as a part
abbrev pub root_at : Tree → (depth : ℕ) → Part
root_at tree depth = record { depth = depth; kind = kind_of_root tree }

-- the runs of a class, as parts
abbrev pub ranges_at : List ClassRange → (depth : ℕ) → List Part
ranges_at ranges depth = map (λ range. record { depth = depth; kind = kind.Range range }) ranges

abbrev mutual
  -- the parts of a tree whose root has this depth: the root, and one level below it its parts
  pub outline_at : Tree → (depth : ℕ) → List Part
  outline_at empty depth = root_at empty depth ∷ []
  outline_at (character c) depth = root_at (character c) depth ∷ []
  outline_at (class ranges) depth = root_at (class ranges) depth ∷ ranges_at ranges (depth + 1)
  outline_at (look test) depth = root_at (look test) depth ∷ []
  outline_at (repetition least most greedy body) depth =
      root_at (repetition least most greedy body) depth ∷ outline_at body (depth + 1)
  outline_at (capture index name body) depth =
      root_at (capture index name body) depth ∷ outline_at body (depth + 1)
  outline_at (concat parts) depth = root_at (concat parts) depth ∷ outlines_at parts (depth + 1)
  outline_at (alternation branches) depth =
      root_at (alternation branches) depth ∷ outlines_at branches (depth + 1)

  -- the parts of several trees, one tree after another
  pub outlines_at : Trees → (depth : ℕ) → List Part
  outlines_at none depth = []
  outlines_at (more a rest) depth = outline_at a depth ++ outlines_at rest depth

-- the parts of a tree
abbrev pub outline : Tree → List Part
outline tree = outline_at tree 0

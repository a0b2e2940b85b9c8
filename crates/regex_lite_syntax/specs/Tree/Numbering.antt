-- The indices of a tree's groups.
use Rattle.std.specs.Prelude.{◌≢◌, ℕ, List, [], ◌∷◌, ◌++◌, AllPairs}
use Rattle.regex_lite_syntax.specs.Tree.{Tree, Trees, empty, character, class, look}
use Rattle.regex_lite_syntax.specs.Tree.{repetition, capture, concat, alternation, none, more}

abbrev mutual
  -- the indices in the order of the opening parentheses
  pub indices : Tree → List ℕ
  indices empty = []
  indices (character c) = []
  indices (class ranges) = []
  indices (look test) = []
  indices (repetition least most greedy body) = indices body
  indices (capture index name body) = index ∷ indices body
  indices (concat parts) = indices_in parts
  indices (alternation branches) = indices_in branches

  pub indices_in : Trees → List ℕ
  indices_in none = []
  indices_in (more a rest) = indices a ++ indices_in rest

-- no index occurs twice
abbrev pub IndicesDiffer : Tree → Type 0
IndicesDiffer tree = AllPairs (λ index later. index ≢ later) (indices tree)

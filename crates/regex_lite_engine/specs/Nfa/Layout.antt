-- The order in which a tree's places are written: numbered from `base` on, the last part first, so
-- that the number of what follows is known.
use Rattle.std.specs.Prelude.{◌≡◌, ℕ, ◌+◌, ◌*◌, List, [], ◌∷◌, ◌++◌, length, map}
use Rattle.regex_lite_syntax.specs.Tree.{Tree, Trees, empty, character, class, look}
use Rattle.regex_lite_syntax.specs.Tree.{repetition, capture, concat, alternation, none, more}
use Rattle.regex_lite_syntax.specs.Tree.Properties.{nullable}
use Rattle.regex_lite_engine.specs.Graph.PlaceCounts.{whole_places}
use Rattle.regex_lite_engine.specs.Graph.Places.{Place, complete, with_arrows, go, go_marking}
use Rattle.regex_lite_engine.specs.Graph.Places.{go_holding, one_char, one_of}
use Rattle.regex_lite_engine.specs.Nfa.Fragments.{Fragment, alone, before}
use Rattle.regex_lite_engine.specs.Nfa.Repetitions.{repetition_layout}

-- these places were added to the table, and are entered at `entry`
abbrev pub IsAdded : (old new : List (Place ℕ)) → (entry : ℕ) → Fragment → Type 0
IsAdded old new entry written = (entry ≡ written.1) × (new ≡ old ++ written.0)

-- the layout of a group: the place that closes it, the body, the place that opens it
abbrev pub capture_layout : (index : ℕ) → (body : ℕ → ℕ → Fragment) → (base exit : ℕ) → Fragment
capture_layout index body base exit =
    let inner = body (base + 1) base in (
      with_arrows (go_marking (2 * index + 1) exit ∷ [])
          ∷ (inner.0 ++ with_arrows (go_marking (2 * index) inner.1 ∷ []) ∷ []),
      base + 1 + length inner.0,
    )

-- the layout of an alternation: the join, the branches, the choice
abbrev pub alternation_layout : (branches : ℕ → ℕ → List (Place ℕ) × List ℕ)
    → (base exit : ℕ) → Fragment
alternation_layout branches base exit =
    let inner = branches (base + 1) base in (
      with_arrows (go exit ∷ []) ∷ (inner.0 ++ with_arrows (map go inner.1) ∷ []),
      base + 1 + length inner.0,
    )

abbrev mutual
  pub layout : Tree → (base exit : ℕ) → Fragment
  layout empty base exit = alone (with_arrows (go exit ∷ [])) base
  layout (character c) base exit = alone (one_char c exit) base
  layout (class ranges) base exit = alone (one_of ranges exit) base
  layout (look test) base exit = alone (with_arrows (go_holding test exit ∷ [])) base
  layout (repetition least most greedy body) base exit =
      repetition_layout greedy (layout body) least most (nullable body) base exit
  layout (capture index name body) base exit = capture_layout index (layout body) base exit
  layout (concat parts) base exit = chain_layout parts base exit
  layout (alternation branches) base exit =
      alternation_layout (branches_layout branches) base exit

  -- the layout of a concatenation: the last part first
  pub chain_layout : Trees → (base exit : ℕ) → Fragment
  chain_layout none base exit = ([], exit)
  chain_layout (more a rest) base exit =
      let later = chain_layout rest base exit in
      before later (layout a (base + length later.0) later.1)

  -- the branches in order, and the places at which they are entered
  pub branches_layout : Trees → (base exit : ℕ) → List (Place ℕ) × List ℕ
  branches_layout none base exit = ([], [])
  branches_layout (more a rest) base exit =
      let first = layout a base exit in
      let later = branches_layout rest (base + length first.0) exit in
      (first.0 ++ later.0, first.1 ∷ later.1)

-- the layout of a whole pattern, after the place with this number where its match is complete
abbrev pub pattern_layout : Tree → (base : ℕ) → Fragment
pattern_layout tree base = capture_layout 0 (layout tree) (base + 1) base

abbrev pub pattern_table : Tree → (base : ℕ) → List (Place ℕ)
pattern_table tree base = complete ∷ (pattern_layout tree base).0

-- the places of the patterns, one pattern after another
abbrev pub patterns_table : List Tree → (base : ℕ) → List (Place ℕ)
patterns_table [] base = []
patterns_table (tree ∷ trees) base =
    pattern_table tree base ++ patterns_table trees (base + whole_places tree)

-- the places at which the patterns are entered
abbrev pub patterns_entries : List Tree → (base : ℕ) → List ℕ
patterns_entries [] base = []
patterns_entries (tree ∷ trees) base =
    (pattern_layout tree base).1 ∷ patterns_entries trees (base + whole_places tree)

-- Addresses of places in a tree, and where a tree is entered.
use Rattle.std.specs.Prelude.{ℕ, zero, suc, List, [], ◌∷◌, ◌++◌}
use Rattle.regex_lite_syntax.specs.Tree.{Tree, Trees, empty, character, class, look}
use Rattle.regex_lite_syntax.specs.Tree.{repetition, capture, concat, alternation, none, more}

-- An address leads into the tree. Part, branch or copy k of a tree is at k + 1, and then come the
-- numbers of an address inside it. The tree's own place k is at 0 and k
abbrev pub Address : Type 0
Address = List ℕ

-- the address of part, branch or copy k of the tree at this address
abbrev pub part : Address → ℕ → Address
part pre k = pre ++ suc k ∷ []

-- the address of the tree's own place k
abbrev pub own : Address → ℕ → Address
own pre k = pre ++ zero ∷ k ∷ []

-- the entry of a repetition: the body's, if a pass is required
abbrev pub repetition_entry : Address → (enter : Address → Address) → (least : ℕ) → Address
repetition_entry pre enter zero = own pre 0
repetition_entry pre enter (suc n) = enter (part pre 0)

abbrev mutual
  -- the first place of the tree at this address
  pub entry : Tree → Address → Address
  entry empty pre = own pre 0
  entry (character c) pre = own pre 0
  entry (class ranges) pre = own pre 0
  entry (look test) pre = own pre 0
  entry (repetition least most greedy body) pre = repetition_entry pre (entry body) least
  entry (capture index name body) pre = own pre 0
  entry (concat parts) pre = chain_entry parts pre 0 (own pre 0)
  entry (alternation branches) pre = own pre 0

  -- the first place of the parts from part k on, or what follows them if there is none
  pub chain_entry : Trees → Address → ℕ → (exit : Address) → Address
  chain_entry none pre k exit = exit
  chain_entry (more a rest) pre k exit = entry a (part pre k)

  pub branch_entries : Trees → Address → ℕ → List Address
  branch_entries none pre k = []
  branch_entries (more a rest) pre k = entry a (part pre k) ∷ branch_entries rest pre (suc k)

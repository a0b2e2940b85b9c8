-- A pattern written out as places with ordered arrows: one row of a table for each kind of tree.
use Rattle.std.specs.Prelude.{ℕ, zero, suc, ◌+◌, ◌*◌, List, [], ◌∷◌, map, Some, None, unwrap_or}
use Rattle.regex_lite_syntax.specs.Text.{Text}
use Rattle.regex_lite_syntax.specs.Tree.{Tree, Trees, empty, character, class, look}
use Rattle.regex_lite_syntax.specs.Tree.{repetition, capture, concat, alternation, none, more}
use Rattle.regex_lite_syntax.specs.Tree.Properties.{nullable}
use Rattle.regex_lite_engine.specs.Graph.Places.{Place, complete, with_arrows, go, go_marking}
use Rattle.regex_lite_engine.specs.Graph.Places.{go_holding, one_char, one_of, step}
use Rattle.regex_lite_engine.specs.Graph.Ways.{IsWay}
use Rattle.regex_lite_engine.specs.Graph.Addresses.{Address, part, own, entry}
use Rattle.regex_lite_engine.specs.Graph.Addresses.{chain_entry, branch_entries}
use Rattle.regex_lite_engine.specs.Graph.Repetitions.{Content, repetition_row}

-- the row of a tree with a single place
abbrev pub leaf_row : Place Address → Address → Content
leaf_row place (zero ∷ zero ∷ []) = Some place
leaf_row place a = None

-- the place that opens the group is 0 and marks its first slot, the one that closes it 1 and its
-- second
abbrev pub capture_row : Address → (index : ℕ) → (enter : Address → Address)
    → (inside : Address → (exit : Address) → Address → Content)
    → (exit : Address) → Address → Content
capture_row pre index enter inside exit (zero ∷ zero ∷ []) =
    Some (with_arrows (go_marking (2 * index) (enter (part pre 0)) ∷ []))
capture_row pre index enter inside exit (zero ∷ suc zero ∷ []) =
    Some (with_arrows (go_marking (2 * index + 1) exit ∷ []))
capture_row pre index enter inside exit (suc zero ∷ a) = inside (part pre 0) (own pre 1) a
capture_row pre index enter inside exit a = None

-- the choice of the branches is 0, their join 1
abbrev pub alternation_row : (entries : List Address) → (inside : ℕ → Address → Content)
    → (exit : Address) → Address → Content
alternation_row entries inside exit (zero ∷ zero ∷ []) = Some (with_arrows (map go entries))
alternation_row entries inside exit (zero ∷ suc zero ∷ []) = Some (with_arrows (go exit ∷ []))
alternation_row entries inside exit (suc c ∷ a) = inside c a
alternation_row entries inside exit a = None

-- a concatenation has no place of its own
abbrev pub concat_row : (inside : ℕ → Address → Content) → Address → Content
concat_row inside (suc c ∷ a) = inside c a
concat_row inside a = None

abbrev mutual
  -- the place at the address `pre ++ a`, if the tree is at `pre` and `exit` follows it
  pub place_at : Tree → (pre exit a : Address) → Content
  place_at empty pre exit a = leaf_row (with_arrows (go exit ∷ [])) a
  place_at (character c) pre exit a = leaf_row (one_char c exit) a
  place_at (class ranges) pre exit a = leaf_row (one_of ranges exit) a
  place_at (look test) pre exit a = leaf_row (with_arrows (go_holding test exit ∷ [])) a
  place_at (repetition least most greedy body) pre exit a =
      repetition_row pre greedy (entry body) (place_at body) least most (nullable body) exit a
  place_at (capture index name body) pre exit a =
      capture_row pre index (entry body) (place_at body) exit a
  place_at (concat parts) pre exit a = concat_row (place_in_chain parts pre 0 exit) a
  place_at (alternation branches) pre exit a =
      alternation_row (branch_entries branches pre 0) (place_in_branch branches pre 0 (own pre 1))
      exit a

  -- the place at an address in part c of the parts, which are numbered from k on
  pub place_in_chain : Trees → Address → ℕ → (exit : Address) → ℕ → Address → Content
  place_in_chain none pre k exit c a = None
  place_in_chain (more t rest) pre k exit zero a =
      place_at t (part pre k) (chain_entry rest pre (suc k) exit) a
  place_in_chain (more t rest) pre k exit (suc c) a = place_in_chain rest pre (suc k) exit c a

  pub place_in_branch : Trees → Address → ℕ → (exit : Address) → ℕ → Address → Content
  place_in_branch none pre k exit c a = None
  place_in_branch (more t rest) pre k exit zero a = place_at t (part pre k) exit a
  place_in_branch (more t rest) pre k exit (suc c) a = place_in_branch rest pre (suc k) exit c a

-- the whole pattern is group 0 around the tree, which is at 1, followed by the place at 0 where the
-- match is complete
abbrev pub whole : Tree → Tree
whole tree = capture 0 None tree

abbrev pub end_address : Address
end_address = zero ∷ []

abbrev pub start_address : Address
start_address = entry (whole empty) (1 ∷ [])

abbrev pub written_out : Tree → Address → Content
written_out tree (zero ∷ []) = Some complete
written_out tree (suc zero ∷ a) = place_at (whole tree) (1 ∷ []) end_address a
written_out tree a = None

-- the place at an address; if there is none, a place without arrows
abbrev pub place_of_pattern : Tree → Address → Place Address
place_of_pattern tree a = unwrap_or (written_out tree a) (with_arrows [])

-- a way, an accepting path of the NFA, from position i to position j: the number of the arrow that
-- is taken at each place; no place is visited twice at one position
abbrev pub IsWayThrough : Tree → Text → ℕ → (arrows : List ℕ) → ℕ → Type 0
IsWayThrough tree haystack i arrows j =
    IsWay (Address × ℕ) (step haystack (place_of_pattern tree)) (start_address, i) arrows
    (end_address, j)

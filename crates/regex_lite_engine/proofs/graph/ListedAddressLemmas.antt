-- Each address at which a tree has a place is among the addresses of the tree.
use Rattle.regex_lite_engine.proofs.Common.{◌≡◌, ℕ, zero, suc, ◌+◌, List, [], ◌∷◌, Some, refl, inl}
use Rattle.regex_lite_engine.proofs.Common.{inr, Tree, empty, character, class, look, repetition}
use Rattle.regex_lite_engine.proofs.Common.{capture, concat, alternation, Trees, none, more}
use Rattle.regex_lite_engine.proofs.Common.{nullable, Address, part, own, entry, branch_entries}
use Rattle.regex_lite_engine.proofs.Common.{Content, place_at, place_in_chain, place_in_branch}
use Rattle.regex_lite_engine.proofs.Common.{whole, end_address, written_out}
use Rattle.regex_lite_engine.specs.Graph.Places.{Place}
use Rattle.regex_lite_engine.specs.Graph.WrittenOut.{leaf_row, capture_row, alternation_row}
use Rattle.regex_lite_engine.specs.Graph.WrittenOut.{concat_row}
use Rattle.regex_lite_engine.proofs.graph.AddressLemmas.{own_place, in_part, framed, addresses}
use Rattle.regex_lite_engine.proofs.graph.AddressLemmas.{chain_addresses, branches_addresses}
use Rattle.regex_lite_engine.proofs.graph.AmongLemmas.{from_0, from_first, from_later, in_framed}
use Rattle.regex_lite_engine.proofs.graph.ListedRowLemmas.{ListsAll, listed_repetition}
use Rattle.regex_lite_engine.proofs.InLemmas.{In, in_left, in_right, in_last, in_map}

listed_leaf : (own_content : Place Address) (a : Address) (place : Place Address)
    → leaf_row own_content a ≡ Some place → In a (own_place 0 ∷ [])
listed_leaf own_content (zero ∷ zero ∷ []) place e = inl refl
listed_leaf own_content a place e = absurd (cc)

listed_capture : (pre : Address) (index : ℕ) (enter : Address → Address)
    (inside : Address → (exit : Address) → Address → Content) (list : List Address)
    → ListsAll inside list → (exit a : Address) (place : Place Address)
    → capture_row pre index enter inside exit a ≡ Some place → In a (framed (in_part 0 list))
listed_capture pre index enter inside list all exit (zero ∷ zero ∷ []) place e =
    inr (in_last (own_place 0) (in_part 0 list))
listed_capture pre index enter inside list all exit (zero ∷ suc zero ∷ []) place e = inl refl
listed_capture pre index enter inside list all exit (suc zero ∷ a) place e =
    let here = in_map (λ b. 1 ∷ b) a list (all (part pre 0) (own pre 1) a place e) in
    in_framed (1 ∷ a) (in_part 0 list) here
listed_capture pre index enter inside list all exit a place e = absurd (cc)

-- the list has each address at which there is a place in a part, which are numbered from k on
abbrev ListsParts : (parts : ℕ → Address → Content) → ℕ → List Address → Type 0
ListsParts parts k list =
    (c : ℕ) (a : Address) (place : Place Address) → parts c a ≡ Some place
    → In (suc (k + c) ∷ a) list

listed_alternation : (entries : List Address) (parts : ℕ → Address → Content)
    (list : List Address) → ListsParts parts 0 list → (exit a : Address) (place : Place Address)
    → alternation_row entries parts exit a ≡ Some place → In a (framed list)
listed_alternation entries parts list all exit (zero ∷ zero ∷ []) place e =
    inr (in_last (own_place 0) list)
listed_alternation entries parts list all exit (zero ∷ suc zero ∷ []) place e = inl refl
listed_alternation entries parts list all exit (suc c ∷ a) place e =
    in_framed (suc c ∷ a) list (from_0 (λ n. suc n ∷ a) list c (all c a place e))
listed_alternation entries parts list all exit a place e = absurd (cc)

listed_concat : (parts : ℕ → Address → Content) (list : List Address) → ListsParts parts 0 list
    → (a : Address) (place : Place Address) → concat_row parts a ≡ Some place → In a list
listed_concat parts list all (suc c ∷ a) place e =
    from_0 (λ n. suc n ∷ a) list c (all c a place e)
listed_concat parts list all a place e = absurd (cc)

mutual
  pub listed_tree : (tree : Tree) → ListsAll (place_at tree) (addresses tree)
  listed_tree empty pre exit a place e = listed_leaf _ a place e
  listed_tree (character c) pre exit a place e = listed_leaf _ a place e
  listed_tree (class ranges) pre exit a place e = listed_leaf _ a place e
  listed_tree (look test) pre exit a place e = listed_leaf _ a place e
  listed_tree (repetition least most greedy body) pre exit a place e =
      let row = listed_repetition pre greedy (entry body) (place_at body) (addresses body) in
      row (listed_tree body) least most (nullable body) exit a place e
  listed_tree (capture index name body) pre exit a place e =
      let row = listed_capture pre index (entry body) (place_at body) (addresses body) in
      row (listed_tree body) exit a place e
  listed_tree (concat parts) pre exit a place e =
      let row = listed_concat (place_in_chain parts pre 0 exit) (chain_addresses parts 0) in
      row (listed_chain parts pre 0 exit) a place e
  listed_tree (alternation branches) pre exit a place e =
      let inside = place_in_branch branches pre 0 (own pre 1) in
      let row = listed_alternation (branch_entries branches pre 0) inside _ in
      row (listed_branches branches pre 0 (own pre 1)) exit a place e

  listed_chain : (parts : Trees) (pre : Address) (k : ℕ) (exit : Address)
      → ListsParts (place_in_chain parts pre k exit) k (chain_addresses parts k)
  listed_chain none pre k exit c a place e = absurd (cc)
  listed_chain (more t rest) pre k exit zero a place e =
      let own = listed_tree t (part pre k) _ a place e in
      let first = in_map (λ b. suc k ∷ b) a (addresses t) own in
      let here = in_right (suc k ∷ a) (chain_addresses rest (suc k)) _ first in
      from_first (λ n. suc n ∷ a) (chain_addresses (more t rest) k) k here
  listed_chain (more t rest) pre k exit (suc c) a place e =
      let later = listed_chain rest pre (suc k) exit c a place e in
      let here = in_left _ (chain_addresses rest (suc k)) (in_part k (addresses t)) later in
      from_later (λ n. suc n ∷ a) (chain_addresses (more t rest) k) k c here

  listed_branches : (branches : Trees) (pre : Address) (k : ℕ) (exit : Address)
      → ListsParts (place_in_branch branches pre k exit) k (branches_addresses branches k)
  listed_branches none pre k exit c a place e = absurd (cc)
  listed_branches (more t rest) pre k exit zero a place e =
      let own = listed_tree t (part pre k) exit a place e in
      let first = in_map (λ b. suc k ∷ b) a (addresses t) own in
      let here = in_left _ (in_part k (addresses t)) (branches_addresses rest (suc k)) first in
      from_first (λ n. suc n ∷ a) (branches_addresses (more t rest) k) k here
  listed_branches (more t rest) pre k exit (suc c) a place e =
      let later = listed_branches rest pre (suc k) exit c a place e in
      let here = in_right _ (in_part k (addresses t)) (branches_addresses rest (suc k)) later in
      from_later (λ n. suc n ∷ a) (branches_addresses (more t rest) k) k c here

-- the addresses of the whole pattern, the place where the match is complete first
abbrev pub whole_addresses : Tree → List Address
whole_addresses tree = end_address ∷ in_part 0 (addresses (whole tree))

pub listed_whole : (tree : Tree) (a : Address) (place : Place Address)
    → written_out tree a ≡ Some place → In a (whole_addresses tree)
listed_whole tree (zero ∷ []) place e = inl refl
listed_whole tree (suc zero ∷ a) place e =
    let inner = listed_tree (whole tree) (1 ∷ []) end_address a place e in
    inr (in_map (λ b. 1 ∷ b) a (addresses (whole tree)) inner)
listed_whole tree a place e = absurd (cc)

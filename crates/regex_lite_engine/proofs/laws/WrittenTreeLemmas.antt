-- A tree stands in the graph that has its places, and so a whole pattern where it is written out.
use Rattle.regex_lite_engine.proofs.Common.{ℕ, suc, [], ◌∷◌, None, Option, unwrap_or, refl, ap}
use Rattle.regex_lite_engine.proofs.Common.{Text, Tree, empty, character, class, look, repetition}
use Rattle.regex_lite_engine.proofs.Common.{capture, concat, alternation, Trees, none, more}
use Rattle.regex_lite_engine.proofs.Common.{nullable, IsRegular, Address, part, own, entry}
use Rattle.regex_lite_engine.proofs.Common.{branch_entries, with_arrows, place_at, place_in_chain}
use Rattle.regex_lite_engine.proofs.Common.{place_in_branch, whole, end_address, start_address}
use Rattle.regex_lite_engine.proofs.Common.{place_of_pattern}
use Rattle.regex_lite_syntax.specs.Tree.Regular.{AreRegular}
use Rattle.regex_lite_engine.specs.Graph.Places.{Place}
use Rattle.regex_lite_engine.specs.Graph.Addresses.{chain_entry}
use Rattle.regex_lite_engine.proofs.laws.IsHereLemmas.{Stands, StandInChain, StandAsBranches}
use Rattle.regex_lite_engine.proofs.laws.WrittenPartLemmas.{HasRow, HasParts, has_part}
use Rattle.regex_lite_engine.proofs.laws.WrittenPartLemmas.{has_parts, first_part, later_parts}
use Rattle.regex_lite_engine.proofs.laws.WrittenRepetitionLemmas.{repetition_stands}

module _ (place : Address → Place Address) where
  -- a group of any index
  pub group_stands : (index : ℕ) (name : Option Text) (body : Tree) (pre exit : Address)
      → ((a b : Address) → HasRow place a (place_at body a b) → Stands place body (entry body a) b)
      → HasRow place pre (place_at (capture index name body) pre exit)
      → Stands place (capture index name body) (own pre 0) exit
  group_stands index name body pre exit body_stands has = (
    entry body (part pre 0),
    own pre 1,
    has.at (0 ∷ 0 ∷ []) refl,
    body_stands (part pre 0) (own pre 1) (has_part 0 has),
    has.at (0 ∷ 1 ∷ []) refl,
  )

  mutual
    pub tree_stands : (tree : Tree) (pre exit : Address) → IsRegular tree
        → HasRow place pre (place_at tree pre exit) → Stands place tree (entry tree pre) exit
    tree_stands empty pre exit regular has = has.at (0 ∷ 0 ∷ []) refl
    tree_stands (character c) pre exit regular has = has.at (0 ∷ 0 ∷ []) refl
    tree_stands (class ranges) pre exit regular has = has.at (0 ∷ 0 ∷ []) refl
    tree_stands (look test) pre exit regular has = has.at (0 ∷ 0 ∷ []) refl
    tree_stands (repetition least most greedy body) pre exit regular has =
        repetition_stands place pre greedy (entry body) (place_at body) (Stands place body)
        (λ a b h. tree_stands body a b regular.1 h) least most (nullable body) exit has
    tree_stands (capture index name body) pre exit regular has =
        group_stands index name body pre exit (λ a b h. tree_stands body a b regular.1 h) has
    tree_stands (concat none) pre exit regular has = absurd regular.0
    tree_stands (concat (more a rest)) pre exit regular has =
        chain_stands (more a rest) pre 0 exit regular.1 (has_parts has)
    tree_stands (alternation branches) pre exit regular has = (
      branch_entries branches pre 0,
      own pre 1,
      has.at (0 ∷ 0 ∷ []) refl,
      branches_stand branches pre 0 (own pre 1) regular.1 (has_parts has),
      has.at (0 ∷ 1 ∷ []) refl,
    )

    chain_stands : (parts : Trees) (pre : Address) (k : ℕ) (exit : Address) → AreRegular parts
        → HasParts place pre k (place_in_chain parts pre k exit)
        → StandInChain place parts (chain_entry parts pre k exit) exit
    chain_stands none pre k exit regular has = refl
    chain_stands (more a rest) pre k exit regular has =
        let next = chain_entry rest pre (suc k) exit in (
          next,
          tree_stands a (part pre k) next regular.0 (first_part has),
          chain_stands rest pre (suc k) exit regular.1 (later_parts has),
        )

    branches_stand : (branches : Trees) (pre : Address) (k : ℕ) (exit : Address)
        → AreRegular branches → HasParts place pre k (place_in_branch branches pre k exit)
        → StandAsBranches place branches (branch_entries branches pre k) exit
    branches_stand none pre k exit regular has = tt
    branches_stand (more a rest) pre k exit regular has = (
      tree_stands a (part pre k) exit regular.0 (first_part has),
      branches_stand rest pre (suc k) exit regular.1 (later_parts has),
    )

pub whole_stands : (tree : Tree) → IsRegular tree
    → Stands (place_of_pattern tree) (whole tree) start_address end_address
whole_stands tree regular =
    group_stands (place_of_pattern tree) 0 None tree (1 ∷ []) end_address
    (λ a b h. tree_stands (place_of_pattern tree) tree a b regular h)
    (record { at = λ a e. ap (λ content. unwrap_or content (with_arrows [])) e })

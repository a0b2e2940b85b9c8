-- A match of a tree that stands in a graph is a walk through it.
use Rattle.regex_lite_engine.proofs.Common.{◌≡◌, ℕ, suc, ◌+◌, ◌*◌, List, [], ◌∷◌, map, IsTrue}
use Rattle.regex_lite_engine.proofs.Common.{slice_get, Some, refl, subst, inl, inr, slice_get-map}
use Rattle.regex_lite_engine.proofs.Common.{in_ranges, Set, just, Text, after, Tree, empty}
use Rattle.regex_lite_engine.proofs.Common.{character, class, look, repetition, capture, concat}
use Rattle.regex_lite_engine.proofs.Common.{alternation, Trees, none, more, Matches, Chain}
use Rattle.regex_lite_engine.proofs.Common.{SomeBranch, nullable, ClassRange, with_arrows, go}
use Rattle.regex_lite_engine.proofs.Common.{go_marking, go_holding, go_reading, one_of, step_from}
use Rattle.std.proofs.lemmas.Bool.{eq-eqb}
use Rattle.regex_lite_engine.specs.Graph.Places.{Place}
use Rattle.regex_lite_engine.proofs.laws.IsHereLemmas.{Stands, StandInChain, StandAsBranches}
use Rattle.regex_lite_engine.proofs.laws.WalkLemmas.{Walk, walk_on, no_arrow, one_arrow, by_go}
use Rattle.regex_lite_engine.proofs.laws.PassWalkLemmas.{in_repetition}

module _ {haystack : Text} {A : Type 0} {place : A → Place A} where
  by_reading : (set : Set) (c : ℕ) (a b : A) (i j : ℕ)
      → place a ≡ with_arrows (go_reading set b ∷ [])
      → after haystack i ≡ Some c → IsTrue (set c) → j ≡ suc i → Walk haystack place a i b j
  by_reading set c a b i j e next has read =
      one_arrow 0 (with_arrows (go_reading set b ∷ [])) e fits
    where
      fits : step_from haystack (with_arrows (go_reading set b ∷ [])) i 0 ≡ Some (b, j)
      fits = rw (next, has, read) refl

  by_class : (ranges : List ClassRange) (c : ℕ) (a b : A) (i j : ℕ) → place a ≡ one_of ranges b
      → after haystack i ≡ Some c → IsTrue (in_ranges ranges c) → j ≡ suc i
      → Walk haystack place a i b j
  by_class [] c a b i j e next has read = absurd cc
  by_class (range ∷ rest) c a b i j e next has read =
      by_reading (in_ranges (range ∷ rest)) c a b i j e next has read

  -- by arrow k of a place that leads freely to these
  by_choice : (k : ℕ) (firsts : List A) (first a : A) (i : ℕ)
      → place a ≡ with_arrows (map go firsts)
      → slice_get firsts k ≡ Some first → Walk haystack place a i first i
  by_choice k firsts first a i e there = one_arrow k (with_arrows (map go firsts)) e fits
    where
      fits : step_from haystack (with_arrows (map go firsts)) i k ≡ Some (first, i)
      fits = rw (slice_get-map go firsts k, there) refl

  mutual
    pub match_walk : (tree : Tree) (enter exit : A) (i j : ℕ) → Stands place tree enter exit
        → Matches haystack tree i j → Walk haystack place enter i exit j
    match_walk empty enter exit i j stands e =
        subst (λ k. Walk haystack place enter i exit k) e (by_go stands)
    match_walk (character c) enter exit i j stands (next, read) =
        by_reading (just c) c enter exit i j stands next (eq-eqb c c refl) read
    match_walk (class ranges) enter exit i j stands (c, next, has, read) =
        by_class ranges c enter exit i j stands next has read
    match_walk (look test) enter exit i j stands (holds, e) =
        let here = one_arrow 0 (with_arrows (go_holding test exit ∷ [])) stands (rw holds refl) in
        subst (λ k. Walk haystack place enter i exit k) e here
    match_walk (repetition least most greedy body) enter exit i j stands (n, low, high, passes) =
        in_repetition greedy (Matches haystack body) (Stands place body)
        (λ a b k l s m. match_walk body a b k l s m) least most (nullable body) n stands low
        high passes
    match_walk (capture index name body) enter exit i j (first, close, opened, stands, closed) m =
        let opens = one_arrow 0 (with_arrows (go_marking (2 * index) first ∷ [])) opened refl in
        let closes = one_arrow 0 (with_arrows (go_marking (2 * index + 1) exit ∷ [])) closed refl in
        walk_on opens (walk_on (match_walk body first close i j stands m) closes)
    match_walk (concat parts) enter exit i j stands chain =
        chain_walk parts enter exit i j stands chain
    match_walk (alternation branches) enter exit i j (firsts, join, chosen, stand, joined) some =
        let past = branch_walk branches firsts join enter i j stand
        (λ k first e. by_choice k firsts first enter i chosen e) some in
        walk_on past (by_go joined)

    chain_walk : (parts : Trees) (enter exit : A) (i j : ℕ) → StandInChain place parts enter exit
        → Chain haystack parts i j → Walk haystack place enter i exit j
    chain_walk none enter exit i j e f = no_arrow e f
    chain_walk (more a rest) enter exit i j (next, stands, later) (via, m, chain) =
        let first = match_walk a enter next i via stands m in
        walk_on first (chain_walk rest next exit via j later chain)

    -- from where walks lead to the first place of each branch
    branch_walk : (branches : Trees) (firsts : List A) (join enter : A) (i j : ℕ)
        → StandAsBranches place branches firsts join
        → ((k : ℕ) (first : A) → slice_get firsts k ≡ Some first
        → Walk haystack place enter i first i)
        → SomeBranch haystack branches i j → Walk haystack place enter i join j
    branch_walk none firsts join enter i j stand into some = absurd some
    branch_walk (more a rest) [] join enter i j stand into some = absurd stand
    branch_walk (more a rest) (first ∷ firsts) join enter i j (stands, others) into (inl m) =
        walk_on (into 0 first refl) (match_walk a first join i j stands m)
    branch_walk (more a rest) (first ∷ firsts) join enter i j (stands, others) into (inr some) =
        branch_walk rest firsts join enter i j others (λ k b e. into (suc k) b e) some

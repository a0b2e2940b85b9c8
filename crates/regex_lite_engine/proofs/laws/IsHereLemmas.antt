-- A tree stands in a graph, whatever the addresses: from where it is entered to what follows it.
use Rattle.regex_lite_engine.proofs.Common.{◌≡◌, ℕ, zero, suc, ◌+◌, ◌-◌, ◌*◌, Bool, true, false}
use Rattle.regex_lite_engine.proofs.Common.{List, [], ◌∷◌, map, Some, None, Option, Tree, empty}
use Rattle.regex_lite_engine.proofs.Common.{character, class, look, repetition, capture, concat}
use Rattle.regex_lite_engine.proofs.Common.{alternation, Trees, none, more, nullable, with_arrows}
use Rattle.regex_lite_engine.proofs.Common.{go, go_marking, go_holding, choice, one_of}
use Rattle.regex_lite_engine.specs.Graph.Places.{Place, one_char}

module _ {A : Type 0} (Body : A → A → Type 0) where
  -- this many bodies, one after another
  abbrev pub InRow : ℕ → (enter exit : A) → Type 0
  InRow zero enter exit = enter ≡ exit
  InRow (suc n) enter exit = (next : A) × Body enter next × InRow n next exit

module _ {A : Type 0} (place : A → Place A) where
  -- the rows of a repetition, by where its body stands
  module _ (greedy : Bool) (Body : A → A → Type 0) where
    -- this many choices: each leads to the join, or by a body to the next choice
    abbrev pub InChoices : ℕ → (join enter : A) → Type 0
    InChoices zero join enter = enter ≡ join
    InChoices (suc n) join enter =
        (body : A) × (next : A) × (place enter ≡ choice greedy body join) × Body body next
        × InChoices n join next

    abbrev pub IsStar : (enter exit : A) → Type 0
    IsStar enter exit = (body : A) × (place enter ≡ choice greedy body exit) × Body body enter

    abbrev pub IsNullableStar : (enter exit : A) → Type 0
    IsNullableStar enter exit =
        (body : A) × (plus : A) × (join : A) × (place enter ≡ choice greedy body join)
        × Body body plus × (place plus ≡ choice greedy body join)
        × (place join ≡ with_arrows (go exit ∷ []))

    -- {n + 1,}
    abbrev pub IsAtLeast : (n : ℕ) → (enter exit : A) → Type 0
    IsAtLeast n enter exit =
        (body : A) × (turn : A) × InRow Body n enter body × Body body turn
        × (place turn ≡ choice greedy body exit)

    -- this many bodies, and then this many choices
    abbrev pub IsBetween : (least above : ℕ) → (enter exit : A) → Type 0
    IsBetween least above enter exit =
        (turn : A) × (join : A) × InRow Body least enter turn × InChoices above join turn
        × (place join ≡ with_arrows (go exit ∷ []))

    abbrev pub IsBounded : (least above : ℕ) → (enter exit : A) → Type 0
    IsBounded zero zero enter exit = place enter ≡ with_arrows (go exit ∷ [])
    IsBounded (suc m) zero enter exit = InRow Body (suc m) enter exit
    IsBounded zero (suc zero) enter exit = IsBetween zero (suc zero) enter exit
    IsBounded zero (suc (suc d)) enter exit =
        (turn : A) × (place enter ≡ with_arrows (go turn ∷ []))
        × IsBetween zero (suc (suc d)) turn exit
    IsBounded (suc m) (suc d) enter exit = IsBetween (suc m) (suc d) enter exit

    abbrev pub IsRepetition : (least : ℕ) → (most : Option ℕ) → (nullable_body : Bool)
        → (enter exit : A) → Type 0
    IsRepetition zero None true = IsNullableStar
    IsRepetition zero None false = IsStar
    IsRepetition (suc n) None nullable_body = IsAtLeast n
    IsRepetition least (Some most) nullable_body = IsBounded least (most - least)

  abbrev mutual
    pub Stands : Tree → (enter exit : A) → Type 0
    Stands empty enter exit = place enter ≡ with_arrows (go exit ∷ [])
    Stands (character c) enter exit = place enter ≡ one_char c exit
    Stands (class ranges) enter exit = place enter ≡ one_of ranges exit
    Stands (look test) enter exit = place enter ≡ with_arrows (go_holding test exit ∷ [])
    Stands (repetition least most greedy body) enter exit =
        IsRepetition greedy (Stands body) least most (nullable body) enter exit
    Stands (capture index name body) enter exit =
        (first : A) × (close : A) × (place enter ≡ with_arrows (go_marking (2 * index) first ∷ []))
        × Stands body first close
        × (place close ≡ with_arrows (go_marking (2 * index + 1) exit ∷ []))
    Stands (concat parts) enter exit = StandInChain parts enter exit
    Stands (alternation branches) enter exit =
        (firsts : List A) × (join : A) × (place enter ≡ with_arrows (map go firsts))
        × StandAsBranches branches firsts join × (place join ≡ with_arrows (go exit ∷ []))

    pub StandInChain : Trees → (enter exit : A) → Type 0
    StandInChain none enter exit = enter ≡ exit
    StandInChain (more a rest) enter exit =
        (next : A) × Stands a enter next × StandInChain rest next exit

    pub StandAsBranches : Trees → (firsts : List A) → (join : A) → Type 0
    StandAsBranches none [] join = Unit {0}
    StandAsBranches none (first ∷ firsts) join = ⊥
    StandAsBranches (more a rest) [] join = ⊥
    StandAsBranches (more a rest) (first ∷ firsts) join =
        Stands a first join × StandAsBranches rest firsts join

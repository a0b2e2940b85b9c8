-- Ways in the order of preference, with their ends and marks: lists of them are appended, and the
-- ways of a list continued in front.
use Rattle.regex_lite_engine.proofs.Common.{◌≡◌, ℕ, suc, List, [], ◌∷◌, ◌++◌, map, refl, ap, inl}
use Rattle.regex_lite_engine.proofs.Common.{inr, arith, Marks, IsPreferred, Entry, IsBefore}
use Rattle.regex_lite_engine.proofs.InLemmas.{In}

-- the walks have these ends and marks, each preferred to those after it
abbrev pub Rank : (Walk : List ℕ → ℕ → Type 0) → (List ℕ → Marks) → List (List ℕ)
    → List Entry → Type 0
Rank Walk marks [] [] = Unit {0}
Rank Walk marks [] (e ∷ list) = ⊥
Rank Walk marks (way ∷ ways) [] = ⊥
Rank Walk marks (way ∷ ways) (e ∷ list) =
    Walk way e.0 × (e.1 ≡ marks way) × IsBefore way ways × Rank Walk marks ways list

-- the walks are all there are
pub record Ranking (Walk : List ℕ → ℕ → Type 0) (marks : List ℕ → Marks) (list : List Entry)
    : Type 0 where
  pub ways : List (List ℕ)
  pub rank : Rank Walk marks ways list
  pub all : (ks : List ℕ) (j : ℕ) → Walk ks j → In ks ways

before_both : (way : List ℕ) (xs ys : List (List ℕ)) → IsBefore way xs → IsBefore way ys
    → IsBefore way (xs ++ ys)
before_both way [] ys p q = q
before_both way (x ∷ xs) ys p q = (p.0, before_both way xs ys p.1 q)

-- each of the ones is preferred to each of the others
abbrev pub AllBefore : List (List ℕ) → List (List ℕ) → Type 0
AllBefore [] ys = Unit {0}
AllBefore (x ∷ xs) ys = IsBefore x ys × AllBefore xs ys

module _ (Walk : List ℕ → ℕ → Type 0) (marks : List ℕ → Marks) where
  pub rank_both : (xs ys : List (List ℕ)) (first others : List Entry) → Rank Walk marks xs first
      → Rank Walk marks ys others → AllBefore xs ys → Rank Walk marks (xs ++ ys) (first ++ others)
  rank_both [] ys [] others p q before = q
  rank_both [] ys (e ∷ first) others p q before = absurd p
  rank_both (x ∷ xs) ys [] others p q before = absurd p
  rank_both (x ∷ xs) ys (e ∷ first) others p q before = (
    p.0,
    p.1,
    before_both x xs ys p.2 before.0,
    rank_both xs ys first others p.3 q before.1,
  )

before_map : (f : List ℕ → List ℕ)
    → ((a b : List ℕ) → IsPreferred a b → IsPreferred (f a) (f b))
    → (way : List ℕ) (ways : List (List ℕ)) → IsBefore way ways → IsBefore (f way) (map f ways)
before_map f keeps way [] before = tt
before_map f keeps way (x ∷ ways) before =
    (keeps way x before.0, before_map f keeps way ways before.1)

-- the walks are continued in front, and their marks laid over others
module _ (Walk Longer : List ℕ → ℕ → Type 0) (marks longer : List ℕ → Marks) (f : List ℕ → List ℕ)
    (g : Entry → Entry) (keeps : (a b : List ℕ) → IsPreferred a b → IsPreferred (f a) (f b))
    (walk : (ks : List ℕ) (e : Entry) → Walk ks e.0 → Longer (f ks) (g e).0)
    (same : (ks : List ℕ) (e : Entry) → Walk ks e.0 → e.1 ≡ marks ks
    → (g e).1 ≡ longer (f ks)) where
  pub rank_map : (ways : List (List ℕ)) (list : List Entry) → Rank Walk marks ways list
      → Rank Longer longer (map f ways) (map g list)
  rank_map [] [] p = tt
  rank_map [] (e ∷ list) p = absurd p
  rank_map (way ∷ ways) [] p = absurd p
  rank_map (way ∷ ways) (e ∷ list) p = (
    walk way e p.0,
    same way e p.0 p.1,
    before_map f keeps way ways p.2,
    rank_map ways list p.3,
  )

pub same_list : (list : List Entry) → map (λ (e : Entry). e) list ≡ list
same_list [] = refl
same_list (e ∷ list) = ap (λ rest. e ∷ rest) (same_list list)

-- with a greater number in front
abbrev pub greater : List ℕ → List ℕ
greater [] = []
greater (k ∷ ks) = suc k ∷ ks

pub greater_keeps : (a b : List ℕ) → IsPreferred a b → IsPreferred (greater a) (greater b)
greater_keeps [] b before = absurd before
greater_keeps (k ∷ a) [] before = absurd before
greater_keeps (k ∷ a) (l ∷ b) (inl less) = inl (omega (arith, less))
greater_keeps (k ∷ a) (l ∷ b) (inr p) = inr (ap suc p.0, p.1)

-- What is read at the beginning of a match, while second characters are added.
use Rattle.regex_lite_syntax.proofs.Common.{◌≡◌, ℕ, zero, suc, ◌<◌, Bool, ◌⊎◌, Option, sym, ◌∙◌}
use Rattle.regex_lite_syntax.proofs.Common.{subst, inl, inr, arith, Text, Tree, repetition, Trees}
use Rattle.regex_lite_syntax.proofs.Common.{more, Matches, Chain, SomeBranch, Reads, ReadsEach}
use Rattle.regex_lite_syntax.proofs.Common.{MayBegin, IsWider, BeginsOrPasses, FirstSet}
use Rattle.regex_lite_syntax.specs.Tree.Matches.{Passes}
use Rattle.regex_lite_syntax.specs.declared.prefilter.prefixes.PrefixLen.{PrefixLen}
use Rattle.regex_lite_syntax.specs.declared.prefilter.prefixes.PrefixLen.TheVariants.{Nothing, One}
use Rattle.regex_lite_syntax.specs.declared.prefilter.prefixes.PrefixLen.TheVariants.{More}
use Rattle.regex_lite_syntax.proofs.prefilter.first_set.StartLemmas.{may_grown, passes_begin}

pub reads_grown : (s t : FirstSet) (h : Text) (i j : ℕ) (head : PrefixLen) → IsWider s t
    → Reads s h i j head → Reads t h i j head
reads_grown s t h i j Nothing grown same = same
reads_grown s t h i j One grown (inl one) = inl one
reads_grown s t h i j One grown (inr second) = inr (may_grown s t h (suc i) grown second)
reads_grown s t h i j More grown second = may_grown s t h (suc i) grown second

-- the passes after the first begin where it ends, or read nothing
pub passes_read : (least : ℕ) (most : Option ℕ) (greedy : Bool) (body : Tree) (s t : FirstSet)
    (passable : Bool) → 0 < least → IsWider s t → ReadsEach body s One
    → BeginsOrPasses body t passable → ReadsEach (repetition least most greedy body) t One
passes_read least most greedy body s t passable some grown first each h i j (n, low, high, passes) =
    by_passes n (omega (arith, some, low)) passes
  where
    by_passes : (n : ℕ) → 0 < n → Passes (Matches h body) n i j
        → (j ≡ suc i) ⊎ MayBegin t h (suc i)
    by_passes zero lt none = absurd (omega (arith, lt))
    by_passes (suc n) lt (k, one, rest) = elim (first h i k one) [
      | inr second ↦ inr (may_grown s t h (suc i) grown second)
      | inl next ↦ elim (passes_begin body t passable each h n k j rest) [
        | inl begins ↦ inr (subst (MayBegin t h) next begins)
        | inr same ↦ inl (sym same ∙ next)
      ]
    ]

-- one that isn't nothing
pub as_one : (s : FirstSet) (h : Text) (i j : ℕ) (head : PrefixLen) → (head ≡ One) ⊎ (head ≡ More)
    → Reads s h i j head → Reads s h i j One
as_one s h i j head (inl is) read = subst (Reads s h i j) is read
as_one s h i j head (inr is) read = inr (subst (Reads s h i j) is read)

pub of_more : (s : FirstSet) (h : Text) (i j : ℕ) (head : PrefixLen) → (head ≡ One) ⊎ (head ≡ More)
    → MayBegin s h (suc i) → Reads s h i j head
of_more s h i j head (inl is) second = subst (Reads s h i j) (sym is) (inr second)
of_more s h i j head (inr is) second = subst (Reads s h i j) (sym is) second

-- after one part more
pub part_read : (a : Tree) (rest : Trees) (s t : FirstSet) (before after : PrefixLen) (h : Text)
    (i j : ℕ) → ((k m : ℕ) → Reads s h i k before → Matches h a k m → Reads t h i m after)
    → (k : ℕ) × Reads s h i k before × Chain h (more a rest) k j
    → (k : ℕ) × Reads t h i k after × Chain h rest k j
part_read a rest s t before after h i j step (k, read, (m, here, on)) = (m, step k m read here, on)

-- with one branch more
pub branch_read : (a : Tree) (rest : Trees) (s t : FirstSet) (before after : PrefixLen) (h : Text)
    (i j : ℕ)
    → (Reads s h i j before → Reads t h i j after)
    → (Matches h a i j → Reads t h i j after)
    → Reads s h i j before ⊎ SomeBranch h (more a rest) i j
    → Reads t h i j after ⊎ SomeBranch h rest i j
branch_read a rest s t before after h i j kept new (inl read) = inl (kept read)
branch_read a rest s t before after h i j kept new (inr (inl here)) = inl (new here)
branch_read a rest s t before after h i j kept new (inr (inr on)) = inr on

-- A list of patterns is accepted, or refused by the lowest that fails, or for all places together.
use Rattle.regex_lite.proofs.Common.{◌≡◌, ℕ, zero, suc, ◌+◌, ◌<◌, ◌≤◌, ◌⊎◌, List, [], ◌∷◌, ◌++◌}
use Rattle.regex_lite.proofs.Common.{map, length, get_or, take, slice_get, Some, Err, chars, sym}
use Rattle.regex_lite.proofs.Common.{refl, ap, ◌∙◌, subst, inl, inr, add-one, arith}
use Rattle.regex_lite.proofs.Common.{slice_get-get_or, Refusal, syntax_error, too_deep}
use Rattle.regex_lite.proofs.Common.{too_many_groups, passed_limit, out_of_memory}
use Rattle.regex_lite.proofs.Common.{refused_replacement, kind_of, IsTree, Tree, Error, HasTree}
use Rattle.regex_lite.proofs.Common.{AreRegularPatterns, places_of_all, IsPatternTree, Expression}
use Rattle.regex_lite.proofs.Common.{expression_of, IsAccepted, IsDue, AreAcceptedAs, AreAccepted}
use Rattle.regex_lite.proofs.Common.{AreTrees, Settings}
use Rattle.std.proofs.Common.{◌^◌, All, take-suc, slice_index_or}
use Rattle.regex_lite_syntax.specs.declared.error.ErrorKind.TheVariants.{Places}
use Rattle.regex_lite_engine.specs.Graph.Size.{Fits}
use Rattle.regex_lite_engine.proofs.laws.PatternTreeLemmas.{regular_tree}
use Rattle.regex_lite.specs.RegexList.{BuildsList, IsAcceptedAs, IsDueToAll, IsDueToLowest, OfTrees}
use Rattle.regex_lite.proofs.string.AcceptanceLemmas.{for_memory, same_tree}
use Rattle.regex_lite.proofs.OneTreeLemmas.{one_tree}
use Rattle.regex_lite.proofs.PairedLemmas.{paired_at, paired_back, paired_more}
use Rattle.regex_lite.proofs.PairedLemmas.{paired_once, paired_so}

-- the trees of the settings are those of the patterns
pub accepted_trees : (all : List Settings) (trees : List Tree) → AreAcceptedAs all trees
    → AreTrees (map expression_of all) trees
accepted_trees all trees accepted =
    paired_so IsAcceptedAs (λ re tree. IsTree re.flags (chars re.pattern) tree) expression_of all
    trees (λ settings tree own. (own.0.0, own.0.1, own.0.2)) accepted

-- there is one list of trees of a list of patterns
pub one_list : (list : List Expression) (a b : List Tree) → AreTrees list a → AreTrees list b
    → a ≡ b
one_list list a b p q =
    paired_once (λ re tree. IsTree re.flags (chars re.pattern) tree) list a b
    (λ re x y r s. one_tree re.flags (chars re.pattern) x y r s) p q

-- so two facts about the trees of several patterns are facts about one list of trees
pub of_all_both : (list : List Expression) (P Q : List Tree → Type 0) → OfTrees list P
    → OfTrees list Q → OfTrees list (λ trees. P trees × Q trees)
of_all_both list P Q (trees, given, p) (others, given_too, q) =
    (trees, given, (p, subst Q (one_list list others trees given_too given) q))

pub one_accepted : (all : List Settings) (a b : List Tree) → AreAcceptedAs all a
    → AreAcceptedAs all b → a ≡ b
one_accepted all a b p q =
    paired_once IsAcceptedAs all a b (λ settings x y r s. same_tree settings x y r.0 s.0) p q

-- the pattern of a tree of the list has the tree's number
pub own_tree : (list : List Expression) (trees : List Tree) (number : ℕ) (tree : Tree)
    → AreTrees list trees → HasTree trees number tree
    → (re : Expression) × (slice_get list number ≡ Some re)
    × IsTree re.flags (chars re.pattern) tree
own_tree list trees number tree given there =
    paired_back (λ re tree. IsTree re.flags (chars re.pattern) tree) list trees number tree given
    there

-- and the tree of a pattern of the list has the pattern's
pub numbered_tree : (list : List Expression) (trees : List Tree) (number : ℕ) (re : Expression)
    → AreTrees list trees → slice_get list number ≡ Some re
    → (tree : Tree) × HasTree trees number tree × IsTree re.flags (chars re.pattern) tree
numbered_tree list trees number re given there =
    paired_at (λ re tree. IsTree re.flags (chars re.pattern) tree) list trees number re given there

pub pattern_tree : (list : List Expression) (trees : List Tree) → AreTrees list trees
    → (number : ℕ) (tree : Tree) → HasTree trees number tree → IsPatternTree tree
pattern_tree list trees given number tree there =
    let own = own_tree list trees number tree given there in
    (own.0.flags, _, own.2)

pub regular_trees : (list : List Expression) (trees : List Tree) → AreTrees list trees
    → AreRegularPatterns trees
regular_trees list trees given = λ number tree there.
    regular_tree tree (pattern_tree list trees given number tree there)

-- a refusal is the out-of-memory error, or another
pub memory_or_not : (error : Refusal) → (error ≡ out_of_memory) ⊎ (error ≡ out_of_memory → ⊥)
memory_or_not out_of_memory = inl refl
memory_or_not (syntax_error rule) = inr (λ wrong. absurd cc)
memory_or_not too_deep = inr (λ wrong. absurd cc)
memory_or_not too_many_groups = inr (λ wrong. absurd cc)
memory_or_not (passed_limit limit) = inr (λ wrong. absurd cc)
memory_or_not refused_replacement = inr (λ wrong. absurd cc)

in_first : {A : Type 0} (xs : List A) (n k : ℕ) (x : A) → k < n → slice_get xs k ≡ Some x
    → slice_get (take n xs) k ≡ Some x
in_first [] n k x less there = absurd cc
in_first (x ∷ xs) zero k own less there = absurd (omega (arith, less))
in_first (x ∷ xs) (suc n) zero own less there = there
in_first (x ∷ xs) (suc n) (suc k) own less there = in_first xs n k own (omega (arith, less)) there

-- the pattern after those that are accepted is the lowest that fails, unless memory ran out
pub lowest_fails : (all : List Settings) (number : ℕ) (trees : List Tree) (settings : Settings)
    (error : Error) → AreAcceptedAs (take number all) trees → slice_get all number ≡ Some settings
    → IsDue settings error → (error ≡ out_of_memory) ⊎ IsDueToLowest all error
lowest_fails all number trees settings error accepted there due =
    elim (memory_or_not error) [
      | inl memory ↦ inl memory
      | inr other ↦ inr (record {
        number = number;
        settings = settings;
        numbered = there;
        lower = lower;
        fails = λ accepted. other (for_memory settings error due accepted);
        due = due;
      })
    ]
  where
    lower : (k : ℕ) (other : Settings) → k < number → slice_get all k ≡ Some other
        → IsAccepted other
    lower k other less is =
        let own = paired_at IsAcceptedAs (take number all) trees k other accepted
        (in_first all number k other less is) in
        (own.0, own.2.0, own.2.1)

-- an accepted list is refused only if memory runs out
for_list_memory : (all : List Settings) (error : Error)
    → (error ≡ out_of_memory) ⊎ (IsDueToLowest all error ⊎ IsDueToAll all error)
    → AreAccepted all → error ≡ out_of_memory
for_list_memory all error (inl memory) accepted = memory
for_list_memory all error (inr (inl lowest)) (trees, accepted, few) =
    let own = paired_at IsAcceptedAs all trees lowest.number lowest.settings accepted
    lowest.numbered in
    absurd (lowest.fails (own.0, own.2.0, own.2.1))
for_list_memory all error (inr (inr together)) (trees, accepted, few) =
    let same = ap places_of_all
    (one_accepted all together.trees trees together.accepted accepted) in
    absurd (omega (arith, same, together.passed, few))

-- a refusal of which what it says is so
pub list_refused : (all : List Settings) (error : Error)
    → (error ≡ out_of_memory) ⊎ (IsDueToLowest all error ⊎ IsDueToAll all error)
    → BuildsList all (Err error)
list_refused all error due = record {
  ok = tt;
  accepted = tt;
  refused = due;
  complete = λ accepted. for_list_memory all error due accepted;
}

-- one before anything is written
pub refused_before : (all : List Settings) (error : Error)
    → (error ≡ out_of_memory) ⊎ IsDueToLowest all error → BuildsList all (Err error)
refused_before all error (inl memory) = list_refused all error (inl memory)
refused_before all error (inr lowest) = list_refused all error (inr (inl lowest))

-- one of patterns that are accepted by themselves
pub refused_together : (all : List Settings) (trees : List Tree) (error : Error)
    → AreAcceptedAs all trees
    → (error ≡ out_of_memory) ⊎ ((kind_of error ≡ Places) × (2 ^ 32 ≤ places_of_all trees))
    → BuildsList all (Err error)
refused_together all trees error accepted (inl memory) = list_refused all error (inl memory)
refused_together all trees error accepted (inr (kind, passed)) =
    list_refused all error (inr (inr (record {
      trees = trees;
      accepted = accepted;
      passed = passed;
      kind = kind;
    })))

-- where the patterns are accepted, each tree fits its limit
pub each_fits : (all : List Settings) (trees : List Tree) → AreAcceptedAs all trees
    → All (λ tree. (limit : ℕ) × Fits limit tree) trees
each_fits all trees accepted = λ k d less.
    let own = paired_back IsAcceptedAs all trees k (slice_index_or trees k d) accepted
    (slice_get-get_or trees k d less) in
    (own.0.size_limit, own.2.1)

-- one more pattern is accepted
pub accepted_more : (all : List Settings) (k : ℕ) (trees new : List Tree) (settings : Settings)
    (tree : Tree) → AreAcceptedAs (take k all) trees → k < length all
    → settings ≡ get_or all k settings → IsAcceptedAs settings tree → new ≡ trees ++ (tree ∷ [])
    → AreAcceptedAs (take (k + 1) all) new
accepted_more all k trees new settings tree accepted less there own more =
    let longer : take (k + 1) all ≡ take k all ++ (settings ∷ [])
    = ap (λ n. take n all) (add-one k) ∙ take-suc all k settings less
    ∙ ap (λ own. take k all ++ (own ∷ [])) (sym there) in
    rw (longer, more) (paired_more IsAcceptedAs (take k all) trees settings tree accepted own)

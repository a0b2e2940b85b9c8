-- Lists of patterns as contracts see them: what is built, and what is rejected.
use Rattle.std.specs.Prelude.{◌≡◌, ◌<◌, ◌≤◌, ◌^◌, ◌⊎◌, ℕ, List, [], ◌∷◌, Some}
use Rattle.std.specs.Prelude.{Result, IfOk, IfErr, chars, map, slice_get}
use Rattle.regex_lite_syntax.specs.declared.error.Error.{Error}
use Rattle.regex_lite_syntax.specs.declared.error.ErrorKind.TheVariants.{Places}
use Rattle.regex_lite_syntax.specs.Errors.{kind_of, out_of_memory}
use Rattle.regex_lite_syntax.specs.Grammar.{IsTree}
use Rattle.regex_lite_syntax.specs.Tree.{Tree}
use Rattle.regex_lite_engine.specs.Graph.SideBySide.{places_of_all}
use Rattle.regex_lite_engine.specs.Graph.Size.{Fits}
use Rattle.regex_lite.specs.Expression.{Expression, IsAccepted, IsDue, IsReadAs, expression_of}
use Rattle.regex_lite.specs.Settings.{Settings}

-- R holds of the first elements of two lists, of the second ones, and so on, and both have the same
-- length
abbrev pub AllPaired : {A B : Type 0} → (A → B → Type 0) → List A → List B → Type 0
AllPaired R [] [] = Unit {0}
AllPaired R [] (y ∷ ys) = ⊥
AllPaired R (x ∷ xs) [] = ⊥
AllPaired R (x ∷ xs) (y ∷ ys) = R x y × AllPaired R xs ys

-- under these settings the pattern has this tree, and exceeds no limit by itself
abbrev pub IsAcceptedAs : Settings → Tree → Type 0
IsAcceptedAs settings tree = IsReadAs settings tree × Fits settings.size_limit tree

-- under its settings each pattern has the tree with its number, and exceeds no limit by itself
abbrev pub AreAcceptedAs : List Settings → List Tree → Type 0
AreAcceptedAs all trees = AllPaired IsAcceptedAs all trees

-- each pattern is accepted by itself, and together they have no more places than can be numbered
abbrev pub AreAccepted : List Settings → Type 0
AreAccepted all = (trees : List Tree) × AreAcceptedAs all trees × (places_of_all trees < 2 ^ 32)

-- the error is due to the pattern with the lowest number that is not accepted by itself
pub record IsDueToLowest (all : List Settings) (error : Error) : Type 0 where
  pub number : ℕ
  pub settings : Settings
  pub numbered : slice_get all number ≡ Some settings
  pub lower : (earlier : ℕ) (other : Settings) → earlier < number
      → slice_get all earlier ≡ Some other → IsAccepted other
  pub fails : IsAccepted settings → ⊥
  pub due : IsDue settings error

-- each pattern is accepted by itself, and the error says that together they have too many places
pub record IsDueToAll (all : List Settings) (error : Error) : Type 0 where
  pub trees : List Tree
  pub accepted : AreAcceptedAs all trees
  pub passed : 2 ^ 32 ≤ places_of_all trees
  pub kind : kind_of error ≡ Places

-- the result of building a list of patterns, each under its own settings
pub record BuildsList (all : List Settings) (result : Result (List Expression) Error)
    : Type 0 where
  -- the list has the patterns and their flags, in their order
  pub ok : IfOk result (λ list. list ≡ map expression_of all)
  -- the patterns are accepted
  pub accepted : IfOk result (λ _. AreAccepted all)
  -- what the error says is true of the lowest pattern that is rejected, or if none is, of all
  -- together
  pub refused : IfErr result (λ error.
      (error ≡ out_of_memory) ⊎ (IsDueToLowest all error ⊎ IsDueToAll all error))
  -- accepted patterns give an error only if memory runs out
  pub complete : IfErr result (λ error. AreAccepted all → error ≡ out_of_memory)

-- the grammar gives each pattern the tree that has the same number
abbrev pub AreTrees : List Expression → List Tree → Type 0
AreTrees list trees = AllPaired (λ re tree. IsTree re.flags (chars re.pattern) tree) list trees

-- the trees of the patterns have this property
abbrev pub OfTrees : List Expression → (List Tree → Type 0) → Type 0
OfTrees list property = (trees : List Tree) × AreTrees list trees × property trees

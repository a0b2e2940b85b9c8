-- Where the places of several patterns stand in their table: those of each in a row, after those of
-- the patterns before it. Their places and arrows add up.
use Rattle.regex_lite_engine.proofs.Common.{◌≡◌, ℕ, zero, suc, ◌+◌, ◌-◌, ◌<◌, ◌≤◌, List, [], ◌∷◌}
use Rattle.regex_lite_engine.proofs.Common.{◌++◌, length, take, drop, slice_get, Some, sym, refl}
use Rattle.regex_lite_engine.proofs.Common.{ap, ◌∙◌, subst, inl, inr, arith, length-append}
use Rattle.regex_lite_engine.proofs.Common.{take-append_seam, cases_lt, sum_by-cons, Tree, row_of}
use Rattle.regex_lite_engine.proofs.Common.{whole_places, whole_arrows, arrow_count, arrows_of}
use Rattle.regex_lite_engine.proofs.Common.{HasTree, places_of_all, arrows_of_all, pattern_layout}
use Rattle.regex_lite_engine.proofs.Common.{pattern_table, patterns_table, patterns_entries}
use Rattle.std.proofs.Math.Seq.{drop-append-add}
use Rattle.std.proofs.lemmas.List.Sums.{sum_by-append}
use Rattle.regex_lite_engine.proofs.count.ArrowCountLemmas.{arrows_pattern}
use Rattle.regex_lite_engine.proofs.count.PlaceCountLemmas.{length_pattern}
use Rattle.regex_lite_syntax.proofs.LookupLemmas.{get_left, get_right}
use Rattle.regex_lite_syntax.proofs.OptionLemmas.{not_there, same_some}

-- how many places lie before the pattern with this number
abbrev pub before : List Tree → ℕ → ℕ
before [] number = 0
before (tree ∷ trees) zero = 0
before (tree ∷ trees) (suc number) = whole_places tree + before trees number

-- all their places
abbrev pub total : List Tree → ℕ
total [] = 0
total (tree ∷ trees) = whole_places tree + total trees

pub total_is : (trees : List Tree) → places_of_all trees ≡ total trees
total_is [] = refl
total_is (tree ∷ trees) =
    sum_by-cons whole_places tree trees ∙ ap (λ n. whole_places tree + n) (total_is trees)

pub length_table : (trees : List Tree) (base : ℕ) → length (patterns_table trees base) ≡ total trees
length_table [] base = refl
length_table (tree ∷ trees) base =
    let later = base + whole_places tree in
    let both = length-append (pattern_table tree base) (patterns_table trees later) in
    omega (arith, both, length_pattern tree base, length_table trees later)

-- there are as many places as all patterns have, and as many arrows
pub places_add_up : (trees : List Tree) (base : ℕ)
    → length (patterns_table trees base) ≡ places_of_all trees
places_add_up trees base = length_table trees base ∙ sym (total_is trees)

pub arrows_add_up : (trees : List Tree) (base : ℕ)
    → arrows_of (patterns_table trees base) ≡ arrows_of_all trees
arrows_add_up [] base = refl
arrows_add_up (tree ∷ trees) base =
    let later = base + whole_places tree in
    let both = sum_by-append arrow_count (pattern_table tree base) (patterns_table trees later) in
    let sum = sum_by-cons whole_arrows tree trees in
    omega (arith, both, sum, arrows_pattern tree base, arrows_add_up trees later)

pub placed : (trees : List Tree) (base number : ℕ) (tree : Tree) → HasTree trees number tree
    → (q : ℕ) → q < whole_places tree
    → slice_get (patterns_table trees base) (before trees number + q)
    ≡ slice_get (pattern_table tree (base + before trees number)) q
placed [] base number tree there q less = absurd (not_there there)
placed (own ∷ trees) base zero tree there q less =
    let same : own ≡ tree = same_some there in
    let few : q < whole_places own = subst (λ t. q < whole_places t) (sym same) less in
    let first : 0 + q ≡ q = omega arith in
    let at : base ≡ base + 0 = omega arith in
    ap (slice_get (pattern_table own base ++ patterns_table trees (base + whole_places own))) first
    ∙ get_left (pattern_table own base) (patterns_table trees (base + whole_places own)) q
    (omega (arith, few, length_pattern own base))
    ∙ ap (λ t. slice_get (pattern_table t base) q) same
    ∙ ap (λ n. slice_get (pattern_table tree n) q) at
placed (own ∷ trees) base (suc number) tree there q less =
    let later = base + whole_places own in
    let first : whole_places own + before trees number + q
    ≡ length (pattern_table own base) + (before trees number + q)
    = omega (arith, length_pattern own base) in
    let at : later + before trees number ≡ base + (whole_places own + before trees number)
    = omega arith in
    ap (slice_get (pattern_table own base ++ patterns_table trees later)) first
    ∙ get_right (pattern_table own base) (patterns_table trees later) (before trees number + q)
    ∙ placed trees later number tree there q less
    ∙ ap (λ n. slice_get (pattern_table tree n) q) at

pub entered : (trees : List Tree) (base number : ℕ) (tree : Tree) → HasTree trees number tree
    → slice_get (patterns_entries trees base) number
    ≡ Some (pattern_layout tree (base + before trees number)).1
entered [] base number tree there = absurd (not_there there)
entered (own ∷ trees) base zero tree there =
    let same : own ≡ tree = same_some there in
    let at : base ≡ base + 0 = omega arith in
    ap (λ t. Some (pattern_layout t base).1) same ∙ ap (λ n. Some (pattern_layout tree n).1) at
entered (own ∷ trees) base (suc number) tree there =
    let later = base + whole_places own in
    let at : later + before trees number ≡ base + (whole_places own + before trees number)
    = omega arith in
    entered trees later number tree there ∙ ap (λ n. Some (pattern_layout tree n).1) at

pub fits_in : (trees : List Tree) (number : ℕ) (tree : Tree) → HasTree trees number tree
    → before trees number + whole_places tree ≤ total trees
fits_in [] number tree there = absurd (not_there there)
fits_in (own ∷ trees) zero tree there =
    let same = ap whole_places (same_some there) in omega (arith, same)
fits_in (own ∷ trees) (suc number) tree there =
    let later = fits_in trees number tree there in omega (arith, later)

-- the pattern to which a number belongs
pub record Located (trees : List Tree) (q : ℕ) : Type 0 where
  pub number : ℕ
  pub tree : Tree
  pub there : HasTree trees number tree
  pub own : ℕ
  pub few : own < whole_places tree
  pub same : q ≡ before trees number + own

pub located : (trees : List Tree) (q : ℕ) → q < total trees → Located trees q
located [] q less = absurd (omega (arith, less))
located (tree ∷ trees) q less = elim (cases_lt q (whole_places tree)) [
  | inl few ↦ record {
    number = 0;
    tree = tree;
    there = refl;
    own = q;
    few = few;
    same = omega arith;
  }
  | inr le ↦ later (located trees (q - whole_places tree) (omega (arith, less, le))) le
]
  where
    later : Located trees (q - whole_places tree) → whole_places tree ≤ q → Located (tree ∷ trees) q
    later l le = record {
      number = suc l.number;
      tree = l.tree;
      there = l.there;
      own = l.own;
      few = l.few;
      same = omega (arith, l.same, le);
    }

-- the places of a pattern stand in a row
pub row_is : (trees : List Tree) (base number : ℕ) (tree : Tree) → HasTree trees number tree
    → row_of (patterns_table trees base) (before trees number) (whole_places tree)
    ≡ pattern_table tree (base + before trees number)
row_is [] base number tree there = absurd (not_there there)
row_is (own ∷ trees) base zero tree there =
    let first = pattern_table own base in
    let rest = patterns_table trees (base + whole_places own) in
    let same : own ≡ tree = same_some there in
    let many : whole_places tree ≡ length first
    = omega (arith, ap whole_places same, length_pattern own base) in
    let at : base ≡ base + 0 = omega arith in
    ap (λ n. take n (first ++ rest)) many ∙ take-append_seam first rest
    ∙ ap (λ t. pattern_table t base) same ∙ ap (pattern_table tree) at
row_is (own ∷ trees) base (suc number) tree there =
    let first = pattern_table own base in
    let later = base + whole_places own in
    let rest = patterns_table trees later in
    let many : whole_places own + before trees number ≡ length first + before trees number
    = omega (arith, length_pattern own base) in
    let at : later + before trees number ≡ base + (whole_places own + before trees number)
    = omega arith in
    ap (λ n. take (whole_places tree) (drop n (first ++ rest))) many
    ∙ ap (take (whole_places tree)) (drop-append-add first rest (before trees number))
    ∙ row_is trees later number tree there ∙ ap (pattern_table tree) at

pub same_before : (trees : List Tree) (k l x y : ℕ) → k ≡ l → x ≡ y
    → before trees k + x ≡ before trees l + y
same_before trees k l x y e f = ap (λ n. before trees n + x) e ∙ ap (λ n. before trees l + n) f

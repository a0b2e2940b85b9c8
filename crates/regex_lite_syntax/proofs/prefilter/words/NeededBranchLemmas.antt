-- How words are found of which each match of one of several branches has one.
use Rattle.regex_lite_syntax.proofs.Common.{◌≡◌, ℕ, ◌+◌, ◌-◌, ◌∙◌, List, [], ◌++◌, length}
use Rattle.regex_lite_syntax.proofs.Common.{drop, sym, ap, subst, arith, true, inl, inr, cases_lt}
use Rattle.regex_lite_syntax.proofs.Common.{Bool, false, refl, ◌||◌, ◌∷◌, zero, suc}
use Rattle.regex_lite_syntax.proofs.Common.{Tree, Trees, more, Letter, FirstSet, begins_with}
use Rattle.regex_lite_syntax.proofs.Common.{slice_index, get_or-drop, length-append, StartsWith}
use Rattle.std.proofs.Common.{encode_utf8_all}
use Rattle.std.proofs.Math.ListN.{get_or-append}
use Rattle.std.proofs.Math.Seq.{get_or-append_right}
use Rattle.std.proofs.lemmas.List.{drop-drop}
use Rattle.std.proofs.lemmas.List.Elements.{All-append}
use Rattle.regex_lite_syntax.specs.Tree.{alternation, none}
use Rattle.regex_lite_syntax.specs.Tree.Matches.{SomeBranch}
use Rattle.regex_lite_syntax.specs.declared.prefilter.words.needed_walk.NeededWalk.{NeededWalk}
use Rattle.regex_lite_syntax.specs.Prefilter.Needed.{AreNeededByEach, IsNeededBy, NeededWords}
use Rattle.regex_lite_syntax.specs.Prefilter.Needed.{Reaches}
use Rattle.regex_lite_syntax.specs.Prefilter.NeededWalk.{as_needed, HasFound, ReachesToo}
use Rattle.regex_lite_syntax.specs.Prefilter.FirstSet.{IsUnion}
use Rattle.regex_lite_syntax.specs.Prefilter.Words.{word_at}

-- the characters of one set are also in the other
abbrev pub IsAmong : (starts more : FirstSet) → Type 0
IsAmong starts wider = (c : ℕ) → begins_with starts c ≡ true → begins_with wider c ≡ true

or_second : (a b : Bool) → b ≡ true → (a || b) ≡ true
or_second true b is = refl
or_second false b is = is

-- those of two sets are among those of both
pub among_first : (first second both : FirstSet) → IsUnion first second both → IsAmong first both
among_first first second both union c is =
    union.with c ∙ ap (λ b. b || begins_with second c) is

pub among_second : (first second both : FirstSet) → IsUnion first second both → IsAmong second both
among_second first second both union c is =
    union.with c ∙ or_second (begins_with first c) (begins_with second c) is

-- with others behind them, and led to by more characters
pub reaches_first : (words others : List (List Letter)) (lead wider : FirstSet) → IsAmong lead wider
    → ReachesToo (as_needed words lead) (as_needed (words ++ others) wider)
reaches_first words others lead wider among bytes from (at, (le, (number, inside, stands), led)) = (
  at,
  (
    le,
    (
      number,
      omega (arith, inside, length-append words others),
      subst (λ word. StartsWith word (drop at bytes))
          (sym (get_or-append words others [] number inside)) stands,
    ),
    λ k low lt. among (slice_index bytes k) (led k low lt),
  ),
)

-- and with others before them
pub reaches_last : (words others : List (List Letter)) (lead wider : FirstSet) → IsAmong lead wider
    → ReachesToo (as_needed words lead) (as_needed (others ++ words) wider)
reaches_last words others lead wider among bytes from (at, (le, (number, inside, stands), led)) =
    let there : length others + number - length others ≡ number = omega arith in (
      at,
      (
        le,
        (
          length others + number,
          omega (arith, inside, length-append others words),
          subst (λ word. StartsWith word (drop at bytes))
              (sym (get_or-append_right others words (length others + number) [] (omega arith)
              ∙ ap (word_at words) there)) stands,
        ),
        λ k low lt. among (slice_index bytes k) (led k low lt),
      ),
    )

-- each of the trees has a word among these in each match
abbrev pub EachNeeds : Trees → NeededWords → Type 0
EachNeeds none needed = Unit {0}
EachNeeds (more tree rest) needed = IsNeededBy tree needed × EachNeeds rest needed

-- so has their alternation
pub needed_by_branches : (branches : Trees) (needed : NeededWords) → EachNeeds branches needed
    → IsNeededBy (alternation branches) needed
needed_by_branches branches needed each h i j matches = by_one branches each matches
  where
    by_one : (left : Trees) → EachNeeds left needed → SomeBranch h left i j
        → Reaches needed (encode_utf8_all (drop i h)) 0
    by_one none each some = absurd some
    by_one (more tree rest) each (inl first) = each.0 h i j first
    by_one (more tree rest) each (inr later) = by_one rest each.1 later

-- what is known of all branches, if it is of those that are left
abbrev pub EachIfLeft : (all left : Trees) → NeededWords → Type 0
EachIfLeft all left found =
    (needed : NeededWords) → ReachesToo found needed → EachNeeds left needed → EachNeeds all needed

-- a branch more
pub branch_found : (all left : Trees) (tree : Tree) (before own after : NeededWords)
    → IsNeededBy tree own → ReachesToo own after → ReachesToo before after
    → EachIfLeft all (more tree left) before → EachIfLeft all left after
branch_found all left tree before own after needs own_too before_too each needed too rest =
    each needed (λ bytes from reaches. too bytes from (before_too bytes from reaches)) (
      λ h i j m. too (encode_utf8_all (drop i h)) 0 (own_too (encode_utf8_all (drop i h)) 0
          (needs h i j m)),
      rest,
    )

-- what each tree of a list needs, each one needs of more words, and so does one more tree
pub needed_by_more : (trees : List Tree) (tree : Tree) (before own after : NeededWords)
    → IsNeededBy tree own → ReachesToo own after → ReachesToo before after
    → AreNeededByEach trees before → AreNeededByEach (trees ++ tree ∷ []) after
needed_by_more trees tree before own after needs own_too before_too each =
    All-append (λ t. IsNeededBy t after) trees (tree ∷ [])
    (λ k d less h i j m. before_too (encode_utf8_all (drop i h)) 0 (each k d less h i j m)) last
  where
    last : AreNeededByEach (tree ∷ []) after
    last zero d less h i j m = own_too (encode_utf8_all (drop i h)) 0 (needs h i j m)
    last (suc k) d less h i j m = absurd (omega (arith, less))

-- what is reached behind what was read is reached from where the reading began
pub reached_behind : (walk : NeededWalk) (words : List (List Letter)) (lead all : FirstSet)
    (bytes rest : List ℕ) → HasFound bytes rest walk → IsAmong walk.read all → IsAmong lead all
    → Reaches (as_needed words lead) rest 0 → Reaches (as_needed words all) bytes 0
reached_behind walk words lead all bytes rest found read led (at, (le, (n, small, stands), own)) = (
  past + at,
  (
    omega arith,
    (
      n,
      small,
      subst (StartsWith (word_at words n))
          (ap (drop at) (sym here) ∙ drop-drop at past bytes) stands,
    ),
    λ k low lt. elim (cases_lt k past) [
      | inl before ↦ read (slice_index bytes k) (found.read k before)
      | inr later ↦
          let there : slice_index rest (k - past) ≡ slice_index bytes k =
          sym (ap (λ b. slice_index b (k - past)) here)
          ∙ get_or-drop past bytes (k - past) 0 ∙ ap (slice_index bytes) (omega (arith, later)) in
          subst (λ byte. begins_with all byte ≡ true) there
          (led (slice_index rest (k - past)) (own (k - past) (omega arith)
          (omega (arith, lt, later))))
    ],
  ),
)
  where
    past : ℕ
    past = found.row_at + length walk.row

    here : drop past bytes ≡ rest
    here = sym (drop-drop (length walk.row) found.row_at bytes) ∙ found.behind

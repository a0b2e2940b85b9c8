-- How the words of several trees are put together.
use Rattle.regex_lite_syntax.proofs.Common.{◌≡◌, ℕ, ◌+◌, ◌<◌, ◌≤◌, List, [], ◌++◌}
use Rattle.regex_lite_syntax.proofs.Common.{length, replicate, slice_get, slice_index, Some}
use Rattle.regex_lite_syntax.proofs.Common.{sym, refl, ap, ◌∙◌, subst, inl, inr, arith, cases_lt}
use Rattle.regex_lite_syntax.proofs.Common.{length-append, cases_eq, Tree, Letter, ◌-◌}
use Rattle.std.proofs.lemmas.List.{get_or_append_left, get_or-append-add, get_or-replicate}
use Rattle.std.proofs.lemmas.List.{length-replicate}
use Rattle.regex_lite_syntax.specs.Prefilter.NumberedWords.{AreGatheredFrom, HasItsWords}
use Rattle.regex_lite_syntax.specs.Prefilter.WholeWords.{IsItsWords}
use Rattle.regex_lite_syntax.specs.Prefilter.Words.{AreWordsOfTree}
use Rattle.regex_lite_syntax.proofs.OptionLemmas.{same_some}

pub none_gathered : (trees : List Tree) → AreGatheredFrom trees 0 [] []
none_gathered trees = record {
  all = refl;
  below = λ k less. absurd (omega (arith, less));
  in_order = λ k m le less. absurd (omega (arith, less));
  each = λ number tree less there. absurd (omega (arith, less));
}

module _ (trees : List Tree) (count : ℕ) (tree : Tree) (words own : List (List Letter))
    (owners : List ℕ) (there : slice_get trees count ≡ Some tree)
    (of_tree : AreWordsOfTree tree own) (are : IsItsWords tree own)
    (before : AreGatheredFrom trees count words owners) where
  abbrev n : ℕ
  n = length own

  abbrev all : List (List Letter)
  all = words ++ own

  abbrev numbers : List ℕ
  numbers = owners ++ replicate n count

  size : length all ≡ length words + n
  size = length-append words own

  old_owner : (k : ℕ) → k < length words → slice_index numbers k ≡ slice_index owners k
  old_owner k less =
      get_or_append_left owners (replicate n count) 0 k (omega (arith, less, before.all))

  new_owner : (k : ℕ) → k < n → slice_index numbers (length words + k) ≡ count
  new_owner k less =
      ap (λ l. slice_index numbers (l + k)) (sym before.all)
      ∙ get_or-append-add owners (replicate n count) k 0
      ∙ get_or-replicate n k count 0 less

  -- the owner of a word that isn't one of those before
  later_owner : (k : ℕ) → length words ≤ k → k < length all → slice_index numbers k ≡ count
  later_owner k high less =
      let m = k - length words in
      let same : length words + m ≡ k = omega (arith, high) in
      ap (slice_index numbers) (sym same) ∙ new_owner m (omega (arith, same, less, size))

  old_one : (number : ℕ) (other : Tree) → number < count → HasItsWords words owners number other
      → HasItsWords all numbers number other
  old_one number other less has = record {
    own = has.own;
    of_tree = has.of_tree;
    are = has.are;
    begin = has.begin;
    inside = omega (arith, has.inside, size);
    same = λ k low.
        get_or_append_left words own [] (has.begin + k) (omega (arith, low, has.inside))
        ∙ has.same k low;
    owned = λ k low.
        old_owner (has.begin + k) (omega (arith, low, has.inside)) ∙ has.owned k low;
    no_others = λ k low is. elim (cases_lt k (length words)) [
      | inl old ↦ has.no_others k old (sym (old_owner k old) ∙ is)
      | inr new ↦ (
          let count_is = later_owner k new low in absurd (omega (arith, less, is, count_is)))
    ];
  }

  new_one : HasItsWords all numbers count tree
  new_one = record {
    own = own;
    of_tree = of_tree;
    are = are;
    begin = length words;
    inside = omega (arith, size);
    same = λ k low. get_or-append-add words own k [];
    owned = new_owner;
    no_others = λ k low is. elim (cases_lt k (length words)) [
      | inl old ↦ (
          let smaller = before.below k old in
          absurd (omega (arith, is, old_owner k old, smaller)))
      | inr new ↦ (new, omega (arith, low, size))
    ];
  }

  -- with the words of the next tree
  pub gathered_more : AreGatheredFrom trees (count + 1) all numbers
  gathered_more = record {
    all = omega (
      arith,
      size,
      before.all,
      length-append owners (replicate n count),
      length-replicate n count,
    );
    below = λ k less. elim (cases_lt k (length words)) [
      | inl old ↦ (
          let smaller = before.below k old in omega (arith, old_owner k old, smaller))
      | inr new ↦ omega (arith, later_owner k new less)
    ];
    in_order = λ k m le less. elim (cases_lt m (length words)) [
      | inl old ↦ (
          let known = before.in_order k m le old in
          omega (arith, known, old_owner k (omega (arith, le, old)), old_owner m old))
      | inr new ↦ elim (cases_lt k (length words)) [
        | inl old ↦ (
            let smaller = before.below k old in
            omega (arith, smaller, old_owner k old, later_owner m new less))
        | inr also ↦ omega (
          arith,
          later_owner k also (omega (arith, le, less)),
          later_owner m new less,
        )
      ]
    ];
    each = λ number other less at. elim (cases_eq number count) [
      | inl same ↦ subst (λ t. HasItsWords all numbers number t)
          (same_some (sym there ∙ ap (slice_get trees) (sym same) ∙ at))
          (subst (λ k. HasItsWords all numbers k tree) (sym same) new_one)
      | inr other_one ↦ old_one number other (omega (arith, less, other_one))
          (before.each number other (omega (arith, less, other_one)) at)
    ];
  }

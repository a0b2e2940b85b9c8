-- How the words of a tree grow by the passes of an operator.
use Rattle.regex_lite_syntax.proofs.Common.{◌≡◌, ℕ, suc, ◌+◌, ◌-◌, ◌≤◌, ◌⊎◌, Bool, List, []}
use Rattle.regex_lite_syntax.proofs.Common.{◌++◌, drop, Option, Some, Tree, Matches, Text, inl, inr}
use Rattle.regex_lite_syntax.proofs.Common.{refl, ap, ◌∙◌, subst, arith, repetition, append_assoc}
use Rattle.std.proofs.Common.{encode_utf8_all}
use Rattle.regex_lite_syntax.specs.Tree.Matches.{Passes}
use Rattle.regex_lite_syntax.specs.declared.prefilter.words.letter.Letter.{Letter}
use Rattle.regex_lite_syntax.specs.declared.prefilter.words.walk.WordWalk.{WordWalk}
use Rattle.regex_lite_syntax.specs.Prefilter.WordWalk.{GrowsBy, HasRead}
use Rattle.regex_lite_syntax.specs.Prefilter.WordWalk.{StartsWithAny}
use Rattle.regex_lite_syntax.proofs.prefilter.words.RowLemmas.{only_passes}
use Rattle.regex_lite_syntax.proofs.prefilter.words.WordWalkLemmas.{any_back, any_front, closed}
use Rattle.regex_lite_syntax.proofs.prefilter.words.WordWalkLemmas.{none_made, read_shut}

-- where so many passes were read, others may follow
pub record ReadsPasses (body : Tree) (count : ℕ) (before now : WordWalk) : Type 0 where
  pub made : List (List Letter)
  pub done : now.words.done ≡ before.words.done ++ made
  pub reads : (h : Text) (bytes : List ℕ) (i j n left : ℕ) → n ≡ count + left
      → HasRead bytes (encode_utf8_all (drop i h)) before → Passes (Matches h body) n i j
      → StartsWithAny made bytes
      ⊎ ((k : ℕ) × HasRead bytes (encode_utf8_all (drop k h)) now
      × Passes (Matches h body) left k j)

pub no_pass : (body : Tree) (walk : WordWalk) → ReadsPasses body 0 walk walk
no_pass body walk = record {
  made = [];
  done = none_made walk walk refl;
  reads = λ h bytes i j n left total read passes.
      inr (i, read, subst (λ n. Passes (Matches h body) n i j) (omega (arith, total)) passes);
}

-- what is counted beside the words doesn't matter
pub pass_read : (body : Tree) (count repeats : ℕ) (before now next : WordWalk)
    → ReadsPasses body count before now → GrowsBy body now next
    → ReadsPasses body (count + 1) before (record next { repeats = repeats })
pass_read body count repeats before now next passes extends = record {
  made = passes.made ++ extends.made;
  done = extends.done ∙ ap (λ d. d ++ extends.made) passes.done
      ∙ append_assoc before.words.done passes.made extends.made;
  reads = λ h bytes i j n left total read all.
      elim (passes.reads h bytes i j n (suc left) (omega (arith, total)) read all) [
        | inl any ↦ inl (any_front passes.made extends.made bytes any)
        | inr (k, here, (m, first, rest)) ↦ elim (extends.reads h bytes k m here first) [
          | inl any ↦ inl (any_back passes.made extends.made bytes any)
          | inr on ↦ inr (m, record { stands = on.stands; all = on.all }, rest)
        ]
      ];
}

-- there are never more passes than were read
pub all_passes : (least : ℕ) (most : Option ℕ) (greedy : Bool) (body : Tree) (count : ℕ)
    (before now : WordWalk) → count ≤ least → most ≡ Some count
    → ReadsPasses body count before now → GrowsBy (repetition least most greedy body) before now
all_passes least most greedy body count before now few exact passes = record {
  made = passes.made;
  done = passes.done;
  reads = λ h bytes i j read (n, low, high, all).
      let same = only_passes count n most exact (omega (arith, few, low)) high in
      elim (passes.reads h bytes i j n 0 (omega (arith, same)) read all) [
        | inl any ↦ inl any
        | inr (k, here, ends) ↦
            inr (subst (λ m. HasRead bytes (encode_utf8_all (drop m h)) now) ends here)
      ];
}

-- or there may be more
pub passes_shut : (least : ℕ) (most : Option ℕ) (greedy : Bool) (body : Tree) (count : ℕ)
    (before now : WordWalk) → count ≤ least → ReadsPasses body count before now
    → GrowsBy (repetition least most greedy body) before (closed now)
passes_shut least most greedy body count before now few passes = record {
  made = passes.made;
  done = passes.done;
  reads = λ h bytes i j read (n, low, high, all).
      elim (passes.reads h bytes i j n (n - count) (omega (arith, few, low)) read all) [
        | inl any ↦ inl any
        | inr (k, here, rest) ↦ inr (read_shut now bytes _ _ here)
      ];
}

-- What is written for a tree, by an equation that says which tree it is.
use Rattle.regex_lite_engine.proofs.Common.{◌≡◌, ℕ, ◌+◌, List, ◌++◌, map, length, sym, ◌∙◌, ap}
use Rattle.regex_lite_engine.proofs.Common.{subst, Tree, layout, places, place_of, IsAdded}
use Rattle.std.proofs.Common.{Result, Ok, Err, IfOk}
use Rattle.regex_lite_engine.specs.declared.nfa.place.Place as code
use Rattle.regex_lite_engine.specs.Graph.Places.{Place}
use Rattle.regex_lite_engine.specs.Nfa.Fragments.{alone}
use Rattle.regex_lite_engine.proofs.nfa.write.AddedLemmas.{EndsInPlace}

-- the tree's places are added, and entered
abbrev pub IsWritten : {E : Type 0} → Result ℕ E → (old new : List code.Place) → (exit : ℕ) → Tree
    → Type 0
IsWritten result old new exit tree = record {
  written : IfOk result (λ entry. IsAdded (map place_of old) (map place_of new) entry
      (layout tree (length old) exit));
  grown : IfOk result (λ _. length new ≡ length old + places tree);
}

module _ {E : Type 0} (result : Result ℕ E) (old new : List code.Place) (exit : ℕ) where
  pub written_same : {tree other : Tree} → tree ≡ other → IsWritten result old new exit other
      → IsWritten result old new exit tree
  written_same same = subst (IsWritten result old new exit) (sym same)

  -- the tree is one place
  pub one_written : {tree leaf : Tree} (place : Place ℕ) → tree ≡ leaf
      → layout leaf (length old) exit ≡ alone place (length old) → places leaf ≡ 1
      → EndsInPlace result old new place → IsWritten result old new exit tree
  one_written {leaf = leaf} place same is one reported = written_same same
      (by_result result reported)
    where
      by_result : (r : Result ℕ E) → EndsInPlace r old new place → IsWritten r old new exit leaf
      by_result (Ok number) reported = record {
        written = (
          reported.number ∙ ap (λ part. part.1) (sym is),
          reported.added ∙ ap (λ part. map place_of old ++ part.0) (sym is),
        );
        grown = reported.grown ∙ ap (λ k. length old + k) (sym one);
      }
      by_result (Err e) reported = record { written = tt; grown = tt }

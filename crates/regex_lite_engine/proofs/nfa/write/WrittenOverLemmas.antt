-- The choice of a loop, which is written over an empty place once its body is known.
use Rattle.regex_lite_engine.proofs.Common.{◌≡◌, ℕ, ◌+◌, Bool, List, [], ◌∷◌, ◌++◌, length, set, ap}
use Rattle.regex_lite_engine.proofs.Common.{◌∙◌, append_assoc, choice, Fragment, star_layout}
use Rattle.std.proofs.Math.Seq.{set-append_seam}
use Rattle.regex_lite_engine.specs.Graph.Places.{Place}

-- after the old places another one takes the place of the empty one
seam : (old now later : List (Place ℕ)) (n : ℕ) (empty other : Place ℕ) → n ≡ length old
    → now ≡ old ++ (empty ∷ later) → set now n other ≡ old ++ (other ∷ later)
seam old now later n empty other at is =
    ap (λ xs. set xs n other) is ∙ ap (λ k. set (old ++ (empty ∷ later)) k other) at
    ∙ set-append_seam old empty later other

module _ (greedy : Bool) (body : ℕ → ℕ → Fragment) (old first whole last : List (Place ℕ))
    (empty : Place ℕ) (base n next entry exit : ℕ) where
  -- an empty place, the body from `next` on, and the choice in the place of the empty one
  pub loop_written : base ≡ length old → n ≡ base → next ≡ base + 1 → first ≡ old ++ (empty ∷ [])
      → entry ≡ (body next n).1 → whole ≡ first ++ (body next n).0
      → last ≡ set whole n (choice greedy entry exit)
      → last ≡ old ++ (star_layout greedy body base exit).0
  loop_written long at later one enter inner over =
      over ∙ seam old whole inside n empty (choice greedy entry exit) (at ∙ long) cut
      ∙ ap (λ k. old ++ (choice greedy k exit ∷ inside))
      (enter ∙ ap (λ (part : Fragment). part.1) same)
    where
      inside : List (Place ℕ)
      inside = (body (base + 1) base).0

      same : body next n ≡ body (base + 1) base
      same = ap (λ k. body k n) later ∙ ap (λ k. body (base + 1) k) at

      cut : whole ≡ old ++ (empty ∷ inside)
      cut = inner ∙ ap (λ xs. xs ++ (body next n).0) one
          ∙ append_assoc old (empty ∷ []) (body next n).0
          ∙ ap (λ (part : Fragment). old ++ (empty ∷ part.0)) same

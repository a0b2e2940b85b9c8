-- What follows for the table once one place is added at its end.
use Rattle.regex_lite_engine.proofs.Common.{◌≡◌, ℕ, ◌+◌, List, [], ◌∷◌, ◌++◌, map, length, ap, ◌∙◌}
use Rattle.regex_lite_engine.proofs.Common.{place_of, append_assoc, length-append, arith}
use Rattle.regex_lite_engine.proofs.Common.{Fragment, IsAdded}
use Rattle.regex_lite_engine.specs.Nfa.Fragments.{before}
use Rattle.std.proofs.Common.{Result, Ok, Err, IfOk}
use Rattle.std.proofs.lemmas.List.{map_push, length_push}
use Rattle.regex_lite_engine.specs.declared.nfa.place.Place as code
use Rattle.regex_lite_engine.specs.Graph.Places.{Place}

-- the place is stored at the table's end, with this number
abbrev pub EndsInStored : {E : Type 0} → Result ℕ E → (old new : List code.Place) → code.Place
    → Type 0
EndsInStored result old new stored = record {
  number : IfOk result (λ number. number ≡ length old);
  added : IfOk result (λ _. new ≡ old ++ stored ∷ []);
}

-- the table has this place more
abbrev pub EndsInPlace : {E : Type 0} → Result ℕ E → (old new : List code.Place) → Place ℕ → Type 0
EndsInPlace result old new place = record {
  number : IfOk result (λ number. number ≡ length old);
  added : IfOk result (λ _. map place_of new ≡ map place_of old ++ place ∷ []);
  grown : IfOk result (λ _. length new ≡ length old + 1);
}

pub place_added : {E : Type 0} (result : Result ℕ E) (old new : List code.Place)
    (stored : code.Place) {place : Place ℕ} → place_of stored ≡ place
    → EndsInStored result old new stored → EndsInPlace result old new place
place_added (Ok number) old new stored is reported = record {
  number = reported.number;
  added = ap (λ places. map place_of places) reported.added ∙ map_push place_of old stored
      ∙ ap (λ (q : Place ℕ). map place_of old ++ q ∷ []) is;
  grown = ap (λ places. length places) reported.added ∙ length_push old stored;
}
place_added (Err e) old new stored is reported = record { number = tt; added = tt; grown = tt }

-- a part is written after the rest, and leads on to it
pub before_rest : (body : ℕ → ℕ → Fragment) (old whole new : List (Place ℕ)) (rest : Fragment)
    (base size at next : ℕ) → base ≡ length old → size ≡ length whole
    → IsAdded old whole at rest → IsAdded whole new next (body size at)
    → IsAdded old new next (before rest (body (base + length rest.0) rest.1))
before_rest body old whole new rest base size at next long longer (there, is) (enter, more) =
    let sum = ap (λ places. length places) is ∙ length-append old rest.0 in
    let here : size ≡ base + length rest.0 = omega (arith, long, longer, sum) in
    let same = ap (λ k. body k at) here ∙ ap (λ k. body (base + length rest.0) k) there in (
      enter ∙ ap (λ (part : Fragment). part.1) same,
      more ∙ ap (λ places. places ++ (body size at).0) is
          ∙ append_assoc old rest.0 (body size at).0
          ∙ ap (λ (part : Fragment). old ++ (rest.0 ++ part.0)) same,
    )

-- a body is written between the place where it is left and the one where it is entered
pub between_written : {E : Type 0} (result : Result ℕ E) (body : ℕ → ℕ → Fragment)
    (leaving : Place ℕ) (entering : ℕ → Place ℕ) (old first whole new : List (Place ℕ))
    (base at size inner wide : ℕ) → base ≡ length old → at ≡ base → size ≡ base + 1
    → first ≡ old ++ leaving ∷ [] → IsAdded first whole inner (body size at)
    → wide ≡ length whole → IfOk result (λ number. number ≡ wide)
    → IfOk result (λ _. new ≡ whole ++ entering inner ∷ [])
    → IfOk result (λ entry. let part = body (base + 1) base in IsAdded old new entry
    (leaving ∷ (part.0 ++ entering part.1 ∷ []), base + 1 + length part.0))
between_written (Ok number) body leaving entering old first whole new base at size inner wide
    long there longer one (enter, more) all at_end added =
    let part : Fragment = body (base + 1) base in
    let same : body size at ≡ part =
    ap (λ k. body k at) longer ∙ ap (λ k. body (base + 1) k) there in
    let cut : whole ≡ old ++ (leaving ∷ part.0) =
    more ∙ ap (λ places. places ++ (body size at).0) one
    ∙ append_assoc old (leaving ∷ []) (body size at).0
    ∙ ap (λ (p : Fragment). old ++ (leaving ∷ p.0)) same in
    let sum = ap (λ places. length places) cut ∙ length-append old (leaving ∷ part.0) in (
      omega (arith, at_end, all, sum, long),
      added ∙ ap (λ places. places ++ entering inner ∷ []) cut
          ∙ append_assoc old (leaving ∷ part.0) (entering inner ∷ [])
          ∙ ap (λ k. old ++ (leaving ∷ (part.0 ++ entering k ∷ [])))
          (enter ∙ ap (λ (p : Fragment). p.1) same),
    )
between_written (Err e) body leaving entering old first whole new base at size inner wide
    long there longer one is all at_end added = tt

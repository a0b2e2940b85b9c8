-- A class that more of the pattern completes.
use Rattle.regex_lite_syntax.proofs.Common.{◌≡◌, ℕ, zero, suc, Bool, true, List, [], ◌∷◌, ◌++◌}
use Rattle.regex_lite_syntax.proofs.Common.{codes, refl, ap, arith, false≢true, ClassItem, Takes}
use Rattle.regex_lite_syntax.proofs.Common.{takes, leaves, Dashes, FirstBracket, ClassOpening}
use Rattle.regex_lite_syntax.proofs.Common.{ClassItems, BracketedClass, EndsGap, WholeGap}
use Rattle.regex_lite_syntax.proofs.Common.{Completable, Set, just, Text, Begins, the}
use Rattle.regex_lite_syntax.specs.Grammar.Classes.{character}
use Rattle.regex_lite_syntax.proofs.grammar.GapLemmas.{ends_any}
use Rattle.regex_lite_syntax.proofs.grammar.LongerGapLemmas.{whole_longer}
use Rattle.regex_lite_syntax.proofs.grammar.ResumedGapLemmas.{resumed, gap_resumed}
use Rattle.regex_lite_syntax.proofs.parse.bracket.ClassItemLemmas.{part_literal}
use Rattle.regex_lite_syntax.proofs.parse.bracket.ClassOpeningLemmas.{class_from}
use Rattle.regex_lite_syntax.proofs.parse.bracket.CompletedItemLemmas.{bracket_ends, bracket_gap}
use Rattle.regex_lite_syntax.proofs.parse.bracket.CompletedItemLemmas.{no_range}
use Rattle.regex_lite_syntax.proofs.grammar.CompletedGapLemmas.{past_gap}

-- the items of a class up to the rest
abbrev pub ClassTo : (verbose : Bool) → (t rest : Text) → Type 0
ClassTo verbose t rest = (sets : List Set) × ClassItems verbose sets t rest

-- before the first item the bracket that closes the class is all that is left
pub closes_now : (verbose : Bool) (t : Text) → t ≡ [] → Completable (ClassTo verbose) t
closes_now verbose t e = record {
  more = the "]" ∷ [];
  characters = (refl, tt);
  reads = λ next. ([], ap (λ u. u ++ the "]" ∷ next) e);
}

-- and past an item, where no more than a gap is left
pub closes_after : (verbose : Bool) (t u past : Text) (sets : List Set) (s : Set)
    → WholeGap verbose past []
    → ((more : Text) → ClassItem verbose (u ++ more) (past ++ more) s)
    → ((more : Text) (all : List Set) (rest : Text) → ClassItems verbose all (u ++ more) rest
    → ClassItems verbose (sets ++ all) (t ++ more) rest)
    → Completable (ClassTo verbose) t
closes_after verbose t u past sets s gap item goes =
    past_gap verbose (ClassTo verbose) t (the "]" ∷ []) (refl, tt) (λ next.
    let more = resumed verbose ++ the "]" ∷ next in
    let closes : WholeGap verbose (past ++ more) (the "]" ∷ next) =
    (gap_resumed verbose past (the "]" ∷ next) gap.0, bracket_ends verbose next) in (
      sets ++ s ∷ [],
      goes more (s ∷ []) next (past ++ more, the "]" ∷ next, item more, closes, refl),
    ))

-- what a class begins with, where the text ends in it or past it and then goes on
module _ (verbose : Bool) (next : Text) (ends : EndsGap true next) where
  abbrev more : Text
  more = resumed verbose ++ next

  abbrev onto : Text → Text
  onto [] = next
  onto (c ∷ t) = c ∷ (t ++ more)

  gap_onto : (t u : Text) → WholeGap verbose t u → WholeGap verbose (t ++ more) (onto u)
  gap_onto t [] gap = (gap_resumed verbose t next gap.0, ends_any verbose next ends)
  gap_onto t (c ∷ u) gap = whole_longer (resumed verbose ++ next) verbose t (c ∷ u) gap (λ e. cc e)

  begins_onto : (c : ℕ) (t : Text) → (Begins c next → ⊥) → (Begins c t → ⊥) → Begins c (onto t) → ⊥
  begins_onto c [] other none b = other b
  begins_onto c (d ∷ t) other none b = none b

  onto_first : (c : ℕ) (t u : Text) → t ≡ c ∷ u → onto t ≡ c ∷ (u ++ more)
  onto_first c t u e = ap onto e

  takes_onto : (c : ℕ) (t u : Text) (taken : Bool) → (Begins c next → ⊥)
      → Takes verbose c t u taken → Takes verbose c (onto t) (onto u) taken
  takes_onto c t u taken other (takes past e gap is) =
      takes (past ++ more) (onto_first c t past e) (gap_onto past u gap) is
  takes_onto c t u taken other (leaves none e is) =
      leaves (begins_onto c t other none) (ap onto e) is

  dashes_onto : (n : ℕ) (t u : Text) → (Begins (the "-") next → ⊥) → Dashes verbose n t u
      → Dashes verbose n (onto t) (onto u)
  dashes_onto zero t u other d = (ap onto d.0, begins_onto (the "-") t other d.1)
  dashes_onto (suc n) t u other d = (
    d.0 ++ more,
    onto d.1,
    onto_first (the "-") t d.0 d.2,
    gap_onto d.0 d.1 d.3,
    dashes_onto n d.1 u other d.4,
  )

  bracket_onto : (n : ℕ) (t u : Text) (taken : Bool) → (Begins (the "]") next → ⊥)
      → FirstBracket verbose n t u taken → FirstBracket verbose n (onto t) (onto u) taken
  bracket_onto zero t u taken other b = takes_onto (the "]") t u taken other b
  bracket_onto (suc n) t u taken other b = (ap onto b.0, b.1)

  opening_onto : (t : Text) (negated dash bracket : Bool) → (Begins (the "^") next → ⊥)
      → (Begins (the "-") next → ⊥) → (Begins (the "]") next → ⊥)
      → ClassOpening verbose t [] negated dash bracket
      → ClassOpening verbose (t ++ more) next negated dash bracket
  opening_onto t negated dash bracket no_caret no_dash no_bracket o = record {
    opened = o.opened ++ more;
    first = onto o.first;
    past_caret = onto o.past_caret;
    past_dashes = onto o.past_dashes;
    dashes = o.dashes;
    opens = ap (λ u. u ++ more) o.opens;
    gap = gap_onto o.opened o.first o.gap;
    negation = takes_onto (the "^") o.first o.past_caret negated no_caret o.negation;
    dashed = dashes_onto o.dashes o.past_caret o.past_dashes no_dash o.dashed;
    has_dash = o.has_dash;
    bracketed = bracket_onto o.dashes o.past_dashes [] bracket no_bracket o.bracketed;
  }

-- one more item and the bracket complete it
one_item : (verbose : Bool) (next : Text)
    → ClassItems verbose (just (the "a") ∷ []) (the "a" ∷ the "]" ∷ next) next
one_item verbose next =
    let t = the "a" ∷ the "]" ∷ next in
    let closing = the "]" ∷ next in
    let ends = ends_any verbose t (refl, λ sign. omega (arith, sign)) in (
      closing,
      closing,
      character (the "a")
          ((λ e. omega (arith, e)), (λ e. omega (arith, e)), (λ is again. false≢true is))
          (part_literal verbose t closing (the "a") refl (λ e. omega (arith, e)) ends)
          (λ last. no_range verbose closing next last (bracket_gap verbose next)) refl,
      bracket_gap verbose next,
      refl,
    )

-- so where no more is left than what a class begins with, there is a class
pub completes_opening : (insensitive verbose : Bool) (t : Text) (negated dash bracket : Bool)
    → ClassOpening verbose t [] negated dash bracket
    → Completable (λ t rest. (s : Set) × BracketedClass insensitive verbose t rest s) t
completes_opening insensitive verbose t negated dash bracket o =
    past_gap verbose (λ u rest. (s : Set) × BracketedClass insensitive verbose u rest s) t
    (codes "a]") (refl, (refl, tt)) (λ next.
    let closing = the "a" ∷ the "]" ∷ next in
    let opens = opening_onto verbose closing (refl, λ sign. omega (arith, sign)) t negated dash
    bracket (λ e. omega (arith, e)) (λ e. omega (arith, e)) (λ e. omega (arith, e)) o in (
      _,
      class_from insensitive verbose (t ++ (resumed verbose ++ closing)) closing next negated dash
          bracket (just (the "a") ∷ []) opens (one_item verbose next),
    ))

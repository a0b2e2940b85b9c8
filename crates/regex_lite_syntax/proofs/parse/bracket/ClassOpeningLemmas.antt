-- What a class begins with, and the class as a whole.
use Rattle.regex_lite_syntax.proofs.Common.{◌≡◌, ℕ, zero, suc, ◌+◌, Bool, true, false, List, ◌∷◌}
use Rattle.regex_lite_syntax.proofs.Common.{nat_lt, sym, refl, ◌∙◌, subst, arith, Takes, Dashes}
use Rattle.regex_lite_syntax.proofs.Common.{FirstBracket, ClassOpening, ClassItems, only_if}
use Rattle.regex_lite_syntax.proofs.Common.{class_set, BracketedClass, WholeGap, Set, just, Text}
use Rattle.regex_lite_syntax.proofs.Common.{Begins, the}
use Rattle.std.proofs.lemmas.Bool.{lt-ltb}
use Rattle.regex_lite_syntax.proofs.grammar.ClassLemmas.{opening_once}

-- one more dash
pub dashes_push : (verbose : Bool) (n more : ℕ) (t u past next rest : Text)
    → ((more : ℕ) (rest : Text) → Dashes verbose more u rest → Dashes verbose (n + more) t rest)
    → u ≡ the "-" ∷ past → WholeGap verbose past next → Dashes verbose more next rest
    → Dashes verbose (n + 1 + more) t rest
dashes_push verbose n more t u past next rest goes e gap dashes =
    let count : n + suc more ≡ n + 1 + more = omega arith in
    subst (λ k. Dashes verbose k t rest) count (goes (suc more) rest (past, next, e, gap, dashes))

pub dashes_stop : (verbose : Bool) (n : ℕ) (t u : Text)
    → ((more : ℕ) (rest : Text) → Dashes verbose more u rest → Dashes verbose (n + more) t rest)
    → (Begins (the "-") u → ⊥) → Dashes verbose n t u
dashes_stop verbose n t u goes none =
    let count : n + zero ≡ n = omega arith in
    subst (λ k. Dashes verbose k t u) count (goes zero u (refl, none))

pub some_dashes : (n : ℕ) → true ≡ nat_lt 0 (n + 1)
some_dashes n = sym (lt-ltb 0 (n + 1) (omega arith))

-- where dashes stood, no bracket is taken
pub bracket_past : (verbose : Bool) (n : ℕ) (t rest : Text) (dashed taken : Bool)
    → dashed ≡ nat_lt 0 n → (dashed ≡ true → (t ≡ rest) × (taken ≡ false))
    → (dashed ≡ false → Takes verbose (the "]") t rest taken) → FirstBracket verbose n t rest taken
bracket_past verbose zero t rest dashed taken e left taken_there = taken_there e
bracket_past verbose (suc n) t rest dashed taken e left taken_there =
    let some : nat_lt 0 (suc n) ≡ true = lt-ltb 0 (suc n) (omega arith) in left (e ∙ some)

-- the class of what stands first in it and of its items
pub class_from : (insensitive verbose : Bool) (t u rest : Text) (negated dash bracket : Bool)
    (sets : List Set)
    → ClassOpening verbose t u negated dash bracket → ClassItems verbose sets u rest
    → BracketedClass insensitive verbose t rest (class_set insensitive negated
    (only_if dash (just (the "-")) ∷ only_if bracket (just (the "]")) ∷ sets))
class_from insensitive verbose t u rest negated dash bracket sets opens items = record {
  negated = negated;
  dash = dash;
  bracket = bracket;
  past_opening = u;
  sets = sets;
  opening = opens;
  items = items;
  set_is = refl;
}

-- the items of a class stand past what it begins with
pub class_items : (insensitive verbose : Bool) (t u rest : Text) (negated dash bracket : Bool)
    (s : Set) → ClassOpening verbose t u negated dash bracket
    → (c : BracketedClass insensitive verbose t rest s) → ClassItems verbose c.sets u rest
class_items insensitive verbose t u rest negated dash bracket s o c =
    let same = opening_once verbose t u c.past_opening negated c.negated dash c.dash bracket
    c.bracket o c.opening in
    subst (λ v. ClassItems verbose c.sets v rest) (sym same.0) c.items

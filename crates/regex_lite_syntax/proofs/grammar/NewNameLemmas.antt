-- A name that no group has, as more of a pattern that ends before it or in it.
use Rattle.regex_lite_syntax.proofs.Common.{◌≡◌, ℕ, zero, suc, ◌+◌, ◌<◌, ◌≤◌, List, [], ◌∷◌, ◌++◌}
use Rattle.regex_lite_syntax.proofs.Common.{length, get_or, Contains, sym, refl, ap, ◌∙◌, subst}
use Rattle.regex_lite_syntax.proofs.Common.{append_assoc, arith, append-nil, AllPass-from_list_all}
use Rattle.regex_lite_syntax.proofs.Common.{AreCharacters, is_no_end, NameWritten, NameOpening}
use Rattle.regex_lite_syntax.proofs.Common.{with_p, without_p, Named, NamesDiffer, EndsInOpening}
use Rattle.regex_lite_syntax.proofs.Common.{Completable, Text, the}
use Rattle.std.proofs.lemmas.List.{length-append, length-replicate}
use Rattle.regex_lite_syntax.proofs.CharacterLemmas.{joined_are, last_are, repeated_are}
use Rattle.regex_lite_syntax.proofs.grammar.LongerHeadLemmas.{opening_longer}
use Rattle.regex_lite_syntax.proofs.grammar.NameLemmas.{differ_more}
use Rattle.regex_lite_syntax.proofs.grammar.NameReadingLemmas.{NameSoFar, name_goes_on}
use Rattle.std.proofs.Common.{replicate}

-- a name that is none of these stands there
abbrev pub NewName : (names : List Text) → (t rest : Text) → Type 0
NewName names t rest =
    (name : Text) × NameWritten t rest name
    × (NamesDiffer names → NamesDiffer (names ++ name ∷ []))

-- this many underscores
abbrev underscores : ℕ → Text
underscores n = replicate n (the "_")

-- more characters than each of these names has
abbrev more_than_all : List Text → ℕ
more_than_all [] = 1
more_than_all (name ∷ names) = length name + more_than_all names

-- each of them has fewer
shorter : (names : List Text) (k : ℕ) (name : Text) → k < length names
    → get_or names k name ≡ name → length name < more_than_all names
shorter [] k name inside is = omega (arith, inside)
shorter (first ∷ names) zero name inside is =
    let same = ap length is in omega (arith, same, above_zero names)
  where
    above_zero : (names : List Text) → 0 < more_than_all names
    above_zero [] = omega arith
    above_zero (name ∷ names) = let some = above_zero names in omega (arith, some)
shorter (first ∷ names) (suc k) name inside is =
    let less = shorter names k name (omega (arith, inside)) is in omega (arith, less)

-- so a name of as many is none of them
longest_is_new : (names : List Text) (name : Text) → more_than_all names ≤ length name
    → Contains names name → ⊥
longest_is_new names name long (k, inside, is) =
    let less = shorter names k name inside is in omega (arith, long, less)

-- a name goes on with underscores
goes_on : (n : ℕ) (name : Text) → NameSoFar name → NameSoFar (name ++ underscores n)
goes_on zero name so_far = subst (λ w. NameSoFar w) (sym (append-nil name)) so_far
goes_on (suc n) name so_far =
    subst (λ w. NameSoFar w) (append_assoc name (the "_" ∷ []) (underscores n))
    (goes_on n (name ++ the "_" ∷ [])
    (name_goes_on name (name ++ the "_" ∷ []) (the "_") refl refl (λ e. omega (arith, e)) so_far))

-- where the pattern ends in a name, enough underscores make it a new one
pub name_completes : (names : List Text) (t : Text) → NameSoFar t → Completable (NewName names) t
name_completes names t so_far =
    let n = more_than_all names in
    let name = t ++ underscores n in
    let whole = goes_on n t so_far in
    let count = length-replicate n (the "_") in
    let long : n ≤ length name = omega (arith, length-append t (underscores n), count) in
    record {
      more = underscores n ++ the ">" ∷ [];
      characters = joined_are (underscores n) (the ">" ∷ []) (repeated_are n (the "_") refl)
          (refl, tt);
      reads = λ next. (
        name,
        record {
          written = ap (λ u. t ++ u) (append_assoc (underscores n) (the ">" ∷ []) next)
              ∙ sym (append_assoc t (underscores n) (the ">" ∷ next));
          inside = whole.inside;
          is_a_name = whole.is_a_name;
        },
        λ differ. differ_more names name differ (longest_is_new names name long),
      );
    }

-- and so where it ends before one
pub name_follows : (names : List Text) → Completable (NewName names) []
name_follows names =
    let begun : NameSoFar (the "_" ∷ []) =
    record { inside = AllPass-from_list_all is_no_end (the "_" ∷ []) refl; is_a_name = refl } in
    let completed = name_completes names (the "_" ∷ []) begun in
    record {
      more = the "_" ∷ completed.more;
      characters = (refl, completed.characters);
      reads = completed.reads;
    }

-- a name that is none of these stands there in its brackets
abbrev pub NewNamed : (names : List Text) → (t rest : Text) → Type 0
NewNamed names t rest =
    (name : Text) × Named t rest name × (NamesDiffer names → NamesDiffer (names ++ name ∷ []))

-- what makes a new name completes what opens it too
pub named_completes : (names : List Text) (t past : Text) → NameOpening t past
    → Completable (NewName names) past → Completable (NewNamed names) t
named_completes names t past opens new = record {
  more = new.more;
  characters = new.characters;
  reads = λ next.
      let left = new.more ++ next in
      let read = new.reads next in (
        read.0,
        record {
          past = past ++ left;
          opens = opening_longer left opens;
          called = read.1;
        },
        read.2,
      );
}

opening_characters : (t : Text) → NameOpening t [] → AreCharacters t
opening_characters t (with_p e) = subst (λ u. AreCharacters u) (sym e) (refl, (refl, (refl, tt)))
opening_characters t (without_p e) = subst (λ u. AreCharacters u) (sym e) (refl, (refl, tt))

-- and where the pattern ends inside what opens a name, the rest of that and a new name do
pub opening_completes : (names : List Text) (t : Text) → EndsInOpening t
    → Completable (NewNamed names) t
opening_completes names t (left, some, opens) =
    let new = named_completes names (t ++ left) [] opens (name_follows names) in
    record {
      more = left ++ new.more;
      characters = joined_are left new.more (last_are t left (opening_characters (t ++ left) opens))
          new.characters;
      reads = λ next. subst (λ u. NewNamed names u next)
          (append_assoc t left (new.more ++ next)
          ∙ ap (λ u. t ++ u) (sym (append_assoc left new.more next))) (new.reads next);
    }

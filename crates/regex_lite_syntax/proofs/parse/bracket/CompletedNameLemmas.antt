-- Sets with names in a class that more of the pattern completes.
use Rattle.regex_lite_syntax.proofs.Common.{◌≡◌, ℕ, ◌<◌, ◌≤◌, Bool, true, false, ◌&&◌, [], ◌∷◌}
use Rattle.regex_lite_syntax.proofs.Common.{◌++◌, length, drop, if◌then◌else◌, IsTrue, ◌==◌, Some}
use Rattle.regex_lite_syntax.proofs.Common.{codes, sym, refl, ap, ◌∙◌, subst, arith, and_parts}
use Rattle.regex_lite_syntax.proofs.Common.{both_ways, eqb-true, nat_tests, AllPass-from_list_all}
use Rattle.regex_lite_syntax.proofs.Common.{list_all-from_AllPass, AllPass, list_all, AreCharacters}
use Rattle.regex_lite_syntax.proofs.Common.{is_lower, NamedClass, SetName, set_named, word}
use Rattle.regex_lite_syntax.proofs.Common.{Completable, Text, Begins, the}
use Rattle.regex_lite_syntax.proofs.ListLemmas.{same_head, same_tail}
use Rattle.regex_lite_syntax.proofs.grammar.ClassLemmas.{negation_once, no_negation}
use Rattle.regex_lite_syntax.proofs.grammar.LongerClassLemmas.{negation_longer}
use Rattle.regex_lite_syntax.proofs.parse.IndexLemmas.{left_at_end, some_at}

-- a set stands there by its name up to the rest
abbrev pub NamedTo : (t rest : Text) → Type 0
NamedTo t rest = (negated : Bool) × (set : SetName) × NamedClass t rest negated set

-- where letters stand, the name of each longer text begins with them
starts_name : (w name more past : Text) → w ++ more ≡ name ++ the ":" ∷ past
    → IsTrue (list_all is_lower w) → (left : Text) × (name ≡ w ++ left)
starts_name [] name more past e all = (name, refl)
starts_name (c ∷ w) [] more past e all =
    absurd (both_ways (is_lower c) (ap is_lower (same_head e))
    (and_parts (is_lower c) (list_all is_lower w) all).0)
starts_name (c ∷ w) (d ∷ name) more past e all =
    let rest = starts_name w name more past (same_tail e)
    (and_parts (is_lower c) (list_all is_lower w) all).1 in
    (rest.0, cc (same_head e, rest.1))

-- a letter is no sign of negation
no_caret : (m : Bool) (opened u : Text) (c : ℕ) (more : Text)
    → opened ≡ (if m then the "^" ∷ c ∷ u else c ∷ u) → IsTrue (is_lower c) → m ≡ false
    → Begins (the "^") (opened ++ more) → ⊥
no_caret true opened u c more e letter h b = cc h
no_caret false opened u c more e letter h b =
    both_ways (is_lower c) (ap is_lower (subst (λ v. Begins (the "^") (v ++ more)) e b)) letter

-- so does that of a set that stands in a longer text
pub name_starts : (more opened w : Text) (m : Bool)
    → opened ≡ (if m then the "^" ∷ w else w) → AllPass is_lower w
    → (t rest : Text) (n : Bool) (set : SetName) → t ≡ codes "[:" ++ opened
    → (c : NamedClass (t ++ more) rest n set) → (left : Text) × (c.name ≡ w ++ left)
name_starts more opened [] m e all t rest n set opens c = (c.name, refl)
name_starts more opened (d ∷ w) m e all t rest n set opens c =
    let letters = list_all-from_AllPass is_lower (d ∷ w) all in
    let letter = (and_parts (is_lower d) (list_all is_lower w) letters).0 in
    let same : opened ++ more ≡ c.opened =
    same_tail (same_tail (sym (ap (λ u. u ++ more) opens) ∙ c.opens)) in
    let negation = same ∙ c.negation in
    let signs = negation_once m n (opened ++ more) (d ∷ (w ++ more)) c.begin
    (negation_longer more m opened (d ∷ w) e) negation (no_caret m opened w d more e letter)
    (no_negation n (opened ++ more) c.begin c.name c.end _ negation c.written c.letters c.closes) in
    starts_name (d ∷ w) c.name more _ (signs.1 ∙ c.written ∙ ap (λ u. c.name ++ u) c.closes) letters

-- what makes a name of the letters and closes it
pub completes_name : (t opened begin name more : Text) (m : Bool) (set : SetName)
    → t ≡ codes "[:" ++ opened → opened ≡ (if m then the "^" ∷ begin else begin)
    → AreCharacters more
    → ((next : Text) → begin ++ (more ++ next) ≡ name ++ (codes ":]" ++ next))
    → IsTrue (list_all is_lower name) → set_named name ≡ Some set → Completable NamedTo t
completes_name t opened begin name more m set opens negation are written letters named = record {
  more = more;
  characters = are;
  reads = λ next. (
    m,
    set,
    record {
      opened = opened ++ (more ++ next);
      begin = begin ++ (more ++ next);
      end = codes ":]" ++ next;
      name = name;
      opens = ap (λ u. u ++ (more ++ next)) opens;
      negation = negation_longer (more ++ next) m opened begin negation;
      written = written next;
      letters = AllPass-from_list_all is_lower name letters;
      closes = refl;
      named = named;
    },
  );
}

-- past the one bracket any name completes it
pub completes_bracket : (t : Text) → t ≡ the "[" ∷ [] → Completable NamedTo t
completes_bracket t e =
    let past_colon = completes_name (codes "[:") [] [] (codes "word") (codes "word:]") false word
    refl refl (refl, (refl, (refl, (refl, (refl, (refl, tt)))))) (λ next. refl) refl refl in
    record {
      more = the ":" ∷ past_colon.more;
      characters = (refl, past_colon.characters);
      reads = λ next. subst (λ u. NamedTo (u ++ (the ":" ∷ (past_colon.more ++ next))) next)
          (sym e) (past_colon.reads next);
    }

-- whether the text ends at the index, and what stands before it is begun
pub begun_at_end : (xs : Text) (i : ℕ) (begun : Bool) → (begun && (i == length xs)) ≡ true
    → (begun ≡ true) × (drop i xs ≡ [])
begun_at_end xs i begun e =
    let parts = and_parts begun (i == length xs) e in
    (parts.0, left_at_end xs i (eqb-true i (length xs) parts.1))

-- nothing may follow a fault of the end of what is begun
pub ends_short : (xs : Text) (i : ℕ) → i ≤ length xs → drop i xs ≡ [] → (i == length xs) ≡ true
ends_short xs i inside none = by_kind (i == length xs) refl
  where
    by_kind : (b : Bool) → (i == length xs) ≡ b → (i == length xs) ≡ true
    by_kind true e = e
    by_kind false e =
        let below : i < length xs = grind (arith, nat_tests) in
        absurd (some_at xs i below none)

-- what doesn't stand in the text stands in no longer one that may be
pub stops : (c : ℕ) (t more : Text) → (Begins c t → ⊥) → (t ≡ [] → more ≡ [])
    → Begins c (t ++ more) → ⊥
stops c [] more none follows b = subst (λ m. Begins c m) (follows refl) b
stops c (d ∷ t) more none follows b = none b

-- by what a test answers
pub by_answer : {A : Type 0} (b : Bool) → (b ≡ true → A) → (b ≡ false → A) → A
by_answer true if_true if_false = if_true refl
by_answer false if_true if_false = if_false refl

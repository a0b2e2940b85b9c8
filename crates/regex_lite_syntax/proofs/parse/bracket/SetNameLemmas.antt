-- The names of sets, and what begins one of them.
use Rattle.regex_lite_syntax.proofs.Common.{◌≡◌, ℕ, Bool, true, false, List, [], ◌∷◌, ◌++◌}
use Rattle.regex_lite_syntax.proofs.Common.{if◌then◌else◌, IsTrue, ◌==◌, Some, None, Option}
use Rattle.regex_lite_syntax.proofs.Common.{option_map, sym, refl, ap, ◌∙◌, subst, arith, and_from}
use Rattle.regex_lite_syntax.proofs.Common.{and_parts, both_ways, eqb-true, or_left, or_right}
use Rattle.regex_lite_syntax.proofs.Common.{nat_tests, list_all-append, list_all, list_any}
use Rattle.regex_lite_syntax.proofs.Common.{is_character, AreCharacters, is_lower, SetName}
use Rattle.regex_lite_syntax.proofs.Common.{set_named, is_beginning, name_of, Text, is_text}
use Rattle.std.specs.Prelude.{find}
use Rattle.std.proofs.lemmas.List.Folds.{Any-from_list_any}
use Rattle.regex_lite_syntax.specs.declared.class.named.NamedSet.{NamedSet}
use Rattle.regex_lite_syntax.specs.declared.class.named.NamedSet.TheVariants as sets
use Rattle.regex_lite_syntax.specs.declared.parse.bracket.named.TheConstants.{ALL}
use Rattle.regex_lite_syntax.specs.Parser.ClassReadings.{set_name}
use Rattle.regex_lite_syntax.proofs.grammar.WordLemmas.{all_characters, same_text}

-- the name of a choice is a choice of names
map_if : (b : Bool) (set : NamedSet) (others : Option NamedSet) (names : Option SetName)
    → option_map name_of others ≡ names
    → option_map name_of (if b then Some set else others)
    ≡ (if b then Some (name_of set) else names)
map_if true set others names e = refl
map_if false set others names e = e

-- the first of all sets with the name is the one that the grammar names
pub first_named : (w : Text)
    → option_map name_of (find (λ s. is_text w (set_name s)) ALL) ≡ set_named w
first_named w =
    let is : Text → Bool = is_text w in
    map_if (is (set_name sets.Alnum)) sets.Alnum _ _ (
    map_if (is (set_name sets.Alpha)) sets.Alpha _ _ (
    map_if (is (set_name sets.Ascii)) sets.Ascii _ _ (
    map_if (is (set_name sets.Blank)) sets.Blank _ _ (
    map_if (is (set_name sets.Cntrl)) sets.Cntrl _ _ (
    map_if (is (set_name sets.Digit)) sets.Digit _ _ (
    map_if (is (set_name sets.Graph)) sets.Graph _ _ (
    map_if (is (set_name sets.Lower)) sets.Lower _ _ (
    map_if (is (set_name sets.Print)) sets.Print _ _ (
    map_if (is (set_name sets.Punct)) sets.Punct _ _ (
    map_if (is (set_name sets.Space)) sets.Space _ _ (
    map_if (is (set_name sets.Upper)) sets.Upper _ _ (
    map_if (is (set_name sets.Word)) sets.Word _ _ (
    map_if (is (set_name sets.Xdigit)) sets.Xdigit None None refl)))))))))))))

-- and where there is none, the grammar names none
pub none_named : (w name : Text) (set : SetName) → None ≡ find (λ s. is_text w (set_name s)) ALL
    → w ≡ name → set_named name ≡ Some set → ⊥
none_named w name set none same named =
    cc (ap (option_map name_of) none ∙ first_named w ∙ ap set_named same ∙ named)

-- each set is named by its name, which is of letters
named_itself : (s : NamedSet)
    → (set_named (set_name s) ≡ Some (name_of s)) × IsTrue (list_all is_lower (set_name s))
named_itself sets.Alnum = (refl, refl)
named_itself _ = (refl, refl)

-- texts and their beginnings
begins_itself : (w left : Text) → is_beginning w (w ++ left) ≡ true
begins_itself [] left = refl
begins_itself (c ∷ w) left = and_from (c == c) _ (grind (arith, nat_tests)) (begins_itself w left)

what_is_left : (w t : Text) → is_beginning w t ≡ true → (left : Text) × (t ≡ w ++ left)
what_is_left [] t e = (t, refl)
what_is_left (c ∷ w) [] e = absurd (cc e)
what_is_left (c ∷ w) (d ∷ t) e =
    let parts = and_parts (c == d) (is_beginning w t) e in
    let rest = what_is_left w t parts.1 in
    (rest.0, cc (eqb-true c d parts.0, rest.1))

-- the first of all that pass the one test passes it, and where it passes another, one of all does
found_passes : {X : Type 0} (p q : X → Bool) (xs : List X) (x : X) → find p xs ≡ Some x
    → (p x ≡ true) × (q x ≡ true → list_any q xs ≡ true)
found_passes {X} p q [] x e = absurd (cc e)
found_passes {X} p q (y ∷ xs) x e = by_kind (p y) refl e (found_passes p q xs x)
  where
    by_kind : (b : Bool) → p y ≡ b → (if b then Some y else find p xs) ≡ Some x
        → (find p xs ≡ Some x → (p x ≡ true) × (q x ≡ true → list_any q xs ≡ true))
        → (p x ≡ true) × (q x ≡ true → list_any q (y ∷ xs) ≡ true)
    by_kind true is e past =
        let same : y ≡ x = cc e in (
          subst (λ z. p z ≡ true) same is,
          λ passes. or_left (q y) (list_any q xs) (subst (λ z. q z ≡ true) (sym same) passes),
        )
    by_kind false is e past =
        let rest = past e in
        (rest.0, λ passes. or_right (q y) (list_any q xs) (rest.1 passes))

-- what has a name is a set
mapped : (o : Option NamedSet) (set : SetName) → option_map name_of o ≡ Some set
    → (s : NamedSet) × (o ≡ Some s)
mapped None set e = absurd (cc e)
mapped (Some s) set e = (s, refl)

-- where no name begins with these letters, they are no beginning of one
pub none_begins : (w left : Text) (set : SetName)
    → false ≡ list_any (λ s. is_beginning w (set_name s)) ALL → set_named (w ++ left) ≡ Some set → ⊥
none_begins w left set none named =
    let first = mapped (find (λ s. is_text (w ++ left) (set_name s)) ALL) set
    (first_named (w ++ left) ∙ named) in
    let passes = found_passes (λ s. is_text (w ++ left) (set_name s))
    (λ s. is_beginning w (set_name s)) ALL first.0 first.1 in
    let same = same_text (w ++ left) (set_name first.0) passes.0 in
    let some = passes.1 (subst (λ t. is_beginning w t ≡ true) same (begins_itself w left)) in
    both_ways _ (sym none) some

-- letters are characters
letter_is : (c : ℕ) → IsTrue (is_lower c) → IsTrue (is_character c)
letter_is c is = grind (arith, nat_tests)

-- the letters that make a name of those that begin one
pub record NameLeft (w : Text) : Type 0 where
  pub left : Text
  pub set : SetName
  pub named : set_named (w ++ left) ≡ Some set
  pub letters : IsTrue (list_all is_lower (w ++ left))
  pub characters : AreCharacters left

pub some_begins : (w : Text) → true ≡ list_any (λ s. is_beginning w (set_name s)) ALL → NameLeft w
some_begins w some =
    let any = Any-from_list_any (λ s. is_beginning w (set_name s)) ALL (sym some) in
    let set = any.1 in
    let rest = what_is_left w (set_name set) any.4 in
    let itself = named_itself set in
    let letters = subst (λ t. IsTrue (list_all is_lower t)) rest.1 itself.1 in
    record {
      left = rest.0;
      set = name_of set;
      named = subst (λ t. set_named t ≡ Some (name_of set)) rest.1 itself.0;
      letters = letters;
      characters = all_characters is_lower rest.0 letter_is
          (and_parts (list_all is_lower w) _ (sym (list_all-append is_lower w rest.0) ∙ letters)).1;
    }

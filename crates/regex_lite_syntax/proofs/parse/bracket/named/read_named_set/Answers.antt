use Rattle.regex_lite_syntax.proofs.Common.{◌≡◌, ℕ, ◌+◌, ◌-◌, ◌≤◌, Bool, true, false, [], ◌∷◌, ◌++◌}
use Rattle.regex_lite_syntax.proofs.Common.{length, take, drop, if◌then◌else◌, ◌==◌, Some, None}
use Rattle.regex_lite_syntax.proofs.Common.{codes, Option, option_map, sym, refl, ap, ◌∙◌, subst}
use Rattle.regex_lite_syntax.proofs.Common.{append_assoc, arith, and_from, append-nil}
use Rattle.regex_lite_syntax.proofs.Common.{list_all-from_AllPass, list_any, is_lower, set_named}
use Rattle.regex_lite_syntax.proofs.Common.{is_beginning, name_of, Text, the}
use Rattle.std.specs.Prelude.{is_some}
use Rattle.regex_lite_syntax.specs.declared.class.named.NamedSet.{NamedSet}
use Rattle.regex_lite_syntax.specs.declared.parse.bracket.named.TheConstants.{ALL}
use Rattle.regex_lite_syntax.specs.Parser.ClassReadings.{set_name, HasNamedSet}
use Rattle.regex_lite_syntax.proofs.ExitLemmas.{at_exit}
use Rattle.regex_lite_syntax.proofs.ListLemmas.{same_tail}
use Rattle.regex_lite_syntax.proofs.grammar.ClassLemmas.{begins}
use Rattle.regex_lite_syntax.proofs.CharacterLemmas.{joined_are}
use Rattle.regex_lite_syntax.proofs.parse.bracket.CompletedNameLemmas.{name_starts, completes_name}
use Rattle.regex_lite_syntax.proofs.parse.bracket.CompletedNameLemmas.{completes_bracket}
use Rattle.regex_lite_syntax.proofs.parse.bracket.CompletedNameLemmas.{begun_at_end, ends_short}
use Rattle.regex_lite_syntax.proofs.parse.bracket.CompletedNameLemmas.{stops, by_answer}
use Rattle.regex_lite_syntax.proofs.parse.bracket.LongerItemLemmas.{name_longer_once}
use Rattle.regex_lite_syntax.proofs.parse.bracket.SetNameLemmas.{first_named, none_named}
use Rattle.regex_lite_syntax.proofs.parse.bracket.SetNameLemmas.{none_begins, some_begins}
use Rattle.regex_lite_syntax.proofs.parse.bracket.named.read_named_set.Goals as goal
use Rattle.regex_lite_syntax.proofs.parse.bracket.named.read_named_set.Goals.{
  After-skip_lower-end,
  then-negated,
  else-negated,
}

-- two characters stand there
two_at : (xs : Text) (at c d : ℕ) → drop at xs ≡ c ∷ drop (at + 1) xs
    → drop (at + 1) xs ≡ d ∷ drop (at + 1 + 1) xs → drop at xs ≡ c ∷ d ∷ drop (at + 2) xs
two_at xs at c d e f =
    let two : at + 1 + 1 ≡ at + 2 = omega arith in
    e ∙ ap (λ t. c ∷ t) (f ∙ ap (λ n. d ∷ drop n xs) two)

negated_at : (xs : Text) (at begin : ℕ) (negated : Bool)
    → drop (at + 2) xs ≡ the "^" ∷ drop (at + 2 + 1) xs → begin ≡ at + 3 → negated ≡ true
    → drop (at + 2) xs ≡ (if negated then the "^" ∷ drop begin xs else drop begin xs)
negated_at xs at begin true e b h =
    let three : at + 2 + 1 ≡ begin = omega (arith, b) in e ∙ ap (λ n. (the "^") ∷ drop n xs) three
negated_at xs at begin false e b h = cc h

bare_at : (xs : Text) (at begin : ℕ) (negated : Bool) → begin ≡ at + 2 → negated ≡ false
    → drop (at + 2) xs ≡ (if negated then the "^" ∷ drop begin xs else drop begin xs)
bare_at xs at begin true b h = cc h
bare_at xs at begin false b h = ap (λ n. drop n xs) (sym b)

opens_at : (c : After-skip_lower-end)
    → drop c.args.at c.args.chars.now ≡ codes "[:" ++ drop (c.args.at + 2) c.args.chars.now
opens_at c =
    two_at c.args.chars.now c.args.at (the "[") (the ":") c.requires.begins
    c.in_ok-expect.ensures.there.1

negation_at : (c : After-skip_lower-end) → drop (c.args.at + 2) c.args.chars.now
    ≡ (if c.is_at-negated.result then the "^" ∷ drop c.if-negated.begin c.args.chars.now
    else drop c.if-negated.begin c.args.chars.now)
negation_at c =
    let xs = c.args.chars.now in
    let at = c.args.at in
    let begin = c.if-negated.begin in
    let negated = c.is_at-negated.result in
    elim c.if-negated.branch [
      | then-negated w ↦
          negated_at xs at begin negated
          (w.if-negated.ensures.there refl).1 w.begin-is w.if-negated.true
      | else-negated w ↦ bare_at xs at begin negated w.begin-is w.if-negated.false
    ]

-- a name that stands there in a longer text is the word that was found, unless the text ends there
once : (c : After-skip_lower-end) (more : Text)
    → (drop c.skip_lower-end.result c.args.chars.now ≡ [] → more ≡ [])
    → (has : HasNamedSet (drop c.args.at c.args.chars.now ++ more))
    → (take (c.skip_lower-end.result - c.if-negated.begin)
    (drop c.if-negated.begin c.args.chars.now) ≡ has.3.name)
    × (drop c.skip_lower-end.result c.args.chars.now ++ more ≡ codes ":]" ++ has.0)
once c more follows has =
    let same = name_longer_once more _ _ _ _ c.is_at-negated.result (negation_at c)
    c.is_at-negated.ensures.absent c.skip_lower-end.ensures.spelled
    c.skip_lower-end.ensures.letters c.skip_lower-end.ensures.ends follows _ has.0 has.1 has.2
    (opens_at c) has.3 in
    (same.0, same.1 ∙ has.3.closes)

-- where a colon stands past the word, the text does not end there
goes_on : (t u more : Text) (c : ℕ) → t ≡ c ∷ u → t ≡ [] → more ≡ []
goes_on t u more c e none = let clash = sym e ∙ none in cc clash

-- the letters past the negation, and the text from them on
word_at : After-skip_lower-end → Text
word_at c =
    take (c.skip_lower-end.result - c.if-negated.begin) (drop c.if-negated.begin c.args.chars.now)

word_past : (c : After-skip_lower-end) (u : Text)
    → drop c.skip_lower-end.result c.args.chars.now ≡ u
    → drop c.if-negated.begin c.args.chars.now ≡ word_at c ++ u
unfolding word_at
word_past c u is =
    let w = word_at c in c.skip_lower-end.ensures.spelled ∙ ap (λ r. w ++ r) is

-- no name of a longer text begins with the letters, where the text ends past them and none does
none_named_so : (c : After-skip_lower-end) (more : Text)
    → drop c.skip_lower-end.result c.args.chars.now ≡ []
    → false ≡ list_any (λ s. is_beginning (word_at c) (set_name s)) ALL
    → HasNamedSet (drop c.args.at c.args.chars.now ++ more) → ⊥
unfolding word_at
none_named_so c more ends none has =
    let w = word_at c in
    let negated = c.is_at-negated.result in
    let negation = subst (λ u. drop (c.args.at + 2) c.args.chars.now
    ≡ (if negated then the "^" ∷ u else u)) (word_past c [] ends ∙ append-nil w)
    (negation_at c) in
    let starts = name_starts more _ w negated negation c.skip_lower-end.ensures.letters _ has.0
    has.1 has.2 (opens_at c) has.3 in
    none_begins w starts.0 has.2 none (ap set_named (sym starts.1) ∙ has.3.named)

pub returns-in_err-expect-clause-refused : goal.returns-in_err-expect-clause-refused
returns-in_err-expect-clause-refused c =
    let xs = c.args.chars.now in
    let next = c.args.at + 1 in
    let inside : next ≤ length xs = omega (arith, c.requires.inside) in
    at_exit _ _ c.from_residual.ensures.1 (λ more follows has.
    stops (the ":") (drop next xs) more c.in_err-expect.ensures.absent
    (λ ends. follows (c.in_err-expect.ensures.short
    ∙ and_from true (next == length xs) refl (ends_short xs next inside ends)))
    (begins (the ":") _ _ (same_tail (sym (ap (λ u. u ++ more) c.requires.begins) ∙ has.3.opens))))

pub returns-in_err-expect-clause-completes : goal.returns-in_err-expect-clause-completes
returns-in_err-expect-clause-completes c =
    let xs = c.args.chars.now in
    at_exit _ _ c.from_residual.ensures.1 (λ short.
    let ends = begun_at_end xs (c.args.at + 1) true (sym c.in_err-expect.ensures.short ∙ short) in
    completes_bracket (drop c.args.at xs) (c.requires.begins ∙ ap (λ u. the "[" ∷ u) ends.1))

pub returns-in_err-expect-2-clause-refused : goal.returns-in_err-expect-2-clause-refused
unfolding word_at
returns-in_err-expect-2-clause-refused c =
    let at_word = (goal.at.returns-in_err-expect-2-clause-refused c).After-skip_lower-end in
    let xs = c.args.chars.now in
    let end = c.skip_lower-end.result in
    let begun = c.begins_name.result in
    at_exit _ _ c.from_residual-in_err-expect-2.ensures.1 (λ more follows has.
    let none : drop end xs ≡ [] → more ≡ [] =
    λ ends. by_answer begun (λ is. follows (c.in_err-expect-2.ensures.short
    ∙ and_from begun (end == length xs) is
    (ends_short xs end c.skip_lower-end.ensures.inside.1 ends)))
    (λ is. absurd (none_named_so at_word more ends (sym is ∙ c.begins_name.ensures) has)) in
    stops (the ":") (drop end xs) more c.in_err-expect-2.ensures.absent none
    (begins (the ":") _ _ (once at_word more none has).1))

pub returns-in_err-expect-2-clause-completes : goal.returns-in_err-expect-2-clause-completes
unfolding word_at
returns-in_err-expect-2-clause-completes c =
    let at_word = (goal.at.returns-in_err-expect-2-clause-completes c).After-skip_lower-end in
    let xs = c.args.chars.now in
    let w = word_at at_word in
    at_exit _ _ c.from_residual-in_err-expect-2.ensures.1 (λ short.
    let ends = begun_at_end xs c.skip_lower-end.result c.begins_name.result
    (sym c.in_err-expect-2.ensures.short ∙ short) in
    let name = some_begins w (sym ends.0 ∙ c.begins_name.ensures) in
    completes_name (drop c.args.at xs) _ _ (w ++ name.left) (name.left ++ codes ":]") _ name.set
    (opens_at at_word) (negation_at at_word)
    (joined_are name.left (codes ":]") name.characters (refl, (refl, tt)))
    (λ next. ap (λ u. u ++ ((name.left ++ codes ":]") ++ next)) (word_past at_word [] ends.1
    ∙ append-nil w)
    ∙ ap (λ u. w ++ u) (append_assoc name.left (codes ":]") next)
    ∙ sym (append_assoc w name.left (codes ":]" ++ next))) name.letters name.named)

-- whether there is a set
none_of : (o : Option NamedSet) → is_some o ≡ false → o ≡ None
none_of None is = refl
none_of (Some set) is = cc is

one_of : (o : Option NamedSet) → is_some o ≡ true → (set : NamedSet) × (o ≡ Some set)
one_of None is = absurd (cc is)
one_of (Some set) is = (set, refl)

pub returns-in_err-expect-3-clause-refused : goal.returns-in_err-expect-3-clause-refused
unfolding word_at
returns-in_err-expect-3-clause-refused c =
    let at_word = (goal.at.returns-in_err-expect-3-clause-refused c).After-skip_lower-end in
    let xs = c.args.chars.now in
    let next = c.skip_lower-end.result + 1 in
    let found = c.is_some.result in
    let colon = c.in_ok-expect-2.ensures.there.1 in
    let inside : next ≤ length xs = omega (arith, c.in_ok-expect-2.ensures.there.0) in
    at_exit _ _ c.from_residual-in_err-expect-3.ensures.1 (λ more follows has.
    let same = once at_word more (goes_on _ _ more _ colon) has in
    stops (the "]") (drop next xs) more c.in_err-expect-3.ensures.absent (λ ends. by_answer found
    (λ is. follows (c.in_err-expect-3.ensures.short
    ∙ and_from found (next == length xs) is (ends_short xs next inside ends)))
    (λ is. absurd (none_named (word_at at_word) has.3.name has.2
    (sym (none_of _ (sym c.is_some.ensures ∙ is)) ∙ c.set_with_name-found.ensures)
    same.0 has.3.named)))
    (begins (the "]") _ _ (same_tail (sym (ap (λ u. u ++ more) colon) ∙ same.1))))

pub returns-in_err-expect-3-clause-completes : goal.returns-in_err-expect-3-clause-completes
unfolding word_at
returns-in_err-expect-3-clause-completes c =
    let at_word = (goal.at.returns-in_err-expect-3-clause-completes c).After-skip_lower-end in
    let xs = c.args.chars.now in
    let w = word_at at_word in
    at_exit _ _ c.from_residual-in_err-expect-3.ensures.1 (λ short.
    let ends = begun_at_end xs (c.skip_lower-end.result + 1) c.is_some.result
    (sym c.in_err-expect-3.ensures.short ∙ short) in
    let found = one_of c.set_with_name-found.result (sym c.is_some.ensures ∙ ends.0) in
    let colon = c.in_ok-expect-2.ensures.there.1 ∙ ap (λ u. the ":" ∷ u) ends.1 in
    completes_name (drop c.args.at xs) _ _ w (codes "]") _ (name_of found.0)
    (opens_at at_word) (negation_at at_word) (refl, tt)
    (λ next. ap (λ u. u ++ (codes "]" ++ next)) (word_past at_word _ colon)
    ∙ append_assoc w (codes ":") (codes "]" ++ next))
    (list_all-from_AllPass is_lower w c.skip_lower-end.ensures.letters) (sym (first_named w)
    ∙ ap (option_map name_of) (sym c.set_with_name-found.ensures ∙ found.1)))

pub returns-in-None-clause-refused : goal.returns-in-None-clause-refused
unfolding word_at
returns-in-None-clause-refused c more follows has =
    let at_word = (goal.at.returns-in-None-clause-refused c).After-skip_lower-end in
    let same = once at_word more (goes_on _ _ more _ c.in_ok-expect-2.ensures.there.1) has in
    none_named (word_at at_word) has.3.name has.2
    (sym c.in-None.is ∙ c.set_with_name-found.ensures) same.0 has.3.named

pub returns-in-Some-clause-ok : goal.returns-in-Some-clause-ok
unfolding word_at
returns-in-Some-clause-ok c =
    let xs = c.args.chars.now in
    let end = c.skip_lower-end.result in
    let at_word = (goal.at.returns-in-Some-clause-ok c).After-skip_lower-end in
    record {
      opened = drop (c.args.at + 2) xs;
      begin = drop c.if-negated.begin xs;
      end = drop end xs;
      name = word_at at_word;
      opens = opens_at at_word;
      negation = negation_at at_word;
      written = c.skip_lower-end.ensures.spelled;
      letters = c.skip_lower-end.ensures.letters;
      closes = two_at xs end (the ":") (the "]") c.in_ok-expect-2.ensures.there.1
          c.in_ok-expect-3.ensures.there.1;
      named = sym (first_named (word_at at_word))
          ∙ ap (option_map name_of) (sym c.set_with_name-found.ensures ∙ c.in-Some.is);
    }

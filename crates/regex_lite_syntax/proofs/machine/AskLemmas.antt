-- What the first character of a part asks for, and that no gap goes on with it.
use Rattle.regex_lite_syntax.proofs.Common.{◌≡◌, ℕ, Bool, true, false, ◌≢◌, ◌⊎◌, ◌∷◌, ◌==◌, Some}
use Rattle.regex_lite_syntax.proofs.Common.{None, codes, Option, sym, refl, ap, ◌∙◌, subst, inl}
use Rattle.regex_lite_syntax.proofs.Common.{inr, arith, and_parts, eqb-false, false≢true, leb-true}
use Rattle.regex_lite_syntax.proofs.Common.{ne_eqb, not-true, or_parts, is_one_of, is_white_space}
use Rattle.regex_lite_syntax.proofs.Common.{is_literal, no_atom, atom_kind, Atom, EndsGap}
use Rattle.regex_lite_syntax.proofs.Common.{GroupKind, Head, Directive, sets, times, Operator}
use Rattle.regex_lite_syntax.proofs.Common.{uncounted, uncounted_lazy, counted, counted_lazy, Point}
use Rattle.regex_lite_syntax.proofs.Common.{Kind, kind_at, bar, closing, paren, Text, the, Tree}
use Rattle.regex_lite_syntax.proofs.Common.{Flags}
use Rattle.std.proofs.lemmas.Bool.{cases_Bool, cases_eq}
use Rattle.regex_lite_syntax.specs.Parser.Machine.{operator, atom}
use Rattle.regex_lite_syntax.proofs.grammar.GapLemmas.{ends_any, ends_before}
use Rattle.regex_lite_syntax.proofs.grammar.AtomLemmas.{NoSign, no_atom_at, no_literal}
use Rattle.regex_lite_syntax.specs.Characters.{is_between}
use Rattle.regex_lite_syntax.proofs.grammar.WordLemmas.{one_passes}
use Rattle.regex_lite_syntax.proofs.grammar.SpacedLemmas.{printed_ends}
use Rattle.regex_lite_syntax.proofs.machine.ChangeLemmas.{head_takes}

-- the text asks for this, and no gap goes on where it begins
pub record Asks (verbose : Bool) (t : Text) (k : Kind) : Type 0 where
  pub ends : EndsGap verbose t
  pub kind_is : kind_at t ≡ k

-- what a text asks for by a first character that is known
asks : (verbose : Bool) (c : ℕ) (t rest : Text) (k : Kind) → t ≡ c ∷ rest → EndsGap true (c ∷ rest)
    → kind_at (c ∷ rest) ≡ k → Asks verbose t k
asks verbose c t rest k e ends kind =
    record { ends = ends_before verbose c rest t e ends; kind_is = ap kind_at e ∙ kind }

pub asks_paren : (verbose : Bool) (t rest : Text) → t ≡ the "(" ∷ rest → Asks verbose t paren
asks_paren verbose t rest e =
    asks verbose (the "(") t rest paren e (refl, λ h. omega (arith, h)) refl

pub asks_closing : (verbose : Bool) (t rest : Text) → t ≡ the ")" ∷ rest → Asks verbose t closing
asks_closing verbose t rest e =
    asks verbose (the ")") t rest closing e (refl, λ h. omega (arith, h)) refl

pub asks_bar : (verbose : Bool) (t rest : Text) → t ≡ the "|" ∷ rest → Asks verbose t bar
asks_bar verbose t rest e = asks verbose (the "|") t rest bar e (refl, λ h. omega (arith, h)) refl

pub asks_brace : (verbose : Bool) (t rest : Text) → t ≡ the "{" ∷ rest → Asks verbose t operator
asks_brace verbose t rest e =
    asks verbose (the "{") t rest operator e (refl, λ h. omega (arith, h)) refl

pub asks_head : {level : ℕ} {p q : Point} {kind : GroupKind} → Head level p q kind
    → Asks p.flags.ignore_whitespace p.rest paren
asks_head {p} head = asks_paren p.flags.ignore_whitespace p.rest _ (head_takes head).opens

pub asks_directive : {p q : Point} → Directive p q → Asks p.flags.ignore_whitespace p.rest paren
asks_directive {p} (sets opened first rest new e g n letters h) =
    asks_paren p.flags.ignore_whitespace p.rest opened e

no_bounds : (c : ℕ) → (c ≢ the "?") → (c ≢ the "*") → (c ≢ the "+") → times c ≡ None
no_bounds c no_question no_asterisk no_plus =
    rw (ne_eqb c (the "?") no_question, ne_eqb c (the "*") no_asterisk, ne_eqb c (the "+") no_plus)
    refl

-- the characters that have times
bounded : (c : ℕ) (b : ℕ × Option ℕ) → times c ≡ Some b
    → (c ≡ the "?") ⊎ ((c ≡ the "*") ⊎ (c ≡ the "+"))
bounded c b has = one_of (cases_eq c (the "?")) (cases_eq c (the "*")) (cases_eq c (the "+"))
  where
    one_of : (c ≡ the "?") ⊎ (c ≢ the "?") → (c ≡ the "*") ⊎ (c ≢ the "*")
        → (c ≡ the "+") ⊎ (c ≢ the "+") → (c ≡ the "?") ⊎ ((c ≡ the "*") ⊎ (c ≡ the "+"))
    one_of (inl is_question) _ _ = inl is_question
    one_of (inr no_question) (inl is_asterisk) _ = inr (inl is_asterisk)
    one_of (inr no_question) (inr no_asterisk) (inl is_plus) = inr (inr is_plus)
    one_of (inr no_question) (inr no_asterisk) (inr no_plus) =
        let none = no_bounds c no_question no_asterisk no_plus in absurd (cc (has, none))

pub asks_bounded : (verbose : Bool) (c : ℕ) (b : ℕ × Option ℕ) (t rest : Text) → t ≡ c ∷ rest
    → times c ≡ Some b → Asks verbose t operator
asks_bounded verbose c b t rest e has = by_character (bounded c b has)
  where
    at_character : (d : ℕ) → c ≡ d → EndsGap true (d ∷ rest) → kind_at (d ∷ rest) ≡ operator
        → Asks verbose t operator
    at_character d h ends kind = asks verbose d t rest operator (e ∙ ap (λ x. x ∷ rest) h) ends kind

    by_character : (c ≡ the "?") ⊎ ((c ≡ the "*") ⊎ (c ≡ the "+")) → Asks verbose t operator
    by_character (inl h) = at_character (the "?") h (refl, λ k. omega (arith, k)) refl
    by_character (inr (inl h)) = at_character (the "*") h (refl, λ k. omega (arith, k)) refl
    by_character (inr (inr h)) = at_character (the "+") h (refl, λ k. omega (arith, k)) refl

pub asks_operator : {flags : Flags} {t rest : Text} {least : ℕ} {most : Option ℕ} {greedy : Bool}
    → Operator flags t rest least most greedy → (verbose : Bool) → Asks verbose t operator
asks_operator {t} {rest} {least} {most} (uncounted c e b n g) verbose =
    asks_bounded verbose c (least, most) t rest e b
asks_operator {t} {rest} {least} {most} (uncounted_lazy c e b g) verbose =
    asks_bounded verbose c (least, most) t _ e b
asks_operator {t} (counted opened e k n g) verbose = asks_brace verbose t opened e
asks_operator {t} (counted_lazy opened past e k q g) verbose = asks_brace verbose t opened e

-- a character that is no group's, no bar and begins no operator asks for an atom
pub kind_other : (c : ℕ) (t : Text) → (c ≢ the "(") → (c ≢ the ")") → (c ≢ the "|") → (c ≢ the "{")
    → times c ≡ None → kind_at (c ∷ t) ≡ atom
kind_other c t no_open no_close no_bar no_brace none =
    rw (
      ne_eqb c (the "(") no_open,
      ne_eqb c (the ")") no_close,
      ne_eqb c (the "|") no_bar,
      ne_eqb c (the "{") no_brace,
      none,
    ) refl

atom_kind_is : (flags : Flags) (t rest : Text) (a : Tree) → Atom flags t rest a → kind_at t ≡ atom
atom_kind_is flags t rest a d =
    let no_group = kind_other d.first d.past_first (no (the "(") refl) (no (the ")") refl) in
    ap kind_at d.begins ∙ no_group (no (the "|") refl) (no (the "{") refl) none
  where
    no : (c : ℕ) → atom_kind flags c ≡ no_atom → d.first ≢ c
    no c kind e =
        no_atom_at flags t rest a c d.past_first (d.begins ∙ ap (λ x. x ∷ d.past_first) e) kind d

    none : times d.first ≡ None
    none = no_bounds d.first (no (the "?") refl) (no (the "*") refl) (no (the "+") refl)

literal_ends : (verbose : Bool) (c : ℕ) (t : Text) → is_literal verbose c ≡ true
    → EndsGap verbose (c ∷ t)
literal_ends false c t e = tt
literal_ends true c t e =
    let blank = or_parts (is_white_space c) (c == the "#") (not-true _ (and_parts _ _ e).1) in
    (rw blank.0 refl, eqb-false c (the "#") blank.1)

-- a sign ends a gap
sign_or_none : (c : ℕ) (t : Text) → EndsGap true (c ∷ t) ⊎ NoSign c
sign_or_none c t = by_sign (is_one_of (codes ".^$\\[") c) refl
  where
    by_sign : (sign : Bool) → is_one_of (codes ".^$\\[") c ≡ sign → EndsGap true (c ∷ t) ⊎ NoSign c
    by_sign true is =
        let printed = and_parts _ _ (one_passes (is_between 36 126) (codes ".^$\\[") c refl is) in
        inl (printed_ends c t (leb-true 36 c printed.0) (leb-true c 126 printed.1))
    by_sign false none =
        let other = λ (d : ℕ) (sign : is_one_of (codes ".^$\\[") d ≡ true) (e : c ≡ d).
        false≢true (sym none ∙ ap (is_one_of (codes ".^$\\[")) e ∙ sign) in
        inr (record {
          no_full_stop = other (the ".") refl;
          no_caret = other (the "^") refl;
          no_dollar = other (the "$") refl;
          no_backslash = other (the "\\") refl;
          no_bracket = other (the "[") refl;
        })

atom_ends : (flags : Flags) (t rest : Text) (a : Tree) → Atom flags t rest a
    → EndsGap flags.ignore_whitespace t
atom_ends flags t rest a d =
    let first = first_ends (cases_Bool literal) (sign_or_none d.first d.past_first) in
    subst (λ u. EndsGap flags.ignore_whitespace u) (sym d.begins) first
  where
    literal : Bool
    literal = is_literal flags.ignore_whitespace d.first

    first_ends : (literal ≡ true) ⊎ (literal ≡ false)
        → EndsGap true (d.first ∷ d.past_first) ⊎ NoSign d.first
        → EndsGap flags.ignore_whitespace (d.first ∷ d.past_first)
    first_ends (inl stands) _ = literal_ends flags.ignore_whitespace d.first d.past_first stands
    first_ends (inr other) (inl ends) =
        ends_any flags.ignore_whitespace (d.first ∷ d.past_first) ends
    first_ends (inr other) (inr none) =
        absurd (no_literal flags t rest a d.first d.past_first d.begins none other d)

pub asks_atom : (flags : Flags) (t rest : Text) (a : Tree) → Atom flags t rest a
    → Asks flags.ignore_whitespace t atom
asks_atom flags t rest a d =
    record { ends = atom_ends flags t rest a d; kind_is = atom_kind_is flags t rest a d }

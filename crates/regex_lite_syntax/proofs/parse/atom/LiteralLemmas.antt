-- The characters that stand for themselves are all that are left.
use Rattle.regex_lite_syntax.proofs.Common.{◌≡◌, ℕ, Bool, true, false, ◌≢◌, ◌∷◌, codes, sym, refl}
use Rattle.regex_lite_syntax.proofs.Common.{ap, ◌∙◌, subst, ne_eqb, not-true, is_one_of, is_literal}
use Rattle.regex_lite_syntax.proofs.Common.{PrimitiveTree, Atom, one, EndsGap, kind_at, Text, the}
use Rattle.regex_lite_syntax.proofs.Common.{Tree, Flags}
use Rattle.regex_lite_syntax.specs.Parser.Machine.{atom, BeginsAtom}
use Rattle.regex_lite_syntax.proofs.grammar.AtomLemmas.{NoSign, literal_atom}

-- what begins an item and is no sign has no other meaning
no_other_meaning : (c : ℕ) (t : Text) → kind_at (c ∷ t) ≡ atom → NoSign c
    → is_one_of (codes "\\.^$()[|?*+{") c ≡ false
no_other_meaning c t kind sign =
    rw (
      ne_eqb (the "\\") c (λ e. sign.no_backslash (sym e)),
      ne_eqb (the ".") c (λ e. sign.no_full_stop (sym e)),
      ne_eqb (the "^") c (λ e. sign.no_caret (sym e)),
      ne_eqb (the "$") c (λ e. sign.no_dollar (sym e)),
      ne_eqb (the "(") c (no (the "(") (λ e. cc e)),
      ne_eqb (the ")") c (no (the ")") (λ e. cc e)),
      ne_eqb (the "[") c (λ e. sign.no_bracket (sym e)),
      ne_eqb (the "|") c (no (the "|") (λ e. cc e)),
      ne_eqb (the "?") c (no (the "?") (λ e. cc e)),
      ne_eqb (the "*") c (no (the "*") (λ e. cc e)),
      ne_eqb (the "+") c (no (the "+") (λ e. cc e)),
      ne_eqb (the "{") c (no (the "{") (λ e. cc e)),
    ) refl
  where
    no : (d : ℕ) → (kind_at (d ∷ t) ≡ atom → ⊥) → d ≢ c
    no d other e = other (ap (λ x. kind_at (x ∷ t)) e ∙ kind)

literal_from : (verbose : Bool) (c : ℕ) (t : Text) → is_one_of (codes "\\.^$()[|?*+{") c ≡ false
    → EndsGap verbose (c ∷ t) → is_literal verbose c ≡ true
literal_from false c t none ends = rw none refl
literal_from true c t none ends = rw (none, not-true _ ends.0, ne_eqb c (the "#") ends.1) refl

-- an item that begins with a character that is no sign is that character
pub other_atom : (flags : Flags) (c : ℕ) (t rest : Text) (a : Tree) → t ≡ c ∷ rest
    → EndsGap flags.ignore_whitespace t
    → BeginsAtom t → NoSign c → PrimitiveTree flags (one c) a → Atom flags t rest a
other_atom flags c t rest a e ends begins sign tree =
    let verbose = flags.ignore_whitespace in
    let none = no_other_meaning c rest (ap kind_at (sym e) ∙ begins) sign in
    let literal = literal_from verbose c rest none (subst (λ u. EndsGap verbose u) e ends) in
    literal_atom flags c t rest a e literal tree

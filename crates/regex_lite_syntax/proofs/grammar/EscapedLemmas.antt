-- What the grammar makes of an escaped text.
use Rattle.regex_lite_syntax.proofs.Common.{◌≡◌, ℕ, Bool, true, false, cond, ◌&&◌, List, [], ◌∷◌}
use Rattle.regex_lite_syntax.proofs.Common.{◌++◌, map, ◌==◌, codes, MatchBool, sym, refl, ap, ◌∙◌}
use Rattle.regex_lite_syntax.proofs.Common.{subst, eqb-true, false≢true, append-nil, AreCharacters}
use Rattle.regex_lite_syntax.proofs.Common.{is_letter, Branch, nothing, item, only, Grammar}
use Rattle.regex_lite_syntax.proofs.Common.{is_literal, IsClassOf, PrimitiveTree, Atom, one}
use Rattle.regex_lite_syntax.proofs.Common.{EscapeKind, gives, escape_kind, Point, onward, start}
use Rattle.regex_lite_syntax.proofs.Common.{just, case_closure, Text, the, Tree, Flags}
use Rattle.std.proofs.Common.{not}
use Rattle.std.proofs.lemmas.List.{append_assoc}
use Rattle.regex_lite_syntax.specs.Text.{◌∈◌}
use Rattle.regex_lite_syntax.specs.Tree.{character}
use Rattle.regex_lite_syntax.specs.Escaped.{is_meta_character, escaped, literal}
use Rattle.regex_lite_syntax.specs.Grammar.{atom}
use Rattle.regex_lite_syntax.proofs.grammar.AtomLemmas.{literal_atom, escape_atom}
use Rattle.regex_lite_syntax.proofs.grammar.EscapeLemmas.{escape_as}
use Rattle.regex_lite_syntax.proofs.grammar.GapLemmas.{empty_gap}
use Rattle.regex_lite_syntax.proofs.grammar.NameLemmas.{no_names_differ}
use Rattle.regex_lite_syntax.proofs.grammar.WordLemmas.{one_passes}

-- an escape that asks for this character and no more
abbrev gives_just : EscapeKind → ℕ → Bool
gives_just (gives (one d)) c = d == c
gives_just _ c = false

kind_of_just : (kind : EscapeKind) (c : ℕ) → gives_just kind c ≡ true → gives (one c) ≡ kind
kind_of_just (gives (one d)) c same = ap (λ e. gives (one e)) (sym (eqb-true d c same))
kind_of_just _ c same = absurd (false≢true same)

-- after a backslash each of the characters that are escaped is itself
stands_for_itself : (c : ℕ) → is_meta_character c ≡ true → gives (one c) ≡ escape_kind c
stands_for_itself c meta =
    kind_of_just (escape_kind c) c
    (one_passes (λ d. gives_just (escape_kind d) d) (codes "\\.+*?()|[]{}^$#&-~") c refl meta)

-- without one every other is
signs_are_meta : (c : ℕ) → c ∈ "\\.^$()[|?*+{" ≡ true → is_meta_character c ≡ true
signs_are_meta c sign = one_passes is_meta_character (codes "\\.^$()[|?*+{") c refl sign

other_is_literal : (c : ℕ) → is_meta_character c ≡ false → is_literal false c ≡ true
other_is_literal c other =
    (elim (c ∈ "\\.^$()[|?*+{") as (λ b. c ∈ "\\.^$()[|?*+{" ≡ b → (not b && true) ≡ true) [
      | true ↦ λ sign. absurd (false≢true (sym other ∙ signs_are_meta c sign))
      | false ↦ λ none. refl
    ]) refl

module _ (flags : Flags) (no_case : flags.case_insensitive ≡ false)
    (no_spacing : flags.ignore_whitespace ≡ false) where
  one_tree : (c : ℕ) → PrimitiveTree flags (one c) (character c)
  one_tree c =
      subst (λ i. MatchBool (i && is_letter c) (IsClassOf (case_closure (just c)) (character c))
      (character c ≡ character c)) (sym no_case) refl

  first_atom : (c : ℕ) (t : Text) → Atom flags (escaped (c ∷ t)) (escaped t) (character c)
  first_atom c t = (elim (is_meta_character c) as (λ b. is_meta_character c ≡ b
      → Atom flags (cond b (the "\\" ∷ c ∷ escaped t) (c ∷ escaped t)) (escaped t) (character c)) [
        | true ↦ λ meta.
            escape_atom flags _ (c ∷ escaped t) (escaped t) (one c) (character c) refl
            (escape_as flags.ignore_whitespace _ (escaped t) (escaped t) (one c) c
            (gives (one c)) refl (stands_for_itself c meta) (refl, refl)) (one_tree c)
        | false ↦ λ other.
            literal_atom flags c _ (escaped t) (character c) refl
            (subst (λ v. is_literal v c ≡ true) (sym no_spacing) (other_is_literal c other))
            (one_tree c)
      ]) refl

  module _ (whole : Text) where
    -- where this much of the text is left
    abbrev at : Text → Point
    at t = onward (start flags whole) (escaped t)

    -- the branch goes on with the characters that are left
    rest_of_branch : (before : List Tree) (t : Text) → Branch 0 (start flags whole) (at t) before
        → Branch 0 (start flags whole) (at []) (before ++ map character t)
    rest_of_branch before [] branch =
        subst (Branch 0 (start flags whole) (at [])) (sym (append-nil before)) branch
    rest_of_branch before (c ∷ t) branch = subst (Branch 0 (start flags whole) (at []))
        (append_assoc before (character c ∷ []) (map character t))
        (rest_of_branch (before ++ character c ∷ []) t
        (item (at (c ∷ t)) (at (c ∷ t)) before (character c) branch
        (empty_gap flags.ignore_whitespace (escaped (c ∷ t)), refl)
        (atom (first_atom c t) refl) refl))

escaped_characters : (text : Text) → AreCharacters text → AreCharacters (escaped text)
escaped_characters [] all = tt
escaped_characters (c ∷ t) all =
    elim (is_meta_character c)
    as (λ b. AreCharacters (cond b (the "\\" ∷ c ∷ escaped t) (c ∷ escaped t))) [
      | true ↦ (refl, (all.0, escaped_characters t all.1))
      | false ↦ (all.0, escaped_characters t all.1)
    ]

pub escaped_literal : (flags : Flags) (text : Text) → flags.case_insensitive ≡ false
    → flags.ignore_whitespace ≡ false
    → AreCharacters text → Grammar flags (escaped text) (literal text) 0 0
escaped_literal flags text no_case no_spacing all = record {
  characters = escaped_characters text all;
  last = onward (start flags (escaped text)) [];
  branches = literal text ∷ [];
  whole = only (map character text)
      (rest_of_branch flags no_case no_spacing (escaped text) [] text (nothing refl refl)) refl;
  ends = empty_gap flags.ignore_whitespace [];
  tree_is = refl;
  groups_are = refl;
  deepest_is = refl;
  names_differ = no_names_differ;
}

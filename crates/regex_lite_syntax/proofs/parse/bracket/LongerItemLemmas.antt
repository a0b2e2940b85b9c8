-- Items of a class in a longer text that begins with the text, and what is refused in each.
use Rattle.regex_lite_syntax.proofs.Common.{◌≡◌, ℕ, Bool, true, false, ◌≢◌, [], ◌∷◌, ◌++◌}
use Rattle.regex_lite_syntax.proofs.Common.{if◌then◌else◌, codes, sym, refl, ap, ◌∙◌, subst}
use Rattle.regex_lite_syntax.proofs.Common.{append_assoc, append-nil, AllPass, is_lower}
use Rattle.regex_lite_syntax.proofs.Common.{ClassElement, RangeFollows, BeginsItem, NamedClass}
use Rattle.regex_lite_syntax.proofs.Common.{ClassItem, one, look_at, EscapeKind, gives}
use Rattle.regex_lite_syntax.proofs.Common.{word_boundary, hexadecimal, refused, escape_kind}
use Rattle.regex_lite_syntax.proofs.Common.{EscapeFrom, WholeGap, SetName, IsElement, RangeTo}
use Rattle.regex_lite_syntax.proofs.Common.{Lacks, Set, Text, Begins, the, Look, Element}
use Rattle.regex_lite_syntax.specs.declared.parse.bracket.item.Element.TheVariants as elements
use Rattle.regex_lite_syntax.specs.Grammar.Escapes.{Primitive}
use Rattle.regex_lite_syntax.specs.Grammar.Classes.{literal, escaped}
use Rattle.regex_lite_syntax.specs.Parser.ClassReadings.{IsNamedSet, BeginsOperator}
use Rattle.regex_lite_syntax.proofs.ListLemmas.{same_head, same_tail}
use Rattle.regex_lite_syntax.proofs.grammar.ClassLemmas.{name_once}
use Rattle.regex_lite_syntax.proofs.grammar.LongerGapLemmas.{whole_longer}
use Rattle.regex_lite_syntax.proofs.grammar.LongerClassLemmas.{negation_longer, named_longer}
use Rattle.regex_lite_syntax.proofs.grammar.LongerClassLemmas.{element_two, begins_item}
use Rattle.regex_lite_syntax.proofs.grammar.LongerClassLemmas.{element_longer, follows_longer}
use Rattle.regex_lite_syntax.proofs.grammar.LongerClassLemmas.{element_on}
use Rattle.regex_lite_syntax.proofs.parse.bracket.ClassItemLemmas.{item_range}

-- sets by their names: where no sign of negation stood, none stands in a longer text, unless the
-- text ends there
nothing_spelled : (w r : Text) → [] ≡ w ++ r → r ≡ []
nothing_spelled [] r e = sym e
nothing_spelled (c ∷ w) r e = cc e

no_caret : (negated : Bool) (opened begin w r more : Text)
    → opened ≡ (if negated then the "^" ∷ begin else begin) → begin ≡ w ++ r
    → (negated ≡ false → Begins (the "^") opened → ⊥) → (r ≡ [] → more ≡ [])
    → negated ≡ false → Begins (the "^") (opened ++ more) → ⊥
no_caret true opened begin w r more e s bare follows h b = cc h
no_caret false [] begin w r more e s bare follows h b =
    subst (λ m. Begins (the "^") m) (follows (nothing_spelled w r (e ∙ s))) b
no_caret false (c ∷ opened) begin w r more e s bare follows h b = bare h b

-- nor does the word go on
lacks_longer : (kind : ℕ → Bool) (r more : Text) → Lacks kind r → (r ≡ [] → more ≡ [])
    → Lacks kind (r ++ more)
lacks_longer kind [] more lacks follows =
    subst (λ m. Lacks kind m) (sym (follows refl)) tt
lacks_longer kind (c ∷ r) more lacks follows = lacks

-- the longest word past the negation is the name in a longer text as well
pub name_longer_once : (more opened u w r : Text) (m : Bool)
    → opened ≡ (if m then the "^" ∷ u else u)
    → (m ≡ false → Begins (the "^") opened → ⊥) → u ≡ w ++ r → AllPass is_lower w
    → Lacks is_lower r → (r ≡ [] → more ≡ [])
    → (t rest : Text) (n : Bool) (set : SetName) → t ≡ codes "[:" ++ opened
    → (c : NamedClass (t ++ more) rest n set)
    → (w ≡ c.name) × (r ++ more ≡ c.end)
name_longer_once more opened u w r m e bare s p lacks follows t rest n set opens c =
    let same = name_once (opened ++ more) (u ++ more) w (r ++ more) m
    (negation_longer more m opened u e) (no_caret m opened u w r more e s bare follows)
    (ap (λ v. v ++ more) s ∙ append_assoc w r more) p (lacks_longer is_lower r more lacks follows)
    (t ++ more) rest n set (ap (λ v. v ++ more) opens) c in
    (same.1, same.2)

-- a set that stands there by its name stands in a longer text
pub is_named_longer : (more t rest : Text) (element : Element) → IsNamedSet t rest element
    → IsNamedSet (t ++ more) (rest ++ more) element
is_named_longer more t rest (elements.Char c) is = absurd is
is_named_longer more t rest (elements.Set set negated) is = named_longer more is

-- what holds of each character and of no look, and of what is read in a longer text, holds of what
-- is read in the text
module _ (K : Primitive → Type 0) (of_char : (c : ℕ) → K (one c))
    (no_look : (look : Look) → K (look_at look) → ⊥) where
  kept_from : (k : EscapeKind) (verbose : Bool) (t rest u past : Text) (p q : Primitive)
      → EscapeFrom k verbose t rest p → EscapeFrom k verbose u past q → K q → K p
  kept_from (gives g) verbose t rest u past p q d e is = subst K (e.1 ∙ sym d.1) is
  kept_from word_boundary verbose t rest u past p q d e is = absurd (no_look e.0 (subst K e.2 is))
  kept_from (hexadecimal n) verbose t rest u past p q d e is = subst K (sym d.2) (of_char d.0)
  kept_from refused verbose t rest u past p q d e is = absurd d

  kept_before : (more : Text) (verbose : Bool) (t past rest : Text) (p q : Primitive)
      → ClassElement verbose t past p → ClassElement verbose (t ++ more) rest q → K q → K p
  kept_before more verbose t past rest p q (literal d e plain w is) part kept =
      subst K (sym is) (of_char d)
  kept_before more verbose t past rest p q (escaped u e d) (literal f g plain w is) kept =
      absurd (plain (same_head (sym g ∙ ap (λ v. v ++ more) e)))
  kept_before more verbose t past rest p q (escaped u e d) (escaped v f g) kept =
      let same = same_tail (sym f ∙ ap (λ w. w ++ more) e) in
      let first = same_head (sym g.begins ∙ same ∙ ap (λ w. w ++ more) d.begins) in
      kept_from (escape_kind d.first) verbose d.past_first past g.past_first rest p q d.goes_on
      (subst (λ a. EscapeFrom (escape_kind a) verbose g.past_first rest q) first g.goes_on) kept

module _ (more : Text) where
  -- so what is read in a longer text as a character or an element is one in the text
  pub char_before : (verbose : Bool) (t past rest : Text) (p : Primitive) (c : ℕ)
      → ClassElement verbose t past p → ClassElement verbose (t ++ more) rest (one c)
      → (d : ℕ) × (p ≡ one d)
  char_before verbose t past rest p c before part =
      kept_before (λ r. (d : ℕ) × (r ≡ one d)) (λ d. (d, refl))
      (λ look is. let clash = is.1 in cc clash) more verbose t past rest p (one c) before part
      (c, refl)

  pub element_before : (verbose : Bool) (t past rest : Text) (p q : Primitive)
      → ClassElement verbose t past p → ClassElement verbose (t ++ more) rest q → IsElement q
      → IsElement p
  element_before = kept_before IsElement (λ c. tt) (λ look is. is) more

  -- and an element of the text is one of the longer text, even where nothing is left past it
  pub part_longer : (verbose : Bool) (t rest : Text) (p : Primitive) → IsElement p
      → ClassElement verbose t rest p → ClassElement verbose (t ++ more) (rest ++ more) p
  part_longer verbose t rest p element part =
      element_on more verbose t rest p part
      (λ look is. absurd (subst (λ r. IsElement r) is element))

  -- so is the end of a range, and the range
  pub range_to_longer : (verbose : Bool) (p : Primitive) (t rest : Text) (s : Set)
      → RangeTo verbose p t rest s → RangeTo verbose p (t ++ more) (rest ++ more) s
  range_to_longer verbose p t rest s to = record {
    start = to.start;
    end = to.end;
    starts = to.starts;
    ends = part_longer verbose t rest (one to.end) tt to.ends;
    ordered = to.ordered;
    set_is = to.set_is;
  }

  pub range_longer : (verbose : Bool) (t past last rest : Text) (p : Primitive) (s : Set)
      → BeginsItem t → past ≢ [] → ClassElement verbose t past p → RangeFollows verbose past last
      → RangeTo verbose p last rest s → ClassItem verbose (t ++ more) (rest ++ more) s
  range_longer verbose t past last rest p s begins some part follows to =
      item_range verbose (t ++ more) (past ++ more) (last ++ more) (rest ++ more) p s
      (begins_item more t begins (element_two verbose t past p part some))
      (element_longer more verbose t past p part some) (follows_longer more follows)
      (range_to_longer verbose p last rest s to)

  -- a doubled operator begins no item of a longer text
  pub no_operator : (t : Text) → BeginsOperator t → BeginsItem (t ++ more) → ⊥
  no_operator [] operator item = operator
  no_operator (c ∷ []) operator item = operator.1
  no_operator (c ∷ d ∷ t) operator item = item.2 operator.0 operator.1

  -- a gap that ends where the text does stays as long as it can be, if nothing more follows
  pub whole_follows : (verbose : Bool) (t rest : Text) → WholeGap verbose t rest
      → (rest ≡ [] → more ≡ []) → WholeGap verbose (t ++ more) (rest ++ more)
  whole_follows verbose t [] gap follows =
      subst (λ m. WholeGap verbose (t ++ m) m) (sym (follows refl))
      (subst (λ u. WholeGap verbose u []) (sym (append-nil t)) gap)
  whole_follows verbose t (c ∷ rest) gap follows =
      whole_longer more verbose t (c ∷ rest) gap (λ e. cc e)

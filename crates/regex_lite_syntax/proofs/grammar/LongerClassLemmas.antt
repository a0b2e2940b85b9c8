-- Bracketed classes in a longer text that begins with the text.
use Rattle.regex_lite_syntax.proofs.Common.{◌≡◌, ℕ, zero, suc, Bool, true, false, ◌≢◌, List, []}
use Rattle.regex_lite_syntax.proofs.Common.{◌∷◌, ◌++◌, if◌then◌else◌, sym, refl, ap, ◌∙◌, subst}
use Rattle.regex_lite_syntax.proofs.Common.{append_assoc, ClassElement, RangeFollows, BeginsItem}
use Rattle.regex_lite_syntax.proofs.Common.{NamedClass, ClassItem, named_class, escaped_set, range}
use Rattle.regex_lite_syntax.proofs.Common.{Takes, takes, leaves, Dashes, FirstBracket}
use Rattle.regex_lite_syntax.proofs.Common.{ClassOpening, ClassItems, BracketedClass, look_at}
use Rattle.regex_lite_syntax.proofs.Common.{WholeGap, SetName, EndsOpen, at_once, past_dash, Set}
use Rattle.regex_lite_syntax.proofs.Common.{Text, the, Look}
use Rattle.regex_lite_syntax.specs.Grammar.Escapes.{Primitive}
use Rattle.regex_lite_syntax.specs.Grammar.Classes.{literal, escaped, character}
use Rattle.regex_lite_syntax.proofs.ListLemmas.{same_head, same_tail}
use Rattle.regex_lite_syntax.proofs.grammar.GapLemmas.{whole_gap_once, gap_to_end}
use Rattle.regex_lite_syntax.proofs.grammar.LongerEscapeLemmas.{escape_longer, NoBraceComes}
use Rattle.regex_lite_syntax.proofs.grammar.LongerGapLemmas.{some_gap, some_before, whole_longer}
use Rattle.regex_lite_syntax.proofs.grammar.LongerGapLemmas.{longer_gap, begins_longer, full_gap}
use Rattle.regex_lite_syntax.proofs.parse.bracket.ClassItemLemmas.{open_past_dash, nothing_left}

-- the first two characters of a part
pub record Two (t : Text) : Type 0 where
  first : ℕ
  second : ℕ
  rest : Text
  is : t ≡ first ∷ second ∷ rest

two_of : (c : ℕ) (t u : Text) → t ≡ c ∷ u → u ≢ [] → Two t
two_of c t [] e some = absurd (some refl)
two_of c t (d ∷ u) e some = record { first = c; second = d; rest = u; is = e }

pub element_two : (verbose : Bool) (t rest : Text) (p : Primitive) → ClassElement verbose t rest p
    → rest ≢ [] → Two t
element_two verbose t rest p (literal c e plain w is) some = two_of c t rest e some
element_two verbose t rest p (escaped past e d) some =
    two_of (the "\\") t past e (λ none. let first = sym d.begins ∙ none in cc first)

module _ (more : Text) where
  pub begins_item : (t : Text) → BeginsItem t → Two t → BeginsItem (t ++ more)
  begins_item t begins two = subst (λ u. BeginsItem (u ++ more)) (sym two.is)
      (subst (λ u. BeginsItem u) two.is begins)

  -- an element, where no brace comes to stand past a look
  pub element_on : (verbose : Bool) (t rest : Text) (p : Primitive) → ClassElement verbose t rest p
      → ((look : Look) → p ≡ look_at look → NoBraceComes more rest)
      → ClassElement verbose (t ++ more) (rest ++ more) p
  element_on verbose t rest p (literal c e plain w is) comes =
      literal c (ap (λ u. u ++ more) e) plain w is
  element_on verbose t rest p (escaped past e d) comes =
      escaped (past ++ more) (ap (λ u. u ++ more) e)
      (escape_longer more verbose past rest p d comes)

  -- so one past which something is left
  pub element_longer : (verbose : Bool) (t rest : Text) (p : Primitive)
      → ClassElement verbose t rest p → rest ≢ []
      → ClassElement verbose (t ++ more) (rest ++ more) p
  element_longer verbose t rest p part some =
      element_on verbose t rest p part
      (λ look is none. begins_longer more (the "{") rest none some)

  pub follows_longer : {verbose : Bool} {t last : Text} → RangeFollows verbose t last
      → RangeFollows verbose (t ++ more) (last ++ more)
  follows_longer {verbose} {t} {last} f = record {
    past_dash = f.past_dash ++ more;
    end = f.end;
    rest = f.rest ++ more;
    dashed = whole_longer more verbose t _ f.dashed (λ e. cc e);
    gap = whole_longer more verbose f.past_dash last f.gap (λ e. cc (e, f.goes_on));
    goes_on = ap (λ u. u ++ more) f.goes_on;
    not_bracket = f.not_bracket;
    not_dash = f.not_dash;
  }

  -- a dash makes no range where it made none, unless no more was left past it
  pub no_range_longer : (verbose : Bool) (t : Text) → (EndsOpen verbose t → ⊥)
      → ((last : Text) → RangeFollows verbose t last → ⊥)
      → (last : Text) → RangeFollows verbose (t ++ more) last → ⊥
  no_range_longer verbose t closed none last f =
      let full = full_gap verbose t in
      let w = longer_gap more verbose t (λ g. closed (at_once (subst (λ u. WholeGap verbose t u)
      (gap_to_end verbose t full.0 full.1 g) full.1))) in
      let dash =
      whole_gap_once verbose (t ++ more) (w.first ∷ (w.rest ++ more)) (the "-" ∷ f.past_dash)
      w.longer f.dashed in
      let dashed = subst (λ c. WholeGap verbose t (c ∷ w.rest)) (same_head dash) w.gap in
      let past = full_gap verbose w.rest in
      let v = longer_gap more verbose w.rest
      (λ g. closed (past_dash w.rest dashed (subst (λ u. WholeGap verbose w.rest u)
      (gap_to_end verbose w.rest past.0 past.1 g) past.1))) in
      let end = whole_gap_once verbose (w.rest ++ more) (v.first ∷ (v.rest ++ more)) last v.longer
      (subst (λ u. WholeGap verbose u last) (sym (same_tail dash)) f.gap) in
      let same = same_head (◌∙◌ {a = v.first ∷ (v.rest ++ more)} end f.goes_on) in
      none (v.first ∷ v.rest) (record {
        past_dash = w.rest;
        end = v.first;
        rest = v.rest;
        dashed = dashed;
        gap = v.gap;
        goes_on = refl {a = v.first ∷ v.rest};
        not_bracket = λ e. f.not_bracket (sym same ∙ e);
        not_dash = λ e. f.not_dash (sym same ∙ e);
      })

  pub negation_longer : (negated : Bool) (opened begin : Text)
      → opened ≡ (if negated then the "^" ∷ begin else begin)
      → opened ++ more ≡ (if negated then the "^" ∷ (begin ++ more) else begin ++ more)
  negation_longer true opened begin e = ap (λ u. u ++ more) e
  negation_longer false opened begin e = ap (λ u. u ++ more) e

  pub named_longer : {t rest : Text} {negated : Bool} {set : SetName}
      → NamedClass t rest negated set → NamedClass (t ++ more) (rest ++ more) negated set
  named_longer {t} {rest} {negated} n = record {
    opened = n.opened ++ more;
    begin = n.begin ++ more;
    end = n.end ++ more;
    name = n.name;
    opens = ap (λ u. u ++ more) n.opens;
    negation = negation_longer negated n.opened n.begin n.negation;
    written = ap (λ u. u ++ more) n.written ∙ append_assoc n.name n.end more;
    letters = n.letters;
    closes = ap (λ u. u ++ more) n.closes;
    named = n.named;
  }

  -- an item, past which more is left than a gap, or a dash with its gaps
  pub item_longer : {verbose : Bool} {t rest : Text} {s : Set} → ClassItem verbose t rest s
      → rest ≢ [] → (EndsOpen verbose rest → ⊥) → ClassItem verbose (t ++ more) (rest ++ more) s
  item_longer (named_class negated set n is) some closed =
      named_class negated set (named_longer n) is
  item_longer {verbose} {t} {rest} (character c i p o is) some closed =
      character c (begins_item t i (element_two verbose t rest _ p some))
      (element_longer verbose t rest _ p some) (no_range_longer verbose rest closed o) is
  item_longer {verbose} {t} {rest} (escaped_set set i p o is) some closed =
      escaped_set set (begins_item t i (element_two verbose t rest _ p some))
      (element_longer verbose t rest _ p some) (no_range_longer verbose rest closed o) is
  item_longer {verbose} {t} {rest} (range start end past last i p f q order is) some closed =
      let goes = some_gap verbose past f.past_dash _ f.dashed.0 in
      range start end (past ++ more) (last ++ more)
      (begins_item t i (element_two verbose t past _ p goes))
      (element_longer verbose t past _ p goes) (follows_longer f)
      (element_longer verbose last rest _ q some) order is

  -- the closing bracket is left, at least
  some_items : (verbose : Bool) (sets : List Set) (t rest : Text) → ClassItems verbose sets t rest
      → t ≢ []
  some_items verbose sets t rest d e =
      nothing_left verbose sets rest (subst (λ u. ClassItems verbose sets u rest) e d)

  -- so past an item more is left than a gap, or a dash with its gaps
  closed_past : (verbose : Bool) (sets : List Set) (past next rest : Text)
      → WholeGap verbose past next → ClassItems verbose sets next rest → EndsOpen verbose past → ⊥
  closed_past verbose sets past next rest gap items (at_once g) =
      some_items verbose sets next rest items (whole_gap_once verbose past next [] gap g)
  closed_past verbose sets past next rest gap items (past_dash u g h) =
      let next_is = whole_gap_once verbose past next (the "-" ∷ u) gap g in
      open_past_dash verbose sets (the "-" ∷ u) u rest refl g.1 h
      (subst (λ v. ClassItems verbose sets v rest) next_is items)

  pub items_longer : (verbose : Bool) (sets : List Set) (t rest : Text)
      → ClassItems verbose sets t rest → ClassItems verbose sets (t ++ more) (rest ++ more)
  items_longer verbose [] t rest d = ap (λ u. u ++ more) d
  items_longer verbose (s ∷ sets) t rest d =
      let next = some_items verbose sets d.1 rest d.4 in (
        d.0 ++ more,
        d.1 ++ more,
        item_longer d.2 (some_before verbose d.0 d.1 d.3.0 next)
            (closed_past verbose sets d.0 d.1 rest d.3 d.4),
        whole_longer more verbose d.0 d.1 d.3 next,
        items_longer verbose sets d.1 rest d.4,
      )

  -- what a class begins with
  pub takes_longer : {verbose : Bool} {c : ℕ} {t rest : Text} {taken : Bool}
      → Takes verbose c t rest taken → rest ≢ [] → Takes verbose c (t ++ more) (rest ++ more) taken
  takes_longer {verbose} {rest} (takes past e g is) some =
      takes (past ++ more) (ap (λ u. u ++ more) e) (whole_longer more verbose past rest g some) is
  takes_longer {c} {t} (leaves none e is) some =
      leaves (begins_longer more c t none (λ empty. some (sym e ∙ empty)))
      (ap (λ u. u ++ more) e) is

  some_takes : {verbose : Bool} {c : ℕ} {t rest : Text} {taken : Bool}
      → Takes verbose c t rest taken → rest ≢ [] → t ≢ []
  some_takes (takes past e g is) some empty = cc (e, empty)
  some_takes (leaves none e is) some empty = some (sym e ∙ empty)

  some_dashes : (verbose : Bool) (n : ℕ) (t rest : Text) → Dashes verbose n t rest → rest ≢ []
      → t ≢ []
  some_dashes verbose zero t rest d some empty = some (sym d.0 ∙ empty)
  some_dashes verbose (suc n) t rest d some empty = let e = d.2 in cc (e, empty)

  dashes_longer : (verbose : Bool) (n : ℕ) (t rest : Text) → Dashes verbose n t rest → rest ≢ []
      → Dashes verbose n (t ++ more) (rest ++ more)
  dashes_longer verbose zero t rest d some = (
    ap (λ u. u ++ more) d.0,
    begins_longer more (the "-") t d.1 (λ empty. some (sym d.0 ∙ empty)),
  )
  dashes_longer verbose (suc n) t rest d some = (
    d.0 ++ more,
    d.1 ++ more,
    ap (λ u. u ++ more) d.2,
    whole_longer more verbose d.0 d.1 d.3 (some_dashes verbose n d.1 rest d.4 some),
    dashes_longer verbose n d.1 rest d.4 some,
  )

  bracket_longer : (verbose : Bool) (n : ℕ) (t rest : Text) (taken : Bool)
      → FirstBracket verbose n t rest taken → rest ≢ []
      → FirstBracket verbose n (t ++ more) (rest ++ more) taken
  bracket_longer verbose zero t rest taken b some = takes_longer b some
  bracket_longer verbose (suc n) t rest taken b some = (ap (λ u. u ++ more) b.0, b.1)

  some_bracket : (verbose : Bool) (n : ℕ) (t rest : Text) (taken : Bool)
      → FirstBracket verbose n t rest taken → rest ≢ [] → t ≢ []
  some_bracket verbose zero t rest taken b some = some_takes b some
  some_bracket verbose (suc n) t rest taken b some = λ empty. some (sym b.0 ∙ empty)

  pub opening_longer : {verbose : Bool} {t rest : Text} {negated dash bracket : Bool}
      → ClassOpening verbose t rest negated dash bracket → rest ≢ []
      → ClassOpening verbose (t ++ more) (rest ++ more) negated dash bracket
  opening_longer {verbose} {t} {rest} {negated} {dash} {bracket} o some =
      let brackets = some_bracket verbose o.dashes o.past_dashes rest bracket o.bracketed some in
      let dashes = some_dashes verbose o.dashes o.past_caret o.past_dashes o.dashed brackets in
      record {
        opened = o.opened ++ more;
        first = o.first ++ more;
        past_caret = o.past_caret ++ more;
        past_dashes = o.past_dashes ++ more;
        dashes = o.dashes;
        opens = ap (λ u. u ++ more) o.opens;
        gap = whole_longer more verbose o.opened o.first o.gap (some_takes o.negation dashes);
        negation = takes_longer o.negation dashes;
        dashed = dashes_longer verbose o.dashes o.past_caret o.past_dashes o.dashed brackets;
        has_dash = o.has_dash;
        bracketed = bracket_longer verbose o.dashes o.past_dashes rest bracket o.bracketed some;
      }

  pub class_longer : {insensitive verbose : Bool} {t rest : Text} {s : Set}
      → BracketedClass insensitive verbose t rest s
      → BracketedClass insensitive verbose (t ++ more) (rest ++ more) s
  class_longer {insensitive} {verbose} {t} {rest} {s} b = record {
    negated = b.negated;
    dash = b.dash;
    bracket = b.bracket;
    past_opening = b.past_opening ++ more;
    sets = b.sets;
    opening = opening_longer b.opening (some_items verbose b.sets b.past_opening rest b.items);
    items = items_longer verbose b.sets b.past_opening rest b.items;
    set_is = b.set_is;
  }

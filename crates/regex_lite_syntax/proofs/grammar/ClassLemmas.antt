-- A bracketed class is read in one way.
use Rattle.regex_lite_syntax.proofs.Common.{◌≡◌, ℕ, zero, suc, Bool, true, false, List, [], ◌∷◌}
use Rattle.regex_lite_syntax.proofs.Common.{◌++◌, if◌then◌else◌, nat_lt, Some, codes, sym, refl, ap}
use Rattle.regex_lite_syntax.proofs.Common.{◌∙◌, subst, arith, and_parts, both_ways}
use Rattle.regex_lite_syntax.proofs.Common.{list_all-from_AllPass, AllPass, is_lower, ClassElement}
use Rattle.regex_lite_syntax.proofs.Common.{RangeFollows, BeginsItem, NamedClass, ClassItem}
use Rattle.regex_lite_syntax.proofs.Common.{named_class, escaped_set, range, Takes, takes, leaves}
use Rattle.regex_lite_syntax.proofs.Common.{Dashes, FirstBracket, ClassOpening, ClassItems, only_if}
use Rattle.regex_lite_syntax.proofs.Common.{class_set, BracketedClass, one, Escape, WholeGap}
use Rattle.regex_lite_syntax.proofs.Common.{SetName, members, set_named, Lacks, Set, just, span}
use Rattle.regex_lite_syntax.proofs.Common.{complement, Text, Begins, the}
use Rattle.regex_lite_syntax.specs.Grammar.Escapes.{Primitive}
use Rattle.regex_lite_syntax.specs.Grammar.Classes.{literal, escaped, character}
use Rattle.regex_lite_syntax.proofs.ListLemmas.{same_head, same_tail}
use Rattle.regex_lite_syntax.proofs.grammar.GapLemmas.{whole_gap_once}
use Rattle.regex_lite_syntax.proofs.grammar.EscapeLemmas.{escape_once}
use Rattle.regex_lite_syntax.proofs.grammar.WordLemmas.{word_once}

pub one_same : (c d : ℕ) → one c ≡ one d → c ≡ d
one_same c d e = cc e

pub begins : (c : ℕ) (t u : Text) → t ≡ c ∷ u → Begins c t
begins c t u e = subst (λ v. Begins c v) (sym e) refl

-- parts
pub part_once : (verbose : Bool) (t r s : Text) (p q : Primitive) → ClassElement verbose t r p
    → ClassElement verbose t s q → (r ≡ s) × (p ≡ q)
part_once verbose t r s p q (literal c e n w h) (literal d f m v k) =
    let same = sym e ∙ f in (same_tail same, h ∙ ap one (same_head same) ∙ sym k)
part_once verbose t r s p q (literal c e n w h) (escaped past f y) =
    absurd (n (same_head (sym e ∙ f)))
part_once verbose t r s p q (escaped past e x) (literal c f n w h) =
    absurd (n (same_head (sym f ∙ e)))
part_once verbose t r s p q (escaped past e x) (escaped past' f y) =
    escape_once verbose past r s p q x
    (subst (λ u. Escape verbose u s q) (sym (same_tail (sym e ∙ f))) y)

pub part_same : (verbose : Bool) (t u r : Text) (p : Primitive) → t ≡ u → ClassElement verbose t r p
    → ClassElement verbose u r p
part_same verbose t u r p e part = subst (λ v. ClassElement verbose v r p) e part

pub follows_once : (verbose : Bool) (t u : Text) → RangeFollows verbose t u → (v : Text)
    → RangeFollows verbose t v → u ≡ v
follows_once verbose t u f v g =
    let past = whole_gap_once verbose t _ _ f.dashed g.dashed in
    whole_gap_once verbose f.past_dash u v f.gap
    (subst (λ w. WholeGap verbose w v) (sym (same_tail past)) g.gap)

pub follows_same : (verbose : Bool) (t u last : Text) → t ≡ u → RangeFollows verbose t last
    → RangeFollows verbose u last
follows_same verbose t u last e f = subst (λ v. RangeFollows verbose v last) e f

-- sets by their names
pub no_caret : (w t r u : Text) → t ≡ w ++ r → AllPass is_lower w → r ≡ the ":" ∷ u
    → Begins (the "^") t → ⊥
no_caret [] t r u s p e b =
    let here = subst (λ v. Begins (the "^") v) (s ∙ e) b in omega (arith, here)
no_caret (c ∷ w) t r u s p e b =
    both_ways (is_lower c) (ap is_lower (subst (λ v. Begins (the "^") v) s b))
    (and_parts _ _ (list_all-from_AllPass is_lower (c ∷ w) p)).0

pub negation_once : (m n : Bool) (t u v : Text) → t ≡ (if m then the "^" ∷ u else u)
    → t ≡ (if n then the "^" ∷ v else v) → (m ≡ false → Begins (the "^") t → ⊥)
    → (n ≡ false → Begins (the "^") t → ⊥) → (m ≡ n) × (u ≡ v)
negation_once true true t u v e f bare bare' = (refl, same_tail (sym e ∙ f))
negation_once true false t u v e f bare bare' = absurd (bare' refl (begins (the "^") t u e))
negation_once false true t u v e f bare bare' = absurd (bare refl (begins (the "^") t v f))
negation_once false false t u v e f bare bare' = (refl, sym e ∙ f)

pub no_negation : (n : Bool) (t u w r v : Text) → t ≡ (if n then the "^" ∷ u else u) → u ≡ w ++ r
    → AllPass is_lower w → r ≡ the ":" ∷ v → n ≡ false → Begins (the "^") t → ⊥
no_negation true t u w r v e s p closes h b = cc h
no_negation false t u w r v e s p closes h b =
    no_caret w u r v s p closes (subst (λ x. Begins (the "^") x) e b)

-- the longest word past the negation is the name
pub name_once : (opened u w r : Text) (m : Bool) → opened ≡ (if m then the "^" ∷ u else u)
    → (m ≡ false → Begins (the "^") opened → ⊥) → u ≡ w ++ r → AllPass is_lower w → Lacks is_lower r
    → (t rest : Text) (n : Bool) (set : SetName) → t ≡ codes "[:" ++ opened
    → (c : NamedClass t rest n set)
    → (m ≡ n) × (w ≡ c.name) × (r ≡ c.end)
name_once opened u w r m e bare s p lacks t rest n set opens c =
    let same : opened ≡ c.opened = same_tail (same_tail (sym opens ∙ c.opens)) in
    let negation = same ∙ c.negation in
    let signs = negation_once m n opened u c.begin e negation bare
    (no_negation n opened c.begin c.name c.end _ negation c.written c.letters c.closes) in
    let words = word_once is_lower w c.name u r c.end s
    (subst (λ v. v ≡ c.name ++ c.end) (sym signs.1) c.written)
    p c.letters lacks (subst (λ v. Lacks is_lower v) (sym c.closes) refl) in
    (signs.0, words.0, words.1)

pub named_once : (t r s : Text) (m n : Bool) (a b : SetName) → NamedClass t r m a
    → NamedClass t s n b → (r ≡ s) × (m ≡ n) × (a ≡ b)
named_once t r s m n a b c d =
    let once = name_once c.opened c.begin c.name c.end m c.negation
    (no_negation m c.opened c.begin c.name c.end _ c.negation c.written c.letters c.closes)
    c.written c.letters (subst (λ v. Lacks is_lower v) (sym c.closes) refl) t s n b c.opens d in
    let sets : Some a ≡ Some b = sym c.named ∙ ap set_named once.1 ∙ d.named in
    (same_tail (same_tail (sym c.closes ∙ once.2 ∙ d.closes)), once.0, cc sets)

pub named_begins : (t r : Text) (n : Bool) (a : SetName) → NamedClass t r n a → Begins (the "[") t
named_begins t r n a c = begins (the "[") t _ c.opens

pub no_bracket : (t : Text) → BeginsItem t → Begins (the "[") t → ⊥
no_bracket [] item b = b
no_bracket (c ∷ t) item b = item.1 b

no_close : (t : Text) → BeginsItem t → Begins (the "]") t → ⊥
no_close [] item b = b
no_close (c ∷ t) item b = item.0 b

-- items
pub item_once : (verbose : Bool) (t r s : Text) (a b : Set) → ClassItem verbose t r a
    → ClassItem verbose t s b → (r ≡ s) × (a ≡ b)
item_once verbose t r s a b (named_class m x c e) (named_class n y d f) =
    let once = named_once t r s m n x y c d in (
      once.0,
      e
          ∙ ap (λ z. if m then complement (members z) else members z) once.2
          ∙ ap (λ z. if z then complement (members y) else members y) once.1 ∙ sym f,
    )
item_once verbose t r s a b (named_class m x c e) (character d i p o f) =
    absurd (no_bracket t i (named_begins t r m x c))
item_once verbose t r s a b (named_class m x c e) (escaped_set y i p o f) =
    absurd (no_bracket t i (named_begins t r m x c))
item_once verbose t r s a b (named_class m x c e) (range k l past last i p o q le f) =
    absurd (no_bracket t i (named_begins t r m x c))
item_once verbose t r s a b (character c i p o e) (named_class n y d f) =
    absurd (no_bracket t i (named_begins t s n y d))
item_once verbose t r s a b (escaped_set x i p o e) (named_class n y d f) =
    absurd (no_bracket t i (named_begins t s n y d))
item_once verbose t r s a b (range g h u v i p o q le e) (named_class n y d f) =
    absurd (no_bracket t i (named_begins t s n y d))
item_once verbose t r s a b (character c i p o e) (character d i' p' o' f) =
    let once = part_once verbose t r s _ _ p p' in
    (once.0, e ∙ ap just (one_same c d once.1) ∙ sym f)
item_once verbose t r s a b (character c i p o e) (escaped_set y i' p' o' f) =
    absurd (cc (part_once verbose t r s _ _ p p').1)
item_once verbose t r s a b (character c i p o e) (range k l past last i' p' o' q' le' f) =
    absurd
    (o last (follows_same verbose past r last (sym (part_once verbose t r past _ _ p p').0) o'))
item_once verbose t r s a b (escaped_set x i p o e) (character d i' p' o' f) =
    absurd (cc (part_once verbose t r s _ _ p p').1)
item_once verbose t r s a b (escaped_set x i p o e) (escaped_set y i' p' o' f) =
    let once = part_once verbose t r s _ _ p p' in (once.0, cc (e, once.1, f))
item_once verbose t r s a b (escaped_set x i p o e) (range k l past last i' p' o' q' le' f) =
    absurd (cc (part_once verbose t r past _ _ p p').1)
item_once verbose t r s a b (range g h u v i p o q le e) (character d i' p' o' f) =
    absurd (o' v (follows_same verbose u s v (sym (part_once verbose t s u _ _ p' p).0) o))
item_once verbose t r s a b (range g h u v i p o q le e) (escaped_set y i' p' o' f) =
    absurd (cc (part_once verbose t u s _ _ p p').1)
item_once verbose t r s a b (range g h u v i p o q le e) (range k l past last i' p' o' q' le' f) =
    let first = part_once verbose t u past _ _ p p' in
    let place =
    follows_once verbose u v o last (follows_same verbose past u last (sym first.0) o') in
    let second = part_once verbose v r s _ _ q (part_same verbose last v s _ (sym place) q') in (
      second.0,
      e
          ∙ ap (λ z. span z h) (one_same g k first.1) ∙ ap (λ z. span k z) (one_same h l second.1)
          ∙ sym f,
    )

pub item_goes_on : (verbose : Bool) (t r : Text) (a : Set) → ClassItem verbose t r a
    → Begins (the "]") t → ⊥
item_goes_on verbose t r a (named_class n x c e) b =
    let here = subst (λ u. Begins (the "]") u) c.opens b in omega (arith, here)
item_goes_on verbose t r a (character c i p o e) b = no_close t i b
item_goes_on verbose t r a (escaped_set x i p o e) b = no_close t i b
item_goes_on verbose t r a (range g h u v i p o q le e) b = no_close t i b

-- what is left past an item and its gap
pub items_past : (verbose : Bool) (t past next rest : Text) (a b : Set) (sets : List Set)
    → ClassItem verbose t past a → WholeGap verbose past next → ClassItems verbose (b ∷ sets) t rest
    → (a ≡ b) × ClassItems verbose sets next rest
items_past verbose t past next rest a b sets item gap items =
    let once = item_once verbose t past items.0 a b item items.2 in
    let gaps = whole_gap_once verbose past next items.1 gap
    (subst (λ u. WholeGap verbose u items.1) (sym once.0) items.3) in
    (once.1, subst (λ u. ClassItems verbose sets u rest) (sym gaps) items.4)

pub items_once : (verbose : Bool) (as' bs : List Set) (t r s : Text) → ClassItems verbose as' t r
    → ClassItems verbose bs t s → (as' ≡ bs) × (r ≡ s)
items_once verbose [] [] t r s x y = (refl, same_tail (sym x ∙ y))
items_once verbose [] (b ∷ bs) t r s x y =
    absurd (item_goes_on verbose t y.0 b y.2 (begins (the "]") t r x))
items_once verbose (a ∷ as') [] t r s x y =
    absurd (item_goes_on verbose t x.0 a x.2 (begins (the "]") t s y))
items_once verbose (a ∷ as') (b ∷ bs) t r s x y =
    let past = items_past verbose t x.0 x.1 s a b bs x.2 x.3 y in
    let rest = items_once verbose as' bs x.1 r s x.4 past.1 in
    (cc (past.0, rest.0), rest.1)

-- what a class begins with
pub takes_once : (verbose : Bool) (c : ℕ) (t r s : Text) (a b : Bool) → Takes verbose c t r a
    → Takes verbose c t s b → (r ≡ s) × (a ≡ b)
takes_once verbose c t r s a b (takes past e gap h) (takes past' f gap' k) = (
  whole_gap_once verbose past r s gap
      (subst (λ u. WholeGap verbose u s) (sym (same_tail (sym e ∙ f))) gap'),
  h ∙ sym k,
)
takes_once verbose c t r s a b (takes past e gap h) (leaves none f k) =
    absurd (none (begins c t past e))
takes_once verbose c t r s a b (leaves none e h) (takes past f gap k) =
    absurd (none (begins c t past f))
takes_once verbose c t r s a b (leaves none e h) (leaves none' f k) = (sym e ∙ f, h ∙ sym k)

pub dashes_once : (verbose : Bool) (m n : ℕ) (t r s : Text) → Dashes verbose m t r
    → Dashes verbose n t s → (m ≡ n) × (r ≡ s)
dashes_once verbose zero zero t r s x y = (refl, sym x.0 ∙ y.0)
dashes_once verbose zero (suc n) t r s x y = absurd (x.1 (begins (the "-") t y.0 y.2))
dashes_once verbose (suc m) zero t r s x y = absurd (y.1 (begins (the "-") t x.0 x.2))
dashes_once verbose (suc m) (suc n) t r s x y =
    let gaps = whole_gap_once verbose x.0 x.1 y.1 x.3
    (subst (λ u. WholeGap verbose u y.1) (sym (same_tail (sym x.2 ∙ y.2))) y.3) in
    let rest =
    dashes_once verbose m n x.1 r s x.4 (subst (λ u. Dashes verbose n u s) (sym gaps) y.4) in
    (ap suc rest.0, rest.1)

pub bracket_once : (verbose : Bool) (n : ℕ) (t r s : Text) (a b : Bool)
    → FirstBracket verbose n t r a → FirstBracket verbose n t s b → (r ≡ s) × (a ≡ b)
bracket_once verbose zero t r s a b x y = takes_once verbose (the "]") t r s a b x y
bracket_once verbose (suc n) t r s a b x y = (sym x.0 ∙ y.0, x.1 ∙ sym y.1)

pub opening_once : (verbose : Bool) (t r s : Text) (n m d e b c : Bool)
    → ClassOpening verbose t r n d b
    → ClassOpening verbose t s m e c → (r ≡ s) × (n ≡ m) × (d ≡ e) × (b ≡ c)
opening_once verbose t r s n m d e b c x y =
    let gaps = whole_gap_once verbose x.opened x.first y.first x.gap
    (subst (λ u. WholeGap verbose u y.first) (sym (same_tail (sym x.opens ∙ y.opens))) y.gap) in
    let carets = takes_once verbose (the "^") x.first x.past_caret y.past_caret n m x.negation
    (subst (λ u. Takes verbose (the "^") u y.past_caret m) (sym gaps) y.negation) in
    let counts =
    dashes_once verbose x.dashes y.dashes x.past_caret x.past_dashes y.past_dashes x.dashed
    (subst (λ u. Dashes verbose y.dashes u y.past_dashes) (sym carets.0) y.dashed) in
    let brackets = bracket_once verbose x.dashes x.past_dashes r s b c x.bracketed
    (subst (λ k. FirstBracket verbose k x.past_dashes s c) (sym counts.0)
    (subst (λ u. FirstBracket verbose y.dashes u s c) (sym counts.1) y.bracketed)) in
    (brackets.0, carets.1, x.has_dash ∙ ap (λ k. nat_lt 0 k) counts.0 ∙ sym y.has_dash, brackets.1)

-- the whole class
pub class_once : (insensitive verbose : Bool) (t r s : Text) (a b : Set)
    → BracketedClass insensitive verbose t r a
    → BracketedClass insensitive verbose t s b → (r ≡ s) × (a ≡ b)
class_once insensitive verbose t r s a b x y =
    let opened = opening_once verbose t x.past_opening y.past_opening x.negated y.negated x.dash
    y.dash x.bracket y.bracket x.opening y.opening in
    let items = items_once verbose x.sets y.sets x.past_opening r s x.items
    (subst (λ u. ClassItems verbose y.sets u s) (sym opened.0) y.items) in (
      items.1,
      x.set_is
          ∙ ap (λ z. class_set insensitive z
          (only_if x.dash (just (the "-")) ∷ only_if x.bracket (just (the "]")) ∷ x.sets)) opened.1
          ∙ ap (λ z. class_set insensitive y.negated
          (only_if z (just (the "-")) ∷ only_if x.bracket (just (the "]")) ∷ x.sets)) opened.2
          ∙ ap (λ z. class_set insensitive y.negated
          (only_if y.dash (just (the "-")) ∷ only_if z (just (the "]")) ∷ x.sets)) opened.3
          ∙ ap (λ z. class_set insensitive y.negated
          (only_if y.dash (just (the "-")) ∷ only_if y.bracket (just (the "]")) ∷ z)) items.0
          ∙ sym y.set_is,
    )

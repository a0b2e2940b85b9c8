-- Items of a class: what their parts say of them.
use Rattle.regex_lite_syntax.proofs.Common.{◌≡◌, ℕ, Bool, true, false, ◌≢◌, ◌⊎◌, List, [], ◌∷◌}
use Rattle.regex_lite_syntax.proofs.Common.{◌++◌, sym, refl, ◌∙◌, subst, inl, inr, append_assoc}
use Rattle.regex_lite_syntax.proofs.Common.{arith, false≢true, ClassElement, RangeFollows}
use Rattle.regex_lite_syntax.proofs.Common.{BeginsItem, ClassItem, named_class, escaped_set, range}
use Rattle.regex_lite_syntax.proofs.Common.{ClassItems, one, some_of, Escape, EndsGap, WholeGap}
use Rattle.regex_lite_syntax.proofs.Common.{IsElement, element_set, RangeTo, EndsOpen, at_once}
use Rattle.regex_lite_syntax.proofs.Common.{past_dash, name_of, Set, Text, Begins, the, Element}
use Rattle.regex_lite_syntax.specs.declared.parse.bracket.item.Element.TheVariants as elements
use Rattle.regex_lite_syntax.specs.Grammar.Escapes.{Primitive}
use Rattle.regex_lite_syntax.specs.Grammar.Classes.{literal, escaped, character}
use Rattle.regex_lite_syntax.specs.Parser.ClassReadings.{element_primitive, BeginsOperator}
use Rattle.regex_lite_syntax.specs.Parser.ClassReadings.{HasItems, IsNamedSet, HasNamedSet}
use Rattle.regex_lite_syntax.proofs.ListLemmas.{same_head, same_tail}
use Rattle.regex_lite_syntax.proofs.grammar.GapLemmas.{empty_gap, ends_nothing, whole_gap_once}
use Rattle.regex_lite_syntax.proofs.grammar.ClassLemmas.{begins, part_once, follows_once}
use Rattle.regex_lite_syntax.proofs.grammar.ClassLemmas.{follows_same, named_begins, no_bracket}
use Rattle.regex_lite_syntax.proofs.grammar.ClassLemmas.{item_goes_on, items_past}

-- parts
pub part_literal : (verbose : Bool) (t rest : Text) (c : ℕ) → t ≡ c ∷ rest → c ≢ the "\\"
    → EndsGap verbose t → ClassElement verbose t rest (one c)
part_literal true t rest c e plain ends =
    literal c e plain (λ _. subst (λ u. EndsGap true u) e ends) refl
part_literal false t rest c e plain ends = literal c e plain (λ h. absurd (false≢true h)) refl

-- what begins with a backslash is an escape
pub escape_of_part : (verbose : Bool) (t past r : Text) (p : Primitive) → t ≡ the "\\" ∷ past
    → ClassElement verbose t r p → Escape verbose past r p
escape_of_part verbose t past r p e (literal c f plain w is) =
    absurd (plain (same_head (sym f ∙ e)))
escape_of_part verbose t past r p e (escaped past' f x) =
    subst (λ u. Escape verbose u r p) (same_tail (sym f ∙ e)) x

-- whether a dash makes a range
pub no_dash : (verbose : Bool) (t u last : Text) → WholeGap verbose t u → (Begins (the "-") u → ⊥)
    → RangeFollows verbose t last → ⊥
no_dash verbose t u last gap none follows =
    none (begins (the "-") u _ (whole_gap_once verbose t u _ gap follows.dashed))

pub no_end : (verbose : Bool) (t past u last : Text) → WholeGap verbose t (the "-" ∷ past)
    → WholeGap verbose past u
    → ((c : ℕ) (rest : Text) → u ≡ c ∷ rest → (c ≡ the "]") ⊎ (c ≡ the "-"))
    → RangeFollows verbose t last → ⊥
no_end verbose t past u last gap gap' cases follows =
    let dashes = whole_gap_once verbose t _ _ gap follows.dashed in
    let lasts = whole_gap_once verbose past u last gap'
    (subst (λ v. WholeGap verbose v last) (sym (same_tail dashes)) follows.gap) in
    elim (cases follows.end follows.rest (lasts ∙ follows.goes_on)) [
      | inl bracket ↦ follows.not_bracket bracket
      | inr dashed ↦ follows.not_dash dashed
    ]

-- past a part more is left than a gap, or a dash with its gaps
pub closed_by_other : (verbose : Bool) (t u : Text) → WholeGap verbose t u → u ≢ []
    → (Begins (the "-") u → ⊥) → EndsOpen verbose t → ⊥
closed_by_other verbose t u gap some none (at_once g) =
    some (whole_gap_once verbose t u [] gap g)
closed_by_other verbose t u gap some none (past_dash past g h) =
    none (begins (the "-") u past (whole_gap_once verbose t u _ gap g))

pub closed_past_dash : (verbose : Bool) (t past u : Text) → WholeGap verbose t (the "-" ∷ past)
    → WholeGap verbose past u → u ≢ [] → EndsOpen verbose t → ⊥
closed_past_dash verbose t past u gap gap' some (at_once g) =
    let clash = whole_gap_once verbose t _ [] gap g in cc clash
closed_past_dash verbose t past u gap gap' some (past_dash v g h) =
    some (whole_gap_once verbose past u [] gap'
    (subst (λ w. WholeGap verbose w []) (sym (same_tail (whole_gap_once verbose t _ _ gap g))) h))

pub some_past : (verbose : Bool) (t : Text) → (EndsOpen verbose t → ⊥) → t ≢ []
some_past verbose t closed e =
    closed (at_once (subst (λ u. WholeGap verbose u []) (sym e)
    (empty_gap verbose [], ends_nothing verbose)))

-- what an item begins with, and its first part
pub begins_item : (t u : Text) (c : ℕ) → t ≡ c ∷ u → (Begins (the "]") t
    → ⊥) → (Begins (the "[") t → ⊥) → (BeginsOperator t → ⊥) → BeginsItem t
begins_item [] u c e close bracket operator = cc e
begins_item (d ∷ t) u c e close bracket operator =
    (close, bracket, λ is again. operator (is, again))

pub item_part : (verbose : Bool) (t rest : Text) (s : Set) → (Begins (the "[") t → ⊥)
    → ClassItem verbose t rest s
    → BeginsItem t × (past : Text) × (p : Primitive) × IsElement p × ClassElement verbose t past p
item_part verbose t rest s none (named_class n set x e) =
    absurd (none (named_begins t rest n set x))
item_part verbose t rest s none (character c i p o e) = (i, rest, one c, tt, p)
item_part verbose t rest s none (escaped_set set i p o e) = (i, rest, some_of set, tt, p)
item_part verbose t rest s none (range g h u v i p o q le e) = (i, u, one g, tt, p)

-- the item of a set with a name
pub item_bracketed : (verbose : Bool) (t rest : Text) (s : Set) → Begins (the "[") t
    → ClassItem verbose t rest s → HasNamedSet t
item_bracketed verbose t rest s b (named_class n set x e) = (rest, n, set, x)
item_bracketed verbose t rest s b (character c i p o e) = absurd (no_bracket t i b)
item_bracketed verbose t rest s b (escaped_set set i p o e) = absurd (no_bracket t i b)
item_bracketed verbose t rest s b (range g h u v i p o q le e) = absurd (no_bracket t i b)

pub item_named : (verbose : Bool) (t rest : Text) (element : Element) → IsNamedSet t rest element
    → ClassItem verbose t rest (element_set element)
item_named verbose t rest (elements.Char c) is = absurd is
item_named verbose t rest (elements.Set set negated) is = named_class negated (name_of set) is refl

-- the item of an element alone
pub item_alone : (verbose : Bool) (t rest : Text) (element : Element) → BeginsItem t
    → ClassElement verbose t rest (element_primitive element)
    → ((last : Text) → RangeFollows verbose rest last → ⊥)
    → ClassItem verbose t rest (element_set element)
item_alone verbose t rest (elements.Char c) i p none = character c i p none refl
item_alone verbose t rest (elements.Set set negated) i p none = escaped_set _ i p none refl

-- the item of a range
pub item_range : (verbose : Bool) (t past last rest : Text) (p : Primitive) (s : Set) → BeginsItem t
    → ClassElement verbose t past p
    → RangeFollows verbose past last → RangeTo verbose p last rest s → ClassItem verbose t rest s
item_range verbose t past last rest p s i part follows to =
    range to.start to.end past last i
    (subst (λ q. ClassElement verbose t past q) to.starts part) follows to.ends to.ordered to.set_is

-- past the first part of an item: nothing, or the end of a range
past_part : (verbose : Bool) (t past rest : Text) (p : Primitive) (s : Set)
    → (Begins (the "[") t → ⊥) → ClassElement verbose t past p
    → ClassItem verbose t rest s
    → ((past ≡ rest) × ((last : Text) → RangeFollows verbose past last → ⊥))
    ⊎ ((last : Text) × RangeFollows verbose past last × RangeTo verbose p last rest s)
past_part verbose t past rest p s none part (named_class n set x e) =
    absurd (none (named_begins t rest n set x))
past_part verbose t past rest p s none part (character c i q o e) =
    let same = (part_once verbose t past rest p _ part q).0 in
    inl (same, λ last follows. o last (follows_same verbose past rest last same follows))
past_part verbose t past rest p s none part (escaped_set set i q o e) =
    let same = (part_once verbose t past rest p _ part q).0 in
    inl (same, λ last follows. o last (follows_same verbose past rest last same follows))
past_part verbose t past rest p s none part (range g h u last i q follows to le e) =
    let once = part_once verbose t past u p _ part q in
    inr (
      last,
      follows_same verbose u past last (sym once.0) follows,
      record { start = g; end = h; starts = once.1; ends = to; ordered = le; set_is = e },
    )

pub item_range_to : (verbose : Bool) (t past last rest : Text) (p : Primitive) (s : Set)
    → (Begins (the "[") t → ⊥)
    → ClassElement verbose t past p → RangeFollows verbose past last → ClassItem verbose t rest s
    → RangeTo verbose p last rest s
item_range_to verbose t past last rest p s none part follows item =
    elim (past_part verbose t past rest p s none part item) [
      | inl alone ↦ absurd (alone.1 last follows)
      | inr to ↦
          subst (λ u. RangeTo verbose p u rest s)
          (follows_once verbose past to.0 to.1 last follows) to.2
    ]

-- where the text ends, no class does
pub nothing_left : (verbose : Bool) (sets : List Set) (rest : Text)
    → ClassItems verbose sets [] rest → ⊥
nothing_left verbose [] rest items = cc items
nothing_left verbose (s ∷ sets) rest items = no_item items.2
  where
    no_item : ClassItem verbose [] items.0 s → ⊥
    no_item (named_class n set x e) = named_begins [] items.0 n set x
    no_item (character c i p o e) = i
    no_item (escaped_set set i p o e) = i
    no_item (range g h u v i p o q le e) = i

open_at_once : (verbose : Bool) (t past : Text) (p : Primitive) → (Begins (the "[") t → ⊥)
    → ClassElement verbose t past p
    → WholeGap verbose past [] → HasItems verbose t → ⊥
open_at_once verbose t past p none part gap items =
    elim (past_part verbose t past items.3.0 p items.0 none part items.3.2) [
      | inl alone ↦ nothing_left verbose items.1 items.2
          (subst (λ u. ClassItems verbose items.1 u items.2)
          (whole_gap_once verbose past items.3.1 []
          (subst (λ u. WholeGap verbose u items.3.1) (sym alone.0) items.3.3) gap) items.3.4)
      | inr to ↦ no_dash verbose past [] to.0 gap (λ b. b) to.1
    ]

pub open_past_dash : (verbose : Bool) (sets : List Set) (t past rest : Text) → t ≡ the "-" ∷ past
    → EndsGap verbose t → WholeGap verbose past [] → ClassItems verbose sets t rest → ⊥
open_past_dash verbose [] t past rest e ends gap items =
    let heads = same_head (sym e ∙ items) in omega (arith, heads)
open_past_dash verbose (s ∷ sets) t past rest e ends gap items =
    let bare : Begins (the "[") t → ⊥ =
    λ b. let head = subst (λ u. Begins (the "[") u) e b in omega (arith, head) in
    let plain : (the "-") ≢ the "\\" = λ h. omega (arith, h) in
    open_at_once verbose t past (one (the "-")) bare
    (part_literal verbose t past (the "-") e plain ends) gap (s, sets, rest, items)

pub open_items : (verbose : Bool) (t past : Text) (p : Primitive) → (Begins (the "[") t → ⊥)
    → ClassElement verbose t past p
    → EndsOpen verbose past → HasItems verbose t → ⊥
open_items verbose t past p none part (at_once gap) items =
    open_at_once verbose t past p none part gap items
open_items verbose t past p none part (past_dash u gap gap') items =
    elim (past_part verbose t past items.3.0 p items.0 none part items.3.2) [
      | inl alone ↦
          let next = whole_gap_once verbose past items.3.1 (the "-" ∷ u)
          (subst (λ v. WholeGap verbose v items.3.1) (sym alone.0) items.3.3) gap in
          open_past_dash verbose items.1 (the "-" ∷ u) u items.2 refl gap.1 gap'
          (subst (λ v. ClassItems verbose items.1 v items.2) next items.3.4)
      | inr to ↦ no_end verbose past u [] to.0 gap gap' (λ c rest e. cc e) to.1
    ]

-- items one after another
pub has_items : (verbose : Bool) (sets : List Set) (t rest : Text) → (Begins (the "]") t → ⊥)
    → ClassItems verbose sets t rest → HasItems verbose t
has_items verbose [] t rest none items = absurd (none (begins (the "]") t rest items))
has_items verbose (s ∷ sets) t rest none items = (s, sets, rest, items)

pub items_push : (verbose : Bool) (sets more : List Set) (s : Set) (t u past next rest : Text)
    → ((more : List Set) (rest : Text) → ClassItems verbose more u rest
    → ClassItems verbose (sets ++ more) t rest)
    → ClassItem verbose u past s → WholeGap verbose past next → ClassItems verbose more next rest
    → ClassItems verbose ((sets ++ s ∷ []) ++ more) t rest
items_push verbose sets more s t u past next rest goes item gap items =
    subst (λ all. ClassItems verbose all t rest) (sym (append_assoc sets (s ∷ []) more))
    (goes (s ∷ more) rest (past, next, item, gap, items))

pub items_next : (verbose : Bool) (all : List Set) (s : Set) (u past next rest : Text)
    → ClassItem verbose u past s → WholeGap verbose past next → ClassItems verbose all u rest
    → (more : List Set) × ClassItems verbose more next rest
items_next verbose [] s u past next rest item gap items =
    absurd (item_goes_on verbose u past s item (begins (the "]") u rest items))
items_next verbose (a ∷ all) s u past next rest item gap items =
    (all, (items_past verbose u past next rest s a all item gap items).1)

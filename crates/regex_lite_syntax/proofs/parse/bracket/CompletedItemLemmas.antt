-- Items of a class that more of the pattern completes.
use Rattle.regex_lite_syntax.proofs.Common.{ℕ, ◌≤◌, Bool, true, false, ◌≢◌, List, [], ◌∷◌, ◌++◌}
use Rattle.regex_lite_syntax.proofs.Common.{IsTrue, sym, refl, subst, inl, append_assoc, arith}
use Rattle.regex_lite_syntax.proofs.Common.{false≢true, AreCharacters, ClassElement, RangeFollows}
use Rattle.regex_lite_syntax.proofs.Common.{BeginsItem, NamedClass, ClassItem, named_class}
use Rattle.regex_lite_syntax.proofs.Common.{ClassItems, one, EndsGap, WholeGap, SetName, IsElement}
use Rattle.regex_lite_syntax.proofs.Common.{element_set, RangeTo, EndsOpen, at_once, past_dash}
use Rattle.regex_lite_syntax.proofs.Common.{Completable, Set, just, Text, Begins, the, Element}
use Rattle.regex_lite_syntax.specs.declared.parse.bracket.item.Element.TheVariants as elements
use Rattle.regex_lite_syntax.specs.Text.{◌∈◌}
use Rattle.regex_lite_syntax.specs.Grammar.Escapes.{Primitive}
use Rattle.regex_lite_syntax.specs.Grammar.Classes.{character}
use Rattle.regex_lite_syntax.specs.Parser.ClassReadings.{element_primitive}
use Rattle.regex_lite_syntax.proofs.CharacterLemmas.{joined_are}
use Rattle.regex_lite_syntax.proofs.ListLemmas.{same_head}
use Rattle.regex_lite_syntax.proofs.grammar.GapLemmas.{empty_gap, ends_any, gap_at_end}
use Rattle.regex_lite_syntax.proofs.grammar.LongerGapLemmas.{whole_longer}
use Rattle.regex_lite_syntax.proofs.grammar.LongerClassLemmas.{element_two, begins_item}
use Rattle.regex_lite_syntax.proofs.grammar.LongerClassLemmas.{element_longer, follows_longer}
use Rattle.regex_lite_syntax.proofs.grammar.ResumedGapLemmas.{resumed, gap_resumed}
use Rattle.regex_lite_syntax.proofs.parse.bracket.ClassItemLemmas.{part_literal, no_dash, no_end}
use Rattle.regex_lite_syntax.proofs.parse.bracket.ClassItemLemmas.{item_alone, item_range}
use Rattle.regex_lite_syntax.proofs.parse.bracket.LongerItemLemmas.{part_longer}
use Rattle.regex_lite_syntax.proofs.grammar.CompletedGapLemmas.{past_gap}

-- some items follow up to the rest
abbrev pub ItemsTo : (verbose : Bool) → (t rest : Text) → Type 0
ItemsTo verbose t rest = (s : Set) × (sets : List Set) × ClassItems verbose (s ∷ sets) t rest

-- no gap goes on with the bracket that closes a class, and no dash stands there
pub bracket_ends : (verbose : Bool) (next : Text) → EndsGap verbose (the "]" ∷ next)
bracket_ends verbose next =
    ends_any verbose (the "]" ∷ next) (refl, λ sign. omega (arith, sign))

pub bracket_gap : (verbose : Bool) (next : Text)
    → WholeGap verbose (the "]" ∷ next) (the "]" ∷ next)
bracket_gap verbose next = (empty_gap verbose (the "]" ∷ next), bracket_ends verbose next)

pub no_range : (verbose : Bool) (t next last : Text) → WholeGap verbose t (the "]" ∷ next)
    → RangeFollows verbose t last → ⊥
no_range verbose t next last gap =
    no_dash verbose t (the "]" ∷ next) last gap (λ dash. omega (arith, dash))

-- an item that more completes, and then the bracket that closes the class
closed : (verbose : Bool) (t more : Text) → AreCharacters more
    → ((next : Text) → (s : Set)
    × ClassItem verbose (t ++ (more ++ the "]" ∷ next)) (the "]" ∷ next) s)
    → Completable (ItemsTo verbose) t
closed verbose t more are item = record {
  more = more ++ the "]" ∷ [];
  characters = joined_are more (the "]" ∷ []) are (refl, tt);
  reads = λ next.
      let closing = the "]" ∷ next in
      let found = item next in
      subst (λ u. ItemsTo verbose (t ++ u) next) (sym (append_assoc more (the "]" ∷ []) next))
      (found.0, [], (closing, closing, found.1, bracket_gap verbose next, refl));
}

-- a set by its name, an escape and a range, and then the bracket
pub closed_named : (verbose : Bool) (t : Text)
    → Completable (λ t rest. (negated : Bool) × (set : SetName) × NamedClass t rest negated set) t
    → Completable (ItemsTo verbose) t
closed_named verbose t c =
    closed verbose t c.more c.characters (λ next. let found = c.reads (the "]" ∷ next) in
    (_, named_class found.0 found.1 found.2 refl))

-- what a backslash begins may be an item
backslash_begins : (t more : Text) → Begins (the "\\") t → BeginsItem (t ++ more)
backslash_begins [] more b = absurd b
backslash_begins (c ∷ t) more b =
    subst (λ d. BeginsItem (d ∷ (t ++ more))) (sym b)
    ((λ e. omega (arith, e)), (λ e. omega (arith, e)), (λ is again. false≢true is))

pub closed_escape : (verbose : Bool) (t : Text) → Begins (the "\\") t
    → Completable (λ t rest. (c : ℕ) × ClassElement verbose t rest (one c) × (0 ≤ c)) t
    → Completable (ItemsTo verbose) t
closed_escape verbose t backslash c =
    closed verbose t c.more c.characters (λ next.
    let closing = the "]" ∷ next in
    let found = c.reads closing in (
      just found.0,
      character found.0 (backslash_begins t (c.more ++ closing) backslash) found.1
          (λ last. no_range verbose closing next last (bracket_gap verbose next)) refl,
    ))

pub closed_range : (verbose : Bool) (t past last : Text) (p : Primitive) → BeginsItem t
    → past ≢ [] → ClassElement verbose t past p → RangeFollows verbose past last
    → Completable (λ t rest. (s : Set) × RangeTo verbose p t rest s) last
    → Completable (ItemsTo verbose) t
closed_range verbose t past last p begins some part follows c =
    closed verbose t c.more c.characters (λ next.
    let closing = the "]" ∷ next in
    let found = c.reads closing in
    let more = c.more ++ closing in (
      found.0,
      item_range verbose (t ++ more) (past ++ more) (last ++ more) closing p found.0
          (begins_item more t begins (element_two verbose t past p part some))
          (element_longer more verbose t past p part some) (follows_longer more follows) found.1,
    ))

-- where the text ends past an item or past a dash, the bracket that closes the class completes it
abbrev ending : (verbose : Bool) → (next : Text) → Text
ending verbose next = resumed verbose ++ the "]" ∷ next

no_twice : (verbose : Bool) (c : ℕ) (next : Text) → IsTrue (c ∈ "&-~")
    → Begins c (ending verbose next) → ⊥
no_twice true c next is again =
    false≢true (subst (λ d. IsTrue (d ∈ "&-~")) (sym again) is)
no_twice false c next is again =
    false≢true (subst (λ d. IsTrue (d ∈ "&-~")) (sym again) is)

begins_ending : (verbose : Bool) (t next : Text) → BeginsItem t
    → BeginsItem (t ++ ending verbose next)
begins_ending verbose [] next begins = absurd begins
begins_ending verbose (c ∷ []) next begins = (begins.0, begins.1, no_twice verbose c next)
begins_ending verbose (c ∷ d ∷ t) next begins = begins

-- no dash stands in the gap
dash_ends : (verbose : Bool) (t : Text) → Begins (the "-") t → EndsGap verbose t
dash_ends verbose [] b = absurd b
dash_ends verbose (c ∷ t) b =
    ends_any verbose (c ∷ t)
    (subst (λ d. EndsGap true (d ∷ t)) (sym b) (refl, λ sign. omega (arith, sign)))

no_dash_before : (verbose : Bool) (t next : Text) → WholeGap verbose t (the "]" ∷ next)
    → Begins (the "-") t → ⊥
no_dash_before verbose t next gap b =
    let same = gap_at_end verbose t (the "]" ∷ next) (dash_ends verbose t b) gap.0 in
    let dash = subst (λ u. Begins (the "-") u) (sym same) b in omega (arith, dash)

-- the dash is an item of its own
dash_item : (verbose : Bool) (t next : Text) → WholeGap verbose t (the "]" ∷ next)
    → ClassItem verbose (the "-" ∷ t) t (just (the "-"))
dash_item verbose t next gap =
    let plain : (the "-") ≢ the "\\" = λ e. omega (arith, e) in
    character (the "-") (
      (λ e. omega (arith, e)),
      (λ e. omega (arith, e)),
      (λ is again. no_dash_before verbose t next gap again),
    ) (part_literal verbose (the "-" ∷ t) t (the "-") refl plain
    (dash_ends verbose (the "-" ∷ t) refl)) (λ last. no_range verbose t next last gap) refl

-- what is read as an element is one
is_element : (element : Element) → IsElement (element_primitive element)
is_element (elements.Char c) = tt
is_element (elements.Set set negated) = tt

-- the items that the bracket closes
items_ending : (verbose : Bool) (t past next : Text) (element : Element) → BeginsItem t
    → ClassElement verbose t past (element_primitive element) → EndsOpen verbose past
    → ItemsTo verbose (t ++ ending verbose next) next
items_ending verbose t past next element begins part (at_once gap) =
    let more = ending verbose next in
    let closes : WholeGap verbose (past ++ more) (the "]" ∷ next) =
    (gap_resumed verbose past (the "]" ∷ next) gap.0, bracket_ends verbose next) in
    let item = item_alone verbose (t ++ more) (past ++ more) element
    (begins_ending verbose t next begins)
    (part_longer more verbose t past _ (is_element element) part)
    (λ last. no_range verbose (past ++ more) next last closes) in
    (element_set element, [], (past ++ more, the "]" ∷ next, item, closes, refl))
items_ending verbose t past next element begins part (past_dash u gap gap') =
    let more = ending verbose next in
    let dashed = whole_longer more verbose past (the "-" ∷ u) gap (λ e. cc e) in
    let closes : WholeGap verbose (u ++ more) (the "]" ∷ next) =
    (gap_resumed verbose u (the "]" ∷ next) gap'.0, bracket_ends verbose next) in
    let item = item_alone verbose (t ++ more) (past ++ more) element
    (begins_ending verbose t next begins)
    (part_longer more verbose t past _ (is_element element) part)
    (λ last. no_end verbose (past ++ more) (u ++ more) (the "]" ∷ next) last dashed closes
    (λ c rest e. inl (sym (same_head e)))) in (
      element_set element,
      just (the "-") ∷ [],
      (
        past ++ more,
        the "-" ∷ (u ++ more),
        item,
        dashed,
        (u ++ more, the "]" ∷ next, dash_item verbose (u ++ more) next closes, closes, refl),
      ),
    )

pub closed_ending : (verbose : Bool) (t past : Text) (element : Element) → BeginsItem t
    → ClassElement verbose t past (element_primitive element) → EndsOpen verbose past
    → Completable (ItemsTo verbose) t
closed_ending verbose t past element begins part ends =
    past_gap verbose (ItemsTo verbose) t (the "]" ∷ []) (refl, tt)
    (λ next. items_ending verbose t past next element begins part ends)

use Rattle.regex_lite_syntax.proofs.Common.{◌≢◌, [], ◌++◌, drop, sym, refl, ap, subst, arith}
use Rattle.regex_lite_syntax.proofs.Common.{both_ways, IfErr-weaker, IfOk-weaker, ClassElement}
use Rattle.regex_lite_syntax.proofs.Common.{BeginsItem, ClassItem, one, element_set, RangeTo}
use Rattle.regex_lite_syntax.proofs.Common.{ReachesTo, Set, Text, Begins, the}
use Rattle.regex_lite_syntax.specs.Grammar.Escapes.{Primitive}
use Rattle.regex_lite_syntax.specs.Parser.Readings.{primitive_of}
use Rattle.regex_lite_syntax.specs.Parser.ClassReadings.{HasItems}
use Rattle.regex_lite_syntax.proofs.ExitLemmas.{at_exit}
use Rattle.regex_lite_syntax.proofs.grammar.ClassLemmas.{begins}
use Rattle.regex_lite_syntax.proofs.grammar.LongerGapLemmas.{begins_longer}
use Rattle.regex_lite_syntax.proofs.grammar.LongerClassLemmas.{element_longer, item_longer}
use Rattle.regex_lite_syntax.proofs.grammar.LongerClassLemmas.{follows_longer}
use Rattle.regex_lite_syntax.proofs.parse.DenialLemmas.{none_at_end, none_of_part}
use Rattle.regex_lite_syntax.proofs.parse.IndexLemmas.{drop_at, some_at}
use Rattle.regex_lite_syntax.proofs.parse.bracket.ClassItemLemmas.{begins_item, item_part}
use Rattle.regex_lite_syntax.proofs.parse.bracket.ClassItemLemmas.{item_bracketed, item_named}
use Rattle.regex_lite_syntax.proofs.parse.bracket.ClassItemLemmas.{item_alone, item_range}
use Rattle.regex_lite_syntax.proofs.parse.bracket.ClassItemLemmas.{item_range_to, open_items}
use Rattle.regex_lite_syntax.proofs.parse.bracket.ClassItemLemmas.{some_past}
use Rattle.regex_lite_syntax.proofs.parse.bracket.CompletedItemLemmas.{closed_named, closed_escape}
use Rattle.regex_lite_syntax.proofs.parse.bracket.CompletedItemLemmas.{closed_range, closed_ending}
use Rattle.regex_lite_syntax.proofs.parse.bracket.LongerItemLemmas.{is_named_longer, element_before}
use Rattle.regex_lite_syntax.proofs.parse.bracket.LongerItemLemmas.{no_operator, range_longer}
use Rattle.regex_lite_syntax.proofs.parse.bracket.item.read_item.Goals as goal
use Rattle.regex_lite_syntax.proofs.parse.bracket.item.read_item.Goals.{
  Else-is_at,
  In_ok-find_range_end,
  In-Some-element_of,
  In-None,
}

pub returns-in_err-end-clause-refused : goal.returns-in_err-end-clause-refused
returns-in_err-end-clause-refused c =
    let t = drop c.args.at c.args.chars.now in
    at_exit _ _ c.from_residual.ensures.1 (λ more follows items.
    let bracket = begins (the "[") (t ++ more) _
    (ap (λ u. u ++ more) (c.if-is_at.ensures.there refl).1) in
    c.in_err-end.ensures.refused more follows
    (item_bracketed c.args.verbose (t ++ more) items.3.0 items.0 bracket items.3.2))

pub returns-then-is_at-clause-ok : goal.returns-then-is_at-clause-ok
returns-then-is_at-clause-ok c = item_named _ _ _ _ c.in_ok-end.ensures.ok

pub returns-then-is_at-clause-stays : goal.returns-then-is_at-clause-stays
returns-then-is_at-clause-stays c more =
    item_named _ _ _ _ (is_named_longer more _ _ c.in_ok-end.element c.in_ok-end.ensures.ok)

-- no bracket stands there in a longer text
bare : (c : Else-is_at) (more : Text)
    → Begins (the "[") (drop c.args.at c.args.chars.now ++ more) → ⊥
bare c more =
    begins_longer more (the "[") (drop c.args.at c.args.chars.now) (c.if-is_at.ensures.absent refl)
    (some_at c.args.chars.now c.args.at c.requires.inside)

pub returns-in-Some-clause-refused : goal.returns-in-Some-clause-refused
returns-in-Some-clause-refused c more follows items =
    let t = drop c.args.at c.args.chars.now in
    no_operator more t c.in-Some.ensures.0 (item_part c.args.verbose (t ++ more) items.3.0 items.0
    (bare (goal.at.returns-in-Some-clause-refused c).Else-is_at more) items.3.2).0

-- every primitive reaches to the first character
reaches_zero : (p : Primitive) → ReachesTo 0 p
reaches_zero (one c) = omega arith
reaches_zero _ = tt

pub returns-in_err-past-clause-refused : goal.returns-in_err-past-clause-refused
returns-in_err-past-clause-refused c =
    let t = drop c.args.at c.args.chars.now in
    let none = bare (goal.at.returns-in_err-past-clause-refused c).Else-is_at in
    at_exit _ _ c.from_residual-in_err-past.ensures.1 (λ more follows items.
    let first = item_part c.args.verbose (t ++ more) _ _ (none more) items.3.2 in
    let zero_on = reaches_zero first.2 in
    c.in_err-past.ensures.refused more follows (first.1, first.2, first.4, first.3, zero_on))

pub returns-in_err-find_range_end-clause-refused : goal.returns-in_err-find_range_end-clause-refused
returns-in_err-find_range_end-clause-refused c =
    let verbose = c.args.verbose in
    let t = drop c.args.at c.args.chars.now in
    let refused = c.in_err-find_range_end.ensures.refused in
    at_exit _ _ c.from_residual-in_err-find_range_end.ensures.1
    (none_at_end c.in_err-find_range_end.field-0.0 (HasItems verbose) t refused.0
    (open_items verbose t _ _ (c.if-is_at.ensures.absent refl) c.in_ok-past.ensures.ok refused.1))

-- the item begins with its first part, past which something is left
part_begins : (c : In-Some-element_of) → BeginsItem (drop c.args.at c.args.chars.now)
part_begins c =
    let xs = c.args.chars.now in
    begins_item (drop c.args.at xs) _ _ (drop_at xs c.args.at c.requires.inside) c.requires.goes_on
    (c.if-is_at.ensures.absent refl) c.in_default.ensures

goes_on : (c : In_ok-find_range_end) → drop c.in_ok-past.past c.args.chars.now ≢ []
goes_on c = some_past c.args.verbose _ c.in_ok-find_range_end.ensures.closed

part_longer : (c : In_ok-find_range_end) (more : Text)
    → ClassElement c.args.verbose (drop c.args.at c.args.chars.now ++ more)
    (drop c.in_ok-past.past c.args.chars.now ++ more) (primitive_of c.in_ok-past.first)
part_longer c more = element_longer more c.args.verbose _ _ _ c.in_ok-past.ensures.ok (goes_on c)

pub returns-in_default-element_of-clause-refused : goal.returns-in_default-element_of-clause-refused
returns-in_default-element_of-clause-refused c more follows items =
    let t = drop c.args.at c.args.chars.now in
    let none = bare (goal.at.returns-in_default-element_of-clause-refused c).Else-is_at more in
    let first = item_part c.args.verbose (t ++ more) _ _ none items.3.2 in
    c.in_default-element_of.ensures (element_before more c.args.verbose t _ first.1 _ first.2
    c.in_ok-past.ensures.ok first.4 first.3)

-- the item of one part alone
alone : (c : In-None) → BeginsItem (drop c.args.at c.args.chars.now)
    → ClassItem c.args.verbose (drop c.args.at c.args.chars.now)
    (drop c.in_ok-past.past c.args.chars.now) (element_set c.in-Some-element_of.element)
alone c begins =
    let verbose = c.args.verbose in
    let t = drop c.args.at c.args.chars.now in
    let past = drop c.in_ok-past.past c.args.chars.now in
    let none = rw c.in-None.is at c.in_ok-find_range_end.ensures.ok in
    let part = subst (λ p. ClassElement verbose t past p)
    (sym c.in-Some-element_of.ensures) c.in_ok-past.ensures.ok in
    item_alone verbose t past c.in-Some-element_of.element begins part none

pub returns-in-None-clause-ok : goal.returns-in-None-clause-ok
returns-in-None-clause-ok c =
    alone c (part_begins (goal.at.returns-in-None-clause-ok c).In-Some-element_of)

pub returns-in-None-clause-stays : goal.returns-in-None-clause-stays
returns-in-None-clause-stays c more =
    let place = goal.at.returns-in-None-clause-stays c in
    item_longer more (alone c (part_begins place.In-Some-element_of))
    (goes_on place.In_ok-find_range_end) c.in_ok-find_range_end.ensures.closed

pub returns-in-Some-2-clause-ok : goal.returns-in-Some-2-clause-ok
returns-in-Some-2-clause-ok c =
    let verbose = c.args.verbose in
    let xs = c.args.chars.now in
    let t = drop c.args.at xs in
    let first = primitive_of c.in_ok-past.first in
    let last = drop c.in-Some-2.last xs in
    let follows = rw c.in-Some-2.is at c.in_ok-find_range_end.ensures.ok in
    let begins = part_begins (goal.at.returns-in-Some-2-clause-ok c).In-Some-element_of in
    IfOk-weaker c.read_range.result _ _ (λ r to. item_range verbose t
    (drop c.in_ok-past.past xs) last _ first _ begins c.in_ok-past.ensures.ok follows to)
    c.read_range.ensures.ok

pub returns-in-Some-2-clause-stays : goal.returns-in-Some-2-clause-stays
returns-in-Some-2-clause-stays c =
    let verbose = c.args.verbose in
    let xs = c.args.chars.now in
    let t = drop c.args.at xs in
    let first = primitive_of c.in_ok-past.first in
    let last = drop c.in-Some-2.last xs in
    let follows = rw c.in-Some-2.is at c.in_ok-find_range_end.ensures.ok in
    let place = goal.at.returns-in-Some-2-clause-stays c in
    IfOk-weaker c.read_range.result _ _
    (λ r to more. range_longer more verbose t (drop c.in_ok-past.past xs) last (drop r.0 xs) first _
    (part_begins place.In-Some-element_of) (goes_on place.In_ok-find_range_end)
    c.in_ok-past.ensures.ok follows to) c.read_range.ensures.ok

pub returns-in-Some-2-clause-refused : goal.returns-in-Some-2-clause-refused
returns-in-Some-2-clause-refused c =
    let verbose = c.args.verbose in
    let xs = c.args.chars.now in
    let t = drop c.args.at xs in
    let past = drop c.in_ok-past.past xs in
    let first = primitive_of c.in_ok-past.first in
    let last = drop c.in-Some-2.last xs in
    let follows = rw c.in-Some-2.is at c.in_ok-find_range_end.ensures.ok in
    let place = (goal.at.returns-in-Some-2-clause-refused c).In_ok-find_range_end in
    let none = bare (goal.at.returns-in-Some-2-clause-refused c).Else-is_at in
    none_of_part c.read_range.result (HasItems verbose)
    (λ u. (rest : Text) × (s : Set) × RangeTo verbose first u rest s) t last (λ more items. (
      items.3.0,
      items.0,
      item_range_to verbose (t ++ more) (past ++ more) (last ++ more) items.3.0 first items.0
          (none more) (part_longer place more) (follows_longer more follows) items.3.2,
    )) c.read_range.ensures.refused

pub returns-in_err-end-clause-completes : goal.returns-in_err-end-clause-completes
returns-in_err-end-clause-completes c =
    at_exit _ _ c.from_residual.ensures.1 (λ short.
    closed_named c.args.verbose (drop c.args.at c.args.chars.now)
    (c.in_err-end.ensures.completes short))

pub returns-in-Some-clause-completes : goal.returns-in-Some-clause-completes
returns-in-Some-clause-completes c short = absurd (both_ways _ c.in-Some.ensures.1 short)

pub returns-in_err-past-clause-completes : goal.returns-in_err-past-clause-completes
returns-in_err-past-clause-completes c =
    at_exit _ _ c.from_residual-in_err-past.ensures.1 (λ short.
    closed_escape c.args.verbose (drop c.args.at c.args.chars.now)
    c.in_err-past.ensures.escaped (c.in_err-past.ensures.completes short))

pub returns-in_err-find_range_end-clause-completes :
    goal.returns-in_err-find_range_end-clause-completes
returns-in_err-find_range_end-clause-completes c =
    let verbose = c.args.verbose in
    let t = drop c.args.at c.args.chars.now in
    let past = drop c.in_ok-past.past c.args.chars.now in
    let part = subst (λ p. ClassElement verbose t past p)
    (sym c.in-Some-element_of.ensures) c.in_ok-past.ensures.ok in
    at_exit _ _ c.from_residual-in_err-find_range_end.ensures.1 (λ short.
    closed_ending verbose t past c.in-Some-element_of.element
    (part_begins (goal.at.returns-in_err-find_range_end-clause-completes c).In-Some-element_of)
    part c.in_err-find_range_end.ensures.refused.1)

pub returns-in-Some-2-clause-completes : goal.returns-in-Some-2-clause-completes
returns-in-Some-2-clause-completes c =
    let xs = c.args.chars.now in
    let past = drop c.in_ok-past.past xs in
    let first = primitive_of c.in_ok-past.first in
    let last = drop c.in-Some-2.last xs in
    let follows = rw c.in-Some-2.is at c.in_ok-find_range_end.ensures.ok in
    let place = (goal.at.returns-in-Some-2-clause-completes c).In_ok-find_range_end in
    IfErr-weaker c.read_range.result _ _
    (λ fault completes short. closed_range c.args.verbose (drop c.args.at xs) past last first
    (part_begins (goal.at.returns-in-Some-2-clause-completes c).In-Some-element_of)
    (goes_on place) c.in_ok-past.ensures.ok follows (completes short))
    c.read_range.ensures.completes

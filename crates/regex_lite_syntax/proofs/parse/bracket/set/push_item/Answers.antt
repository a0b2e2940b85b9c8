use Rattle.regex_lite_syntax.proofs.Common.{◌≡◌, sym, ap, ◌∙◌, rules}
use Rattle.regex_lite_syntax.specs.declared.parse.bracket.item.Element.TheVariants.{Set}
use Rattle.regex_lite_syntax.specs.declared.parse.bracket.item.Item.{Item}
use Rattle.regex_lite_syntax.specs.declared.parse.bracket.item.Item.TheVariants.{Alone}
use Rattle.regex_lite_syntax.specs.Parser.ClassReadings.{item_set}
use Rattle.regex_lite_syntax.proofs.parse.bracket.ClassSetLemmas.{in_more, in_set}
use Rattle.regex_lite_syntax.proofs.parse.bracket.set.push_item.Goals as goal

pub returns-in_ok-push-in-Range : goal.returns-in_ok-push-in-Range
returns-in_ok-push-in-Range c d =
    in_more c.args.ranges.now.items _ (record { start = c.in-Range.start; end = c.in-Range.end })
    (item_set c.args.item) d
    c.in_ok-push-in-Range.ensures.items (sym (ap (λ (item : Item). item_set item d) c.in-Range.is))

pub returns-in_ok-extend_from_slice-in-Alone-Set : goal.returns-in_ok-extend_from_slice-in-Alone-Set
returns-in_ok-extend_from_slice-in-Alone-Set c d =
    let is : c.args.item ≡ Alone (Set c.in-Alone-Set.set c.in-Alone-Set.negated) = search rules in
    let named =
    c.in_ok-class-in-Alone-Set.ensures.members d ∙ sym (ap (λ (item : Item). item_set item d) is) in
    in_set c.args.ranges.now.items _ c.ranges-in-Alone-Set.result.now (item_set c.args.item) d
    c.in_ok-extend_from_slice-in-Alone-Set.ensures.items
    (rw c.ranges-in-Alone-Set.ensures.same named)

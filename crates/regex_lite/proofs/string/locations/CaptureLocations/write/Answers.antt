use Rattle.regex_lite.proofs.Common.{◌≡◌, ◌*◌, ◌++◌, length, take, replicate, None, ap, ◌∙◌, arith}
use Rattle.regex_lite.proofs.Common.{rules, spans_of, resized}
use Rattle.std.proofs.Common.{min}
use Rattle.std.proofs.lemmas.List.{length-append, with_items_is}
use Rattle.regex_lite.proofs.string.SlotLemmas.{half, resized_length, spans_with_none}
use Rattle.regex_lite.proofs.string.locations.CaptureLocations.write.Goals as goal

pub returns-clause-spans : goal.returns-clause-spans
returns-clause-spans c =
    let vec = c.self.inside.slots in
    let slots = c.args.slots.now in
    let n = c.self.invariant.0 in
    let count = c.min-count.result in
    let more = length c.split_at_mut-own.result.1.now in
    let own = c.copy_from_slice.new.self in
    let others = c.fill.new.self in
    let two = c.self.invariant.2 in
    let whole = ap length c.as_mut_slice.ensures.value in
    let cut = c.split_at_mut-own.ensures.back_len in
    let items = with_items_is vec (own ++ others) (omega (
      arith,
      (length-append own others),
      c.copy_from_slice.ensures.len,
      c.split_at_mut-own.ensures.front_len,
      c.fill.ensures.len,
      cut,
      c.as_mut_slice.ensures.len,
    )) in
    let len : c.len.result ≡ length vec.items = search rules in
    let few : count ≡ min (length slots) (2 * n) =
    c.min-count.ensures ∙ ap (min (length slots)) (len ∙ two) in
    let none : others ≡ replicate more None = c.fill.ensures.after (λ y is. search rules) in
    let size : n ≡ length c.args.self.now =
    omega (arith, half vec.items, two) ∙ ap (λ spans. length spans) c.self.view_is in
    ap spans_of (items ∙ ap (λ xs. xs ++ others) c.copy_from_slice.ensures.after
    ∙ ap (λ xs. take count slots ++ xs) none)
    ∙ spans_with_none slots n n count more (omega arith) few (omega (arith, whole, cut, two))
    ∙ ap (λ m. resized m (spans_of slots)) size

pub returns-clause-len : goal.returns-clause-len
returns-clause-len c =
    ap (λ spans. length spans) (returns-clause-spans c)
    ∙ resized_length (length c.args.self.now) (spans_of c.args.slots.now)

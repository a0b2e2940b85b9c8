use Rattle.regex_lite_engine.proofs.Common.{◌<◌, length, map, slice_index, Some, sym, ap, ◌∙◌}
use Rattle.regex_lite_engine.proofs.Common.{arith, length-map, slice_get-get_or, start_numbered}
use Rattle.std.proofs.lemmas.Grind.{common_steps}
use Rattle.std.proofs.lemmas.List.{get_or-map}
use Rattle.regex_lite_engine.proofs.search.list_patterns.ListPatternsPatterns.start.Goals as goal

pub returns : goal.returns
returns c =
    let entries = c.args.self.now.list.now.entries in
    let numbers = c.args.self.now.numbers.items in
    let number = c.index-number.result.now in
    let starts = length-map numbers (start_numbered entries) in
    let inside : c.args.k < length numbers =
    let below = c.requires in omega (arith, starts, below) in
    slice_get-get_or (map (start_numbered entries) numbers) c.args.k (start_numbered entries number)
    c.requires
    ∙ ap Some (get_or-map (start_numbered entries) numbers c.args.k number
    (start_numbered entries number) inside)
    ∙ ap (λ n. Some (start_numbered entries n)) (sym c.index-number.ensures)
    ∙ ap (λ all. Some (record { number = number; place = slice_index all number }))
    (sym c.entries.ensures.same)

-- The goals from here on need no lemma of their own. They have answers because the prover would
-- try other calls first, which takes long
pub index-number-requires : goal.index-number-requires
index-number-requires c = grind (arith, common_steps)

pub bounds-entries-number : goal.bounds-entries-number
bounds-entries-number c = grind (arith, common_steps)

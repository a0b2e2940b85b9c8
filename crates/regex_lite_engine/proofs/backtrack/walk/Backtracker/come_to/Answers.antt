use Rattle.regex_lite_engine.proofs.Common.{◌+◌, ◌<◌, [], ◌∷◌, None, unwrap_or, sym, refl}
use Rattle.regex_lite_engine.proofs.Common.{ap, ◌∙◌, subst, arith, StepCounts}
use Rattle.regex_lite_engine.proofs.Common.{length-map, was_entered, with_arrows, place_of}
use Rattle.regex_lite_engine.proofs.Common.{places_of, LeadsBelow}
use Rattle.regex_lite_engine.specs.declared.backtrack.walk.Backtracker.{Backtracker}
use Rattle.regex_lite_engine.specs.Backtrack.Machine.{completes, end_at, explore, onto}
use Rattle.regex_lite_engine.specs.Backtrack.Capacity.{with_frames, Went}
use Rattle.regex_lite_engine.proofs.backtrack.LeadsLemmas.{entered_at, leads_entered, leads_passed}
use Rattle.regex_lite_engine.proofs.backtrack.LeftLemmas.{pair_inside}
use Rattle.regex_lite_engine.proofs.backtrack.WentLemmas.{enter_room, entered_again, same_walk}
use Rattle.regex_lite_engine.proofs.backtrack.WentLemmas.{went_counting_less}
use Rattle.regex_lite_engine.proofs.backtrack.WentLemmas.{was_old, went_entered, went_passed}
use Rattle.regex_lite_engine.proofs.search.CountLemmas.{entered_if, entered_within, tried_if}
use Rattle.regex_lite_engine.proofs.search.PlaceLemmas.{got_place}
use Rattle.regex_lite_engine.proofs.backtrack.walk.Backtracker.come_to.Goals as goal

pub returns-then-not-insert-clause-taken : goal.returns-then-not-insert-clause-taken
returns-then-not-insert-clause-taken g c =
    let a = c.args in let w = a.self.now in let fit = c.requires in
    let table = places_of a.table.now in let bytes = a.haystack.now in
    let was = was_old (was_entered w.visited a.place a.at) c.insert.result c.if-not-insert.true
    c.insert.ensures.fresh.1 in
    let count = tried_if _ w.steps c.count_try_if.ensures in
    let after = c.count_try_if.new.self in
    subst
    (λ (z : Backtracker). Went table bytes (with_frames w (explore a.place a.at ∷ w.stack.frames)) z
    None)
    (sym (same_walk c.insert.new.self w.visited w.stack after after
    (c.insert.ensures.added ∙ entered_again w.visited a.place a.at was) refl))
    (went_counting_less table bytes (with_frames w (explore a.place a.at ∷ w.stack.frames))
    (record w { steps = record w.steps { tried = w.steps.tried + 1 } }) after None
    count.1 (omega (arith, count.2))
    (omega (arith, count.0.tried, count.2, fit.entered_tried))
    (omega (arith, count.2, count.3, fit.looked_entered))
    (went_passed table bytes w a.place a.at fit
    (leads_passed bytes c.utf8.haystack table w fit.all a.place a.at fit.below.0 fit.below.1
    fit.below.2 was)))

pub enter-requires-clause-room : goal.enter-requires-clause-room
enter-requires-clause-room g c =
    let a = c.args in
    let found = c.look_on_entry-found in
    enter_room (places_of a.table.now) a.haystack.now a.self.now a.place a.at c.requires
    c.utf8.haystack (c.insert.ensures.fresh.0 c.if-not-insert.false) found.result.now
    (got_place a.table.now.places a.place found.result.now found.ensures.found)

pub returns-clause-taken : goal.returns-clause-taken
returns-clause-taken g c =
    let a = c.args in let w = a.self.now in let fit = c.requires in
    let table = places_of a.table.now in let bytes = a.haystack.now in
    let found = c.look_on_entry-found in
    let place = found.result.now in let done = completes c.enter.result in
    let held =
    record c.enter.new.stack { frames = onto c.enter.result c.enter.new.stack.frames } in
    let new = c.insert.ensures.fresh.0 c.if-not-insert.false in
    let got = got_place a.table.now.places a.place place found.ensures.found in
    let inside =
    subst (λ z. LeadsBelow z (place_of place)) (sym (length-map a.table.now.places place_of))
    found.ensures.inside in
    let after = found.new.steps in
    let all : StepCounts = record {
      tried = w.steps.tried + 1;
      entered = w.steps.entered + 1;
      looked = w.steps.looked + 1;
    } in
    let count = entered_within _ w.steps
    (entered_if _ w.steps c.count_try_if.ensures found.ensures.counted)
    fit.entered_tried fit.looked_entered in
    subst
    (λ (z : Backtracker). Went table bytes (with_frames w (explore a.place a.at ∷ w.stack.frames)) z
    (end_at a.at c.enter.result))
    (sym
    (same_walk c.insert.new.self (entered_at w.visited a.place a.at) held after after
    c.insert.ensures.added refl))
    (went_counting_less table bytes (with_frames w (explore a.place a.at ∷ w.stack.frames))
    (record { visited = entered_at w.visited a.place a.at; stack = held; steps = all }) after
    (end_at a.at c.enter.result) count.1 count.2 count.3 count.4
    (went_entered table bytes w a.place a.at fit c.utf8.haystack new place got held done inside
    c.enter.ensures.entered c.enter.ensures.room
    (leads_entered bytes c.utf8.haystack table w fit.all a.place a.at fit.below.0 fit.below.1
    fit.below.2 place held done new
    (pair_inside table bytes c.utf8.haystack w.visited fit.all a.place a.at fit.below.0 fit.below.1
    fit.below.2.0)
    (ap (λ o. unwrap_or o (with_arrows [])) got) c.enter.ensures.entered)))

pub look_on_entry-found-requires-clause-inside : goal.look_on_entry-found-requires-clause-inside
look_on_entry-found-requires-clause-inside g c =
    subst (λ n. c.args.place < n) (length-map c.args.table.now.places place_of) c.requires.below.0

pub insert-requires-clause-inside : goal.insert-requires-clause-inside
insert-requires-clause-inside g c =
    let a = c.args in let fit = c.requires in
    pair_inside (places_of a.table.now) a.haystack.now c.utf8.haystack a.self.now.visited fit.all
    a.place a.at fit.below.0 fit.below.1 fit.below.2.0

pub returns-then-not-insert-clause-counts : goal.returns-then-not-insert-clause-counts
returns-then-not-insert-clause-counts g c =
    (tried_if _ c.args.self.now.steps c.count_try_if.ensures).0

pub enter-requires-clause-boundary : goal.enter-requires-clause-boundary
enter-requires-clause-boundary g c = c.requires.below.2

pub returns-clause-counts : goal.returns-clause-counts
returns-clause-counts g c =
    (entered_within _ c.args.self.now.steps
    (entered_if _ c.args.self.now.steps c.count_try_if.ensures
    c.look_on_entry-found.ensures.counted) c.requires.entered_tried c.requires.looked_entered).0

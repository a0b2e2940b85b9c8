use Rattle.regex_lite_engine.proofs.Common.{◌≡◌, ◌+◌, ◌^◌, ◌<◌, arith, whole_places}
use Rattle.regex_lite_engine.proofs.ArrowBoundLemmas.{arrows_few}
use Rattle.regex_lite_engine.proofs.count.ReadingCountLemmas.{reading_few}
use Rattle.regex_lite_engine.proofs.count.totals.Totals.with.Goals as goal

pub overflow_add-result : goal.overflow_add-result
overflow_add-result c =
    let tree = c.requires.counted.0 in
    let regular = c.requires.counted.1 in
    let counted = c.requires.counted.2 in
    let few : whole_places tree < 2 ^ 32 = omega (arith, counted.places, c.in-Ok.ensures) in
    omega (
      arith,
      c.arrows.ensures tree counted regular few,
      arrows_few tree regular,
      c.requires.few_arrows,
    )

pub overflow_add-result-2 : goal.overflow_add-result-2
overflow_add-result-2 c =
    let tree = c.requires.counted.0 in
    let counted = c.requires.counted.2 in
    let few : whole_places tree < 2 ^ 32 = omega (arith, counted.places, c.in-Ok.ensures) in
    omega (arith, c.reading.ensures tree counted few, reading_few tree, c.requires.few_reading)

pub returns-clause-ok : goal.returns-clause-ok
returns-clause-ok c = λ tree regular counted.
    let few : whole_places tree < 2 ^ 32 = omega (arith, counted.places, c.in-Ok.ensures) in
    let places : c.in-Ok.places ≡ c.args.self.places + whole_places tree
    = omega (arith, counted.places, c.in-Ok.ensures) in
    let arrows = c.arrows.ensures tree counted regular few in
    let reading = c.reading.ensures tree counted few in
    record {
      places = places;
      arrows = omega (arith, arrows);
      reading = omega (arith, reading);
      few_arrows = omega (arith, places, arrows, arrows_few tree regular, c.requires.few_arrows);
      few_reading = omega (arith, places, reading, reading_few tree, c.requires.few_reading);
    }

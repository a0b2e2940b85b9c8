use Rattle.regex_lite_engine.proofs.Common.{ap, ◌∙◌, arith}
use Rattle.regex_lite_engine.specs.declared.backtrack.visited.PairMap.TheVariants.{Few, Many}
use Rattle.regex_lite_engine.specs.declared.backtrack.visited.PairMap.TheVariants.{Stamps}
use Rattle.regex_lite_engine.specs.Backtrack.Machine.{pair_number}
use Rattle.regex_lite_engine.specs.Backtrack.PairMaps.{room_of, stamped}
use Rattle.regex_lite_engine.specs.contracts.backtrack.visited.Visited.{the_view}
use Rattle.regex_lite_engine.proofs.backtrack.PairMapLemmas.{number_inside, found_in_pairs}
use Rattle.regex_lite_engine.proofs.backtrack.PairMapLemmas.{set_in_pairs, found_by_stamp}
use Rattle.regex_lite_engine.proofs.backtrack.PairMapLemmas.{stamped_now}
use Rattle.regex_lite_engine.proofs.backtrack.visited.Visited.insert.Goals.{in-Few, in-Many}
use Rattle.regex_lite_engine.proofs.backtrack.visited.Visited.insert.Goals.{in-Stamps}
use Rattle.regex_lite_engine.proofs.backtrack.visited.Visited.insert.Goals as goal

pub overflow_mul-pair : goal.overflow_mul-pair
overflow_mul-pair c =
    let a = c.args in
    let inside = number_inside c.self.inside c.self.view_is a.place a.at c.requires.inside in
    omega (arith, inside)

pub overflow_add-pair : goal.overflow_add-pair
overflow_add-pair c =
    let a = c.args in
    let inside = number_inside c.self.inside c.self.view_is a.place a.at c.requires.inside in
    omega (arith, inside)

pub set_bit-requires : goal.set_bit-requires
set_bit-requires c =
    let a = c.args in
    let inside = number_inside c.self.inside c.self.view_is a.place a.at c.requires.inside in
    let room = ap room_of c.in-Few.is in
    omega (arith, inside, c.self.invariant, room)

pub set_bit_beyond-requires : goal.set_bit_beyond-requires
set_bit_beyond-requires c =
    let a = c.args in
    let inside = number_inside c.self.inside c.self.view_is a.place a.at c.requires.inside in
    let room = ap room_of c.in-Many.is in
    omega (arith, inside, c.self.invariant, room)

pub stamp-requires : goal.stamp-requires
stamp-requires c =
    let a = c.args in
    let inside = number_inside c.self.inside c.self.view_is a.place a.at c.requires.inside in
    let each = rw c.in-Stamps.is at c.self.invariant.2 in
    omega (arith, inside, each)

pub returns-clause-fresh : goal.returns-clause-fresh
returns-clause-fresh c =
    let a = c.args in
    let v = c.self.inside in
    let inside = number_inside v c.self.view_is a.place a.at c.requires.inside in
    elim c.match-self.branch [
      | in-Few w ↦
          rw w.result-is
          (found_in_pairs v c.self.view_is a.place a.at (Few w.in-Few.words) w.in-Few.is
          w.set_bit.result (w.set_bit.ensures.fresh v.count inside))
      | in-Many w ↦
          rw w.result-is
          (found_in_pairs v c.self.view_is a.place a.at (Many w.in-Many.words) w.in-Many.is
          w.set_bit_beyond.result (w.set_bit_beyond.ensures.fresh v.count inside))
      | in-Stamps w ↦
          rw w.result-is
          (found_in_pairs v c.self.view_is a.place a.at
          (Stamps w.in-Stamps.stamps w.in-Stamps.generation) w.in-Stamps.is w.stamp.result
          (found_by_stamp w.in-Stamps.stamps.items w.in-Stamps.generation v.count
          (pair_number v.places v.first a.place a.at) w.stamp.result inside
          w.stamp.ensures.fresh))
    ]

pub returns-clause-added : goal.returns-clause-added
returns-clause-added c =
    let a = c.args in
    let v = c.self.inside in
    let inside = number_inside v c.self.view_is a.place a.at c.requires.inside in
    elim c.match-self.branch [
      | in-Few w ↦
          ap the_view w.self-inside-is
          ∙ set_in_pairs v c.self.view_is a.place a.at (Few w.in-Few.words) w.in-Few.is
          (Few w.set_bit.new.words) (w.set_bit.ensures.set v.count inside)
      | in-Many w ↦
          ap the_view w.self-inside-is
          ∙ set_in_pairs v c.self.view_is a.place a.at (Many w.in-Many.words) w.in-Many.is
          (Many w.set_bit_beyond.new.words) (w.set_bit_beyond.ensures.set v.count inside)
      | in-Stamps w ↦
          let stamps = w.in-Stamps.stamps.items in
          let generation = w.in-Stamps.generation in
          let pair = pair_number v.places v.first a.place a.at in
          let each = rw w.in-Stamps.is at c.self.invariant.2 in
          ap the_view w.self-inside-is
          ∙ set_in_pairs v c.self.view_is a.place a.at (Stamps w.in-Stamps.stamps generation)
          w.in-Stamps.is (Stamps w.stamp.new.stamps generation)
          (ap (λ z. stamped z generation v.count) w.stamp.ensures.set
          ∙ stamped_now stamps generation v.count pair (omega (arith, inside, each)) inside)
    ]

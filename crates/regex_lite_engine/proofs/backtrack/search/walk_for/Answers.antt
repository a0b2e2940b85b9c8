use Rattle.regex_lite_engine.proofs.Common.{◌∙◌, None, ap, arith, length, length-map}
use Rattle.regex_lite_engine.proofs.Common.{length-replicate, place_of}
use Rattle.std.proofs.lemmas.Grind.{elements}
use Rattle.regex_lite_engine.proofs.backtrack.search.walk_for.Goals as goal

-- It has an answer because the prover would try other calls first, which takes long
pub returns : goal.returns
returns c = record {
  fresh = grind (arith, elements);
  width = ap length c.in_ok-stack.ensures.row ∙ length-replicate c.args.slots None;
  countable =
      let places = c.places.ensures in
      let all = length-map c.args.table.now.places place_of in record {
        few_places = omega (arith, all, places.same, places.few);
        few_arrows = places.few_arrows;
      };
}

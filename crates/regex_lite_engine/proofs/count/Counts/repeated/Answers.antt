use Rattle.regex_lite_engine.proofs.Common.{◌*◌, ap, arith, places, arrows, reading_places}
use Rattle.regex_lite_engine.specs.Graph.PlaceCounts.{choice_arrows, ranges}
use Rattle.regex_lite_engine.proofs.count.Counts.repeated.Goals as goal

pub returns : goal.returns
returns c = λ body greedy counted.
    let p = c.times.ensures (places body) counted.places in
    let a = c.times-2.ensures (arrows body) counted.arrows in
    let o = c.times-3.ensures (choice_arrows body) counted.choice_arrows in
    let t = c.times-4.ensures (reading_places body) counted.reading in
    let r = c.times-5.ensures (ranges body) counted.ranges in
    record {
      places = cc;
      arrows = cc;
      choice_arrows = cc;
      reading = omega (arith, t, ap (λ n. n * reading_places body) c.copies-copies.ensures);
      ranges = omega (arith, r, ap (λ n. n * ranges body) c.copies-copies.ensures);
      names_size = counted.names_size;
      properties = c.repeated.ensures c.args.most greedy body counted.properties;
    }

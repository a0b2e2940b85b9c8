use Rattle.regex_lite_meta.proofs.Common.{◌^◌, ◌<◌, length, ap, arith}
use Rattle.regex_lite_meta.proofs.lazy_dfa.list_spans.ListSpanSearcher.find_anchored.Goals as goal

pub find_anchored-requires : goal.find_anchored-requires
find_anchored-requires g c =
    let list = c.args.list.now in
    let reported = c.entries-entries.ensures in
    let few : length list.entries < 2 ^ 32 = omega (arith, reported.few, ap length reported.same) in
    record {
      boundary = c.requires.boundary;
      between = rw c.requires.finds.table (c.requires.finds.goes_on c.requires.some).0;
      countable = rw c.requires.finds.table (c.requires.finds.goes_on c.requires.some).1;
      few = rw c.requires.finds.entries few;
    }

pub returns-clause-found : goal.returns-clause-found
returns-clause-found g c =
    rw (c.requires.finds.table, c.requires.finds.entries) at c.find_anchored.ensures.found

use Rattle.regex_lite_meta.proofs.Common.{arith}
use Rattle.regex_lite_meta.proofs.lazy_dfa.ReachLemmas.{left_after, reads_one}
use Rattle.regex_lite_meta.proofs.lazy_dfa.reach.reading_in.Goals.{then-reads, else-reads}
use Rattle.regex_lite_meta.proofs.lazy_dfa.reach.reading_in.Goals as goal

pub places-preserved : goal.places-preserved
places-preserved c =
    let places = c.args.places.now in
    let q = c.places.q in
    let v = c.places.invariant in
    let here = c.index-places-q.result in
    let next = left_after places q here c.places-test.true c.index-places-q.is in
    elim c.if-reads.branch [
      | then-reads w ↦
          let few = reads_one here in
          record {
            all = omega (arith, v.all, next, few, w.reading-is);
            few = omega (arith, v.few, w.reading-is);
          }
      | else-reads w ↦
          let none = c.reads.ensures w.if-reads.false in
          record {
            all = omega (arith, v.all, next, none, w.reading-is);
            few = omega (arith, v.few, w.reading-is);
          }
    ]

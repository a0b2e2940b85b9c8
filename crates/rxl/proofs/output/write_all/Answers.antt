use Rattle.std.proofs.Common.{◌++◌, take, ap, sym, ◌∙◌}
use Rattle.rxl.proofs.OutputLemmas.{appends_more, appends_kept, front_written}
use Rattle.rxl.proofs.output.write_all.Goals as goal
use Rattle.rxl.proofs.output.write_all.Goals.{in-Ok, in-Err}

pub loop-preserved : goal.loop-preserved
loop-preserved g c =
    let held = c.loop.invariant in
    let bytes = g.W.Write.contents c.args.out.now in
    let before = g.W.Write.contents c.loop.out in
    let after = g.W.Write.contents c.write.new.self in
    elim c.match-write.branch [
      | in-Ok w ↦ record {
        written = held.written ++ take w.in-Ok.count c.loop.rest.now;
        appended = appends_more bytes before after held.written
            (take w.in-Ok.count c.loop.rest.now) held.appended w.in-Ok.ensures.bytes;
        parts = front_written c.args.bytes.now held.written c.loop.rest.now w.in-Ok.count held.parts
            ∙ ap (λ left. (held.written ++ take w.in-Ok.count c.loop.rest.now) ++ left)
            (sym (ap (λ rest. rest.now) w.rest-is ∙ w.rest_after-rest.ensures));
      }
      | in-Err w ↦ record {
        written = held.written;
        appended =
            appends_kept bytes before after held.written held.appended w.in-Err.ensures.bytes;
        parts = held.parts ∙ ap (λ rest. held.written ++ rest.now) (sym w.rest-is);
      }
    ]

use Rattle.std.proofs.Common.{◌≡◌, ◌+◌, ◌-◌, ◌<◌, ◌∙◌, ◌++◌, [], take, length, sym, ap}
use Rattle.std.proofs.Common.{arith, append-nil, eqb-true}
use Rattle.std.proofs.KnownBytes.{Consumes-kept, Consumes-nil}
use Rattle.std.proofs.lemmas.Bool.{false≢true}
use Rattle.std.proofs.lemmas.List.{with_items_is}
use borrow.Rule.Slice.PartMut.{post_of, put_mid}
use Rattle.line_filter.proofs.BlockLemmas.{held_in, long_as_before, read_in}
use Rattle.line_filter.proofs.blocks.InputBlock.read_from.Goals as goal

pub returns-in-Ok-clause-read : goal.returns-in-Ok-clause-read
returns-in-Ok-clause-read g c =
    let filled = c.self.inside.filled in
    let bytes = c.deref_mut.result.now in
    let buf = c.read.new.buf in
    let after = post_of filled (length bytes - filled) bytes in
    let count = c.in-Ok.count in
    let value = c.deref_mut.ensures.value in
    let within : filled < length bytes =
    omega (arith, c.in_ok-make_room.ensures.room, ap length value) in
    let held : take filled bytes ≡ c.args.self.now =
    ap (take filled) value ∙ c.in_ok-make_room.ensures.held ∙ c.self.view_is in
    let long = long_as_before filled bytes buf (omega (arith, within))
    (omega (arith, c.read.auto.buf, within)) in
    let items = with_items_is c.make_room.new.bytes
    (put_mid filled (length bytes - filled) bytes buf)
    (omega (arith, long, c.deref_mut.ensures.len)) in
    let room : 0 < length buf = omega (arith, within, c.read.auto.buf) in (
      take count buf,
      ap (take (filled + count)) items
          ∙ read_in filled count bytes buf after (omega (arith, within)) c.in-Ok.ensures.bound.0
          ∙ ap (λ l. l ++ take count buf) held,
      c.in-Ok.ensures.bytes.0,
      λ none. c.in-Ok.ensures.bytes.1 (eqb-true count 0 none) room,
    )

pub returns-in-Err-clause-read : goal.returns-in-Err-clause-read
returns-in-Err-clause-read g c =
    let filled = c.self.inside.filled in
    let bytes = c.deref_mut.result.now in
    let buf = c.read.new.buf in
    let after = post_of filled (length bytes - filled) bytes in
    let value = c.deref_mut.ensures.value in
    let within : filled < length bytes =
    omega (arith, c.in_ok-make_room.ensures.room, ap length value) in
    let held : take filled bytes ≡ c.args.self.now =
    ap (take filled) value ∙ c.in_ok-make_room.ensures.held ∙ c.self.view_is in
    let long = long_as_before filled bytes buf (omega (arith, within))
    (omega (arith, c.read.auto.buf, within)) in
    let items = with_items_is c.make_room.new.bytes
    (put_mid filled (length bytes - filled) bytes buf)
    (omega (arith, long, c.deref_mut.ensures.len)) in (
      [],
      ap (take filled) items ∙ held_in filled bytes (buf ++ after) (omega (arith, within)) ∙ held
          ∙ sym (append-nil c.args.self.now),
      Consumes-kept _ _ _ [] (Consumes-nil _) c.in-Err.ensures.bytes,
      λ is. absurd (false≢true is),
    )

use Rattle.regex_lite_engine.proofs.Common.{◌∷◌, map, reverse, length, ap, ◌∙◌, arith, Held}
use Rattle.regex_lite_engine.specs.Backtrack.Machine.{frame_of}
use Rattle.regex_lite_engine.proofs.backtrack.StackLemmas.{frames_long, held_is, last_is_next}
use Rattle.regex_lite_engine.proofs.backtrack.stack.Stack.push.Goals as goal

pub push_reserved-requires : goal.push_reserved-requires
push_reserved-requires c =
    let i = c.self.inside in let v = c.self.view_is in
    let long = frames_long i.frames.items in
    let held = ap (λ (z : Held). length z.frames) v in
    let room = ap (λ (z : Held). z.room) v in
    omega (arith, long, held, room, c.requires)

pub returns : goal.returns
returns c =
    let i = c.self.inside in let v = c.self.view_is in
    held_is _ _
    (ap (λ items. reverse (map frame_of items)) c.push_reserved.ensures.items
    ∙ last_is_next i.frames.items c.args.frame
    ∙ ap (λ frames. frame_of c.args.frame ∷ frames) (ap (λ (z : Held). z.frames) v))
    (ap (λ (z : Held). z.row) v)
    (c.push_reserved.ensures.capacity ∙ ap (λ (z : Held). z.room) v)

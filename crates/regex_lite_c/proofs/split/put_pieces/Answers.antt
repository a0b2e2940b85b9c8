use Rattle.regex_lite_c.proofs.Common.{◌≡◌, length, slice_set, Some, chars, unwrap_or, refl, ap}
use Rattle.regex_lite_c.proofs.Common.{◌∙◌, subst, arith, ahead_of, found_span, span_of, ended_of}
use Rattle.regex_lite_c.specs.Cuts.{ArePiecesListed}
use Rattle.regex_lite_c.proofs.split.CutLemmas.{cut_stage, full_of_pieces, last_piece}
use Rattle.regex_lite_c.proofs.split.CutLemmas.{one_piece_more}
use Rattle.regex_lite_c.proofs.split.put_pieces.Goals as goal

pub returns-in-None-clause-listed : goal.returns-in-None-clause-listed
returns-in-None-clause-listed c =
    let start = cut_stage (ahead_of c.args.matches.now) c.args.cut.now.walk c.args.pieces.now in
    let now = cut_stage (ahead_of c.loop-k.matches) c.loop-k.cut.walk c.loop-k.pieces in
    let from = c.unwrap_or-from.ensures ∙ ap (λ e. unwrap_or e 0) c.ended.ensures in
    last_piece start now c.loop-k.k c.between-in-None.result c.loop-k.invariant.0
    (omega (arith, c.loop-k-test.true, c.loop-k.auto.pieces)) c.loop-k.auto.pieces
    c.in-None.ensures.steps.over
    (c.between-in-None.ensures ∙ ap (λ n. span_of (Some (n, c.args.len))) from
    ∙ ap (λ n. span_of (Some (unwrap_or (ended_of now.walk) 0, n))) c.requires.len)

pub loop-k-preserved : goal.loop-k-preserved
loop-k-preserved c =
    let start = cut_stage (ahead_of c.args.matches.now) c.args.cut.now.walk c.args.pieces.now in
    let now = cut_stage (ahead_of c.loop-k.matches) c.loop-k.cut.walk c.loop-k.pieces in
    let piece = c.between.result in
    let next = cut_stage (ahead_of c.next.new.self) c.after-cut.result
    (slice_set c.loop-k.pieces c.loop-k.k piece) in
    let step = c.in-Some.ensures.steps in
    let own = found_span (chars now.ahead.haystack) step.0 in
    let from = c.unwrap_or-from.ensures ∙ ap (λ e. unwrap_or e 0) c.ended.ensures in
    let to : c.start.result ≡ own.0 = c.start.ensures ∙ ap (λ s. s.0) step.1.span in (
      one_piece_more start now next c.loop-k.k c.loop-k.invariant.0 c.loop-k.auto.pieces (record {
        found = step.0;
        piece = piece;
        below = omega (arith, c.loop-k-test.true, c.loop-k.auto.pieces);
        passes = step.4;
        before = c.between.ensures ∙ ap (λ n. span_of (Some (n, c.start.result))) from
            ∙ ap (λ n. span_of (Some (unwrap_or (ended_of now.walk) 0, n))) to;
        written = refl;
        ends = c.after-cut.ensures
            ∙ ap Some (ap (λ s. s.end) c.of.ensures ∙ ap (λ s. s.1) step.1.span);
      }),
      c.loop-k.invariant.1,
    )

pub returns-clause-listed : goal.returns-clause-listed
returns-clause-listed c =
    let start = cut_stage (ahead_of c.args.matches.now) c.args.cut.now.walk c.args.pieces.now in
    let all : c.loop-k.k ≡ length c.loop-k.pieces =
    omega (arith, c.loop-k-test.false, c.loop-k.auto.k-end, c.loop-k.auto.pieces) in
    subst (ArePiecesListed start.ahead (ended_of start.walk) c.loop-k.cut start.spans
    c.loop-k.pieces) all
    (full_of_pieces start c.loop-k.cut (ahead_of c.loop-k.matches) c.loop-k.pieces c.loop-k.k
    c.loop-k.invariant.0 (omega (arith, all, c.loop-k.auto.pieces)) c.loop-k.invariant.1)

use Rattle.regex_lite.proofs.Common.{[], ◌++◌, string_bytes, sym, refl, ap, ◌∙◌, subst, rules}
use Rattle.regex_lite.proofs.Common.{append_assoc, IsInterpolation, texts_of}
use Rattle.std.proofs.lemmas.List.{append-nil}
use Rattle.regex_lite_engine.specs.Interpolation.{piece_and_rest, nothing, piece_text}
use Rattle.regex_lite_engine.specs.Interpolation.Pieces.{piece_of}
use Rattle.regex_lite_engine.proofs.laws.templates.OneTextLemmas.{one_text}
use Rattle.regex_lite.proofs.ReplacementLemmas.{handed_on}
use Rattle.regex_lite.proofs.string.captures.Captures.expand.Goals as goal

pub returns-in_err-push_piece-clause-begun : goal.returns-in_err-push_piece-clause-begun
returns-in_err-push_piece-clause-begun c =
    let so_far = c.pieces.invariant.so_far in
    let left = one_text (texts_of c.args.self.now) c.pieces.rest.now in
    handed_on c.from_residual.result c.from_residual.ensures.1 (λ e is.
    (so_far.0, (left.0, so_far.2 left.0 left.1), c.in_err-push_piece.ensures.same ∙ so_far.1))

pub pieces-preserved : goal.pieces-preserved
pieces-preserved c =
    let groups = texts_of c.args.self.now in
    let so_far = c.pieces.invariant.so_far in
    let given = piece_text groups (piece_of c.in-Some.piece) in
    record {
      text = search rules;
      so_far = (
        so_far.0 ++ given,
        c.in_ok-push_piece.ensures.ok ∙ ap (λ x. x ++ given) so_far.1
            ∙ append_assoc _ so_far.0 given,
        λ more is. subst (IsInterpolation groups c.args.template.now)
            (sym (append_assoc so_far.0 given more)) (so_far.2 (given ++ more) (piece_and_rest
            (piece_of c.in-Some.piece) c.in-Some.after.now more c.in-Some.ensures.cut is refl)),
      );
    }

pub returns-clause-ok : goal.returns-clause-ok
returns-clause-ok c =
    let so_far = c.pieces.invariant.so_far in (
      so_far.0 ++ [],
      so_far.2 [] (nothing c.in_default.ensures.cut refl),
      so_far.1 ∙ ap (λ x. string_bytes c.args.dst.now ++ x) (sym (append-nil so_far.0)),
    )

use Rattle.regex_lite.proofs.Common.{true, false, string_bytes, sym, ap, ◌∙◌}
use Rattle.std.proofs.Common.{append-nil}
use Rattle.std.proofs.lemmas.Str.{IsUtf8-past_char}
use Rattle.regex_lite.proofs.string.escape.EscapeLemmas.{all_written, one_more}
use Rattle.regex_lite.proofs.string.escape.escape.Goals as goal
use Rattle.regex_lite.proofs.string.escape.escape.Goals.{
  then-is_meta_character+in_ok-push,
  else-is_meta_character,
}

pub loop-c-preserved : goal.loop-c-preserved
loop-c-preserved c =
    let held = c.loop-c.invariant in
    let parts = c.in-Some.ensures.steps.0 in
    record {
      text = IsUtf8-past_char _ _ c.in-Some.c held.text parts;
      so_far = elim c.if-is_meta_character.branch [
        | then-is_meta_character+in_ok-push w ↦
            one_more _ _ _ _ _ _ c.in-Some.c true held.text parts
            (sym c.is_meta_character.ensures ∙ w.if-is_meta_character.true)
            (ap string_bytes w.escaped-is ∙ w.in_ok-push.ensures.bytes) c.in_ok-push-2.ensures.bytes
            held.so_far
        | else-is_meta_character w ↦
            one_more _ _ _ _ _ _ c.in-Some.c false held.text parts
            (sym c.is_meta_character.ensures ∙ w.if-is_meta_character.false)
            (ap string_bytes w.escaped-is ∙ sym (append-nil _)) c.in_ok-push-2.ensures.bytes
            held.so_far
      ];
    }

pub returns-clause-ok : goal.returns-clause-ok
returns-clause-ok c = all_written _ _ _ c.in-None.ensures.steps.0.0 c.loop-c.invariant.so_far

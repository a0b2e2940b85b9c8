-- What is returned of a pattern whose parts are written, or don't fit.
use Rattle.regex_lite_c.proofs.Common.{◌≡◌, ℕ, ◌<◌, ◌≤◌, List, IsUtf8, length, refl, arith}
use Rattle.regex_lite_c.proofs.Common.{AreWrittenAs, NO_ROOM, YES}
use Rattle.regex_lite_syntax.specs.declared.hir.outline.Part.{Part}
use Rattle.regex_lite.specs.Settings.{Settings}
use Rattle.regex_lite_c.specs.Outlines.{AreThisMany, IsOutlineAnswer, written_part}
use Rattle.regex_lite_c.specs.declared.outline.part.Outlined.{Outlined}
use Rattle.regex_lite_c.specs.declared.outline.part.WrittenPart.{WrittenPart}
use Rattle.regex_lite_c.proofs.AnswerLemmas.{yes_or_no_room}

pub parts_reported : (settings : Settings) (answer : ℕ) (own : List Part)
    (old parts : List WrittenPart) (message : List ℕ) (reported : Outlined) → IsUtf8
    settings.pattern → AreThisMany settings reported.count own → reported.message_len ≡ 0
    → (reported.count ≤ length old → (answer ≡ YES) × AreWrittenAs written_part own old parts)
    → (length old < reported.count → (answer ≡ NO_ROOM) × (parts ≡ old))
    → IsOutlineAnswer settings answer old parts message message reported
parts_reported settings answer own old parts message reported utf8 are unsaid written no_room =
    let is = yes_or_no_room (length old) reported.count answer written no_room in
    record {
      written = λ yes. (own, are, is.1 yes);
      no_room = λ full. (own, are, (is.2 (λ yes. omega (arith, full, yes))).1);
      same = λ other. (is.2 other).2;
      not_text = (
        λ bad _. let full = (is.2 (λ yes. omega (arith, bad, yes))).0 in omega (arith, bad, full),
        λ none. absurd (none utf8),
      );
      refused = λ other more. absurd (more (is.2 other).0);
      complete = λ other more. absurd (more (is.2 other).0);
      none_reported = λ other more. absurd (more (is.2 other).0);
      no_message = λ _. (unsaid, refl);
    }

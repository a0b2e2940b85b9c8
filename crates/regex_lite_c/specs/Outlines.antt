-- What is returned and written for the outline of a pattern.
use Rattle.std.specs.Prelude.{◌≡◌, ◌≢◌, ◌⊎◌, ◌↔◌, ◌<◌, ℕ, List, IsUtf8}
use Rattle.std.specs.Prelude.{false, is_some, length, unwrap_or}
use Rattle.regex_lite_syntax.specs.declared.hir.look.Look.{Look}
use Rattle.regex_lite_syntax.specs.declared.hir.look.Look.TheVariants as look
use Rattle.regex_lite_syntax.specs.declared.hir.outline.Part.{Part}
use Rattle.regex_lite_syntax.specs.declared.hir.outline.PartKind.{PartKind}
use Rattle.regex_lite_syntax.specs.declared.hir.outline.PartKind.TheVariants as kind
use Rattle.regex_lite.specs.Outlines.{AreParts, IsDueOnReading, IsReadable}
use Rattle.regex_lite.specs.Settings.{Settings}
use Rattle.regex_lite_c.specs.Building.{IsRefusedFor}
use Rattle.regex_lite_c.specs.Spans.{AreWrittenAs}
use Rattle.regex_lite_c.specs.declared.answer.TheConstants.{YES, NOT_TEXT, NO_ROOM, OUT_OF_MEMORY}
use Rattle.regex_lite_c.specs.declared.outline.kinds.TheConstants.{EMPTY, CHAR, CLASS, RANGE, LOOK}
use Rattle.regex_lite_c.specs.declared.outline.kinds.TheConstants.{REPETITION, CAPTURE, CONCAT}
use Rattle.regex_lite_c.specs.declared.outline.kinds.TheConstants.{ALTERNATION}
use Rattle.regex_lite_c.specs.declared.outline.part.Outlined.{Outlined}
use Rattle.regex_lite_c.specs.declared.outline.part.WrittenPart.{WrittenPart}

-- the number of a look
abbrev pub number_of_look : Look → ℕ
number_of_look look.Start = 1
number_of_look look.End = 2
number_of_look look.StartLF = 3
number_of_look look.EndLF = 4
number_of_look look.StartCRLF = 5
number_of_look look.EndCRLF = 6
number_of_look look.Word = 7
number_of_look look.WordNegate = 8
number_of_look look.WordStart = 9
number_of_look look.WordEnd = 10
number_of_look look.WordStartHalf = 11
number_of_look look.WordEndHalf = 12

-- a part of the kind with this number, with all other fields 0 or false
abbrev pub part_of_kind : (depth number : ℕ) → WrittenPart
part_of_kind depth number = record {
  depth = depth;
  kind = number;
  first = 0;
  last = 0;
  look = 0;
  index = 0;
  least = 0;
  most = 0;
  has_most = false;
  greedy = false;
}

-- a part of this kind at this depth, as it is written
abbrev pub written_at : (depth : ℕ) → PartKind → WrittenPart
written_at depth kind.Empty = part_of_kind depth EMPTY
written_at depth (kind.Char c) = record (part_of_kind depth CHAR) { first = c; last = c }
written_at depth kind.Class = part_of_kind depth CLASS
written_at depth (kind.Range range) =
    record (part_of_kind depth RANGE) { first = range.start; last = range.end }
written_at depth (kind.Look test) =
    record (part_of_kind depth LOOK) { look = number_of_look test }
written_at depth (kind.Repetition least most greedy) =
    record (part_of_kind depth REPETITION) {
      least = least;
      most = unwrap_or most 0;
      has_most = is_some most;
      greedy = greedy;
    }
written_at depth (kind.Capture index) = record (part_of_kind depth CAPTURE) { index = index }
written_at depth kind.Concat = part_of_kind depth CONCAT
written_at depth kind.Alternation = part_of_kind depth ALTERNATION

-- a part, as it is written
abbrev pub written_part : Part → WrittenPart
written_part part = written_at part.depth part.kind

-- under these settings the pattern has this number of parts
abbrev pub AreThisMany : Settings → (count : ℕ) → List Part → Type 0
AreThisMany settings count own = AreParts settings own × (count ≡ length own)

-- the answer for the outline of a pattern, which may be any bytes, under these settings; the buffer
-- for the parts and that for a message before and after, and what is written
pub record IsOutlineAnswer (settings : Settings) (answer : ℕ) (old_parts parts : List WrittenPart)
    (old new : List ℕ) (reported : Outlined) : Type 0 where
  pub written : answer ≡ YES → (own : List Part) × AreThisMany settings reported.count own
      × AreWrittenAs written_part own old_parts parts
  pub no_room : answer ≡ NO_ROOM → (own : List Part) × AreThisMany settings reported.count own
      × (length old_parts < reported.count)
  pub same : answer ≢ YES → parts ≡ old_parts
  pub not_text : (answer ≡ NOT_TEXT) ↔ (IsUtf8 settings.pattern → ⊥)
  pub refused : answer ≢ YES → answer ≢ NO_ROOM → IsUtf8 settings.pattern
      → IsRefusedFor (IsDueOnReading settings) answer old new reported.message_len
  -- if the pattern has a tree and exceeds neither limit on reading it, the only error is that
  -- memory ran out
  pub complete : answer ≢ YES → answer ≢ NO_ROOM → IsUtf8 settings.pattern → IsReadable settings
      → answer ≡ OUT_OF_MEMORY
  pub none_reported : answer ≢ YES → answer ≢ NO_ROOM → reported.count ≡ 0
  pub no_message : (IsUtf8 settings.pattern → (answer ≡ YES) ⊎ (answer ≡ NO_ROOM))
      → (reported.message_len ≡ 0) × (new ≡ old)

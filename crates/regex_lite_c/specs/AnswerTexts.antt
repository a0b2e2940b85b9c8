-- The texts of the answers of calls.
use Rattle.std.specs.Prelude.{◌==◌, ℕ, List, codes, if◌then◌else◌}
use Rattle.regex_lite_c.specs.declared.answer.TheConstants.{NO, YES, NOTHING_HELD, NOT_TEXT}
use Rattle.regex_lite_c.specs.declared.answer.TheConstants.{BAD_OFFSET, NO_ROOM, OUT_OF_MEMORY}
use Rattle.regex_lite_c.specs.declared.answer.TheConstants.{NO_GROUP, NO_PATTERN, SYNTAX, NESTING}
use Rattle.regex_lite_c.specs.declared.answer.TheConstants.{GROUPS, SIZE, PLACES, SLOTS}

-- the text of the answer with this number, which needn't be that of an answer
abbrev pub answer_text : (answer : ℕ) → List ℕ
answer_text answer =
    if answer == NO then codes "no match, or nothing is left" else
    if answer == YES then codes "success" else
    if answer == NOTHING_HELD then codes "the handle holds nothing" else
    if answer == NOT_TEXT then codes "the bytes are not valid UTF-8" else
    if answer == BAD_OFFSET then codes "an offset is out of range or inside a character" else
    if answer == NO_ROOM then codes "the room is too small" else
    if answer == OUT_OF_MEMORY then codes "out of memory" else
    if answer == NO_GROUP then codes "there is no group with this index" else
    if answer == NO_PATTERN then codes "there is no pattern with this number" else
    if answer == SYNTAX then codes "the pattern has a syntax error" else
    if answer == NESTING then codes "the pattern exceeds the limit on nesting" else
    if answer == GROUPS then codes "the pattern has too many groups" else
    if answer == SIZE then codes "the pattern exceeds the size limit" else
    if answer == PLACES then codes "the pattern has too many places" else
    if answer == SLOTS then codes "the pattern has too many ends of groups" else
    codes "unknown answer"

-- The text of each rule of the grammar.
use Rattle.std.specs.Prelude.{ℕ, List, codes}
use Rattle.regex_lite_syntax.specs.declared.error.syntax.SyntaxFault.{SyntaxFault}
use Rattle.regex_lite_syntax.specs.declared.error.syntax.SyntaxFault.TheVariants.{
  CutShort,
  DeadEnd,
  DuplicateCaptureName,
  UnopenedGroup,
  LookUnsupported,
  EmptyFlags,
  InvalidGroupName,
  EmptyGroupName,
  FlagUnrecognized,
  FlagRepeatedNegation,
  FlagDuplicate,
  FlagDanglingNegation,
  DecimalNoDigits,
  DecimalInvalid,
  HexBraceInvalidDigit,
  HexBraceEmpty,
  HexBraceInvalid,
  HexFixedInvalidDigit,
  HexFixedInvalid,
  BackreferenceUnsupported,
  UnicodeClassUnsupported,
  EscapeUnrecognized,
  UncountedRepetitionSubMissing,
  CountedRepetitionSubMissing,
  CountedRepetitionInvalid,
  CountedRepetitionInvalidRange,
  ClassInvalidRangeItem,
  ClassInvalidItem,
  ClassInvalidRange,
  ClassNestUnsupported,
  ClassIntersectionUnsupported,
  ClassDifferenceUnsupported,
  ClassSymmetricDifferenceUnsupported,
  SpecialWordBoundaryUnclosed,
  SpecialWordBoundaryUnrecognized,
}
use Rattle.regex_lite_syntax.specs.declared.error.unexpected_eof.UnexpectedEof.{UnexpectedEof}
use Rattle.regex_lite_syntax.specs.declared.error.unexpected_eof.UnexpectedEof.TheVariants.{
  Group,
  GroupQuestion,
  GroupName,
  GroupNameEnd,
  Flag,
  FlagOrName,
  Decimal,
  HexBrace,
  HexFixed,
  Hex,
  Escape,
  CountedRepetition,
  CountedRepetitionMin,
  CountedRepetitionComma,
  CountedRepetitionMinMax,
  Class,
  ClassAfterItem,
  ClassAfterDash,
  ClassAfterNegation,
  ClassAfterClosing,
  ClassNest,
  SpecialWordBoundary,
  SpecialWordOrRepetition,
}

-- the text of each part inside which a pattern can end
abbrev pub eof_text : UnexpectedEof → List ℕ
eof_text Group = codes "found open group without closing ')'"
eof_text GroupQuestion = codes "expected closing ')', but got end of pattern"
eof_text GroupName = codes "expected capture group name, but got end of pattern"
eof_text GroupNameEnd = codes "expected end of capture group name, but got end of pattern"
eof_text Flag =
    codes "expected ':' or ')' to end inline flags, but got end of pattern"
eof_text FlagOrName = codes "unrecognized inline flag"
eof_text Decimal = codes "expected decimal number, but found no digits"
eof_text HexBrace =
    codes "expected hexadecimal number, but saw end of pattern before closing brace"
eof_text HexFixed =
    codes "expected fixed length hexadecimal number, but saw end of pattern first"
eof_text Hex = codes "expected hexadecimal number, but saw end of pattern first"
eof_text Escape =
    codes "saw start of escape sequence, but saw end of pattern before it finished"
eof_text CountedRepetition = codes "found unclosed counted repetition operator"
eof_text CountedRepetitionMin =
    codes "found incomplete and unclosed counted repetition operator"
eof_text CountedRepetitionComma =
    codes "found counted repetition operator with a comma that is unclosed"
eof_text CountedRepetitionMinMax =
    codes "found counted repetition with min and max that is unclosed"
eof_text ClassAfterItem = codes "non-empty character class has no closing bracket"
eof_text ClassAfterDash =
    codes "non-empty character class has no closing bracket after dash"
eof_text ClassAfterNegation = codes "negated character class has no closing bracket"
eof_text ClassAfterClosing =
    codes "character class begins with literal ']' but has no closing bracket"
eof_text Class = codes "found unclosed character class"
eof_text ClassNest = codes "nested character classes are not supported"
eof_text SpecialWordBoundary =
    codes "special word boundary assertion is unclosed or has an invalid character"
eof_text SpecialWordOrRepetition =
    codes "found start of special word boundary or repetition without an end"

-- the text of each rule of the grammar that a pattern can break
abbrev pub fault_text : SyntaxFault → List ℕ
fault_text (CutShort part) = eof_text part
fault_text (DeadEnd part) = eof_text part
fault_text DuplicateCaptureName = codes "duplicate capture group name"
fault_text UnopenedGroup = codes "found closing ')' without matching '('"
fault_text LookUnsupported = codes "look-around is not supported"
fault_text EmptyFlags = codes "empty flag directive '(?)' is not allowed"
fault_text InvalidGroupName = codes "invalid group name"
fault_text EmptyGroupName = codes "empty capture group names are not allowed"
fault_text FlagUnrecognized = codes "unrecognized inline flag"
fault_text FlagRepeatedNegation = codes "inline flag negation cannot be repeated"
fault_text FlagDuplicate = codes "duplicate inline flag is not allowed"
fault_text FlagDanglingNegation = codes "inline flags cannot end with negation directive"
fault_text DecimalNoDigits = codes "expected decimal number, but found no digits"
fault_text DecimalInvalid = codes "got invalid decimal number"
fault_text HexBraceInvalidDigit =
    codes "expected hexadecimal number in braces, but got non-hex digit"
fault_text HexBraceEmpty = codes "expected hexadecimal number in braces, but got no digits"
fault_text HexBraceInvalid = codes "got invalid hexadecimal number in braces"
fault_text HexFixedInvalidDigit =
    codes "expected fixed length hexadecimal number, but got non-hex digit"
fault_text HexFixedInvalid = codes "got invalid fixed length hexadecimal number"
fault_text BackreferenceUnsupported = codes "backreferences are not supported"
fault_text UnicodeClassUnsupported = codes "Unicode character classes are not supported"
fault_text EscapeUnrecognized = codes "unrecognized escape sequence"
fault_text UncountedRepetitionSubMissing =
    codes "uncounted repetition operator must be applied to a sub-expression"
fault_text CountedRepetitionSubMissing =
    codes "counted repetition operator must be applied to a sub-expression"
fault_text CountedRepetitionInvalid =
    codes "expected closing brace for counted repetition, but got something else"
fault_text CountedRepetitionInvalidRange =
    codes "found counted repetition with a min bigger than its max"
fault_text ClassInvalidRangeItem =
    codes "character class ranges must start and end with a single character"
fault_text ClassInvalidItem = codes "invalid escape sequence in character class"
fault_text ClassInvalidRange = codes "invalid range in character class"
fault_text ClassNestUnsupported = codes "nested character classes are not supported"
fault_text ClassIntersectionUnsupported = codes "character class intersection is not supported"
fault_text ClassDifferenceUnsupported = codes "character class difference is not supported"
fault_text ClassSymmetricDifferenceUnsupported =
    codes "character class symmetric difference is not supported"
fault_text SpecialWordBoundaryUnclosed =
    codes "special word boundary assertion is unclosed or has an invalid character"
fault_text SpecialWordBoundaryUnrecognized = codes "special word boundary assertion is unrecognized"

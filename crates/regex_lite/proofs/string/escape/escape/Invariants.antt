use Rattle.regex_lite.proofs.Common.{◌≡◌, ◌++◌, string_bytes, IsUtf8, escaped_pattern}
use Rattle.std.specs.Str.Iter.{chars_rest}
use Rattle.regex_lite.proofs.string.escape.escape.Given as goal

abbrev pub invariant-loop-c : goal.invariant-loop-c
invariant-loop-c l = record {
  text : IsUtf8 (chars_rest l.c-iterator);
  so_far : string_bytes l.escaped ++ escaped_pattern (chars_rest l.c-iterator)
      ≡ escaped_pattern l.fn.pattern;
}

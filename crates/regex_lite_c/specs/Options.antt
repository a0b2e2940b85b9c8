-- The settings that a caller's options stand for.
use Rattle.std.specs.Prelude.{◌-◌, ◌^◌, ℕ, List, min}
use Rattle.regex_lite_syntax.specs.declared.flags.Flags.{Flags}
use Rattle.regex_lite.specs.Settings.{Settings}
use Rattle.regex_lite_c.specs.declared.types.Options.{Options}

abbrev pub flags_of : Options → Flags
flags_of options = record {
  case_insensitive = options.case_insensitive;
  multi_line = options.multi_line;
  dot_matches_new_line = options.dot_matches_new_line;
  crlf = options.crlf;
  swap_greed = options.swap_greed;
  ignore_whitespace = options.ignore_whitespace;
}

-- a pattern, as its bytes, under these options. a nest limit above 2^32 - 2 counts as 2^32 - 2
abbrev pub settings_of : (pattern : List ℕ) → Options → Settings
settings_of pattern options = record {
  pattern = pattern;
  flags = flags_of options;
  nest_limit = min options.nest_limit (2 ^ 32 - 2);
  size_limit = options.size_limit;
}

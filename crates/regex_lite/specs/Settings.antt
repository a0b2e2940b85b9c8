-- The settings of a builder, and those of a builder of lists.
use Rattle.std.specs.Prelude.{ℕ, List, [], false}
use Rattle.regex_lite_syntax.specs.declared.flags.Flags.{Flags}

-- a pattern, as its bytes, and the settings under which it is to be built
pub record Settings : Type 0 where
  pub pattern : List ℕ
  pub flags : Flags
  pub nest_limit : ℕ
  pub size_limit : ℕ

-- all flags are off
abbrev pub no_flags : Flags
no_flags = record {
  case_insensitive = false;
  multi_line = false;
  dot_matches_new_line = false;
  crlf = false;
  swap_greed = false;
  ignore_whitespace = false;
}

-- the settings with which a builder begins
abbrev pub default_settings : List ℕ → Settings
default_settings pattern =
    record { pattern = pattern; flags = no_flags; nest_limit = 50; size_limit = 10485760 }

-- several patterns, each with its own settings, and the settings of the next that is pushed
pub record ListSettings : Type 0 where
  pub patterns : List Settings
  pub flags : Flags
  pub nest_limit : ℕ
  pub size_limit : ℕ

-- the settings with which a builder of lists begins
abbrev pub default_list : ListSettings
default_list =
    record { patterns = []; flags = no_flags; nest_limit = 50; size_limit = 10485760 }

-- the settings of the pattern that is pushed next
abbrev pub settings_of_next : ListSettings → (pattern : List ℕ) → Settings
settings_of_next list pattern = record {
  pattern = pattern;
  flags = list.flags;
  nest_limit = list.nest_limit;
  size_limit = list.size_limit;
}

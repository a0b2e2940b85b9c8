-- Iterators over the names of groups.
use Rattle.std.specs.Prelude.{ℕ, List, Option, map, option_map}
use Rattle.std.specs.Rc.{rc_str_bytes}
use Rattle.regex_lite.specs.declared.string.capture_names.CaptureNames.{CaptureNames}

-- the names that are left, each as its bytes
abbrev pub names_left : CaptureNames → List (Option (List ℕ))
names_left it = map (option_map rc_str_bytes) it.names.now

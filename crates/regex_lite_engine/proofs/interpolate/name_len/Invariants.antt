use Rattle.regex_lite_engine.proofs.Common.{◌≡◌, ℕ, ◌<◌, true, get_or, is_name_character}
use Rattle.regex_lite_engine.proofs.interpolate.name_len.Given as goal

abbrev pub invariant-loop-i : goal.invariant-loop-i
invariant-loop-i l = (k : ℕ) → k < l.i → is_name_character (get_or l.bytes k 0) ≡ true

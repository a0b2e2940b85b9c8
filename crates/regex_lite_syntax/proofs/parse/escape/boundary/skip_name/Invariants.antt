use Rattle.regex_lite_syntax.proofs.Common.{◌≤◌, length, drop, IsTrue, list_all}
use Rattle.regex_lite_syntax.proofs.Common.{is_boundary_character, Spaced, Text}
use Rattle.regex_lite_syntax.proofs.parse.escape.boundary.skip_name.Given as goal

abbrev pub invariant-loop-letter : goal.invariant-loop-letter
invariant-loop-letter l = record {
  inside : (l.at ≤ l.end) × (l.end ≤ length l.chars);
  letters : IsTrue (list_all is_boundary_character (drop l.letter-index l.letter-items));
  -- the letters that are left stand here where the name stands at the start
  goes : (last : Text)
      → Spaced l.verbose is_boundary_character (drop l.letter-index l.letter-items)
      (drop l.end l.chars) last
      → Spaced l.verbose is_boundary_character l.name (drop l.at l.chars) last;
  back : (last : Text) → Spaced l.verbose is_boundary_character l.name (drop l.at l.chars) last
      → Spaced l.verbose is_boundary_character (drop l.letter-index l.letter-items)
      (drop l.end l.chars) last;
}

use Rattle.regex_lite_syntax.proofs.Common.{◌≤◌, length, drop, IsTrue, list_all}
use Rattle.regex_lite_syntax.proofs.Common.{is_boundary_character, EndsInName}
use Rattle.regex_lite_syntax.proofs.parse.escape.boundary.ends_in_name.Given as goal

abbrev pub invariant-loop-letter : goal.invariant-loop-letter
invariant-loop-letter l = record {
  inside : (l.at ≤ l.end) × (l.end ≤ length l.chars);
  letters : IsTrue (list_all is_boundary_character (drop l.letter-index l.letter-items));
  -- it ends inside the letters that are left where it ends inside the name
  goes : EndsInName l.verbose (drop l.letter-index l.letter-items) (drop l.end l.chars)
      → EndsInName l.verbose l.name (drop l.at l.chars);
  back : EndsInName l.verbose l.name (drop l.at l.chars)
      → EndsInName l.verbose (drop l.letter-index l.letter-items) (drop l.end l.chars);
}

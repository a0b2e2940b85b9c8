-- Patterns that end inside the name of a look.
use Rattle.std.specs.Prelude.{◌≡◌, Bool, [], ◌++◌}
use Rattle.regex_lite_syntax.specs.Text.{Text}
use Rattle.regex_lite_syntax.specs.Grammar.Gaps.{Gap, Spaced}
use Rattle.regex_lite_syntax.specs.Grammar.Escapes.{is_boundary_character}

-- the text ends inside this name, or before the brace that would close it: the letters there begin
-- the name, and at most a gap is left after them
pub record EndsInName (verbose : Bool) (name t : Text) : Type 0 where
  pub letters : Text
  pub left : Text
  pub last : Text
  pub whole : name ≡ letters ++ left
  pub written : Spaced verbose is_boundary_character letters t last
  pub ends : Gap verbose last []

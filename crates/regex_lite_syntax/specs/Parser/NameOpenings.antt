-- Where there is no name of a group, and the pattern doesn't end inside the opening of one.
use Rattle.std.specs.Prelude.{◌≡◌, ◌≢◌, [], ◌++◌}
use Rattle.regex_lite_syntax.specs.Text.{Text}
use Rattle.regex_lite_syntax.specs.Grammar.GroupNames.{NameOpening, Named}

-- the text is an incomplete opening of a name, from the `?` on
abbrev pub EndsInOpening : Text → Type 0
EndsInOpening t = (left : Text) × (left ≢ []) × NameOpening (t ++ left) []

-- there is no name here, nor in a longer text that begins with this one, unless the text is an
-- incomplete opening
abbrev pub Unnamed : Text → Type 0
Unnamed t =
    (more rest name : Text) → (EndsInOpening t → more ≡ []) → ¬ Named (t ++ more) rest name

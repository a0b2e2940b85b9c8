-- Laws of templates.
use Rattle.std.specs.Prelude.{◌≡◌, ℕ, List, Contains}
use Rattle.regex_lite_syntax.specs.Text.{the}
use Rattle.regex_lite_engine.specs.Interpolation.{GroupTexts, IsInterpolation}

-- for given texts of the groups, a template has exactly one expansion
abbrev pub TemplatesGiveOneText : Type 0
TemplatesGiveOneText =
    (groups : GroupTexts) (template : List ℕ)
    → (text : List ℕ) × IsInterpolation groups template text
    × ((other : List ℕ) → IsInterpolation groups template other → other ≡ text)

-- a template without a `$` is its own expansion
abbrev pub PlainTemplatesGiveThemselves : Type 0
PlainTemplatesGiveThemselves =
    (groups : GroupTexts) (template text : List ℕ) → ¬ (Contains template (the "$"))
    → IsInterpolation groups template text → text ≡ template

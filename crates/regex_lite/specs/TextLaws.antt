-- Laws of texts as replacers.
use Rattle.std.specs.Prelude.{◌≡◌, ◌⊎◌, ◌↔◌, ℕ, List, Contains, chars, map}
use Rattle.regex_lite_syntax.specs.declared.error.Error.{Error}
use Rattle.regex_lite_syntax.specs.Errors.{out_of_memory}
use Rattle.regex_lite_syntax.specs.Text.{the}
use Rattle.regex_lite_engine.specs.Search.Answer.{Found}
use Rattle.regex_lite.specs.Ahead.{Ahead, AreAhead}
use Rattle.regex_lite.specs.Expression.{Expression}
use Rattle.regex_lite.specs.Groups.{Groups}
use Rattle.regex_lite.specs.Items.{AreGroupsFound}
use Rattle.regex_lite.specs.PieceLaws.{TemplateAppends, TemplateFixed, in_turn}
use Rattle.regex_lite.specs.Pieces.{found_span, pieces}
use Rattle.regex_lite.specs.RegexList.{AllPaired}
use Rattle.regex_lite.specs.Replacements.{IsHandedOn, IsReplacement}
use Rattle.regex_lite.specs.Templates.{IsExpansion}

-- the text that replaces a match: the template's expansion for its groups, or the template itself
-- if it has no `$`
abbrev pub StandsFor : Expression → (template haystack : List ℕ) → Found → (text : List ℕ)
    → Type 0
StandsFor re template haystack found text =
    ((groups : Groups) × AreGroupsFound re haystack found groups
    × IsExpansion groups template text)
    ⊎ ((text ≡ template) × ¬ (Contains template (the "$")))

-- the new text consists of the pieces before, between and after the matches ahead, alternating with
-- the texts that replace the matches
pub record IsRewritten (template : List ℕ) (ahead : Ahead) (new : List ℕ) : Type 0 where
  pub found : List Found
  pub are_ahead : AreAhead ahead found
  pub texts : List (List ℕ)
  pub each : AllPaired (StandsFor ahead.sought template ahead.haystack) found texts
  pub whole : new ≡ in_turn
      (pieces ahead.haystack 0 (map (found_span (chars ahead.haystack)) found)) texts

-- a text as a replacer, with or without a `$`, rewrites the haystack in this way
abbrev pub TextsRewrite : Type 0 → Type 0
TextsRewrite R =
    (template : R → List ℕ) (rep : R) (ahead : Ahead) (new : List ℕ)
    → IsReplacement (TemplateFixed template) (TemplateAppends template) rep ahead new
    ↔ IsRewritten (template rep) ahead new

-- the only error of a replacement by a text is that memory ran out
abbrev pub TextsRefuseForMemory : Type 0 → Type 0
TextsRefuseForMemory R =
    (template : R → List ℕ) (rep : R) (ahead : Ahead) (error : Error)
    → (error ≡ out_of_memory)
    ⊎ IsHandedOn (TemplateFixed template) (TemplateAppends template) rep ahead error
    → error ≡ out_of_memory

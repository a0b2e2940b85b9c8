-- A text in which the matches of a pattern are replaced by a template.
use Rattle.std.specs.Prelude.{◌≡◌, ℕ, List, None, chars, map}
use Rattle.regex_lite.specs.Expression.{Expression}
use Rattle.regex_lite.specs.MatchList.{AreMatches}
use Rattle.regex_lite.specs.PieceLaws.{in_turn}
use Rattle.regex_lite.specs.Pieces.{found_span, pieces}
use Rattle.regex_lite.specs.RegexList.{AllPaired}
use Rattle.regex_lite.specs.Search.Answer.{Found}
use Rattle.regex_lite.specs.TextLaws.{StandsFor}

-- the new text is the text with each match replaced by the template's expansion for the groups of
-- the match, or by the template itself if it has no `$`; the pieces before, between and after the
-- matches are unchanged
pub record IsRewriting (re : Expression) (template text new : List ℕ) : Type 0 where
  pub found : List Found
  pub are_all : AreMatches re (chars text) None found
  pub texts : List (List ℕ)
  pub each : AllPaired (StandsFor re template text) found texts
  pub whole : new ≡ in_turn (pieces text 0 (map (found_span (chars text)) found)) texts

-- The position of a search in the haystack.
use Rattle.std.specs.Prelude.{◌≡◌, ℕ}
use Rattle.regex_lite_syntax.specs.Text.{Text, before, after}
use Rattle.regex_lite_syntax.specs.Tree.Matches.{IsPosition}
use Rattle.regex_lite_engine.specs.declared.search.here.Here.{Here}
use Rattle.regex_lite_engine.specs.Search.Offsets.{offset}

-- a search is at this position
pub record IsHere (haystack : Text) (p : ℕ) (here : Here) : Type 0 where
  pub inside : IsPosition haystack p
  pub bytes : here.at ≡ offset haystack p
  pub behind : here.before ≡ before haystack p
  pub ahead : here.after ≡ after haystack p

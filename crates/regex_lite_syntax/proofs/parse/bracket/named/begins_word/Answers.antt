use Rattle.regex_lite_syntax.proofs.Common.{◌≡◌, ◌<◌, false, [], ◌∷◌, length, refl, arith}
use Rattle.regex_lite_syntax.proofs.Common.{is_beginning, Text}
use Rattle.regex_lite_syntax.proofs.parse.bracket.named.begins_word.Goals as goal

-- no text begins with a longer one
longer_than : (t u : Text) → length u < length t → false ≡ is_beginning t u
longer_than [] u longer = absurd (omega (arith, longer))
longer_than (c ∷ t) [] longer = refl
longer_than (c ∷ t) (d ∷ u) longer =
    let rest = longer_than t u (omega (arith, longer)) in grind arith

pub returns-then-chars-word : goal.returns-then-chars-word
returns-then-chars-word c = longer_than _ _ c.if-chars-word.true

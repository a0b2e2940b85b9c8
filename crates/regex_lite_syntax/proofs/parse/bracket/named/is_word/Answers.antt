use Rattle.regex_lite_syntax.proofs.Common.{◌≡◌, false, [], ◌∷◌, length, refl, arith, Text, is_text}
use Rattle.regex_lite_syntax.proofs.parse.bracket.named.is_word.Goals as goal

-- texts of two lengths are two
other_length : (t u : Text) → (length t ≡ length u → ⊥) → false ≡ is_text t u
other_length [] [] other = absurd (other refl)
other_length [] (d ∷ u) other = refl
other_length (c ∷ t) [] other = refl
other_length (c ∷ t) (d ∷ u) other =
    let rest = other_length t u (λ same. other (omega (arith, same))) in grind arith

pub returns-then-chars-word : goal.returns-then-chars-word
returns-then-chars-word c = other_length _ _ c.if-chars-word.true

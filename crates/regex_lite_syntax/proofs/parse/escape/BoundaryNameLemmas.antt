-- The names of looks.
use Rattle.regex_lite_syntax.proofs.Common.{◌≡◌, Bool, true, false, cond, ◌⊎◌, Some, codes, Option}
use Rattle.regex_lite_syntax.proofs.Common.{refl, inl, inr, boundary_named, Text, is_text, Look}
use Rattle.regex_lite_syntax.proofs.grammar.WordLemmas.{same_text}

first_or_later : (is_first : Bool) (look found : Look) (later : Option Look)
    → cond is_first (Some look) later ≡ Some found → (is_first ≡ true) ⊎ (later ≡ Some found)
first_or_later true look found later e = inl refl
first_or_later false look found later e = inr e

-- no name but these four
pub one_of_four : (name : Text) (look : Look) → boundary_named name ≡ Some look
    → (name ≡ codes "start" → ⊥)
    → (name ≡ codes "end" → ⊥) → (name ≡ codes "start-half" → ⊥) → (name ≡ codes "end-half" → ⊥) → ⊥
one_of_four name look e a b c d =
    elim (first_or_later (is_text name (codes "start")) _ look _ e) [
      | inl is ↦ a (same_text name _ is)
      | inr e' ↦ elim (first_or_later (is_text name (codes "end")) _ look _ e') [
        | inl is ↦ b (same_text name _ is)
        | inr e'' ↦ elim (first_or_later (is_text name (codes "start-half")) _ look _ e'') [
          | inl is ↦ c (same_text name _ is)
          | inr e''' ↦ elim (first_or_later (is_text name (codes "end-half")) _ look _ e''') [
            | inl is ↦ d (same_text name _ is)
            | inr none ↦ cc
          ]
        ]
      ]
    ]

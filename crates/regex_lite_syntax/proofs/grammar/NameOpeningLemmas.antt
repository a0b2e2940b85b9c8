-- Where the name of a group stands, no flags stand.
use Rattle.regex_lite_syntax.proofs.Common.{◌≡◌, ℕ, ◌≢◌, ◌∷◌, refl, arith, FlagLetters, NameOpening}
use Rattle.regex_lite_syntax.proofs.Common.{with_p, without_p, Named, Text, the, Flags}
use Rattle.regex_lite_syntax.proofs.ListLemmas.{same_head, same_tail}
use Rattle.regex_lite_syntax.proofs.grammar.FlagLetterLemmas.{EndsFlags, colon_ends_flags}
use Rattle.regex_lite_syntax.proofs.grammar.FlagLetterLemmas.{paren_ends_flags, flags_elsewhere}

p_ends_flags : EndsFlags (the "P")
p_ends_flags = record { no_letter = refl; no_dash = λ e. omega (arith, e) }

less_ends_flags : EndsFlags (the "<")
less_ends_flags = record { no_letter = refl; no_dash = λ e. omega (arith, e) }

-- what opens a name begins with a `?`
pub opening_question : (t past : Text) → NameOpening t past → (u : Text) × (t ≡ the "?" ∷ u)
opening_question t past (with_p e) = (the "P" ∷ the "<" ∷ past, e)
opening_question t past (without_p e) = (the "<" ∷ past, e)

pub named_question : (t rest name : Text) → Named t rest name → (u : Text) × (t ≡ the "?" ∷ u)
named_question t rest name n = opening_question t n.past n.opens

-- past the `?` of what opens a name, no flags lead to a `:`
pub opening_or_plain : (old new : Flags) (t past rest : Text) → NameOpening (the "?" ∷ t) past
    → FlagLetters old t (the ":" ∷ rest) new → ⊥
opening_or_plain old new t past rest (with_p e) letters =
    flags_elsewhere old new t (the "<" ∷ past) (the "P")
    (the ":") rest p_ends_flags colon_ends_flags (same_tail e) (λ c. omega (arith, c)) letters
opening_or_plain old new t past rest (without_p e) letters =
    flags_elsewhere old new t past (the "<") (the ":") rest less_ends_flags colon_ends_flags
    (same_tail e) (λ c. omega (arith, c)) letters

-- nor to a `)`
pub opening_or_directive : (old new : Flags) (t past rest : Text) → NameOpening (the "?" ∷ t) past
    → FlagLetters old t (the ")" ∷ rest) new → ⊥
opening_or_directive old new t past rest (with_p e) letters =
    flags_elsewhere old new t (the "<" ∷ past) (the "P")
    (the ")") rest p_ends_flags paren_ends_flags (same_tail e) (λ c. omega (arith, c)) letters
opening_or_directive old new t past rest (without_p e) letters =
    flags_elsewhere old new t past (the "<") (the ")") rest less_ends_flags paren_ends_flags
    (same_tail e) (λ c. omega (arith, c)) letters

-- no name is opened by a `?` and another character
pub no_opening : (c : ℕ) (t past : Text) → c ≢ the "P" → c ≢ the "<"
    → NameOpening (the "?" ∷ c ∷ t) past → ⊥
no_opening c t past no_p no_less (with_p e) = no_p (same_head (same_tail e))
no_opening c t past no_p no_less (without_p e) = no_less (same_head (same_tail e))

-- What opens a name in a longer text that begins with the text.
use Rattle.regex_lite_syntax.proofs.Common.{◌≡◌, ℕ, ◌≢◌, ◌⊎◌, [], ◌∷◌, ◌++◌, codes, sym, refl, ap}
use Rattle.regex_lite_syntax.proofs.Common.{◌∙◌, subst, inl, inr, append-nil, NameOpening, with_p}
use Rattle.regex_lite_syntax.proofs.Common.{without_p, EndsInOpening, Text, Begins, the}
use Rattle.regex_lite_syntax.specs.Parser.NameOpenings.{Unnamed}
use Rattle.regex_lite_syntax.proofs.ListLemmas.{same_head, same_tail}
use Rattle.regex_lite_syntax.proofs.grammar.NameOpeningLemmas.{opening_question}
use Rattle.regex_lite_syntax.proofs.grammar.ClassLemmas.{begins}

-- where a longer text begins with a word, the text does too, or ends inside the word
begins_or_ends : (word t more past : Text) → t ++ more ≡ word ++ past
    → ((u : Text) × (t ≡ word ++ u)) ⊎ ((left : Text) × (left ≢ []) × (t ++ left ≡ word))
begins_or_ends [] t more past e = inl (t, refl)
begins_or_ends (c ∷ word) [] more past e = inr (c ∷ word, (λ none. cc none), refl)
begins_or_ends (c ∷ word) (d ∷ t) more past e =
    elim (begins_or_ends word t more past (same_tail e)) [
      | inl begins ↦ inl (begins.0, cc (same_head e, begins.1))
      | inr ends ↦ inr (ends.0, ends.1, cc (same_head e, ends.2))
    ]

-- so what opens a name there opens it in the text, unless that ends inside
opening_shows : (t more past : Text) → (EndsInOpening t → more ≡ [])
    → NameOpening (t ++ more) past → (u : Text) × NameOpening t u
opening_shows t more past mends opens = by_kind opens
  where
    no_more : EndsInOpening t → (u : Text) × NameOpening t u
    no_more inside =
        let same = ap (λ m. t ++ m) (mends inside) ∙ append-nil t in
        (past, subst (λ u. NameOpening u past) same opens)

    by_kind : NameOpening (t ++ more) past → (u : Text) × NameOpening t u
    by_kind (with_p e) = elim (begins_or_ends (codes "?P<") t more past e) [
      | inl begins ↦ (begins.0, with_p begins.1)
      | inr ends ↦ no_more (ends.0, ends.1, with_p ends.2)
    ]
    by_kind (without_p e) = elim (begins_or_ends (codes "?<") t more past e) [
      | inl begins ↦ (begins.0, without_p begins.1)
      | inr ends ↦ no_more (ends.0, ends.1, without_p ends.2)
    ]

-- and where the text opens none, no name stands there
pub none_opened : (t : Text) → ((past : Text) → NameOpening t past → ⊥) → Unnamed t
none_opened t none more rest name mends named =
    let shown = opening_shows t more named.past mends named.opens in none shown.0 shown.1

-- a text that begins with no `?`, or past it with no `<` and no `P<`, opens none
pub no_question : (t : Text) → (Begins (the "?") t → ⊥) → (past : Text) → NameOpening t past → ⊥
no_question t none past opens =
    let question = opening_question t past opens in
    none (begins (the "?") t question.0 question.1)

pub no_less : (t u past : Text) → t ≡ the "?" ∷ u → (Begins (the "<") u → ⊥)
    → ((v : Text) → u ≡ the "P" ∷ v → Begins (the "<") v → ⊥) → NameOpening t past → ⊥
no_less t u past e none none_past_p (with_p o) =
    none_past_p (the "<" ∷ past) (same_tail (sym e ∙ o)) refl
no_less t u past e none none_past_p (without_p o) =
    none (begins (the "<") u past (same_tail (sym e ∙ o)))

-- past a `?` and a character a text doesn't end inside, unless that is a `P` and the last
pub not_inside : (c : ℕ) (t : Text) → (c ≡ the "P" → t ≢ []) → EndsInOpening (the "?" ∷ c ∷ t) → ⊥
not_inside c t some (left, goes_on, with_p e) =
    let tail = same_tail e in past_p t (some (same_head tail)) (same_tail tail)
  where
    past_p : (u : Text) → u ≢ [] → u ++ left ≡ the "<" ∷ [] → ⊥
    past_p [] some e = some refl
    past_p (d ∷ []) some e = goes_on (same_tail e)
    past_p (d ∷ b ∷ u) some e = let none = same_tail e in cc none
not_inside c [] some (left, goes_on, without_p e) = goes_on (same_tail (same_tail e))
not_inside c (d ∷ t) some (left, goes_on, without_p e) =
    let none = same_tail (same_tail e) in cc none

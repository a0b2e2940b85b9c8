-- Where a literal matches.
use Rattle.regex_lite_syntax.proofs.Common.{◌≡◌, ℕ, zero, suc, [], ◌∷◌, map, length, take, drop}
use Rattle.regex_lite_syntax.proofs.Common.{Some, sym, refl, ap, ◌∙◌, subst, arith, Text, trees}
use Rattle.std.proofs.Common.{◌↔◌}
use Rattle.regex_lite_syntax.specs.Text.{after}
use Rattle.regex_lite_syntax.specs.Tree.{character}
use Rattle.regex_lite_syntax.specs.Tree.Matches.{Matches, Chain}
use Rattle.regex_lite_syntax.specs.Escaped.{literal, StandsAt}
use Rattle.regex_lite_syntax.proofs.ListLemmas.{same_head, same_tail}

-- a character stands at a position where what is left begins with it
begins_there : (h : Text) (i c : ℕ) (t : Text) → drop i h ≡ c ∷ t
    → (after h i ≡ Some c) × (drop (suc i) h ≡ t)
begins_there [] zero c t e = absurd (cc)
begins_there [] (suc i) c t e = absurd (cc)
begins_there (d ∷ h) zero c t e = (ap Some (same_head e), same_tail e)
begins_there (d ∷ h) (suc i) c t e = begins_there h i c t e

-- and only there
stands_there : (h : Text) (i c : ℕ) → after h i ≡ Some c → drop i h ≡ c ∷ drop (suc i) h
stands_there [] zero c e = absurd (cc)
stands_there [] (suc i) c e = absurd (cc)
stands_there (d ∷ h) zero c e = let same : d ≡ c = cc in ap (λ x. x ∷ h) same
stands_there (d ∷ h) (suc i) c e = stands_there h i c e

module _ (h : Text) where
  first_stands : (c : ℕ) (t left : Text) (i : ℕ) → drop i h ≡ left
      → take (suc (length t)) left ≡ c ∷ t
      → (after h i ≡ Some c) × (take (length t) (drop (suc i) h) ≡ t)
  first_stands c t [] i is e = absurd (cc)
  first_stands c t (d ∷ left) i is e =
      let here = begins_there h i d left is in
      (here.0 ∙ ap Some (same_head e), ap (take (length t)) here.1 ∙ same_tail e)

  chain_of : (text : Text) (i j : ℕ) → StandsAt text h i j
      → Chain h (trees (map character text)) i j
  chain_of [] i j (end, same) = omega arith
  chain_of (c ∷ t) i j (end, same) =
      let first = first_stands c t (drop i h) i refl same in
      (suc i, (first.0, refl), chain_of t (suc i) j (omega arith, first.1))

  text_of_chain : (text : Text) (i j : ℕ) → Chain h (trees (map character text)) i j
      → StandsAt text h i j
  text_of_chain [] i j e = (omega arith, refl)
  text_of_chain (c ∷ t) i j (k, (here, next), rest) =
      let later =
      text_of_chain t (suc i) j (subst (λ n. Chain h (trees (map character t)) n j) next rest) in (
        omega (arith, later.0),
        ap (take (suc (length t))) (stands_there h i c here) ∙ ap (λ x. c ∷ x) later.1,
      )

-- a literal matches as its characters do one after another
pub literal_matches : (text haystack : Text) (i j : ℕ)
    → Matches haystack (literal text) i j ↔ StandsAt text haystack i j
literal_matches [] h i j = (text_of_chain h [] i j, chain_of h [] i j)
literal_matches (c ∷ []) h i j = (
  λ (here, end). text_of_chain h (c ∷ []) i j (suc i, (here, refl), sym end),
  λ stands. let chain = chain_of h (c ∷ []) i j stands in (chain.1.0, sym chain.2 ∙ chain.1.1),
)
literal_matches (c ∷ d ∷ t) h i j = (text_of_chain h (c ∷ d ∷ t) i j, chain_of h (c ∷ d ∷ t) i j)

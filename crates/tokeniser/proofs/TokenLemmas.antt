-- Tokens, one after another.
use Rattle.std.proofs.Common.{◌≡◌, ◌≤◌, ℕ, List, [], ◌∷◌, ◌++◌, length}
use Rattle.std.proofs.Common.{refl, sym, ap, ◌∙◌, subst, arith, flat_map, slice_range, drop}
use Rattle.std.proofs.Common.{append_assoc, append-nil}
use Rattle.std.proofs.Math.ListN.{drop_of_length-le}
use Rattle.std.proofs.lemmas.List.Folds.{drop_split}
use Rattle.regex_lite.specs.Expression.{Expression}
use Rattle.tokeniser.specs.declared.tokens.Token.{Token}
use Rattle.tokeniser.specs.Tokens.{AreTokens, IsTokenAt}

-- the texts of tokens, in turn
abbrev texts : List Token → List ℕ
texts tokens = flat_map (λ token. token.text.now) tokens

module _ (rules : List Expression) (text : List ℕ) where
  -- one more token
  pub one_more : (tokens : List Token) (at next end : ℕ) (token : Token)
      → AreTokens rules text at tokens next → IsTokenAt rules text next end token
      → AreTokens rules text at (tokens ++ token ∷ []) end
  one_more [] at next end token all is =
      (end, subst (λ a. IsTokenAt rules text a end token) (sym all) is, refl)
  one_more (own ∷ tokens) at next end token (after, first, all) is =
      (after, first, one_more tokens after next end token all is)

  -- they go on
  pub onward : (tokens : List Token) (at end : ℕ) → AreTokens rules text at tokens end → at ≤ end
  onward [] at end all = omega (arith, all)
  onward (own ∷ tokens) at end (next, first, all) =
      let more = onward tokens next end all in omega (arith, more, first.some)

  -- their texts in turn are what stands there
  pub texts_of : (tokens : List Token) (at end : ℕ) → AreTokens rules text at tokens end
      → drop at text ≡ texts tokens ++ drop end text
  texts_of [] at end all = ap (λ i. drop i text) all
  texts_of (own ∷ tokens) at end (next, first, all) =
      drop_split text at next (omega (arith, first.some))
      ∙ ap (λ t. slice_range text at next ++ t) (texts_of tokens next end all)
      ∙ sym (append_assoc (slice_range text at next) (texts tokens) (drop end text))
      ∙ ap (λ t. (t ++ texts tokens) ++ drop end text) (sym first.stands)

  -- so those of all are the whole text
  pub whole_text : (tokens : List Token) (end : ℕ) → AreTokens rules text 0 tokens end
      → length text ≤ end → flat_map (λ token. token.text.now) tokens ≡ text
  whole_text tokens end all past =
      sym (texts_of tokens 0 end all ∙ ap (λ t. texts tokens ++ t) (drop_of_length-le text past)
      ∙ append-nil (texts tokens))

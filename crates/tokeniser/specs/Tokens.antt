-- A text as tokens, each found by the lowest rule that matches where it begins.
use Rattle.std.specs.Prelude.{◌≡◌, ◌<◌, ℕ, List, [], ◌∷◌, Some, length, slice_get, slice_range}
use Rattle.regex_lite.specs.Errors.{out_of_memory}
use Rattle.regex_lite.specs.Expression.{Expression}
use Rattle.regex_lite.specs.MatchOffsets.{MatchesAt, PrefersSpan}
use Rattle.tokeniser.specs.declared.tokens.Token.{Token}
use Rattle.tokeniser.specs.declared.tokens.TokenFault.{TokenFault}
use Rattle.tokeniser.specs.declared.tokens.TokenFault.TheVariants.{NoRule, Empty, Refused}

-- this is the lowest rule that matches at `at`, and the match that it prefers there ends at `end`
pub record IsPartAt (rules : List Expression) (text : List ℕ) (number at end : ℕ) : Type 0 where
  pub rule : Expression
  pub numbered : slice_get rules number ≡ Some rule
  pub lowest : (lower : ℕ) (other : Expression) → lower < number
      → slice_get rules lower ≡ Some other → ¬ (MatchesAt other text at)
  pub preferred : PrefersSpan rule text (at, end)

-- the token lies between these offsets
pub record IsTokenAt (rules : List Expression) (text : List ℕ) (at end : ℕ) (token : Token)
    : Type 0 where
  pub part : IsPartAt rules text token.rule at end
  pub some : at < end
  pub stands : token.text.now ≡ slice_range text at end

-- these are the tokens from one offset to another
abbrev pub AreTokens : (rules : List Expression) → (text : List ℕ) → (at : ℕ) → List Token
    → (end : ℕ) → Type 0
AreTokens rules text at [] end = at ≡ end
AreTokens rules text at (token ∷ tokens) end =
    (next : ℕ) × IsTokenAt rules text at next token × AreTokens rules text next tokens end

-- tokens lead up to this offset, and it isn't the end
abbrev pub AreTokensUpTo : (rules : List Expression) → (text : List ℕ) → (at : ℕ) → Type 0
AreTokensUpTo rules text at =
    (tokens : List Token) × AreTokens rules text 0 tokens at × (at < length text)

-- what a fault says is true: where the tokens end no rule matches, or one matches the empty text
abbrev pub IsFault : (rules : List Expression) → (text : List ℕ) → TokenFault → Type 0
IsFault rules text (NoRule at) =
    AreTokensUpTo rules text at
    × ((number : ℕ) (rule : Expression) → slice_get rules number ≡ Some rule
    → ¬ (MatchesAt rule text at))
IsFault rules text (Empty at number) =
    AreTokensUpTo rules text at × IsPartAt rules text number at at
IsFault rules text (Refused error) = error ≡ out_of_memory

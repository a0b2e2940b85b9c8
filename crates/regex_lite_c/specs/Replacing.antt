-- What is returned for new texts.
use Rattle.std.specs.Prelude.{◌≡◌, ◌↔◌, ◌⊎◌, ℕ, List, MatchBool}
use Rattle.std.specs.Borrow.{Bor}
use Rattle.regex_lite.specs.Ahead.{Ahead, AreSoManyAhead, whole}
use Rattle.regex_lite.specs.Expression.{Expression}
use Rattle.regex_lite.specs.Replacements.{IsReplacedBy, IsReplacement, limit_of}
use Rattle.regex_lite.specs.Replacing.{IsAppendedTemplate, IsFixedText}
use Rattle.regex_lite_c.specs.Buffers.{IsWritten}
use Rattle.regex_lite_c.specs.declared.answer.TheConstants.{NOT_TEXT, OUT_OF_MEMORY}
use Rattle.regex_lite_c.specs.declared.types.Replacing.{Replacing}

-- each match ahead is replaced by the template's expansion for its groups
abbrev pub IsReplacedByTemplate : (template : List ℕ) → Ahead → (new : List ℕ) → Type 0
IsReplacedByTemplate template a new =
    (rep : Bor (List ℕ)) × (rep.now ≡ template)
    × IsReplacement (λ old fixed after. IsFixedText old.now fixed × (after ≡ old))
    (λ old groups text answer after.
    IsAppendedTemplate old.now groups text answer × (after ≡ old)) rep a new

-- the new text is this one with its matches replaced as the caller requests; their number is
-- written
abbrev pub IsReplaced : Expression → (text template : List ℕ) → Replacing → (new : List ℕ)
    → (count : ℕ) → Type 0
IsReplaced re text template replacing new count =
    let a = whole re text (limit_of replacing.limit) in
    MatchBool replacing.is_literal (IsReplacedBy template a new)
    (IsReplacedByTemplate template a new)
    × AreSoManyAhead a count

-- the answer when a new text that has this property is written to the buffer: it was written if the
-- buffer suffices; or the call failed, and nothing changes
pub record IsTextAnswer (AreTexts : Type 0) (Says : List ℕ → Type 0) (old new : List ℕ)
    (old_len len answer : ℕ) : Type 0 where
  pub not_text : (answer ≡ NOT_TEXT) ↔ (AreTexts → ⊥)
  pub same : (answer ≡ NOT_TEXT) ⊎ (answer ≡ OUT_OF_MEMORY) → (new ≡ old) × (len ≡ old_len)
  pub written : ((answer ≡ NOT_TEXT) ⊎ (answer ≡ OUT_OF_MEMORY) → ⊥)
      → (text : List ℕ) × Says text × IsWritten text old new len answer

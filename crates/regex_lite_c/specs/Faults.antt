-- What is returned for the place of the first fault in a pattern.
use Rattle.std.specs.Prelude.{◌≡◌, ◌≢◌, ◌≤◌, ◌⊎◌, ◌↔◌, ℕ, IsUtf8, chars}
use Rattle.std.specs.Prelude.{length, MatchOption, true, false}
use Rattle.regex_lite_syntax.specs.Limits.{GroupsRefused}
use Rattle.regex_lite.specs.declared.string.fault.FaultSpan.{FaultSpan}
use Rattle.regex_lite.specs.FaultOffsets.{HasTreeUnder, IsFaultSpan}
use Rattle.regex_lite.specs.Settings.{Settings}
use Rattle.regex_lite_c.specs.declared.answer.TheConstants.{NO, YES, NOT_TEXT, OUT_OF_MEMORY}
use Rattle.regex_lite_c.specs.declared.answer.TheConstants.{GROUPS}
use Rattle.regex_lite_c.specs.declared.types.Fault.{Fault}

-- how a fault with this span is written, in a pattern of this many bytes: if it has no end, the
-- pattern is cut short, and the end that is written is the pattern's
pub record IsFaultOf (span : FaultSpan) (len : ℕ) (fault : Fault) : Type 0 where
  pub starts : fault.start ≡ span.start
  pub ends : MatchOption span.end ((fault.is_cut_short ≡ true) × (fault.end ≡ len))
      (λ end. (fault.is_cut_short ≡ false) × (fault.end ≡ end))

-- under these settings the pattern has no tree, and this is its first fault
pub record IsFirstFault (settings : Settings) (fault : Fault) : Type 0 where
  pub span : FaultSpan
  pub is_span : IsFaultSpan settings span
  pub written : IsFaultOf span (length settings.pattern) fault
  pub treeless : HasTreeUnder settings → ⊥

-- the answer for the first fault under these settings, whose pattern may be any bytes: if there is
-- one, it is written
pub record IsFaultAnswer (settings : Settings) (old_fault fault : Fault) (answer : ℕ)
    : Type 0 where
  pub found : answer ≡ YES → IsFirstFault settings fault
  pub none : answer ≡ NO → HasTreeUnder settings
  pub same : answer ≢ YES → fault ≡ old_fault
  pub not_text : (answer ≡ NOT_TEXT) ↔ (IsUtf8 settings.pattern → ⊥)
  pub groups : answer ≡ GROUPS → GroupsRefused settings.flags (chars settings.pattern)
  pub one_of : (answer ≤ YES) ⊎ ((answer ≡ NOT_TEXT) ⊎ ((answer ≡ OUT_OF_MEMORY)
      ⊎ (answer ≡ GROUPS)))

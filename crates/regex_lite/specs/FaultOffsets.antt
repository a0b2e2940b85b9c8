-- The place of the first fault in a pattern, as a builder reports it.
use Rattle.std.specs.Prelude.{◌≡◌, chars, option_map}
use Rattle.regex_lite_syntax.specs.Grammar.{HasTree}
use Rattle.regex_lite_syntax.specs.declared.parse.fault.FaultPlace.{FaultPlace}
use Rattle.regex_lite_syntax.specs.FaultPlaces.{IsPlaceOfFault}
use Rattle.regex_lite_engine.specs.Search.Offsets.{offset}
use Rattle.regex_lite.specs.declared.string.fault.FaultSpan.{FaultSpan}
use Rattle.regex_lite.specs.Settings.{Settings}

-- under these settings, whatever the limits, the grammar gives the pattern a tree
abbrev pub HasTreeUnder : Settings → Type 0
HasTreeUnder settings = HasTree settings.flags (chars settings.pattern)

-- under these settings the first fault of the pattern starts at `start` and ends at `end`, in
-- bytes; it has no end if some accepted pattern begins with this one
pub record IsFaultSpan (settings : Settings) (span : FaultSpan) : Type 0 where
  pub place : FaultPlace
  pub fault : IsPlaceOfFault settings.flags (chars settings.pattern) place
  pub starts : span.start ≡ offset (chars settings.pattern) place.start
  pub ends : span.end ≡ option_map (offset (chars settings.pattern)) place.end

-- Where a search that goes by offsets stands, with the characters beside it.
use Rattle.regex_lite_meta.proofs.Common.{◌≡◌, ℕ, ◌+◌, ◌^◌, ◌<◌, List, length, IsUtf8, chars}
use Rattle.regex_lite_meta.proofs.Common.{IsCharBoundary, sym, refl, ◌∙◌, subst, arith}
use Rattle.regex_lite_meta.proofs.Common.{IsOffset, position_at, IsHere, PassesTo, Here, Automaton}
use Rattle.regex_lite_meta.proofs.Common.{IsScanning, DfaPosition}
use Rattle.regex_lite_engine.specs.Graph.Places.{Place}
use Rattle.regex_lite_engine.specs.Search.Starts.{SkipsTo}
use Rattle.regex_lite_syntax.specs.Text.{after, before}
use Rattle.regex_lite_engine.proofs.OffsetLemmas.{boundary_at}
use Rattle.regex_lite_engine.proofs.PositionLemmas.{position_is, position_of}

-- the position at this offset
module _ (bs : List ℕ) (u : IsUtf8 bs) (fits : length bs + 1 < 2 ^ 64) (at : ℕ)
    (edge : IsCharBoundary bs at) where
  abbrev pub here_at : Here
  here_at = record {
    before = before (chars bs) (position_at bs at);
    after = after (chars bs) (position_at bs at);
    at = at;
    small = let inside = edge.0 in omega (arith, inside, fits);
  }

  pub here_is : IsHere (chars bs) (position_at bs at) here_at
  here_is = let is = position_is bs at u edge in record {
    inside = is.0;
    bytes = is.1;
    behind = refl;
    ahead = refl;
  }

module _ (bs : List ℕ) (u : IsUtf8 bs) where
  -- a search that follows cached transitions stands on a character boundary
  module _ {table : List (Place ℕ)} {entries : List ℕ} {low p : ℕ} {automaton : Automaton}
      {at : DfaPosition} (scanning : IsScanning table entries (chars bs) low p automaton at) where
    own_offset : IsOffset (chars bs) p at.at
    own_offset = (scanning.is.inside, sym scanning.there ∙ scanning.is.bytes)

    pub edge_there : IsCharBoundary bs at.at
    edge_there = boundary_at bs p at.at u own_offset

    -- the characters beside it are read
    pub is_there : (x : Here) → IsHere (chars bs) (position_at bs at.at) x → IsHere (chars bs) p x
    is_there x is = subst (λ z. IsHere (chars bs) z x) (position_of bs u p at.at own_offset) is

  module _ {Passed : ℕ → Type 0} {p : ℕ} {here : Here}
      (passes : PassesTo Passed (chars bs) p here) where
    passed_offset : IsOffset (chars bs) passes.q here.at
    passed_offset = (passes.is.inside, passes.is.bytes)

    pub passed_edge : IsCharBoundary bs here.at
    passed_edge = boundary_at bs passes.q here.at u passed_offset

    pub passed_at : position_at bs here.at ≡ passes.q
    passed_at = position_of bs u passes.q here.at passed_offset

    -- a search that passes over positions may go on by the offset alone
    pub skips_there : SkipsTo Passed bs p here.at
    skips_there = λ there same is. record {
      q = passes.q;
      later = passes.later;
      is = subst (λ z. IsHere (chars bs) z there) passed_at is;
      passed = passes.passed;
    }

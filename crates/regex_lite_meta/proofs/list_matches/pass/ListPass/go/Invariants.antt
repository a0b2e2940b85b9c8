use Rattle.regex_lite_meta.proofs.Common.{ℕ, ◌-◌, length, chars, IsHere}
use Rattle.regex_lite_meta.specs.ListMatches.{AreKeptFor, NeedsNoMemory}
use Rattle.regex_lite_meta.specs.ListPass.{PassKnowsAll, IsPassOf}
use Rattle.regex_lite_meta.proofs.list_matches.pass.ListPass.go.Given as goal

abbrev pub invariant-stops : goal.invariant-stops
invariant-stops l = record {
  passed : (s p : ℕ) → IsHere (chars l.haystack) p l.fn.from
      → PassKnowsAll l.list l.haystack s p l.fn.self.statuses.items
      → (q : ℕ) × IsHere (chars l.haystack) q l.here
      × PassKnowsAll l.list l.haystack s q l.self.statuses.items;
  pass : IsPassOf l.list l.self;
  kept : AreKeptFor l.list l.kept;
  ready : NeedsNoMemory l.fn.kept → NeedsNoMemory l.kept;
}

abbrev pub decreases-stops : goal.decreases-stops
decreases-stops l = length l.haystack - l.here.at

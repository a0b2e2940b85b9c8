-- A search that continues at an offset, with the cached transitions of a lazy DFA, and with the
-- PikeVM where none is cached.
use Rattle.std.specs.Prelude.{◌≡◌, ℕ, Bool, false, true, List, [], length, chars}
use Rattle.std.specs.Prelude.{IfErr, IfOk, IsCharBoundary, Option, None, Result}
use Rattle.regex_lite_meta.specs.declared.lazy_dfa.run.Position.{Position}
use Rattle.regex_lite_engine.specs.declared.pikevm.thread_start.MatchStart.{MatchStart}
use Rattle.regex_lite_engine.specs.declared.pikevm.cache.Cache.{Cache}
use Rattle.regex_lite_engine.specs.Graph.Places.{Place}
use Rattle.regex_lite_meta.specs.LazyDfa.Automaton.{Automaton, IsDfaOf}
use Rattle.regex_lite_meta.specs.LazyDfa.Running.{Stands}
use Rattle.regex_lite_meta.specs.LazyDfa.Scanning.{best_reported}
use Rattle.regex_lite_engine.specs.Pikevm.Searching.{IsBetween}
use Rattle.regex_lite_engine.specs.Pikevm.Stepping.{best_of}
use Rattle.regex_lite_engine.specs.Search.Bounds.{characters_left}
use Rattle.regex_lite_engine.specs.Search.Counting.{CanCount}
use Rattle.regex_lite_engine.specs.Search.NumberedOutcomes.{IsFoundOf}
use Rattle.regex_lite_engine.specs.Search.Starts.{AreDeadAt, SkipsTo}

module _ (table : List (Place ℕ)) (entries : List ℕ) (haystack : List ℕ) (from : ℕ) where
  -- no match begins at position s or later, but before the offset
  abbrev pub GoesOnFrom : (s : ℕ) → Type 0
  GoesOnFrom s = SkipsTo (AreDeadAt table (chars haystack) entries) haystack s from

  -- such a search can use this lazy DFA and this memory of the PikeVM
  pub record CanGoOn {S : Type 0} (automaton : Automaton) (cache : Cache S) : Type 0 where
    pub is_dfa : IsDfaOf table entries automaton
    pub none_pending : automaton.pending ≡ []
    pub between : IsBetween table cache
    pub boundary : IsCharBoundary haystack from
    pub counted : (s : ℕ) × GoesOnFrom s
        × CanCount table (length entries) (characters_left (chars haystack) s)
    pub width : length cache.walk.memory.row ≡ 0

  -- the search has found what a search from each such position finds, or has given up at this
  -- position
  pub record HasGoneOn {S : Type 0} (earliest : Bool)
      (result : Result (Option (MatchStart × ℕ)) Position) (automaton : Automaton) (cache : Cache S)
      : Type 0 where
    pub found : (s : ℕ) → GoesOnFrom s → IfOk result
        (λ found. IsFoundOf earliest table (chars haystack) entries s (best_reported found))
    pub stands : (s : ℕ) → GoesOnFrom s → IfErr result
        (λ at. Stands table (chars haystack) entries s automaton at cache)
    pub none : IfErr result (λ _. earliest ≡ true → best_of cache.best ≡ None)
    pub not_anew : IfErr result (λ at. at.anew ≡ false)
    pub is_dfa : IsDfaOf table entries automaton
    pub none_pending : automaton.pending ≡ []
    pub between : IsBetween table cache
    pub width : length cache.walk.memory.row ≡ 0

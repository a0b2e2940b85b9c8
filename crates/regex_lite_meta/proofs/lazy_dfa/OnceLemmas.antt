-- A search that gets a lazy DFA on its way.
use Rattle.regex_lite_meta.proofs.Common.{◌≡◌, ℕ, Bool, false, List, [], length, Some, None, sym}
use Rattle.regex_lite_meta.proofs.Common.{ap, ◌∙◌, subst, nil_from_length, Text, best_of, best_at}
use Rattle.regex_lite_meta.proofs.Common.{with_start_kept, best_kept, span_of, IsBestOutcomeOf, Row}
use Rattle.regex_lite_meta.proofs.Common.{MatchStart, Cache, Automaton, IsIn, IsOnItsWay, Stands}
use Rattle.regex_lite_meta.proofs.Common.{best_reported, Option, MatchOption, IsFoundOf}
use Rattle.regex_lite_engine.specs.Graph.Places.{Place}
use Rattle.regex_lite_engine.specs.Pikevm.Passing.{IsUnderWay}
use Rattle.regex_lite_meta.specs.declared.lazy_dfa.run.Position.{Position}

-- one with an empty cache
pub empty : Automaton
empty = record {
  intervals = record { boundaries = []; looks = false };
  reach = None;
  states = [];
  pending = [];
}

module _ (table : List (Place ℕ)) (h : Text) (entries : List ℕ) (s : ℕ) where
  -- where the search stands, its state is known
  pub known_stands : (other automaton : Automaton) (at known : Position) (state : Option ℕ)
      (cache : Cache MatchStart)
      → Stands table h entries s other at cache → known ≡ record at { state = state } →
      MatchOption state (Unit {0}) (λ y. IsIn automaton y at.first at.here.before cache)
      → Stands table h entries s automaton known cache
  known_stands other automaton at known state cache stands is state_known =
      subst (λ z. Stands table h entries s automaton z cache) (sym is) (record {
        p = stands.p;
        is = stands.is;
        from = stands.from;
        begun = stands.begun;
        own_from = stands.own_from;
        on = stands.on;
        first = stands.first;
        own = stands.own;
        state = state_known;
      })

  -- what is known is the best match, and no slots are kept
  pub found_kept : {S : Type 0} (earliest : Bool) (cache : Cache S)
      (known : Option (MatchStart × ℕ)) → length cache.best.row ≡ 0 → best_of cache.best ≡ best_kept
      known cache.best.row → IsFoundOf earliest table h entries s (best_of cache.best)
      → IsFoundOf earliest table h entries s (best_reported known)
  found_kept earliest cache known width is found =
      subst (IsFoundOf earliest table h entries s)
      (is ∙ ap (best_kept known) (nil_from_length cache.best.row width)) found

  -- a search that has come to position p, with and without what it keeps of slots
  pub under_way : {S : Type 0} {p : ℕ} {cache : Cache S} → IsOnItsWay table h entries s s p cache
      → IsUnderWay table h entries s p cache
  under_way on = record {
    low = on.low;
    ready = on.ready;
    coming = on.coming;
    tries = on.tries;
    entries = on.entries_left;
    own = on.spent;
  }

  pub on_its_way : {S : Type 0} {p : ℕ} {cache : Cache S} → IsUnderWay table h entries s p cache
      → length cache.walk.memory.row ≡ 0 → IsOnItsWay table h entries s s p cache
  on_its_way on width = record {
    low = on.low;
    after = on.low;
    ready = on.ready;
    coming = on.coming;
    tries = on.tries;
    entries_left = on.entries;
    width = width;
    spent = on.own;
  }

-- where a search stands that did not begin anew
pub stands_under_way : {table : List (Place ℕ)} {h : Text} {entries : List ℕ} {s : ℕ}
    {automaton : Automaton} {at : Position} {S : Type 0} {cache : Cache S}
    (stands : Stands table h entries s automaton at cache) → at.anew ≡ false
    → IsUnderWay table h entries s stands.p cache
stands_under_way {table} {h} {entries} {s} {cache = cache} stands own =
    under_way table h entries s
    (subst (λ from. IsOnItsWay table h entries s from stands.p cache) (stands.own_from own)
    stands.on)

-- that is said of the same patterns
pub under_as : {S : Type 0} {table table' : List (Place ℕ)} {h : Text} {entries entries' : List ℕ}
    {s p : ℕ} {cache : Cache S} → table' ≡ table → entries' ≡ entries
    → IsUnderWay table' h entries' s p cache → IsUnderWay table h entries s p cache
under_as same_table same_entries on = rw (same_table, same_entries) at on

-- where the best match starts and ends, without the number of its pattern
pub spanned : (table : List (Place ℕ)) (h : Text) (entries : List ℕ) (s : ℕ)
    (found : Option (MatchStart × ℕ)) (row : Row)
    → IsBestOutcomeOf table h entries s (best_kept found row)
    → IsBestOutcomeOf table h entries s (with_start_kept (best_at (span_of found) row))
spanned table h entries s None row outcome = outcome
spanned table h entries s (Some known) row (number, found, answer, reported, end, rest) = (
  number,
  found,
  answer,
  record { start_reported = reported.start_reported; number_reported = tt },
  end,
  rest,
)

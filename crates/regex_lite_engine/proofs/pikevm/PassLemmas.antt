-- What holds of a search between two positions, from its start to its end.
use Rattle.regex_lite_engine.proofs.Common.{◌≡◌, ℕ, ◌+◌, ◌-◌, ◌*◌, ◌≤◌, List, length, sym, ap}
use Rattle.regex_lite_engine.proofs.Common.{subst, inl, inr, arith, mul-le-mul_left, Text, row_of}
use Rattle.regex_lite_engine.proofs.Common.{IsOwnPart, arrows_of, Thread, IsComing, IsComingTo}
use Rattle.regex_lite_engine.proofs.Common.{Best, IsHere, Here, best_of, IsBoundedBy, Bool, false}
use Rattle.regex_lite_engine.specs.declared.pikevm.cache.Cache.{Cache}
use Rattle.regex_lite_engine.specs.Graph.Places.{Place}
use Rattle.regex_lite_engine.specs.Pikevm.Searching.{IsFresh}
use Rattle.regex_lite_engine.specs.Pikevm.Passing.{GoesOnAt, IsUnderWay, IsUnderWayTo}
use Rattle.regex_lite_engine.specs.Pikevm.Passing.{Passes}
use Rattle.regex_lite_engine.proofs.pikevm.EndLemmas.{bound_more}
use Rattle.regex_lite_engine.proofs.search.SkipLemmas.{bound_later}
use Rattle.regex_lite_engine.proofs.pikevm.ComingLemmas.{jumped, none_coming}

module _ (table : List (Place ℕ)) (haystack : Text) (entries : List ℕ) (s : ℕ) where
  -- a search that has not begun
  pub begun_to : (whole : Bool) (last : ℕ) {S : Type 0} (cache : Cache S) → IsFresh table cache
      → IsUnderWayTo table haystack entries s whole last s cache
  begun_to whole last cache fresh =
      let none = fresh.no_threads in
      record {
        low = omega arith;
        ready = fresh.between;
        coming =
            subst
            (λ z. IsComingTo table haystack entries whole s last s cache.walk.memory.threads z)
            (sym fresh.none)
            (none_coming table haystack entries s last whole cache.walk.memory.threads none);
        tries = omega (arith, fresh.no_tries, ap length none);
        entries = omega (arith, fresh.no_entries);
        own = λ low len part. record {
          tries = omega (arith, fresh.no_tries, ap length none);
          entries = omega (arith, fresh.no_entries);
          few = omega (arith, ap length none);
        };
      }

  pub begun : {S : Type 0} (cache : Cache S) → IsFresh table cache
      → IsUnderWay table haystack entries s s cache
  begun cache fresh = begun_to false (length haystack) cache fresh

  -- a bound up to a position, and what one more position costs
  pub bound_on : (a b p q m : ℕ) → s ≤ p → p ≤ q → a ≤ m * (p - s) → b ≤ a + m
      → b ≤ m * (q + 1 - s)
  bound_on a b p q m low later bound more =
      bound_more a b q s m (omega (arith, low, later)) (bound_later a p q s m later bound) more

-- a search that has gone over a position of the haystack
module _ {S : Type 0} {table : List (Place ℕ)} {haystack : Text} {entries : List ℕ} {s q : ℕ}
    {whole : Bool} {last : ℕ} {cache : Cache S} (low : s ≤ q) (high : q ≤ length haystack)
    (on : IsUnderWayTo table haystack entries s whole last (q + 1) cache) where
  bounded_by : (size ways : ℕ)
      → cache.walk.steps.tried + length cache.walk.memory.threads ≤ ways * (q + 1 - s)
      → cache.walk.steps.entered ≤ size * (q + 1 - s) → IsBoundedBy size ways haystack s
      cache.walk.steps.tried cache.walk.steps.entered cache.walk.steps.looked
  bounded_by size ways tries all_entered =
      let most : q + 1 - s ≤ length haystack - s + 1 = omega (arith, low, high) in
      let all_tries = mul-le-mul_left ways most in
      let all_entries = mul-le-mul_left size most in
      record {
        few_tried = omega (arith, tries, all_tries);
        entered_tried = on.ready.entered_tried;
        few_entered = omega (arith, all_entered, all_entries);
        few_looked = omega (arith, on.ready.looked_entered);
        none_beyond = λ lt. absurd (omega (arith, lt, low, high));
      }

  -- it did no more than is allowed
  pub bounded : IsBoundedBy (length table) (arrows_of table + length entries) haystack s
      cache.walk.steps.tried cache.walk.steps.entered cache.walk.steps.looked
  bounded = bounded_by (length table) (arrows_of table + length entries) on.tries on.entries

  -- nor more than is allowed in the part of the table that is its own
  pub bounded_within : (begin len : ℕ) → IsOwnPart table entries begin len
      → IsBoundedBy len (arrows_of (row_of table begin len) + length entries) haystack s
      cache.walk.steps.tried cache.walk.steps.entered cache.walk.steps.looked
  bounded_within begin len part =
      let own = on.own begin len part in
      bounded_by len (arrows_of (row_of table begin len) + length entries) own.tries own.entries

-- a search that has passed over positions to a later one
pub moved_on : {S : Type 0} {table : List (Place ℕ)} {haystack : Text} {entries : List ℕ}
    {s last p q : ℕ} {cache : Cache S} → IsUnderWayTo table haystack entries s false last p cache
    → p ≤ q
    → IsComing table haystack entries s last q cache.walk.memory.threads (best_of cache.best)
    → IsUnderWayTo table haystack entries s false last q cache
moved_on {table} {entries} {s} {p} {q} {cache} on later coming =
    let low = on.low in
    let counted = cache.walk.steps.tried + length cache.walk.memory.threads in
    let entered = cache.walk.steps.entered in
    record {
      low = omega (arith, low, later);
      ready = on.ready;
      coming = coming;
      tries = bound_later counted p q s (arrows_of table + length entries) later on.tries;
      entries = bound_later entered p q s (length table) later on.entries;
      own = λ begin len part. (
          let spent = on.own begin len part in
          record {
            tries =
                bound_later counted p q s (arrows_of (row_of table begin len) + length entries)
                later spent.tries;
            entries = bound_later entered p q s len later spent.entries;
            few = spent.few;
          });
    }

-- what it did is said of the same patterns
pub passed_as : {S : Type 0} {table table' : List (Place ℕ)} {haystack : Text}
    {entries entries' : List ℕ} {s p : ℕ} {before after : Cache S} {here : Here}
    → table' ≡ table → entries' ≡ entries
    → Passes table' haystack entries' s p before after here
    → Passes table haystack entries s p before after here
passed_as same_table same_entries passes = rw (same_table, same_entries) at passes

-- where a search stands after the positions that it passes over
pub record Onward (table : List (Place ℕ)) (haystack : Text) (s : List ℕ) (first last p : ℕ)
    (threads : List Thread) (best : Best) (x : Here) : Type 0 where
  pub q : ℕ
  pub later : p ≤ q
  pub is : IsHere haystack q x
  pub coming : IsComing table haystack s first last q threads best

pub onward : (table : List (Place ℕ)) (haystack : Text) (s : List ℕ) (first last p : ℕ)
    (threads : List Thread)
    (best : Best) (x : Here) → GoesOnAt table haystack s threads best p x
    → IsComing table haystack s first last p threads best
    → Onward table haystack s first last p threads best x
onward table haystack s first last p threads best x (inl is) u =
    record { q = p; later = omega arith; is = is; coming = u }
onward table haystack s first last p threads best x (inr (empty, none, w)) u = record {
  q = w.q;
  later = w.later;
  is = w.is;
  coming = subst (λ z. IsComing table haystack s first last w.q threads z) (sym none)
      (jumped table haystack s first last p w.q threads empty w.later w.passed
      (subst (λ z. IsComing table haystack s first last p threads z) none u));
}

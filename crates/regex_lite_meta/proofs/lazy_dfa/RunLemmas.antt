-- A search that goes on at the same position or at a later one.
use Rattle.regex_lite_meta.proofs.Common.{◌≡◌, ℕ, zero, suc, ◌+◌, ◌-◌, ◌*◌, ◌<◌, ◌≤◌, true, ◌⊎◌}
use Rattle.regex_lite_meta.proofs.Common.{List, [], ◌∷◌, length, IfSome, Some, None, Option}
use Rattle.regex_lite_meta.proofs.Common.{MatchOption, sym, refl, ap, ◌∙◌, subst, inl, inr, arith}
use Rattle.regex_lite_meta.proofs.Common.{cases_lt, Text, arrows_of, best_kept, offset, Row, IsHere}
use Rattle.regex_lite_meta.proofs.Common.{AreDeadAt, PassesTo, MatchStart, Cache, Here, Automaton}
use Rattle.regex_lite_meta.proofs.Common.{ways_of, Suits, context_of, IsFirstStart, IsIn}
use Rattle.regex_lite_meta.proofs.Common.{IsOnItsWay, Thread, best_of, IsComing, Best, places_of}
use Rattle.std.specs.Prelude.{if◌then◌else◌}
use Rattle.regex_lite_engine.specs.declared.search.one_pattern.OnePattern.{OnePattern}
use Rattle.regex_lite_engine.specs.Graph.Parts.{IsOwnPart, row_of}
use Rattle.regex_lite_engine.specs.Graph.Places.{Place}
use Rattle.regex_lite_meta.specs.LazyDfa.Automaton.{FitsOwnParts, IsEmptyState}
use Rattle.regex_lite_engine.specs.Search.Bounds.{IsBoundedBy, StepCounts}
use Rattle.std.proofs.Math.Nat.{mul-le-mul_left, mul-suc}
use Rattle.regex_lite_engine.specs.Pikevm.Searching.{IsBetween, IsFresh}
use Rattle.regex_lite_engine.specs.Search.NumberedList.{IsEntry}
use Rattle.regex_lite_engine.specs.Search.Starts.{IsAmong, AreAllStarts}
use Rattle.regex_lite_engine.proofs.OffsetLemmas.{offset_grows, offset_less}
use Rattle.regex_lite_syntax.proofs.OptionLemmas.{not_there, same_some}
use Rattle.regex_lite_engine.proofs.ReadingCountLemmas.{reads_within}
use Rattle.regex_lite_engine.proofs.search.OneStartLemmas.{one_inside}
use Rattle.regex_lite_engine.proofs.pikevm.PassLemmas.{begun}
use Rattle.regex_lite_engine.proofs.pikevm.ComingLemmas.{jumped}

-- the only pattern may always start
-- the pattern of a graph by itself may start anywhere
pub all_of_one : (table : List (Place ℕ)) (entry : ℕ) → entry < length table
    → AreAllStarts table (entry ∷ []) (record { number = 0; place = entry } ∷ [])
all_of_one table entry inside = record {
  in_order = (omega arith, refl, tt);
  each = among;
  inside = one_inside (length table) (record { number = 0; place = entry }) true inside;
  few = omega arith;
  countable = omega arith;
}
  where
    among : (number s : ℕ) → IsEntry (entry ∷ []) number s
        → IsAmong number s (record { number = 0; place = entry } ∷ [])
    among zero s is = inl (refl, sym (same_some is))
    among (suc n) s is = absurd (not_there is)

-- and so may one that starts everywhere
pub all_everywhere : (one : OnePattern) → one.may_start ≡ true
    → AreAllStarts (places_of one.table.now) (one.entry ∷ [])
    (if one.may_start then record { number = 0; place = one.entry } ∷ [] else [])
all_everywhere one all =
    let table = places_of one.table.now in
    subst (λ may. AreAllStarts table (one.entry ∷ [])
    (if may then record { number = 0; place = one.entry } ∷ [] else [])) (sym all)
    (all_of_one table one.entry one.inside)

more_bound : (m p r s : ℕ) → s ≤ p → p < r → m * (p - s) + m ≤ m * (r - s)
more_bound m p r s low later =
    let e : m * suc (p - s) ≡ m * (p - s) + m = mul-suc m (p - s) in
    let le : m * suc (p - s) ≤ m * (r - s) = mul-le-mul_left m (omega (arith, low, later)) in
    omega (arith, e, le)

module _ (table : List (Place ℕ)) (h : Text) (entries : List ℕ) (s from : ℕ) {S : Type 0} where
  -- positions are passed over at which no match can begin
  pub passed_over : (p : ℕ) (cache : Cache S) (here : Here)
      → IsOnItsWay table h entries s from p cache
      → cache.walk.memory.threads ≡ [] → best_of cache.best ≡ None →
      (passes : PassesTo (AreDeadAt table h entries) h p here)
      → IsOnItsWay table h entries s from passes.q cache
  passed_over p cache here on in_start none passes =
      let low = on.low in let after = on.after in let later = passes.later in let tries = on.tries
      in
      let entered = on.entries_left in
      let most : (arrows_of table + length entries) * (p - s)
      ≤ (arrows_of table + length entries) * (passes.q - s) =
      mul-le-mul_left (arrows_of table + length entries) (omega (arith, low, later)) in
      let most_entered : length table * (p - s) ≤ length table * (passes.q - s) =
      mul-le-mul_left (length table) (omega (arith, low, later)) in
      record {
        low = omega (arith, low, later);
        after = omega (arith, after, later);
        ready = on.ready;
        coming =
            subst
            (λ b. IsComing table h entries from (length h) passes.q cache.walk.memory.threads b)
            (sym none)
            (jumped table h entries from
            (length h) p passes.q cache.walk.memory.threads in_start later passes.passed
            (subst (λ b. IsComing table h entries from (length h) p cache.walk.memory.threads b)
            none on.coming));
        tries = omega (arith, tries, most);
        entries_left = omega (arith, entered, most_entered);
        width = on.width;
        spent = λ begin len part. (
            let own = on.spent begin len part in
            let own_tries = own.tries in let own_entered = own.entries in
            let ways = arrows_of (row_of table begin len) + length entries in
            let most : ways * (p - s) ≤ ways * (passes.q - s) =
            mul-le-mul_left ways (omega (arith, low, later)) in
            let most_entered : len * (p - s) ≤ len * (passes.q - s) =
            mul-le-mul_left len (omega (arith, low, later)) in
            record {
              tries = omega (arith, own_tries, most);
              entries = omega (arith, own_entered, most_entered);
              few = own.few;
            });
      }

  -- the search continues at a later position, with no more threads than arrows, and than places
  -- that read in any part of its own
  pub moved_on : {before : ℕ} (p r : ℕ) (cache now : Cache S)
      → IsOnItsWay table h entries s before p cache
      → IsBetween table now → now.walk.steps ≡ cache.walk.steps
      → p < r → from ≤ r →
      length now.walk.memory.threads ≤ arrows_of table
      → FitsOwnParts table entries (length now.walk.memory.threads)
      → length now.walk.memory.row ≡ length cache.walk.memory.row →
      IsComing table h entries from (length h) r now.walk.memory.threads (best_of now.best)
      → IsOnItsWay table h entries s from r now
  moved_on p r cache now on ready steps later after few fits width coming =
      let low = on.low in let tries = on.tries in let entered = on.entries_left in
      let same_tried : now.walk.steps.tried ≡ cache.walk.steps.tried =
      ap (λ (c : StepCounts). c.tried) steps in
      let same_entered : now.walk.steps.entered ≡ cache.walk.steps.entered =
      ap (λ (c : StepCounts). c.entered) steps in
      let most = more_bound (arrows_of table + length entries) p r s low later in
      let most_entered = more_bound (length table) p r s low later in
      record {
        low = omega (arith, low, later);
        after = after;
        ready = ready;
        coming = coming;
        tries = omega (arith, tries, same_tried, few, most);
        entries_left = omega (arith, entered, same_entered, most_entered);
        width = width ∙ on.width;
        spent = λ begin len part. (
            let own = on.spent begin len part in
            let own_tries = own.tries in let own_entered = own.entries in
            let row = row_of table begin len in
            let ways = arrows_of row + length entries in
            let reads = fits begin len part in
            let more = reads_within row in
            let most = more_bound ways p r s low later in
            let most_entered = more_bound len p r s low later in
            record {
              tries = omega (arith, own_tries, same_tried, reads, more, most);
              entries = omega (arith, own_entered, same_entered, most_entered);
              few = reads;
            });
      }

-- a search on its way in the haystack
module _ (table : List (Place ℕ)) (h : Text) (entries : List ℕ) (s from p : ℕ) {S : Type 0}
    (cache : Cache S) (inside : s ≤ length h) (high : p ≤ length h + 1)
    (on : IsOnItsWay table h entries s from p cache) where
  bounded_by : (size ways : ℕ)
      → cache.walk.steps.tried + length cache.walk.memory.threads ≤ ways * (p - s)
      → cache.walk.steps.entered ≤ size * (p - s) → IsBoundedBy size ways h s
      cache.walk.steps.tried cache.walk.steps.entered cache.walk.steps.looked
  bounded_by size ways tries all_entered =
      let low = on.low in
      let entered = on.ready.entered_tried in let looked = on.ready.looked_entered in
      let within : p - s ≤ length h - s + 1 = omega (arith, low, inside, high) in
      let all_tries = mul-le-mul_left ways within in
      let all_entries = mul-le-mul_left size within in
      record {
        few_tried = omega (arith, tries, all_tries);
        entered_tried = entered;
        few_entered = omega (arith, all_entered, all_entries);
        few_looked = omega (arith, looked);
        none_beyond = λ lt. absurd (omega (arith, lt, inside));
      }

  -- it did no more than is allowed
  pub bounded_on : IsBoundedBy (length table) (arrows_of table + length entries) h s
      cache.walk.steps.tried cache.walk.steps.entered cache.walk.steps.looked
  bounded_on = bounded_by (length table) (arrows_of table + length entries) on.tries on.entries_left

  -- nor more than is allowed in any part of its own
  pub bounded_own : (low len : ℕ) → IsOwnPart table entries low len
      → IsBoundedBy len (arrows_of (row_of table low len) + length entries) h s
      cache.walk.steps.tried cache.walk.steps.entered cache.walk.steps.looked
  bounded_own low len part =
      let own = on.spent low len part in
      bounded_by len (arrows_of (row_of table low len) + length entries) own.tries own.entries

-- another start than this offset is the first where there are threads
pub other_first : (first at : ℕ) (threads : List Thread) → (length threads ≡ 0 → ⊥)
    → (first ≡ at → ⊥) → IsFirstStart first at threads
other_first first at [] some other = absurd (some refl)
other_first first at (t ∷ ts) some other = other

pub own_first : (at : ℕ) (threads : List Thread) → threads ≡ [] → IsFirstStart at at threads
own_first at threads none = subst (IsFirstStart at at) (sym none) refl

-- a search without threads is in its state, if that is known, whatever the first start
pub state_from : {S : Type 0} (automaton : Automaton) (state : Option ℕ) (first first' : ℕ)
    (before before' : Option ℕ) (cache : Cache S)
    → before' ≡ before → (cache.walk.memory.threads ≡ []) ⊎ (first' ≡ first) →
    MatchOption state (Unit {0}) (λ y. IsIn automaton y first before cache)
    → MatchOption state (Unit {0}) (λ y. IsIn automaton y first' before' cache)
state_from automaton None first first' before before' cache e reported known = tt
state_from automaton (Some y) first first' before before' cache e reported known = record {
  state = known.state;
  is_state = known.is_state;
  ways = same reported ∙ known.ways;
  suits = known.suits;
  sees = λ looks. ap context_of e ∙ known.sees looks;
}
  where
    same : (cache.walk.memory.threads ≡ []) ⊎ (first' ≡ first)
        → ways_of first' cache.walk.memory.threads ≡ ways_of first cache.walk.memory.threads
    same (inl none) = ap (ways_of first') none ∙ sym (ap (ways_of first) none)
    same (inr f) = ap (λ z. ways_of z cache.walk.memory.threads) f

-- a search without thread and match is in a start state, if that is known
pub maybe_in_empty : {S : Type 0} (automaton : Automaton) (state : Option ℕ) (first : ℕ)
    (before : Option ℕ) (cache : Cache S)
    → MatchOption state (Unit {0}) (λ y. IsEmptyState automaton y before) →
    cache.walk.memory.threads ≡ [] → best_of cache.best ≡ None
    → MatchOption state (Unit {0}) (λ y. IsIn automaton y first before cache)
maybe_in_empty automaton None first before cache empty none no_match = tt
maybe_in_empty automaton (Some y) first before cache empty none no_match = record {
  state = empty.state;
  is_state = empty.is_state;
  ways = ap (ways_of first) none ∙ sym empty.none;
  suits = subst (λ b. Suits b (best_of cache.best)) (sym empty.searching) no_match;
  sees = λ looks. sym (empty.sees looks);
}

-- later positions have higher offsets
pub at_later : (h : Text) (p q : ℕ) (a b : Here) → IsHere h p a → IsHere h q b → p ≤ q → a.at ≤ b.at
at_later h p q a b is js le = elim (cases_lt p q) [
  | inl lt ↦ (let less = offset_less h p q lt js.inside in omega (arith, less, is.bytes, js.bytes))
  | inr ge ↦
      (let same : offset h p ≡ offset h q =
      ap (offset h) (let e : p ≡ q = omega (arith, le, ge) in e) in
      omega (arith, same, is.bytes, js.bytes))
]

pub at_next : (h : Text) (p : ℕ) (a b : Here) → IsHere h p a → IsHere h (p + 1) b → a.at < b.at
at_next h p a b is next =
    let less = offset_less h p (p + 1) (omega arith) next.inside in
    omega (arith, less, is.bytes, next.bytes)

-- the same offset is the same position
pub other_at : (h : Text) (p q : ℕ) (a b : Here) → IsHere h p a → IsHere h q b → p ≤ q
    → (b.at ≡ a.at → ⊥) → p < q
other_at h p q a b is js le other = elim (cases_lt p q) [
  | inl lt ↦ lt
  | inr ge ↦
      absurd
      (other (js.bytes ∙ ap (offset h) (let e : q ≡ p = omega (arith, le, ge) in e) ∙ sym is.bytes))
]

-- higher offsets are those of later positions
pub position_later : (h : Text) (p q : ℕ) (a b : Here) → IsHere h p a → IsHere h q b → a.at < b.at
    → p < q
position_later h p q a b is js less = elim (cases_lt p q) [
  | inl lt ↦ lt
  | inr ge ↦ (let grows = offset_grows h q p ge in
      absurd (omega (arith, grows, is.bytes, js.bytes, less)))
]

-- a search that has not begun is on its way
pub begun_on : (table : List (Place ℕ)) (h : Text) (entries : List ℕ) (s : ℕ) {S : Type 0}
    (cache : Cache S)
    → IsFresh table cache → length cache.walk.memory.row ≡ 0
    → IsOnItsWay table h entries s s s cache
begun_on table h entries s cache fresh width =
    let u = begun table h entries s cache fresh in
    record {
      low = u.low;
      after = u.low;
      ready = u.ready;
      coming = u.coming;
      tries = u.tries;
      entries_left = u.entries;
      width = width;
      spent = u.own;
    }

-- a match was not complete before a place was entered
pub match_counted : (best : Best) (found : Option (MatchStart × ℕ)) (row : Row) (entered least : ℕ)
    → best ≡ best_kept found row → ((best ≡ None → ⊥) → 0 < entered) → least ≤ 1
    → IfSome found (λ _. least ≤ entered)
match_counted best None row entered least is some few = tt
match_counted best (Some found) row entered least is some few =
    let one = some (λ e. not_there (sym e ∙ is)) in omega (arith, one, few)

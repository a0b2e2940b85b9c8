-- How a lazy DFA changes when a way, a state or a transition is stored, or pending ways are
-- dropped.
use Rattle.regex_lite_meta.proofs.Common.{◌≡◌, ℕ, zero, suc, ◌+◌, ◌-◌, ◌*◌, ◌<◌, ◌≤◌, Bool, List}
use Rattle.regex_lite_meta.proofs.Common.{[], ◌∷◌, ◌++◌, map, length, take, drop, slice_get}
use Rattle.regex_lite_meta.proofs.Common.{slice_index, slice_set, Some, None, Option, sym, refl, ap}
use Rattle.regex_lite_meta.proofs.Common.{◌∙◌, arith, suc-mul, length-take-le, nil_from_length, Way}
use Rattle.regex_lite_meta.proofs.Common.{Automaton, unknown, Extends, Intervals, classes_in}
use Rattle.regex_lite_meta.proofs.Common.{way_in, number_of, state_in, StoredState, StoredWay}
use Rattle.regex_lite_meta.proofs.Common.{NextState, false, true≢false}
use Rattle.regex_lite_meta.specs.LazyDfa.Stored.{Agrees, LieWithin, is_known, known_match_flag}
use Rattle.regex_lite_meta.specs.LazyDfa.Stored.{last_match_flag, states_in, AllAgree, HasNoWays}
use Rattle.regex_lite_meta.specs.LazyDfa.Stored.{HasWays}
use Rattle.std.proofs.Math.Seq.{drop-length, take-length, take-set-lt}
use Rattle.regex_lite_meta.specs.declared.lazy_dfa.state.LookContext.{LookContext}
use Rattle.regex_lite_meta.specs.LazyDfa.Automaton.{State, StoredStart}
use Rattle.std.proofs.Common.{replicate, length-append, length-drop}
use Rattle.std.proofs.lemmas.List.{length-replicate, take-append-le, drop-append-le}
use Rattle.std.proofs.lemmas.List.{get_or-replicate, map-append, map-set, take-append-drop}
use Rattle.std.proofs.lemmas.List.{take_rest, drop-set-add, drop-set-lt, get_or-map, take-set-le}
use Rattle.std.proofs.lemmas.List.Elements.{All-append, All-replicate}
use Rattle.regex_lite_meta.specs.LazyDfa.Extending.{IsState}
use Rattle.regex_lite_syntax.proofs.OptionLemmas.{not_there, same_some}
use Rattle.regex_lite_syntax.proofs.LookupLemmas.{still_there, get_last}
use Rattle.regex_lite_meta.proofs.lazy_dfa.StoredStateLemmas.{seen}

-- what lies in a list lies there when more is added
pub part_same : {A : Type 0} (from len : ℕ) (xs ys : List A) → from + len ≤ length xs
    → take len (drop from (xs ++ ys)) ≡ take len (drop from xs)
part_same from len xs ys fits =
    ap (λ zs. take len zs) (drop-append-le from xs ys (omega (arith, fits)))
    ∙ take-append-le len (drop from xs) ys (let n = length-drop from xs in omega (arith, n, fits))

-- states stay what they are when ways are added
pub states_same : (states : List StoredState) (used : ℕ) (ways more : List StoredWay)
    (classes : ℕ) (next_states : List NextState)
    → LieWithin used states → used ≤ length ways →
    states_in (ways ++ more) classes next_states states ≡ states_in ways classes next_states states
states_same [] used ways more classes next_states within fits = refl
states_same (s ∷ states) used ways more classes next_states within fits =
    let own = within 0 s (omega arith) in
    ap (λ part. record {
      ways = map way_in part;
      searching = s.searching;
      before = s.before;
      match_flag = (state_in ways [] s).match_flag;
      restarts = s.restarts;
      next = map number_of (take classes next_states);
    } ∷ states_in (ways ++ more) classes (drop classes next_states) states)
    (part_same s.from s.len ways more (omega (arith, own, fits)))
    ∙ ap (λ rest. state_in ways (take classes next_states) s ∷ rest)
    (states_same states used ways more classes (drop classes next_states)
    (λ k d lt. within (suc k) d (omega (arith, lt))) fits)

-- nor do they need what is after those that they have
pub states_cut : (states : List StoredState) (used : ℕ) (ways : List StoredWay)
    (classes : ℕ) (next_states : List NextState)
    → LieWithin used states → used ≤ length ways →
    states_in (take used ways) classes next_states states ≡ states_in ways classes next_states
    states
states_cut states used ways classes next_states within fits =
    sym (states_same states used (take used ways) (drop used ways) classes next_states within
    (let n = length-take-le used ways fits in omega (arith, n)))
    ∙ ap (λ all. states_in all classes next_states states) (take-append-drop used ways)

-- one more state has the row that is added
pub states_added : (states : List StoredState) (ways : List StoredWay) (classes : ℕ)
    (next_states more : List NextState) (s : StoredState)
    → length next_states ≡ length states * classes → length more ≡ classes →
    states_in ways classes (next_states ++ more) (states ++ s ∷ [])
    ≡ states_in ways classes next_states states ++ state_in ways more s ∷ []
states_added [] ways classes next_states more s full len =
    let none : next_states ≡ [] = nil_from_length next_states (omega (arith, full)) in
    ap (λ ts. state_in ways (take classes (ts ++ more)) s ∷ []) none
    ∙ ap (λ n. state_in ways (take n more) s ∷ []) (sym len)
    ∙ ap (λ ts. state_in ways ts s ∷ []) (take-length more)
states_added (t ∷ states) ways classes next_states more s full len =
    let own = suc-mul (length states) classes in
    let fits : classes ≤ length next_states = omega (arith, full, own) in
    ap (λ ts. state_in ways ts t
    ∷ states_in ways classes (drop classes (next_states ++ more)) (states ++ s ∷ []))
    (take-append-le classes next_states more fits)
    ∙ ap (λ ts. state_in ways (take classes next_states) t
    ∷ states_in ways classes ts (states ++ s ∷ []))
    (drop-append-le classes next_states more fits)
    ∙ ap (λ rest. state_in ways (take classes next_states) t ∷ rest)
    (states_added states ways classes (drop classes next_states) more s
    (let n = length-drop classes next_states in omega (arith, n, full, own)) len)

-- a transition is cached
pub states_set : (states : List StoredState) (ways : List StoredWay) (classes : ℕ)
    (next_states : List NextState) (x class k : ℕ) (t : NextState) (state : State)
    → k ≡ x * classes + class → class < classes →
    slice_get (states_in ways classes next_states states) x ≡ Some state →
    states_in ways classes (slice_set next_states k t) states
    ≡ slice_set (states_in ways classes next_states states) x
    (record state { next = slice_set state.next class (number_of t) })
states_set [] ways classes next_states x class k t state e lt at = absurd (not_there at)
states_set (s ∷ states) ways classes next_states zero class k t state e lt at =
    let here : k ≡ class = omega (arith, e) in
    let inside : k < classes = omega (arith, here, lt) in
    let own : state_in ways (take classes next_states) s ≡ state = same_some at in
    ap (λ ts. state_in ways ts s ∷ states_in ways classes (drop classes (slice_set next_states k t))
    states) (take-set-lt classes next_states k t inside)
    ∙ ap (λ ts. state_in ways (slice_set (take classes next_states) k t) s
    ∷ states_in ways classes ts states) (drop-set-lt classes next_states k t inside)
    ∙ ap (λ j. state_in ways (slice_set (take classes next_states) j t) s
    ∷ states_in ways classes (drop classes next_states) states) here
    ∙ ap (λ next. record (state_in ways (take classes next_states) s) { next = next }
    ∷ states_in ways classes (drop classes next_states) states)
    (map-set number_of (take classes next_states) class t)
    ∙ ap (λ (z : State). record z { next = slice_set z.next class (number_of t) }
    ∷ states_in ways classes (drop classes next_states) states) own
states_set (s ∷ states) ways classes next_states (suc x) class k t state e lt at =
    let own = suc-mul x classes in
    let there : k ≡ classes + (x * classes + class) = omega (arith, e, own) in
    let past : classes ≤ k = omega (arith, there) in
    ap (λ ts. state_in ways ts s ∷ states_in ways classes (drop classes (slice_set next_states k t))
    states) (take-set-le classes next_states k t past)
    ∙ ap (λ j. state_in ways (take classes next_states) s
    ∷ states_in ways classes (drop classes (slice_set next_states j t)) states) there
    ∙ ap (λ ts. state_in ways (take classes next_states) s ∷ states_in ways classes ts states)
    (drop-set-add classes next_states (x * classes + class) t)
    ∙ ap (λ rest. state_in ways (take classes next_states) s ∷ rest)
    (states_set states ways classes (drop classes next_states) x class (x * classes + class) t state
    refl lt at)

-- what is pending has one way more
pub pending_more : (used : ℕ) (ways : List StoredWay) (way : StoredWay) → used ≤ length ways
    → map way_in (drop used (ways ++ way ∷ [])) ≡ map way_in (drop used ways) ++ way_in way ∷ []
pending_more used ways way fits =
    ap (map way_in) (drop-append-le used ways (way ∷ []) fits)
    ∙ map-append way_in (drop used ways) (way ∷ [])

module _ (intervals : Intervals) (reach : Option ℕ) (states : List StoredState)
    (next_states : List NextState) (used : ℕ) (ways : List StoredWay)
    (within : LieWithin used states) (fits : used ≤ length ways) where
  abbrev now : List State
  now = states_in ways (classes_in intervals) next_states states

  pub seen_pushed : (automaton : Automaton) → seen intervals reach states next_states used ways ≡
      automaton
      → (way : StoredWay) (more : List StoredWay) → more ≡ ways ++ way ∷ [] →
      seen intervals reach states next_states used more
      ≡ record automaton { pending = automaton.pending ++ way_in way ∷ [] }
  seen_pushed automaton view way more e =
      ap (seen intervals reach states next_states used) e
      ∙ ap (λ ss. record {
        intervals = intervals;
        reach = reach;
        states = ss;
        pending = map way_in (drop used (ways ++ way ∷ []));
      }) (states_same states used ways (way ∷ []) (classes_in intervals) next_states within fits)
      ∙ ap (λ more. record {
        intervals = intervals;
        reach = reach;
        states = now;
        pending = more;
      })
      (pending_more used ways way fits)
      ∙ ap (λ (z : Automaton). record z { pending = z.pending ++ way_in way ∷ [] }) view

  pub seen_cut : (less : List StoredWay) → less ≡ take used ways →
      seen intervals reach states next_states used less ≡ record {
        intervals = intervals;
        reach = reach;
        states = states_in ways (classes_in intervals) next_states states;
        pending = [];
      }
  seen_cut less e =
      ap (seen intervals reach states next_states used) e
      ∙ ap (λ ss. record {
        intervals = intervals;
        reach = reach;
        states = ss;
        pending = map way_in (drop used (take used ways));
      }) (states_cut states used ways (classes_in intervals) next_states within fits)
      ∙ ap (λ none. record {
        intervals = intervals;
        reach = reach;
        states = now;
        pending = map way_in none;
      })
      (none_left used ways)
    where
      none_left : {A : Type 0} (n : ℕ) (xs : List A) → drop n (take n xs) ≡ []
      none_left zero xs = refl
      none_left (suc n) [] = refl
      none_left (suc n) (x ∷ xs) = none_left n xs

  -- a state has all that was pending
  pub seen_added : (s : StoredState) → s.from ≡ used → s.len ≡ length ways - used
      → (all : List StoredState) → all ≡ states ++ s ∷ []
      → (rows more : List NextState) → rows ≡ next_states ++ more
      → length next_states ≡ length states * classes_in intervals
      → length more ≡ classes_in intervals →
      seen intervals reach all rows (length ways) ways ≡ record {
        intervals = intervals;
        reach = reach;
        states =
            states_in ways (classes_in intervals) next_states states
            ++ record (state_in ways more s) { ways = map way_in (drop used ways) } ∷ [];
        pending = [];
      }
  seen_added s from len all e rows more f full row =
      ap (λ ss. seen intervals reach ss rows (length ways) ways) e
      ∙ ap (λ ts. seen intervals reach (states ++ s ∷ []) ts (length ways) ways) f
      ∙ ap (λ ss. record {
        intervals = intervals;
        reach = reach;
        states = ss;
        pending = map way_in (drop (length ways) ways);
      }) (states_added states ways (classes_in intervals) next_states more s full row)
      ∙ ap (λ own. record {
        intervals = intervals;
        reach = reach;
        states = now ++ record (state_in ways more s) { ways = map way_in own } ∷ [];
        pending = map way_in (drop (length ways) ways);
      }) own_ways
      ∙ ap (λ none. record {
        intervals = intervals;
        reach = reach;
        states =
            now ++ record (state_in ways more s) { ways = map way_in (drop used ways) } ∷ [];
        pending = map way_in none;
      }) (drop-length ways)
    where
      own_ways : take s.len (drop s.from ways) ≡ drop used ways
      own_ways =
          ap (λ n. take n (drop s.from ways)) len
          ∙ ap (λ n. take (length ways - used) (drop n ways)) from ∙ take_rest ways used

-- the added state, beside those that there were
pub added_is : (old new : Automaton) (state : State)
    → new ≡ record old { states = old.states ++ state ∷ []; pending = [] } →
    IsState new (length old.states) state.ways state.searching state.before state.match_flag
    state.restarts
added_is old new state e = record {
  state = state;
  is =
      ap (λ (z : Automaton). slice_get z.states (length old.states)) e
      ∙ get_last old.states state;
  ways = refl;
  searching = refl;
  before = refl;
  match_flag = refl;
  restarts = refl;
}

pub added_extends : (old new : Automaton) (state : State)
    → new ≡ record old { states = old.states ++ state ∷ []; pending = [] } →
    state.ways ≡ old.pending
    → ((class : ℕ) → class < classes_in old.intervals → slice_index state.next class ≡ unknown)
    → Extends old new
added_extends old new state e own none = record {
  intervals = ap (λ (z : Automaton). z.intervals) e;
  reach = ap (λ (z : Automaton). z.reach) e;
  kept = λ x s at.
      ap (λ (z : Automaton). slice_get z.states x) e ∙ still_there old.states (state ∷ []) x s at;
  fresh = λ x s at other.
      fresh_one old.states x s (sym (ap (λ (z : Automaton). slice_get z.states x) e) ∙ at) other;
}
  where
    fresh_one : (states : List State) (x : ℕ) (s : State)
        → slice_get (states ++ state ∷ []) x ≡ Some s → (slice_get states x ≡ Some s → ⊥) →
        (s.ways ≡ old.pending)
        × ((class : ℕ) → class < classes_in old.intervals → slice_index s.next class ≡ unknown)
    fresh_one [] zero s at other = (
      ap (λ (z : State). z.ways) (sym (same_some at)) ∙ own,
      λ class lt. ap (λ (z : State). slice_index z.next class) (sym (same_some at)) ∙ none class lt,
    )
    fresh_one [] (suc x) s at other = absurd (not_there at)
    fresh_one (t ∷ states) zero s at other = absurd (other at)
    fresh_one (t ∷ states) (suc x) s at other = fresh_one states x s at other

-- a state with ways is one still when states are added
pub has_ways_still : (states more : List StoredState) (y : ℕ) (match_flag : Option StoredStart)
    (restarts : Bool) → HasWays states y match_flag restarts → HasWays (states ++ more) y match_flag
    restarts
has_ways_still states more y match_flag restarts own = record {
  state = own.state;
  is_state = still_there states more y own.state own.is_state;
  some = own.some;
  same = own.same;
  first = own.first;
}

-- nor does a state without ways get any
pub no_ways_still : (states more : List StoredState) (y : ℕ) (match_flag : Option StoredStart)
    → HasNoWays states y match_flag → HasNoWays (states ++ more) y match_flag
no_ways_still states more y match_flag own = record {
  state = own.state;
  is_state = still_there states more y own.state own.is_state;
  none = own.none;
  same = own.same;
}

-- and all kinds that are known are still right when a blank row is added
pub agree_added : (states more : List StoredState) (next_states : List NextState) (n : ℕ)
    (classes : ℕ) (blank : NextState)
    → is_known blank.kind ≡ false → known_match_flag blank.kind ≡ None
    → last_match_flag blank.kind ≡ None
    → AllAgree states classes next_states
    → AllAgree (states ++ more) classes (next_states ++ replicate n blank)
agree_added states more next_states n classes blank free none last agree =
    All-append (Agrees (states ++ more) classes) next_states (replicate n blank)
    (λ k d lt. let own = agree k d lt in record {
      row = own.row;
      within = λ reported.
          let inside = own.within reported in
          let m = length-append states more in omega (arith, inside, m);
      kind = λ match_flag reported. has_ways_still states more _ match_flag _
          (own.kind match_flag reported);
      ends = λ match_flag reported. no_ways_still states more _ match_flag
          (own.ends match_flag reported);
    })
    (All-replicate (Agrees (states ++ more) classes) n blank (record {
      row = λ reported. absurd (true≢false (sym reported ∙ free));
      within = λ reported. absurd (true≢false (sym reported ∙ free));
      kind = λ match_flag reported. absurd (not_there (sym none ∙ reported));
      ends = λ match_flag reported. absurd (not_there (sym last ∙ reported));
    }))

-- a state more lies within, if it has the ways that were pending
pub within_added : (states : List StoredState) (used len : ℕ) (s : StoredState)
    → LieWithin used states → used ≤ len → s.from ≡ used → s.len ≡ len - used
    → LieWithin len (states ++ s ∷ [])
within_added states used len s within fits from own =
    All-append (λ (state : StoredState). state.from + state.len ≤ len) states (s ∷ [])
    (λ k d lt. let below = within k d lt in omega (arith, below, fits))
    (All-replicate (λ (state : StoredState). state.from + state.len ≤ len) 1 s
    (omega (arith, from, own, fits)))

-- no transition of a blank row is cached
pub blank_row : (classes class : ℕ) (blank : NextState) → number_of blank ≡ unknown → class
    < classes → slice_index (map number_of (replicate classes blank)) class
    ≡ unknown
blank_row classes class blank none lt =
    get_or-map number_of (replicate classes blank) class blank 0
    (let n = length-replicate classes blank in omega (arith, n, lt))
    ∙ ap number_of (get_or-replicate classes class blank blank lt) ∙ none

-- it extends what has the same states
pub extends_same : (old new : Automaton) → new.intervals ≡ old.intervals
    → new.reach ≡ old.reach → new.states ≡ old.states → Extends old new
extends_same old new intervals reach same = record {
  intervals = intervals;
  reach = reach;
  kept = λ x s at. ap (λ states. slice_get states x) same ∙ at;
  fresh = λ x s at other. absurd (other (ap (λ states. slice_get states x) (sym same) ∙ at));
}

-- whatever is pending then
pub extends_pending : (old new : Automaton) (pending : List Way)
    → Extends old new → Extends old (record new { pending = pending })
extends_pending old new pending extends = record {
  intervals = extends.intervals;
  reach = extends.reach;
  kept = extends.kept;
  fresh = extends.fresh;
}

-- and a state is the same
pub is_state_pending : (automaton : Automaton) (pending all : List Way) (y : ℕ)
    (searching : Bool) (before : LookContext) (match_flag : Option StoredStart) (restarts : Bool)
    → IsState automaton y all searching before match_flag restarts
    → IsState (record automaton { pending = pending }) y all searching before match_flag restarts
is_state_pending automaton pending all y searching before match_flag restarts is = record {
  state = is.state;
  is = is.is;
  ways = is.ways;
  searching = is.searching;
  before = is.before;
  match_flag = is.match_flag;
  restarts = is.restarts;
}

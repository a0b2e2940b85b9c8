-- What a generation begins with: the capacity that it needs, and the threads and starts that are
-- followed.
use Rattle.std.proofs.lemmas.Bool.{false≢true}
use Rattle.regex_lite_engine.proofs.Common.{◌≡◌, ℕ, ◌+◌, ◌-◌, ◌^◌, ◌<◌, ◌≤◌, ◌⊎◌, List, [], ◌∷◌}
use Rattle.regex_lite_engine.proofs.Common.{◌++◌, length, replicate, slice_index_or, Some, None}
use Rattle.regex_lite_engine.proofs.Common.{sum_by, sym, refl, ap, ◌∙◌, subst, inl, inr, arith}
use Rattle.regex_lite_engine.proofs.Common.{length-append, cases_lt, sum_by-cons, slice_get-get_or}
use Rattle.regex_lite_engine.proofs.Common.{reading_count, stack_bound, arrow_count, arrows_of}
use Rattle.regex_lite_engine.proofs.Common.{Thread, thread_at, ThreadsBelow, begun, with_starts}
use Rattle.regex_lite_engine.proofs.Common.{Reported, lone, Best, Start, true, length-replicate}
use Rattle.regex_lite_engine.proofs.Common.{zero, suc, false}
use Rattle.regex_lite_engine.specs.Pikevm.Machine.{BestState, State}
use Rattle.std.specs.List.{All}
use Rattle.regex_lite_engine.specs.declared.pikevm.walk.Walk.{Walk}
use Rattle.regex_lite_engine.specs.Graph.Places.{Place}
use Rattle.regex_lite_engine.specs.Pikevm.Capacity.{HasCapacity}
use Rattle.regex_lite_engine.specs.Pikevm.Stepping.{IsReady}
use Rattle.regex_lite_syntax.proofs.OptionLemmas.{not_there}
use Rattle.regex_lite_engine.proofs.pikevm.CapacityLemmas.{left_most}
use Rattle.regex_lite_engine.proofs.pikevm.StateLemmas.{BeginsPosition}
use Rattle.regex_lite_engine.proofs.pikevm.ThreadLemmas.{Begun, at_front, at_back, begun_at}
use Rattle.regex_lite_engine.proofs.pikevm.ThreadLemmas.{begun_length}
use Rattle.regex_lite_engine.proofs.search.MarkLemmas.{blank_row}

pub sum_lone : (table : List (Place ℕ)) → sum_by lone table ≡ length table
sum_lone [] = refl
sum_lone (x ∷ table) = let more = sum_lone table in omega (arith, more, sum_by-cons lone x table)

pub fit_first : (table : List (Place ℕ)) {S : Type 0} (walk : Walk S) (memory : State)
    (best : BestState) → IsReady table walk.memory best walk.steps
    → memory ≡ record walk.memory { entered = replicate (length walk.memory.entered) false }
    → walk.steps.tried + arrows_of table < 2 ^ 127 → walk.steps.entered + length table < 2 ^ 127
    → HasCapacity table (record walk { memory = memory }) []
fit_first table walk memory best ready em few fewe =
    let m = walk.memory in let none = replicate (length m.entered) false in
    let a = left_most stack_bound none table in let b = left_most lone none table in
    let c = left_most arrow_count none table in let d = sum_lone table in
    let g = left_most reading_count none table in
    let e = ready.stack_room in let cap = ready.cap in
    let z : length m.next ≡ 0 = ap length ready.none_next in
    subst (λ (n : State). HasCapacity table (record walk { memory = n }) []) (sym em) (record {
      all_seen = length-replicate (length m.entered) false ∙ ready.all_seen;
      frames_below = tt;
      threads_below = λ k lt. absurd (omega (arith, lt, z));
      stack_room = omega (arith, a, e);
      next_room = omega (arith, g, z);
      next_cap = cap;
      few_tries = omega (arith, c, few, z);
      few_entries = omega (arith, b, d, fewe);
      entered_tried = ready.entered_tried;
      looked_entered = ready.looked_entered;
    })

pub begun_len : (best : Best) (starts : List Start) (at : ℕ → Reported) (cur cur' : List Thread)
    → Begun starts at best cur cur' → (length cur') ≤ length cur + length starts
begun_len best starts at cur cur' (inl (none, (blank, blanks, pushed))) =
    let e = ap length pushed ∙ length-append cur (begun at blank starts) in
    let f = begun_length at blank starts in omega (arith, e, f)
begun_len best starts at cur cur' (inr (some, same)) =
    let e : (length cur') ≡ length cur = ap (λ (t : List Thread). length t) same in omega (arith, e)

pub begun_below : (c : ℕ) (best : Best) (starts : List Start) (at : ℕ → Reported)
    (cur cur' : List Thread)
    → All (λ start. start.place < c) starts → ThreadsBelow c cur → Begun starts at best cur cur'
    → ThreadsBelow c cur'
begun_below c best starts at cur cur' inside below (inl (none, (blank, blanks, pushed))) =
    subst (λ (t : List Thread). ThreadsBelow c t) (sym pushed)
    (λ k lt. by_place k lt (cases_lt k (length cur)))
  where
    by_place : (k : ℕ) → k < length (cur ++ begun at blank starts)
        → (k < length cur) ⊎ (length cur ≤ k) → (thread_at (cur ++ begun at blank starts) k).0 < c
    by_place k lt (inl less) =
        subst (λ (t : Thread). t.0 < c) (sym (at_front cur (begun at blank starts) k less))
        (below k less)
    by_place k lt (inr le) =
        let few : k - length cur < length starts =
        omega
        (arith, lt, le, length-append cur (begun at blank starts), begun_length at blank starts) in
        let none : Start = record { number = 0; place = 0 } in
        let there = slice_get-get_or starts (k - length cur) none few in
        subst (λ (t : Thread). t.0 < c)
        (sym (at_back cur (begun at blank starts) k le
        ∙ begun_at at blank starts (k - length cur)
        (slice_index_or starts (k - length cur) none) there))
        (inside (k - length cur) none few)
begun_below c best starts at cur cur' inside below (inr (some, same)) =
    subst (λ (t : List Thread). ThreadsBelow c t) (sym same) below

pub start_begun : (starts : List Start) (at : ℕ → Reported) (w : ℕ) (best : Best) (ts : List Thread)
    → Begun starts at best ts (with_starts starts at best w ts)
start_begun starts at w None ts = inl (refl, (replicate w None, blank_row w, refl))
start_begun starts at w (Some b) ts = inr ((λ e. not_there (sym e)), refl)

-- the ways of a generation that begins
pub begins_with : (m n : State) (starts : List Start) (reported : ℕ → Reported) (best : Best)
    → BeginsPosition m n
    → Begun starts reported best m.threads
    (with_starts starts reported best (length n.row) n.threads)
begins_with m n starts reported best generation =
    subst (λ ts. Begun starts reported best ts
    (with_starts starts reported best (length n.row) n.threads)) generation.threads
    (start_begun starts reported (length n.row) best n.threads)

none_at : (n q : ℕ) → slice_index_or (replicate n false) q false ≡ false
none_at zero q = refl
none_at (suc n) zero = refl
none_at (suc n) (suc q) = none_at n q

-- no place was entered at it
pub none_entered : (m n : State) → BeginsPosition m n
    → (q : ℕ) → slice_index_or n.entered q false ≡ true → ⊥
none_entered m n generation q e =
    let none : slice_index_or n.entered q false ≡ false =
    ap (λ x. slice_index_or x q false) generation.entered ∙ none_at (length m.entered) q in
    false≢true (sym none ∙ e)

-- a thread, or a start after them
abbrev IsLoaded : (starts : List Start) (at : ℕ → Reported) (w : ℕ) (ts ways : List Thread) (k : ℕ)
    → Type 0
IsLoaded starts at w ts ways k =
    (k < length ts + length starts)
    × (thread_at ways k ≡ thread_at (ts ++ begun at (replicate w None) starts) k)

pub start_taken : (starts : List Start) (at : ℕ → Reported) (w : ℕ) (best : Best) (ts : List Thread)
    (k : ℕ)
    → k < length (with_starts starts at best w ts)
    → IsLoaded starts at w ts (with_starts starts at best w ts) k
start_taken starts at w None ts k lt = (
  omega (
    arith,
    lt,
    length-append ts (begun at (replicate w None) starts),
    begun_length at (replicate w None) starts,
  ),
  refl,
)
start_taken starts at w (Some b) ts k lt =
    (omega (arith, lt), sym (at_front ts (begun at (replicate w None) starts) k lt))

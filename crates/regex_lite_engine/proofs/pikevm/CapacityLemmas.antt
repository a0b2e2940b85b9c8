-- What entering a place takes of what is left, and what it adds to frames and threads.
use Rattle.regex_lite_engine.proofs.Common.{◌≡◌, ℕ, zero, suc, ◌+◌, ◌<◌, ◌≤◌, Bool, true, false}
use Rattle.regex_lite_engine.proofs.Common.{◌⊎◌, List, [], ◌∷◌, ◌++◌, map, length, set}
use Rattle.regex_lite_engine.proofs.Common.{if◌then◌else◌, slice_get, slice_index_or, slice_set}
use Rattle.regex_lite_engine.proofs.Common.{Some, None, sum_by, sym, refl, ap, ◌∙◌, subst, inl, inr}
use Rattle.regex_lite_engine.proofs.Common.{arith, length-append, length-set, cases_lt, length-map}
use Rattle.regex_lite_engine.proofs.Common.{sum_by-cons, in_ranges, Set, just, holds_between}
use Rattle.regex_lite_engine.proofs.Common.{ClassRange, with_arrows, go, go_marking, go_reading}
use Rattle.regex_lite_engine.proofs.Common.{one_of, reading_count, stack_bound, arrow_count}
use Rattle.regex_lite_engine.proofs.Common.{place_of, LeadBelow, LeadsBelow, reads, pushing}
use Rattle.regex_lite_engine.proofs.Common.{reading_on, Thread, thread_at, ThreadsBelow, Reported}
use Rattle.regex_lite_engine.proofs.Common.{Here}
use Rattle.regex_lite_engine.specs.declared.nfa.place.Place as code
use Rattle.regex_lite_engine.specs.declared.nfa.place.Place.TheVariants as stored
use Rattle.regex_lite_engine.specs.Graph.Places.{Place}
use Rattle.regex_lite_engine.specs.Pikevm.Entering.{Enters}
use Rattle.regex_lite_engine.specs.Pikevm.Machine.{Job, explore, restore, State}
use Rattle.regex_lite_engine.specs.Pikevm.Capacity.{left_of, explores, FramesBelow}
use Rattle.regex_lite_engine.proofs.pikevm.EnterLemmas.{reads_none}
use Rattle.regex_lite_syntax.proofs.OptionLemmas.{not_there, same_some}
use Rattle.regex_lite_engine.proofs.pikevm.ThreadLemmas.{at_end, at_front}
use Rattle.regex_lite_engine.proofs.search.CountLemmas.{test_most}

pub left_enter : (f : Place ℕ → ℕ) (entered : List Bool) (table : List (Place ℕ)) (q : ℕ)
    (x : Place ℕ)
    → slice_get table q ≡ Some x → q < length entered →
    (slice_index_or entered q false ≡ true → ⊥)
    → left_of f (set entered q true) table + f x ≡ left_of f entered table
left_enter f [] table q x e short new = absurd (omega (arith, short))
left_enter f (was ∷ entered) [] q x e short new = absurd (not_there e)
left_enter f (true ∷ entered) (y ∷ table) zero x e short new = absurd (new refl)
left_enter f (false ∷ entered) (y ∷ table) zero x e short new =
    let same : f y ≡ f x = ap f (same_some e) in omega (arith, same)
left_enter f (was ∷ entered) (y ∷ table) (suc q) x e short new =
    let more : left_of f (set entered q true) table + f x ≡ left_of f entered table =
    left_enter f entered table q x e (omega (arith, short)) new in
    omega (arith, more)

-- what is left has room for a place that is new
pub left_room : (f : Place ℕ → ℕ) (entered : List Bool) (table : List (Place ℕ)) (q : ℕ)
    (x : Place ℕ)
    → slice_get table q ≡ Some x → q < length entered →
    (slice_index_or entered q false ≡ true → ⊥) → f x ≤ left_of f entered table
left_room f entered table q x e short new =
    let more = left_enter f entered table q x e short new in omega (arith, more)

pub left_most : (f : Place ℕ → ℕ) (entered : List Bool) (table : List (Place ℕ))
    → left_of f entered table ≤ sum_by f table
left_most f [] table = omega arith
left_most f (was ∷ entered) [] = omega arith
left_most f (was ∷ entered) (x ∷ table) =
    let more = left_most f entered table in
    omega (arith, more, test_most was (f x), sum_by-cons f x table)

explores-map : (qs : List ℕ) (fs : List Job)
    → explores (map (λ q. explore q) qs ++ fs) ≡ explores fs + length qs
explores-map [] fs = omega arith
explores-map (q ∷ qs) fs = let more = explores-map qs fs in omega (arith, more)

pub entries_kept : (qs : List ℕ) → length qs ≤ stack_bound (with_arrows (map (λ q. go q) qs)) + 1
entries_kept [] = omega arith
entries_kept (q ∷ qs) = omega (arith, length-map qs (λ (q : ℕ). go q))

frames_all : (c width : ℕ) (qs : List ℕ) (fs : List Job) → LeadBelow c (map (λ q. go q) qs)
    → FramesBelow c width fs → FramesBelow c width (map (λ q. explore q) qs ++ fs)
frames_all c width [] fs f within = within
frames_all c width (q ∷ qs) fs f within = (f.0, frames_all c width qs fs f.1 within)

pub threads_pushed : (c : ℕ) (ts : List Thread) (thread : Thread) → thread.0 < c
    → ThreadsBelow c ts → ThreadsBelow c (ts ++ thread ∷ [])
threads_pushed c ts thread fits within k lt = go (cases_lt k (length ts))
  where
    go : (k < length ts) ⊎ (length ts ≤ k) → (thread_at (ts ++ thread ∷ []) k).0 < c
    go (inl less) =
        subst (λ (z : Thread). z.0 < c) (sym (at_front ts (thread ∷ []) k less)) (within k less)
    go (inr le) =
        let last : k ≡ length ts = omega (arith, lt, le, length-append ts (thread ∷ [])) in
        subst (λ (z : Thread). z.0 < c)
        (sym (ap (thread_at (ts ++ thread ∷ [])) last ∙ at_end ts thread)) fits

-- what entering a place adds to the frames and the threads, in a table of c places
pub record Adds (c : ℕ) (x : Place ℕ) (m e : State) : Type 0 where
  pub few : explores e.frames + length e.next
      ≤ explores m.frames + length m.next + arrow_count x
  pub long : length e.frames ≤ length m.frames + (arrow_count x + 1)
  pub keeps : length e.frames ≤ length m.frames + (stack_bound x + 1)
  pub reads : length e.next ≤ length m.next + reading_count x
  pub frames_below : FramesBelow c (length e.row) e.frames
  pub threads_below : ThreadsBelow c e.next

module _ (whole : Bool) (here : Here) (i : Reported) (c : ℕ) (m : State)
    (within : FramesBelow c (length m.row) m.frames) (all : ThreadsBelow c m.next) where
  adds_pushed : (x : Place ℕ) (qs : List ℕ) → LeadBelow c (map (λ q. go q) qs)
      → length qs ≤ arrow_count x → length qs ≤ stack_bound x + 1
      → Adds c x m (pushing m (map (λ q. explore q) qs))
  adds_pushed x qs inside few kept =
      let long : length (map (λ q. explore q) qs ++ m.frames) ≡ length qs + length m.frames =
      length-append (map (λ q. explore q) qs) m.frames
      ∙ ap (λ n. n + length m.frames) (length-map qs (λ q. explore q)) in
      let more = explores-map qs m.frames in
      record {
        few = omega (arith, more, few);
        long = omega (arith, long, few);
        keeps = omega (arith, long, kept);
        reads = omega arith;
        frames_below = frames_all c (length m.row) qs m.frames inside within;
        threads_below = all;
      }

  adds_nothing : (x : Place ℕ) → Adds c x m m
  adds_nothing x = adds_pushed x [] tt (omega arith) (omega arith)

  adds_read : (set : Set) (to : ℕ) (b : Bool) → to < c
      → Adds c (with_arrows (go_reading set to ∷ [])) m (reading_on b m (to, i, m.row))
  adds_read set to true inside =
      let long = length-append m.next ((to, i, m.row) ∷ []) in
      record {
        few = omega (arith, long);
        long = omega arith;
        keeps = omega arith;
        reads = omega (arith, long);
        frames_below = within;
        threads_below = threads_pushed c m.next (to, i, m.row) inside all;
      }
  adds_read set to false inside = adds_nothing (with_arrows (go_reading set to ∷ []))

  adds_class : (ranges : List ClassRange) (to : ℕ) → LeadsBelow c (one_of ranges to)
      → Adds c (one_of ranges to) m
      (reading_on (reads (in_ranges ranges) here.after) m (to, i, m.row))
  adds_class [] to inside =
      subst (λ b. Adds c (one_of [] to) m (reading_on b m (to, i, m.row)))
      (sym (reads_none here.after)) (adds_nothing (one_of [] to))
  adds_class (r ∷ rs) to inside =
      adds_read (in_ranges (r ∷ rs)) to (reads (in_ranges (r ∷ rs)) here.after) inside.0

  adds_look : (x : Place ℕ) (to : ℕ) (b : Bool) → to < c → 1 ≤ arrow_count x
      → Adds c x m (if b then pushing m (explore to ∷ []) else m)
  adds_look x to true inside few = adds_pushed x (to ∷ []) (inside, tt) few (omega arith)
  adds_look x to false inside few = adds_nothing x

  adds_marked : (slot to : ℕ) (frames : List Job) → to < c
      → explores frames ≡ explores m.frames → length frames ≤ length m.frames + 1
      → FramesBelow c (length m.row) frames
      → Adds c (with_arrows (go_marking slot to ∷ [])) m (record m {
        row = slice_set m.row slot (Some here.at);
        frames = explore to ∷ frames;
      })
  adds_marked slot to frames inside same long below = record {
    few = omega (arith, same);
    long = omega (arith, long);
    keeps = omega (arith, long);
    reads = omega arith;
    frames_below =
        subst (λ z. FramesBelow c z (explore to ∷ frames))
        (sym (length-set m.row slot (Some here.at))) (inside, below);
    threads_below = all;
  }

  module _ (e : State) (done : Bool) where
    pub enters_adds : (x : code.Place) → LeadsBelow c (place_of x) → Enters whole here i x m e done
        → Adds c (place_of x) m e
    enters_adds (stored.Empty to) inside (same, ed) =
        subst (Adds c (place_of (stored.Empty to)) m) (sym same)
        (adds_pushed (place_of (stored.Empty to)) (to ∷ []) inside (omega arith) (omega arith))
    enters_adds (stored.Char ch to) inside (same, ed) =
        subst (Adds c (place_of (stored.Char ch to)) m) (sym same)
        (adds_read (just ch) to (reads (just ch) here.after) inside.0)
    enters_adds (stored.Class to set) inside (same, ed) =
        subst (Adds c (one_of set to) m) (sym same)
        (adds_class set to inside)
    enters_adds (stored.Look l to) inside (same, ed) =
        let b = holds_between l here.before here.after in
        subst (Adds c (place_of (stored.Look l to)) m) (sym same)
        (adds_look (place_of (stored.Look l to)) to b inside.0 (omega arith))
    enters_adds (stored.Slot slot to) inside (inl (lt, inl same), ed) =
        subst (Adds c (place_of (stored.Slot slot to)) m) (sym same)
        (adds_marked slot to (restore slot (slice_index_or m.row slot None) ∷ m.frames) inside.0
        refl (omega arith) (lt, within))
    enters_adds (stored.Slot slot to) inside (inl (lt, inr (none, same)), ed) =
        subst (Adds c (place_of (stored.Slot slot to)) m) (sym same)
        (adds_marked slot to m.frames inside.0 refl (omega arith) within)
    enters_adds (stored.Slot slot to) inside (inr (past, same), ed) =
        subst (Adds c (place_of (stored.Slot slot to)) m) (sym same)
        (adds_pushed (place_of (stored.Slot slot to)) (to ∷ []) inside (omega arith) (omega arith))
    enters_adds (stored.Choice a b) inside (same, ed) =
        subst (Adds c (place_of (stored.Choice a b)) m) (sym same)
        (adds_pushed (place_of (stored.Choice a b)) (a ∷ (b ∷ [])) inside (omega arith)
        (omega arith))
    enters_adds (stored.Branches all) inside (same, ed) =
        subst (Adds c (place_of (stored.Branches all)) m) (sym same)
        (adds_pushed (place_of (stored.Branches all)) all.items inside
        (omega (arith, length-map all.items (λ (q : ℕ). go q))) (entries_kept all.items))
    enters_adds stored.Match inside (same, ed) =
        subst (Adds c (place_of stored.Match) m) (sym same) (adds_nothing (place_of stored.Match))

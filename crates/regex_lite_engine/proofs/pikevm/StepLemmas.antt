-- From thread to thread of a position.
use Rattle.regex_lite_engine.proofs.Common.{◌≡◌, ℕ, ◌+◌, ◌^◌, ◌<◌, ◌≤◌, Bool, false, List, [], ◌∷◌}
use Rattle.regex_lite_engine.proofs.Common.{◌++◌, length, drop, if◌then◌else◌, Some, sym, refl, ap}
use Rattle.regex_lite_engine.proofs.Common.{◌∙◌, subst, arith, stack_bound, stack_bound_of}
use Rattle.regex_lite_engine.proofs.Common.{all_relabelled, state_relabelled, KeepsPosition, Thread}
use Rattle.regex_lite_engine.proofs.Common.{StepsAt, WayReported, ThreadsHold, InStep, SearchAt}
use Rattle.regex_lite_engine.proofs.Common.{Reported, no_start, Best, Node, PendingNode, Here}
use Rattle.regex_lite_engine.specs.Pikevm.Again.{AreAlike, relabelled}
use Rattle.regex_lite_engine.specs.Pikevm.Stepping.{Between, StepsTo}
use Rattle.regex_lite_engine.specs.declared.pikevm.walk.Walk.{Walk}
use Rattle.regex_lite_engine.specs.Graph.Places.{Place}
use Rattle.regex_lite_engine.specs.Pikevm.Machine.{explore, State}
use Rattle.regex_lite_engine.specs.Pikevm.Capacity.{with_frames, HasCapacity, Explores, IsFit}
use Rattle.regex_lite_engine.specs.Pikevm.Capacity.{GoesOn, WalksAt, due_tries, due_entries}
use Rattle.regex_lite_engine.specs.Pikevm.Capacity.{explores}
use Rattle.regex_lite_engine.specs.Pikevm.Walking.{IsWalking}
use Rattle.regex_lite_engine.proofs.pikevm.CapacityLemmas.{left_most}
use Rattle.regex_lite_engine.proofs.pikevm.StateLemmas.{takes_up}
use Rattle.regex_lite_engine.proofs.pikevm.WalkLemmas.{walk_framed}
use Rattle.regex_lite_engine.proofs.pikevm.WentLemmas.{walk_is}

-- the way of this thread is followed, and nothing else is left to do
abbrev pub taking_up : State → Thread → State
taking_up m thread = record m { row = thread.2; frames = explore thread.0 ∷ [] }

-- nothing is left to do, and the first of the ways is loaded
thread_taken : (table : List (Place ℕ)) (at : SearchAt) (m : State) (thread : Thread)
    (ways : List Thread) (best : Best)
    → Between table at m (thread ∷ ways) best
    → IsWalking table at (taking_up m thread) thread.1 ways best
thread_taken table at m thread ways best u =
    go u.later u.ways_hold (subst (λ z. In_step (z ++ u.later)) u.frames_hold u.in_step)
  where
    In_step : List (PendingNode Node) → Type 0
    In_step now =
        InStep table at.haystack at.entries at.whole at.first at.last at.p at.from u.recorded now
        u.coming u.way

    go : (later : List (PendingNode Node))
        → ThreadsHold table at.haystack at.entries at.p (thread ∷ ways) later → In_step later
        → IsWalking table at (taking_up m thread) thread.1 ways best
    go [] held in_step = absurd held
    go (o ∷ later) (there, holds, more) in_step = record {
      recorded = u.recorded;
      under = o ∷ [];
      later = later;
      coming = u.coming;
      way = u.way;
      in_step = in_step;
      seen = u.seen;
      met = u.met;
      frames_hold = (
        o.1,
        [],
        ap (λ z. (z, o.1) ∷ []) there,
        subst (λ z. WayReported table at.haystack at.entries thread.1 thread.2 z o.1) there holds,
        refl,
      );
      ways_hold = more;
      coming_hold = u.coming_hold;
      best_holds = u.best_holds;
    }

-- the first of the ways is followed
pub stepped : (table : List (Place ℕ)) (at : SearchAt) (here : Here) (m m' : State)
    (thread : Thread) (ways : List Thread) (b : Best) (done : Bool)
    → WalksAt table at here thread.1 (taking_up m thread) (record m' { frames = [] }) done
    → StepsAt table at here m (thread ∷ ways) b m' (if done then [] else ways)
    (if done then Some (thread.1, here.at, m'.row) else b)
stepped table at here m m' thread ways b done walks = λ is u.
    let over = walks is ways b (thread_taken table at m thread ways b u) in
    walk_framed table at (record m' { frames = [] }) thread.1 (if done then [] else ways)
    (if done then Some (thread.1, here.at, m'.row) else b) over no_start [] [] over.frames_hold

-- a thread was loaded: x is w but for the frames and the row
module _ (table : List (Place ℕ)) {S : Type 0} (w x : Walk S) (q : ℕ)
    (em : x.memory ≡ record w.memory { row = x.memory.row; frames = [] })
    (ec : x.steps ≡ w.steps) where
  abbrev pub taken : Walk S
  taken = record w {
    memory = record w.memory { row = x.memory.row; frames = explore q ∷ [] };
  }

  is_taken : with_frames x (explore q ∷ x.memory.frames) ≡ taken
  is_taken = ap (λ (z : Walk S). with_frames z (explore q ∷ z.memory.frames)) (walk_is x em ec)

  pub room_pushed : q < length table → stack_bound_of table < length table
      → due_tries table w + 1 < 2 ^ 127 → HasCapacity table w []
      → HasCapacity table x (explore q ∷ x.memory.frames)
  room_pushed inside kept few fit =
      let most = left_most stack_bound w.memory.entered table in
      subst (λ (z : Walk S). IsFit table z) (sym is_taken) (record {
        all_seen = fit.all_seen;
        frames_below = (inside, tt);
        threads_below = fit.threads_below;
        stack_room = omega (arith, most, kept);
        next_room = fit.next_room;
        next_cap = fit.next_cap;
        few_tries = omega (arith, few);
        few_entries = fit.few_entries;
        entered_tried = fit.entered_tried;
        looked_entered = fit.looked_entered;
      })

  -- its ways were followed
  pub goes_up : (whole : Bool) (here : Here) (i : Reported) (y : Walk S) (done : Bool)
      → Explores table whole here i x y (explore q ∷ x.memory.frames) done
      → GoesOn table whole here i taken (with_frames y []) done
  goes_up whole here i y done explored =
      subst (λ (z : Walk S). GoesOn table whole here i z (with_frames y []) done) is_taken explored

-- The first k of the ways were followed, up to a complete match of the last of them, which began
-- at `start`, where one is done
pub record HasFollowed {S : Type 0} (table : List (Place ℕ)) (whole : Bool) (here : Here)
    (ways : List Thread) (best : Best) (first : Walk S) (start : Reported) (walk : Walk S) (k : ℕ)
    (done : Bool) : Type 0 where
  pub steps :
      StepsTo table whole here first.memory ways best walk.memory (if done then [] else drop k ways)
      (if done then Some (start, here.at, walk.memory.row) else best)
  pub again : whole ≡ false → (tell : Reported → Reported) (there : Here) (b : Best) (at : SearchAt)
      → at.whole ≡ false → AreAlike table at.entries here there
      → StepsAt table at there (state_relabelled tell first.memory) (all_relabelled tell ways) b
      (state_relabelled tell walk.memory) (if done then [] else all_relabelled tell (drop k ways))
      (if done then Some (tell start, there.at, []) else b)
  pub kept : KeepsPosition first.memory walk.memory
  pub spent : due_tries table walk ≤ due_tries table first + k
  pub spent_entries : due_entries table walk ≤ due_entries table first
  pub empty : walk.memory.frames ≡ []

-- the next of them is loaded and followed too
pub follows_on : {S : Type 0} {table : List (Place ℕ)} {whole : Bool} {here : Here}
    {ways : List Thread}
    {best : Best} {first w x y : Walk S} {before start : Reported} {k q : ℕ} {done : Bool}
    → HasFollowed table whole here ways best first before w k false
    → drop k ways ≡ (q, start, x.memory.row) ∷ drop (k + 1) ways
    → x.memory ≡ record w.memory { row = x.memory.row }
    → length x.memory.row ≡ length w.memory.row → x.steps ≡ w.steps
    → Explores table whole here start x y (explore q ∷ x.memory.frames) done
    → y.memory.frames ≡ [] → KeepsPosition x.memory y.memory
    → HasFollowed table whole here ways best first start y (k + 1) done
follows_on {table = table} {whole} {here} {ways} {best} {w = w} {x} {y} {start = start} {k} {q}
    {done} v
    next same width counts explored empty kept =
    let em = takes_up w.memory x.memory same v.empty in
    let on = goes_up table w x q em counts whole here start y done explored in
    let left = drop (k + 1) ways in let thread : Thread = (q, start, x.memory.row) in
    let idle : explores y.memory.frames ≡ 0 = ap (λ fs. explores fs) empty in
    record {
      steps = λ at same is u.
          stepped table at here w.memory y.memory thread left best done (on.walks at same) is
          (subst (λ (ts : List Thread). Between table at w.memory ts best) next
          (v.steps at same is u));
      again = λ all tell there b at same alike is u.
          stepped table at there (state_relabelled tell w.memory) (state_relabelled tell y.memory)
          (relabelled tell thread) (all_relabelled tell left) b done
          (on.again all tell there at same alike) is
          (subst (λ (ts : List Thread). Between table at (state_relabelled tell w.memory)
          (all_relabelled tell ts) b) next (v.again all tell there b at same alike is u));
      kept = record {
        threads = kept.threads ∙ ap (λ (m : State). m.threads) em ∙ v.kept.threads;
        room = kept.room ∙ ap (λ (m : State). m.room) em ∙ v.kept.room;
        row = kept.row ∙ width ∙ v.kept.row;
      };
      spent = omega (arith, on.spent, v.spent, idle);
      spent_entries = omega (arith, on.spent_entries, v.spent_entries);
      empty = empty;
    }

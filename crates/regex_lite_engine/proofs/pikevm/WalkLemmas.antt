-- The steps of a walk over one position of a haystack.
use Rattle.regex_lite_engine.proofs.Common.{◌≡◌, ℕ, suc, ◌<◌, ◌⊎◌, List, [], ◌∷◌, ◌++◌, length}
use Rattle.regex_lite_engine.proofs.Common.{IsTrue, slice_set, Some, None, Option, sym, refl, ap}
use Rattle.regex_lite_engine.proofs.Common.{◌∙◌, subst, inl, inr, append_assoc, cases_eq}
use Rattle.regex_lite_engine.proofs.Common.{get_or-set_other, get_or-set_same, Text, Thread}
use Rattle.regex_lite_engine.proofs.Common.{WayReported, ThreadsHold, InStep, SearchAt, Reported}
use Rattle.regex_lite_engine.proofs.Common.{Marks, marked, over, mark_of, marks_along, place_with}
use Rattle.regex_lite_engine.proofs.Common.{numbered_step, is_wanted_end, StartsOf, Best, Node}
use Rattle.regex_lite_engine.proofs.Common.{PendingNode, offset, HasSlots, Row, false}
use Rattle.regex_lite_engine.proofs.Common.{slice_index_or, true}
use Rattle.regex_lite_engine.specs.Graph.Places.{Place}
use Rattle.regex_lite_engine.specs.Pikevm.Machine.{Job, explore, State}
use Rattle.regex_lite_engine.specs.Pikevm.Walking.{FramesHold, IsWalking}
use Rattle.regex_lite_engine.proofs.laws.LeadsLemmas.{leads_append}
use Rattle.regex_lite_engine.proofs.pikevm.InStepLemmas as deep
use Rattle.regex_lite_engine.proofs.pikevm.InStepMatchLemmas.{in_step_complete, in_step_passed}
use Rattle.regex_lite_engine.proofs.search.MarkLemmas.{marks_append, same_slots}
use Rattle.regex_lite_engine.proofs.search.PlaceLemmas.{wide, no_more, no_arrow_at, is_pending_by}
use Rattle.regex_lite_engine.proofs.search.PlaceLemmas.{pending_listed}
use Rattle.regex_lite_engine.proofs.search.RecordLemmas as records
use Rattle.regex_lite_engine.proofs.search.RecordLemmas.{same_node, none_or}
use Rattle.regex_lite_engine.proofs.search.WantedLemmas.{complete_there}

module _ (table : List (Place ℕ)) (haystack : Text) (s : List ℕ) where
  pub holds_on : (i : Reported) (row row' : Row) (n : Node) (w : List ℕ) (a : ℕ) (l : Node)
      → WayReported table haystack s i row n w → numbered_step table haystack n a ≡ Some l →
      ((ms : Marks) → HasSlots haystack row ms
      → HasSlots haystack row' (over (marked (mark_of (place_with table n.0) a) n.1) ms))
      → WayReported table haystack s i row' l (w ++ a ∷ [])
  holds_on i row row' n w a l (j, number, x, ks, eb, is, e, path, has) hops f = (
    j,
    number,
    x,
    ks ++ a ∷ [],
    eb,
    is,
    ap (λ z. z ++ a ∷ []) e,
    leads_append (numbered_step table haystack) ks (a ∷ []) (x, j) n l path (l, hops, refl),
    same_slots haystack row'
        (over (marked (mark_of (place_with table n.0) a) n.1) (marks (Some (x, j)) ks))
        (marks (Some (x, j)) (ks ++ a ∷ []))
        (λ slot. sym (marks_append haystack (place_with table) ks (x, j) n a slot path))
        (f (marks (Some (x, j)) ks) has),
  )
    where
      marks : Option Node → List ℕ → Marks
      marks = marks_along haystack (place_with table)

  -- threads after others hold their pending nodes after those of the others
  pub held_append : (p : ℕ) (ts us : List Thread) (os ps : List (PendingNode Node))
      → ThreadsHold table haystack s p ts os → ThreadsHold table haystack s p us ps
      → ThreadsHold table haystack s p (ts ++ us) (os ++ ps)
  held_append p [] us [] ps a b = b
  held_append p [] us (o ∷ os) ps a b = absurd a
  held_append p (t ∷ ts) us [] ps a b = absurd a
  held_append p (t ∷ ts) us (o ∷ os) ps (at, holds, rest) b =
      (at, holds, held_append p ts us os ps rest b)

  -- without threads there are no pending nodes
  pub none_held : (p : ℕ) (os : List (PendingNode Node)) → ThreadsHold table haystack s p [] os → os
      ≡ []
  none_held p [] a = refl
  none_held p (o ∷ os) a = absurd a

-- the place is among those that were entered
abbrev pub marked_in : State → (q : ℕ) → State
marked_in state q = record state { entered = slice_set state.entered q true }

module _ (table : List (Place ℕ)) (at : SearchAt) (state : State) (i : Reported)
    (ways : List Thread) (best : Best) where
  open at use {haystack, entries as s, whole, first, last, p, from}

  abbrev Walks : Row → List Job → Type 0
  Walks row frames = IsWalking table at (record state { row = row; frames = frames }) i ways best

  abbrev In_step : (Node → Option (List ℕ)) → List (PendingNode Node) → List (PendingNode Node)
      → Option (List ℕ) → Type 0
  In_step = InStep table haystack s whole first last p from

  abbrev step : Node → ℕ → Option Node
  step = numbered_step table haystack

  abbrev width : Node → ℕ
  width = wide table haystack

  -- what is left may be seen as other frames that hold the same pending nodes
  pub walk_framed : (walking : IsWalking table at state i ways best) (j : Reported) (row : Row)
      (frames : List Job) → FramesHold table haystack s p j row frames walking.under
      → IsWalking table at (record state { row = row; frames = frames }) j ways best
  walk_framed walking j row frames hold = record {
    recorded = walking.recorded;
    under = walking.under;
    later = walking.later;
    coming = walking.coming;
    way = walking.way;
    in_step = walking.in_step;
    seen = walking.seen;
    met = walking.met;
    frames_hold = hold;
    ways_hold = walking.ways_hold;
    coming_hold = walking.coming_hold;
    best_holds = walking.best_holds;
  }

  module _ (q : ℕ) (short : q < length state.entered)
      (walking : Walks state.row (explore q ∷ state.frames)) where
    abbrev Took : Type 0
    Took =
        (w : List ℕ) × (rest : List (PendingNode Node)) × (walking.under ≡ ((q, p), w) ∷ rest)
        × WayReported table haystack s i state.row (q, p) w
        × FramesHold table haystack s p i state.row state.frames rest

    -- the pending node on top comes first of what is left
    taken : (w : List ℕ) (rest : List (PendingNode Node)) → walking.under ≡ ((q, p), w) ∷ rest
        → In_step walking.recorded (((q, p), w) ∷ (rest ++ walking.later)) walking.coming
        walking.way
    taken w rest e =
        subst (λ z. In_step walking.recorded (z ++ walking.later) walking.coming walking.way) e
        walking.in_step

    pub walk_seen : slice_index_or state.entered q false ≡ true → Walks state.row state.frames
    walk_seen was = go walking.frames_hold (walking.met q was)
      where
        go : Took → (v : List ℕ) × (walking.recorded (q, p) ≡ Some v) → Walks state.row state.frames
        go (w, rest, e, holds, waits) (v, r) = record {
          recorded = walking.recorded;
          under = rest;
          later = walking.later;
          coming = walking.coming;
          way = walking.way;
          in_step =
              in_step_passed Node step (StartsOf s first last) (is_wanted_end table haystack whole)
              (λ x. x.1) r
              (taken w rest e);
          seen = walking.seen;
          met = walking.met;
          frames_hold = waits;
          ways_hold = walking.ways_hold;
          coming_hold = walking.coming_hold;
          best_holds = walking.best_holds;
        }

    -- what the search keeps of an entered place
    module _ (new : slice_index_or state.entered q false ≡ true → ⊥) where
      fresh : walking.recorded (q, p) ≡ None
      fresh = none_or (walking.recorded (q, p)) (λ v e. new (walking.seen q v e))

      abbrev recorded_now : List ℕ → Node → Option (List ℕ)
      recorded_now w = records.extended Node same_node walking.recorded (q, p) w

      seen_now : (w : List ℕ) (r : ℕ) (v : List ℕ) → recorded_now w (r, p) ≡ Some v
          → slice_index_or (slice_set state.entered q true) r false ≡ true
      seen_now w r v e =
          go (cases_eq r q) (records.back Node same_node walking.recorded (q, p) w (r, p) v e)
        where
          Goal : Type 0
          Goal = slice_index_or (slice_set state.entered q true) r false ≡ true

          go : (r ≡ q) ⊎ (r ≡ q → ⊥)
              → ((◌≡◌ {A = Node} (r, p) (q, p)) × (v ≡ w)) ⊎ (walking.recorded (r, p) ≡ Some v)
              → Goal
          go (inl d) x =
              ap (λ i. slice_index_or (slice_set state.entered q true) i false) d
              ∙ get_or-set_same state.entered q true false short
          go (inr d) (inl x) = absurd (d (ap (λ (z : Node). z.0) x.0))
          go (inr d) (inr x) = get_or-set_other state.entered q r true false d ∙ walking.seen r v x

      met_now : (w : List ℕ) (r : ℕ)
          → slice_index_or (slice_set state.entered q true) r false ≡ true
          → (v : List ℕ) × (recorded_now w (r, p) ≡ Some v)
      met_now w r e = go (cases_eq r q)
        where
          go : (r ≡ q) ⊎ (r ≡ q → ⊥) → (v : List ℕ) × (recorded_now w (r, p) ≡ Some v)
          go (inl d) = (
            w,
            ap (λ z. recorded_now w (z, p)) d
                ∙ records.extended_here Node same_node walking.recorded (q, p) w,
          )
          go (inr d) =
              let r' = walking.met r
              (sym (get_or-set_other state.entered q r true false d) ∙ e) in
              (r'.0, records.kept Node same_node walking.recorded (q, p) w fresh (r, p) r'.0 r'.1)

      -- the pending nodes that the place adds to the way
      abbrev pub listed : List ℕ → List (PendingNode Node)
      listed w = is_pending_by table haystack (place_with table q) p w (width (q, p)) 0

      -- all its arrows stay at the position
      pub walk_entered : (row : Row) (frames : List Job)
          → (IsTrue (is_wanted_end table haystack whole (q, p)) → ⊥)
          → ((a : ℕ) (l : Node) → step (q, p) a ≡ Some l → l.1 ≡ p)
          → ((w : List ℕ) (rest : List (PendingNode Node)) → WayReported table haystack s i
          state.row (q, p) w → FramesHold table haystack s p i state.row state.frames rest
          → FramesHold table haystack s p i row frames (listed w ++ rest))
          → IsWalking table at (record (marked_in state q) { row = row; frames = frames }) i
          ways best
      walk_entered row frames open_still stays f = go walking.frames_hold
        where
          go : Took
              → IsWalking table at (record (marked_in state q) { row = row; frames = frames }) i
              ways best
          go (w, rest, e, holds, waits) = record {
            recorded = recorded_now w;
            under = listed w ++ rest;
            later = walking.later;
            coming = walking.coming;
            way = walking.way;
            in_step =
                subst (λ z. In_step (recorded_now w) z walking.coming walking.way)
                (sym (append_assoc (listed w) rest walking.later))
                (subst (λ z. In_step (recorded_now w) (z ++ (rest ++ walking.later)) walking.coming
                walking.way)
                (pending_listed table haystack q p w (width (q, p)) 0)
                (deep.in_step_free Node step same_node width (no_more table haystack)
                (StartsOf s first last) (is_wanted_end table haystack whole) (λ x. x.1) fresh
                (taken w rest e)
                open_still stays));
            seen = seen_now w;
            met = met_now w;
            frames_hold = f w rest holds waits;
            ways_hold = walking.ways_hold;
            coming_hold = walking.coming_hold;
            best_holds = walking.best_holds;
          }

      -- its arrows lead to the next position
      pub walk_read : (next : List Thread) → (IsTrue (is_wanted_end table haystack whole (q, p))
          → ⊥)
          → ((a : ℕ) (l : Node) → step (q, p) a ≡ Some l → l.1 ≡ suc p)
          → ((w : List ℕ) (coming : List (PendingNode Node))
          → WayReported table haystack s i state.row (q, p) w
          → ThreadsHold table haystack s (suc p) state.next coming
          → ThreadsHold table haystack s (suc p) next (coming ++ listed w))
          → IsWalking table at (record (marked_in state q) { next = next }) i ways best
      walk_read next open_still moves f = go walking.frames_hold
        where
          go : Took → IsWalking table at (record (marked_in state q) { next = next }) i ways best
          go (w, rest, e, holds, waits) = record {
            recorded = recorded_now w;
            under = rest;
            later = walking.later;
            coming = walking.coming ++ listed w;
            way = walking.way;
            in_step =
                subst (λ z. In_step (recorded_now w) (rest ++ walking.later)
                (walking.coming ++ z) walking.way)
                (pending_listed table haystack q p w (width (q, p)) 0)
                (deep.in_step_read Node step same_node width (no_more table haystack)
                (StartsOf s first last) (is_wanted_end table haystack whole) (λ x. x.1) fresh
                (taken w rest e)
                open_still moves);
            seen = seen_now w;
            met = met_now w;
            frames_hold = waits;
            ways_hold = walking.ways_hold;
            coming_hold = f w walking.coming holds walking.coming_hold;
            best_holds = walking.best_holds;
          }

      -- a match is complete there
      pub walk_complete : IsTrue (is_wanted_end table haystack whole (q, p))
          → IsWalking table at (record (marked_in state q) { frames = [] }) i []
          (Some (i, offset haystack p, state.row))
      walk_complete ends = go walking.frames_hold
        where
          go : Took → IsWalking table at (record (marked_in state q) { frames = [] }) i []
              (Some (i, offset haystack p, state.row))
          go (w, rest, e, holds, waits) = record {
            recorded = recorded_now w;
            under = [];
            later = [];
            coming = walking.coming;
            way = Some w;
            in_step =
                in_step_complete Node step (StartsOf s first last)
                (is_wanted_end table haystack whole)
                (λ x. x.1) same_node width (no_more table haystack) fresh (taken w rest e)
                ends (λ a. no_arrow_at table haystack (place_with table q) p a
                (complete_there table haystack whole (q, p) ends));
            seen = seen_now w;
            met = met_now w;
            frames_hold = refl;
            ways_hold = tt;
            coming_hold = walking.coming_hold;
            best_holds =
                (w, refl, (q, p, refl, complete_there table haystack whole (q, p) ends, holds));
          }

-- The steps of a depth-first walk over pairs of a place and an offset.
use Rattle.regex_lite_engine.proofs.Common.{◌≡◌, ℕ, suc, ◌<◌, ◌≤◌, true, false, ◌⊎◌, List, [], ◌∷◌}
use Rattle.regex_lite_engine.proofs.Common.{◌++◌, length, replicate, IsTrue, slice_index_or}
use Rattle.regex_lite_engine.proofs.Common.{slice_set, Some, None, Option, sym, refl, ap, ◌∙◌}
use Rattle.regex_lite_engine.proofs.Common.{subst, inl, inr, arith, cases_eq, get_or-set_other}
use Rattle.regex_lite_engine.proofs.Common.{get_or-set_same, Pairs, pair_number, was_entered, Held}
use Rattle.regex_lite_engine.proofs.Common.{Restores, WayHolds, SearchFrom, place_with}
use Rattle.regex_lite_engine.proofs.Common.{numbered_step, is_end, IsNumberedOutcome, Node}
use Rattle.regex_lite_engine.proofs.Common.{PendingNode, offset, IsOffset, Row, IsBlank, IsDeadAt}
use Rattle.std.proofs.lemmas.Bool.{both_ways}
use Rattle.regex_lite_syntax.specs.Tree.Matches.{IsPosition}
use Rattle.regex_lite_engine.specs.Backtrack.DepthFirst as order
use Rattle.regex_lite_engine.specs.Backtrack.Machine.{Frame, explore, restore}
use Rattle.regex_lite_engine.specs.Backtrack.Walking as walk
use Rattle.regex_lite_engine.specs.Graph.Places.{Place}
use Rattle.regex_lite_engine.specs.Backtrack.Walking.{IsWalking}
use Rattle.regex_lite_engine.proofs.backtrack.DepthFirstLemmas.{
  depth_first_begun,
  depth_first_passed,
  depth_first_started,
}
use Rattle.regex_lite_engine.proofs.backtrack.NumberedLemmas.{numbered_over, numbered_entered}
use Rattle.regex_lite_engine.proofs.backtrack.NumberedLemmas.{numbered_complete}
use Rattle.regex_lite_engine.proofs.OffsetLemmas.{offset_grows}
use Rattle.regex_lite_engine.proofs.backtrack.PairLemmas.{same_pair, none_entered}
use Rattle.regex_lite_engine.proofs.backtrack.RestoreLemmas.{loaded}
use Rattle.regex_lite_syntax.proofs.OptionLemmas.{not_there}
use Rattle.regex_lite_engine.proofs.search.RecordLemmas as records
use Rattle.regex_lite_engine.proofs.search.RecordLemmas.{same_node, none_or}
use Rattle.regex_lite_engine.proofs.search.PlaceLemmas.{wide, is_pending_by}
use Rattle.regex_lite_engine.proofs.PositionLemmas.{same_position}

module _ (table : List (Place ℕ)) (search : SearchFrom) where
  open search use {haystack, entry as s, first, from, i}

  abbrev FramesHold : Row → List Frame → List (PendingNode Node) → Type 0
  FramesHold = walk.FramesHold table haystack s i

  abbrev IsDepthFirst : ℕ → (Node → Option (List ℕ)) → List (PendingNode Node) → Type 0
  IsDepthFirst =
      order.IsDepthFirst Node (numbered_step table haystack) (λ j. (s, j)) (is_end table haystack)
      first (length haystack)

  -- nothing is entered yet
  pub walk_begun : (n : ℕ) (pairs : Pairs) (held : Held) → pairs.entered ≡ replicate n false
      → IsBlank held.row
      → IsWalking table (record search { from = first }) pairs (record held { frames = [] })
  walk_begun n pairs held none blank = record {
    recorded = λ m. None;
    pending = [];
    depth_first = depth_first_begun Node (numbered_step table haystack) (λ j. (s, j))
        (is_end table haystack) first (length haystack) (λ m. None) (λ m. refl);
    seen = λ q p way r. absurd (not_there r);
    met = λ q p inside low within was.
        absurd (both_ways (was_entered pairs q (offset haystack p))
        (none_entered pairs n none q (offset haystack p)) was);
    frames_hold = (refl, blank);
  }

  -- the start that was followed does not matter once nothing is left
  pub walk_between : (j : ℕ) (pairs : Pairs) (held : Held)
      → IsWalking table search pairs (record held { frames = [] })
      → IsWalking table (record search { i = j }) pairs (record held { frames = [] })
  walk_between j pairs held u = record {
    recorded = u.recorded;
    pending = u.pending;
    depth_first = u.depth_first;
    seen = u.seen;
    met = u.met;
    frames_hold = u.frames_hold;
  }

  -- the start at a position is added
  pub walk_started : (p at : ℕ) (pairs : Pairs) (held : Held) → from ≤ p → first ≤ p
      → IsOffset haystack p at → ((k : ℕ) → from ≤ k → k < p → IsDeadAt table haystack s k)
      → IsWalking table search pairs (record held { frames = [] })
      → IsWalking table (record search { from = suc p; i = at }) pairs
      (record held { frames = explore s at ∷ [] })
  walk_started p at pairs held later low (within, is_at) dead u = record {
    recorded = u.recorded;
    pending = ((s, p), p ∷ []) ∷ [];
    depth_first = depth_first_started Node (numbered_step table haystack) (λ k. (s, k))
        (is_end table haystack) first (length haystack) from p u.recorded later low within dead
        (subst (IsDepthFirst from u.recorded) u.frames_hold.0 u.depth_first);
    seen = u.seen;
    met = u.met;
    frames_hold = (
      p,
      p ∷ [],
      [],
      (within, is_at),
      refl,
      (p, [], is_at, refl, refl, u.frames_hold.1),
      (refl, u.frames_hold.1),
    );
  }

  -- no match has its start at or after the first position
  pub walk_over : (pairs : Pairs) (held : Held)
      → ((k : ℕ) → from ≤ k → k ≤ length haystack → IsDeadAt table haystack s k)
      → IsWalking table search pairs (record held { frames = [] })
      → IsNumberedOutcome table haystack s first None
  walk_over pairs held dead u =
      numbered_over table haystack s first from u.recorded dead
      (subst (IsDepthFirst from u.recorded) u.frames_hold.0 u.depth_first)

  frames_restored : (row : Row) (frames : List Frame) (pending : List (PendingNode Node))
      (next : Option (ℕ × ℕ)) (row' : Row) (frames' : List Frame)
      → Restores row frames next row' frames' → FramesHold row frames pending
      → FramesHold row' (loaded next frames') pending
  frames_restored row [] pending next row' frames' (none, same, empty) holds =
      subst (λ z. FramesHold row' (loaded z frames') pending) (sym none)
      (subst (λ z. FramesHold z frames' pending) (sym same)
      (subst (λ z. FramesHold row z pending) (sym empty) holds))
  frames_restored row (explore q at ∷ frames) pending next row' frames' (some, same, rest) holds =
      subst (λ z. FramesHold row' (loaded z frames') pending) (sym some)
      (subst (λ z. FramesHold z (explore q at ∷ frames') pending) (sym same)
      (subst (λ z. FramesHold row (explore q at ∷ z) pending) (sym rest) holds))
  frames_restored row (restore slot old ∷ frames) pending next row' frames' back holds =
      frames_restored (slice_set row slot old) frames pending next row' frames' back holds

  -- slots hold again what they held
  pub walk_restores : (pairs : Pairs) (held held' : Held) (next : Option (ℕ × ℕ))
      → Restores held.row held.frames next held'.row held'.frames
      → IsWalking table search pairs held
      → IsWalking table search pairs (record held' { frames = loaded next held'.frames })
  walk_restores pairs held held' next back u = record {
    recorded = u.recorded;
    pending = u.pending;
    depth_first = u.depth_first;
    seen = u.seen;
    met = u.met;
    frames_hold =
        frames_restored held.row held.frames u.pending next held'.row held'.frames back
        u.frames_hold;
  }

  module _ (pairs : Pairs) (held : Held) (q p at : ℕ) (inside : q < length table) (low : first ≤ p)
      (is_offset : IsOffset haystack p at)
      (u : IsWalking table search pairs (record held { frames = explore q at ∷ held.frames })) where
    open held use {row, frames}

    -- what is pending first
    abbrev Top : ℕ → Type 0
    Top j =
        (w : List ℕ) × (rest : List (PendingNode Node))
        × IsDepthFirst from u.recorded (((q, j), w) ∷ rest)
        × WayHolds table haystack s i row (q, j) w × FramesHold row frames rest

    top : Top p
    top = at_offset u.frames_hold
      where
        at_offset : FramesHold row (explore q at ∷ frames) u.pending → Top p
        at_offset (j, w, rest, (within, is_at), e, holds, waits) =
            subst Top (same_position haystack j p within is_offset.0 (sym is_at ∙ is_offset.1))
            (w, rest, subst (IsDepthFirst from u.recorded) e u.depth_first, holds, waits)

    -- what was entered before is passed over
    pub walk_passed : was_entered pairs q at ≡ true → IsWalking table search pairs held
    walk_passed was =
        pass top (u.met q p inside low is_offset.0
        (ap (was_entered pairs q) (sym is_offset.1) ∙ was))
      where
        pass : Top p → (v : List ℕ) × (u.recorded (q, p) ≡ Some v)
            → IsWalking table search pairs held
        pass (w, rest, is_pending, holds, waits) (v, r) = record {
          recorded = u.recorded;
          pending = rest;
          depth_first = depth_first_passed Node (numbered_step table haystack) (λ k. (s, k))
              (is_end table haystack) first (length haystack) from u.recorded (q, p) w v rest r
              is_pending;
          seen = u.seen;
          met = u.met;
          frames_hold = waits;
        }

    module _ (new : was_entered pairs q at ≡ false) where
      fresh : u.recorded (q, p) ≡ None
      fresh = none_or (u.recorded (q, p)) (λ v e. both_ways (was_entered pairs q at) new
          (ap (was_entered pairs q) is_offset.1 ∙ u.seen q p v e))

      -- a match is complete there
      pub walk_complete : IsTrue (is_end table haystack (q, p))
          → IsNumberedOutcome table haystack s first (Some (i, at, row))
      walk_complete ends = complete top
        where
          complete : Top p → IsNumberedOutcome table haystack s first (Some (i, at, row))
          complete (w, rest, is_pending, holds, waits) =
              subst (λ z. IsNumberedOutcome table haystack s first (Some (i, z, row)))
              (sym is_offset.1)
              (numbered_complete table haystack s first from u.recorded q p w fresh rest is_pending
              i row ends holds)

      -- what the search keeps of an entered place
      module _ (all : pairs.places ≡ length table) (begins : pairs.first ≡ offset haystack first)
          (short : pair_number pairs.places pairs.first q at < length pairs.entered) where
        abbrev number : ℕ → ℕ → ℕ
        number r to = pair_number pairs.places pairs.first r to

        abbrev pub pairs_now : Pairs
        pairs_now = record pairs {
          entered = slice_set pairs.entered (pair_number pairs.places pairs.first q at) true;
        }

        abbrev recorded_now : List ℕ → Node → Option (List ℕ)
        recorded_now w = records.extended Node same_node u.recorded (q, p) w

        entered_here : (r to : ℕ) → number r to ≡ number q at → was_entered pairs_now r to ≡ true
        entered_here r to e =
            ap (λ z. slice_index_or pairs_now.entered z false) e
            ∙ get_or-set_same pairs.entered (number q at) true false short

        entered_other : (r to : ℕ) → (number r to ≡ number q at → ⊥)
            → was_entered pairs_now r to ≡ was_entered pairs r to
        entered_other r to apart =
            get_or-set_other pairs.entered (number q at) (number r to) true false apart

        -- what was entered stays so
        entered_still : (r to : ℕ) → was_entered pairs r to ≡ true
            → was_entered pairs_now r to ≡ true
        entered_still r to was = by_number (cases_eq (number r to) (number q at))
          where
            by_number : (number r to ≡ number q at) ⊎ (number r to ≡ number q at → ⊥)
                → was_entered pairs_now r to ≡ true
            by_number (inl e) = entered_here r to e
            by_number (inr apart) = entered_other r to apart ∙ was

        seen_now : (w : List ℕ) (r j : ℕ) (v : List ℕ) → recorded_now w (r, j) ≡ Some v
            → was_entered pairs_now r (offset haystack j) ≡ true
        seen_now w r j v e = by_record (records.back Node same_node u.recorded (q, p) w (r, j) v e)
          where
            by_record : ((◌≡◌ {A = Node} (r, j) (q, p)) × (v ≡ w)) ⊎ (u.recorded (r, j) ≡ Some v)
                → was_entered pairs_now r (offset haystack j) ≡ true
            by_record (inr old) = entered_still r (offset haystack j) (u.seen r j v old)
            by_record (inl (same, last)) =
                entered_here r (offset haystack j)
                (ap (λ (z : Node). number z.0 (offset haystack z.1)) same
                ∙ ap (number q) (sym is_offset.1))

        met_now : (w : List ℕ) (r j : ℕ) → r < length table → first ≤ j → IsPosition haystack j
            → was_entered pairs_now r (offset haystack j) ≡ true
            → (v : List ℕ) × (recorded_now w (r, j) ≡ Some v)
        met_now w r j r_inside j_low within was =
            by_number (cases_eq (number r (offset haystack j)) (number q at))
          where
            low_offset : (k : ℕ) → first ≤ k → IsPosition haystack k
                → pairs.first ≤ offset haystack k
            low_offset k k_low k_within =
                let grows = offset_grows haystack first k k_low in
                omega (arith, grows, begins)

            same : number r (offset haystack j) ≡ number q at → ◌≡◌ {A = Node} (r, j) (q, p)
            same e =
                let places_first : pairs.first ≤ at = subst (λ z. pairs.first ≤ z) (sym is_offset.1)
                (low_offset p low is_offset.0) in
                let pair = same_pair pairs.places pairs.first r (offset haystack j) q at
                (omega (arith, r_inside, all)) (omega (arith, inside, all))
                (low_offset j j_low within) places_first e in
                let place : r ≡ q = pair.0 in
                let position : j ≡ p = same_position haystack j p within is_offset.0
                (pair.1 ∙ is_offset.1) in
                cc

            by_number : (number r (offset haystack j) ≡ number q at)
                ⊎ (number r (offset haystack j) ≡ number q at → ⊥)
                → (v : List ℕ) × (recorded_now w (r, j) ≡ Some v)
            by_number (inl e) = (
              w,
              ap (recorded_now w) (same e)
                  ∙ records.extended_here Node same_node u.recorded (q, p) w,
            )
            by_number (inr apart) =
                let old = u.met r j r_inside j_low within
                (sym (entered_other r (offset haystack j) apart) ∙ was) in
                (old.0, records.kept Node same_node u.recorded (q, p) w fresh (r, j) old.0 old.1)

        -- what the place adds comes first of what is left
        pub walk_entered : (held' : Held) → (IsTrue (is_end table haystack (q, p)) → ⊥)
            → ((w : List ℕ) (rest : List (PendingNode Node)) → WayHolds table haystack s i row
            (q, p) w → FramesHold row frames rest
            → FramesHold held'.row held'.frames
            (is_pending_by table haystack (place_with table q) p w (wide table haystack (q, p)) 0
            ++ rest))
            → IsWalking table search pairs_now held'
        walk_entered held' no_match hold' = enter top
          where
            enter : Top p → IsWalking table search pairs_now held'
            enter (w, rest, is_pending, holds, waits) = record {
              recorded = recorded_now w;
              pending = is_pending_by table haystack (place_with table q) p w
                  (wide table haystack (q, p)) 0 ++ rest;
              depth_first = numbered_entered table haystack s first from u.recorded q p w fresh rest
                  is_pending no_match;
              seen = seen_now w;
              met = met_now w;
              frames_hold = hold' w rest holds waits;
            }

-- A step that holds again at a position that looks the same.
use Rattle.regex_lite_engine.proofs.Common.{◌≡◌, ℕ, ◌<◌, Bool, true, false, ◌⊎◌, List, [], ◌∷◌}
use Rattle.regex_lite_engine.proofs.Common.{◌++◌, length, replicate, if◌then◌else◌, slice_get}
use Rattle.regex_lite_engine.proofs.Common.{slice_index_or, Some, None, Option}
use Rattle.regex_lite_engine.proofs.Common.{unwrap_or, sym, refl, ap, ◌∙◌, subst, inl, inr, arith}
use Rattle.regex_lite_engine.proofs.Common.{map-append, in_ranges, just, holds_between, ClassRange}
use Rattle.regex_lite_engine.proofs.Common.{with_arrows, place_of, all_relabelled, state_relabelled}
use Rattle.regex_lite_engine.proofs.Common.{best_again, reads, pushing, reading_on, Thread, begun}
use Rattle.regex_lite_engine.proofs.Common.{with_starts, SearchAt, Reported, Best, Row, Here, Start}
use Rattle.regex_lite_engine.specs.Pikevm.Again.{AreAlike, relabelled, FitsAlike}
use Rattle.regex_lite_engine.specs.declared.nfa.place.Place as code
use Rattle.regex_lite_engine.specs.declared.nfa.place.Place.TheVariants as stored
use Rattle.regex_lite_engine.specs.Graph.Places.{Place}
use Rattle.regex_lite_engine.specs.Pikevm.Entering.{Enters}
use Rattle.regex_lite_engine.specs.Pikevm.Machine.{Job, explore, restore, State}
use Rattle.regex_lite_engine.specs.Pikevm.Capacity.{WalksAt}
use Rattle.regex_lite_engine.specs.Pikevm.Walking.{IsWalking}
use Rattle.regex_lite_engine.proofs.pikevm.EnterLemmas.{reads_none, walk_enters}
use Rattle.regex_lite_engine.proofs.pikevm.OwnPartLemmas.{reported_within}
use Rattle.regex_lite_engine.proofs.pikevm.WalkLemmas.{marked_in, walk_framed}

-- the frames are the same but for slots that hold again what they held
abbrev Loosens : (frames frames' : List Job) → Type 0
Loosens frames frames' =
    (frames' ≡ frames)
    ⊎ ((to : ℕ) × (slot : ℕ) × (old : Option ℕ) × (rest : List Job) × (frames ≡ explore to ∷ rest)
    × (frames' ≡ explore to ∷ (restore slot old ∷ rest)))

module _ (here there : Here) (i : Reported) (tell : Reported → Reported) (m : State) where
  -- the thread is followed at the next position in both
  reads_alike : (b b' : Bool) → b ≡ b' → (to : ℕ)
      → state_relabelled tell (reading_on b m (to, i, m.row))
      ≡ reading_on b' (state_relabelled tell m) (to, tell i, [])
  reads_alike b b' e to =
      again b ∙ ap (λ z. reading_on z (state_relabelled tell m) (to, tell i, [])) e
    where
      again : (b : Bool) → state_relabelled tell (reading_on b m (to, i, m.row))
          ≡ reading_on b (state_relabelled tell m) (to, tell i, [])
      again true =
          ap (λ ts. record (state_relabelled tell m) { next = ts })
          (map-append (relabelled tell) m.next ((to, i, m.row) ∷ []))
      again false = refl

  class_alike : (set : List ClassRange) (to : ℕ)
      → FitsAlike (place_of (stored.Class to set)) here there
      → reads (in_ranges set) here.after ≡ reads (in_ranges set) there.after
  class_alike [] to alike = reads_none here.after ∙ sym (reads_none there.after)
  class_alike (r ∷ rs) to alike = alike.0

  look_alike : (b b' : Bool) → b ≡ b' → (to : ℕ)
      → state_relabelled tell (if b then pushing m (explore to ∷ []) else m)
      ≡ (if b' then pushing (state_relabelled tell m) (explore to ∷ []) else state_relabelled tell
      m)
  look_alike b b' e to =
      again b
      ∙ ap (λ z. if z then pushing (state_relabelled tell m) (explore to ∷ [])
      else state_relabelled tell m) e
    where
      again : (b : Bool) → state_relabelled tell (if b then pushing m (explore to ∷ []) else m)
          ≡ (if b then pushing (state_relabelled tell m) (explore to ∷ []) else state_relabelled
          tell m)
      again true = refl
      again false = refl

  module _ (e : State) (done : Bool) where
    abbrev EntersAgain : code.Place → Type 0
    EntersAgain x =
        (other : List Job)
        × Enters false there (tell i) x (state_relabelled tell m)
        (record (state_relabelled tell e) { frames = other }) done
        × Loosens other e.frames

    pub enters_again : (x : code.Place) → FitsAlike (place_of x) here there
        → Enters false here i x m e done → EntersAgain x
    enters_again (stored.Empty to) alike (same, ed) =
        (e.frames, (ap (state_relabelled tell) same, ed), inl refl)
    enters_again (stored.Char c to) alike (same, ed) = (
      e.frames,
      (
        ap (state_relabelled tell) same
            ∙ reads_alike (reads (just c) here.after) (reads (just c) there.after) alike.0 to,
        ed,
      ),
      inl refl,
    )
    enters_again (stored.Class to set) alike (same, ed) = (
      e.frames,
      (
        ap (state_relabelled tell) same
            ∙ reads_alike (reads (in_ranges set) here.after) (reads (in_ranges set) there.after)
            (class_alike set to alike) to,
        ed,
      ),
      inl refl,
    )
    enters_again (stored.Look l to) alike (same, ed) = (
      e.frames,
      (
        ap (state_relabelled tell) same
            ∙ look_alike (holds_between l here.before here.after)
            (holds_between l there.before there.after) alike.0 to,
        ed,
      ),
      inl refl,
    )
    enters_again (stored.Slot slot to) alike (inl (within, inl same), ed) = (
      explore to ∷ m.frames,
      (
        inr (
          omega arith,
          ap (λ (z : State). record (state_relabelled tell z) {
            frames = explore to ∷ m.frames;
          }) same,
        ),
        ed,
      ),
      inr (
        to,
        slot,
        slice_index_or m.row slot None,
        m.frames,
        refl,
        ap (λ (z : State). z.frames) same,
      ),
    )
    enters_again (stored.Slot slot to) alike (inl (within, inr (none, same)), ed) =
        (e.frames, (inr (omega arith, ap (state_relabelled tell) same), ed), inl refl)
    enters_again (stored.Slot slot to) alike (inr (past, same), ed) =
        (e.frames, (inr (omega arith, ap (state_relabelled tell) same), ed), inl refl)
    enters_again (stored.Choice a b) alike (same, ed) =
        (e.frames, (ap (state_relabelled tell) same, ed), inl refl)
    enters_again (stored.Branches all) alike (same, ed) =
        (e.frames, (ap (state_relabelled tell) same, ed), inl refl)
    enters_again stored.Match alike (same, ed) =
        (e.frames, (ap (state_relabelled tell) same, ed), inl refl)

module _ (table : List (Place ℕ)) (at : SearchAt) (m : State) (i : Reported) (ways : List Thread)
    (best : Best) where
  abbrev Walks : List Job → Type 0
  Walks frames = IsWalking table at (record m { row = []; frames = frames }) i ways best

  loosened : (frames frames' : List Job) → Loosens frames frames' → Walks frames → Walks frames'
  loosened frames frames' (inl e) u = subst Walks (sym e) u
  loosened frames frames' (inr (to, slot, old, rest, e, e')) u =
      let u' = subst Walks e u in
      subst Walks (sym e')
      (walk_framed table at (record m { row = []; frames = explore to ∷ rest }) i ways best u' i []
      (explore to ∷ (restore slot old ∷ rest)) u'.frames_hold)

-- so they are where nothing is left to do
loose_if : (done : Bool) (frames frames' : List Job) → Loosens frames frames'
    → Loosens (if done then [] else frames) (if done then [] else frames')
loose_if true frames frames' loose = inl refl
loose_if false frames frames' loose = loose

-- a new place was entered in a search for all matches, and so it would be there
pub entered_again : (table : List (Place ℕ)) (here there : Here) (i : Reported)
    (tell : Reported → Reported) (m : State) (q : ℕ) (x : code.Place) (e : State) (done : Bool)
    → q < length m.entered → (slice_index_or m.entered q false ≡ true → ⊥)
    → slice_get table q ≡ Some (place_of x) → Enters false here i x (marked_in m q) e done
    → (at : SearchAt) → at.whole ≡ false → AreAlike table at.entries here there
    → WalksAt table at there (tell i)
    (state_relabelled tell (record m { frames = explore q ∷ m.frames }))
    (state_relabelled tell (record e { frames = if done then [] else e.frames })) done
entered_again table here there i tell m q x e done short new here_at enters at all alike =
    λ is ways best u.
    let (way, rest, is_pending, reported, more) = u.frames_hold in
    let inside = reported_within table at.haystack at.entries alike.low alike.len alike.part
    (tell i) [] (q, at.p) way reported in
    let (other, again, loose) = enters_again here there i tell (marked_in m q) e done x
    (alike.each q (place_of x) inside here_at) enters in
    let e' = record (state_relabelled tell e) { frames = other } in
    loosened table at e' (tell i) (if done then [] else ways)
    (if done then Some (tell i, there.at, []) else best) (if done then [] else other)
    (if done then [] else e.frames) (loose_if done other e.frames loose)
    (walk_enters table at (state_relabelled tell m) (tell i) ways best q short u new there is x e'
    done (ap (λ o. unwrap_or o (with_arrows [])) here_at)
    (subst (λ z. Enters z there (tell i) x (marked_in (state_relabelled tell m) q) e' done)
    (sym all) again))

-- the threads that begin there, with other starts
begun_relabelled : (tell : Reported → Reported) (reported : ℕ → Reported) (row : Row)
    (starts : List Start) → all_relabelled tell (begun reported row starts) ≡ begun
    (λ n. tell (reported n)) [] starts
begun_relabelled tell reported row [] = refl
begun_relabelled tell reported row (start ∷ starts) =
    ap (λ (ts : List Thread). (start.place, tell (reported start.number), []) ∷ ts)
    (begun_relabelled tell reported row starts)

-- the own starts are among them in both
pub start_relabelled : (tell : Reported → Reported) (starts : List Start) (reported : ℕ → Reported)
    (best best' : Best) (w : ℕ) (ts : List Thread)
    → (best ≡ None → best' ≡ None) → (best' ≡ None → best ≡ None) →
    all_relabelled tell (with_starts starts reported best w ts)
    ≡ with_starts starts (λ n. tell (reported n)) best' 0 (all_relabelled tell ts)
start_relabelled tell starts reported None None w ts to back =
    map-append (relabelled tell) ts (begun reported (replicate w None) starts)
    ∙ ap (λ (more : List Thread). all_relabelled tell ts ++ more)
    (begun_relabelled tell reported (replicate w None) starts)
start_relabelled tell starts reported None (Some b) w ts to back =
    let e : ◌≡◌ {A = Best} (Some b) None = to refl in absurd (no (sym e))
  where
    no : ◌≡◌ {A = Best} None (Some b) → ⊥
    no e = cc
start_relabelled tell starts reported (Some b) None w ts to back =
    let e : ◌≡◌ {A = Best} (Some b) None = back refl in absurd (no (sym e))
  where
    no : ◌≡◌ {A = Best} None (Some b) → ⊥
    no e = cc
start_relabelled tell starts reported (Some b) (Some b') w ts to back = refl

-- a match that there was is not forgotten
pub best_kept : (tell : Reported → Reported) (at : ℕ) (match_flag : Bool) (found before : Best)
    → best_again tell at match_flag found before ≡ None → before ≡ None
best_kept tell at false found before e = e
best_kept tell at true None before e = e
best_kept tell at true (Some b) before e = absurd (no (sym e))
  where
    no : ◌≡◌ {A = Best} None (Some (tell b.0, at, [])) → ⊥
    no e = cc

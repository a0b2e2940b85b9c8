-- A frame was taken off: the memory still suffices, and the counts stay within what is left.
use Rattle.std.proofs.lemmas.Bool.{false≢true}
use Rattle.regex_lite_engine.proofs.Common.{◌≡◌, ℕ, ◌+◌, ◌<◌, ◌≤◌, Bool, true, false, List, [], ◌∷◌}
use Rattle.regex_lite_engine.proofs.Common.{length, set, if◌then◌else◌, slice_get, slice_set, Some}
use Rattle.regex_lite_engine.proofs.Common.{Option, unwrap_or, sym, refl, ap, ◌∙◌, with_arrows}
use Rattle.regex_lite_engine.proofs.Common.{reading_count, stack_bound, arrow_count, place_of}
use Rattle.regex_lite_engine.proofs.Common.{LeadsBelow, state_relabelled, Reported, StepCounts}
use Rattle.regex_lite_engine.proofs.Common.{lone, Row, Here, slice_index_or, subst, arith}
use Rattle.regex_lite_engine.proofs.Common.{length-set, set-get_or}
use Rattle.regex_lite_engine.specs.declared.nfa.place.Place as code
use Rattle.regex_lite_engine.specs.declared.pikevm.enter.Onward.{Onward}
use Rattle.regex_lite_engine.specs.declared.pikevm.enter.Onward.TheVariants as onward
use Rattle.regex_lite_engine.specs.declared.pikevm.walk.Walk.{Walk}
use Rattle.regex_lite_engine.specs.Graph.Places.{Place}
use Rattle.regex_lite_engine.specs.Pikevm.Entering.{completes, Enters}
use Rattle.regex_lite_engine.specs.Pikevm.Machine.{Job, explore, restore, State, restored}
use Rattle.regex_lite_engine.specs.Pikevm.Capacity.{explores, work, FramesBelow, IsFit, GoesOn}
use Rattle.regex_lite_engine.specs.Pikevm.Capacity.{Went, HasCapacity, with_frames}
use Rattle.regex_lite_engine.specs.Search.Counting.{weight}
use Rattle.regex_lite_engine.proofs.pikevm.AgainLemmas.{entered_again}
use Rattle.regex_lite_engine.proofs.pikevm.EnterLemmas.{walk_enters}
use Rattle.regex_lite_engine.proofs.pikevm.WalkLemmas.{marked_in, walk_framed, walk_seen}
use Rattle.regex_lite_engine.proofs.pikevm.CapacityLemmas.{left_enter, enters_adds}

-- a walk with this memory and these counts
pub walk_is : {S : Type 0} (w : Walk S) {m : State} {c : StepCounts} → w.memory ≡ m → w.steps ≡ c
    → w ≡ record w { memory = m; steps = c }
walk_is w {m = m} em ec =
    ap (λ (z : State). record w { memory = z }) em
    ∙ ap (λ (z : StepCounts). record w { memory = m; steps = z }) ec

module _ (table : List (Place ℕ)) (whole : Bool) (here : Here) (i : Reported) {S : Type 0} where
  -- the place was entered before
  pub went_seen : (w x : Walk S) (q : ℕ) → HasCapacity table w (explore q ∷ w.memory.frames)
      → slice_index_or w.memory.entered q false ≡ true
      → x.memory ≡ record w.memory { entered = slice_set w.memory.entered q true }
      → x.steps ≡ record w.steps { tried = w.steps.tried + 1 }
      → Went table whole here i (with_frames w (explore q ∷ w.memory.frames)) x false
  went_seen w x q fit was em ec =
      let m = w.memory in let few = fit.few_tries in let et = fit.entered_tried in
      let all = fit.all_seen in let lt = fit.frames_below.0 in
      let same : slice_set m.entered q true ≡ m.entered =
      ap (set m.entered q) (sym was) ∙ set-get_or m.entered q false in
      subst (λ (z : Walk S). Went table whole here i (with_frames w (explore q ∷ m.frames)) z false)
      (sym (walk_is x (em ∙ ap (λ r. record m { entered = r }) same) ec))
      (record {
        fit = record {
          all_seen = fit.all_seen;
          frames_below = fit.frames_below.1;
          threads_below = fit.threads_below;
          stack_room = (let left = fit.stack_room in omega (arith, left));
          next_room = fit.next_room;
          next_cap = fit.next_cap;
          few_tries = omega (arith, few);
          few_entries = fit.few_entries;
          entered_tried = omega (arith, et);
          looked_entered = fit.looked_entered;
        };
        on = record {
          walks = λ at same is ways best u.
              walk_seen table at m i ways best q (omega (arith, all, lt)) u was;
          again = λ every tell there at same alike is ways best u.
              walk_seen table at (state_relabelled tell m) (tell i) ways best q
              (omega (arith, all, lt)) u was;
          spent = omega arith;
          spent_entries = omega arith;
        };
        less = λ d. omega arith;
        cleared = λ d. cc;
      })

  -- a new place is entered; at a match what is left is dropped
  module _ (w : Walk S) (q : ℕ) (x : code.Place) (e : State) (done : Bool)
      (inside : LeadsBelow (length table) (place_of x))
      (fit : HasCapacity table w (explore q ∷ w.memory.frames))
      (new : slice_index_or w.memory.entered q false ≡ true → ⊥)
      (at : slice_get table q ≡ Some (place_of x))
      (enters : Enters whole here i x (marked_in w.memory q) e done)
      (same : e ≡ record (marked_in w.memory q) {
        row = e.row;
        frames = e.frames;
        next = e.next;
      }) where
    -- the memory then
    abbrev e' : State
    e' = record (marked_in w.memory q) { row = e.row; frames = e.frames; next = e.next }

    enters' : Enters whole here i x (marked_in w.memory q) e' done
    enters' = subst (λ z. Enters whole here i x (marked_in w.memory q) z done) same enters

    fewer : (b : Bool) → explores (if b then [] else e.frames) ≤ explores e.frames
    fewer true = omega arith
    fewer false = omega arith

    not_longer : (b : Bool) → length (if b then [] else e.frames) ≤ length e.frames
    not_longer true = omega arith
    not_longer false = omega arith

    frames_kept : (b : Bool) → FramesBelow (length table) (length e.row) e.frames
        → FramesBelow (length table) (length e.row) (if b then [] else e.frames)
    frames_kept true within = tt
    frames_kept false within = within

    pub went_entered : (after : Walk S)
        → after.memory ≡ record e { frames = if done then [] else e.frames }
        → after.steps ≡ record {
          tried = w.steps.tried + 1;
          entered = w.steps.entered + 1;
          looked = w.steps.looked + 1;
        }
        → Went table whole here i (with_frames w (explore q ∷ w.memory.frames)) after done
    went_entered after em ec =
        let m = w.memory in
        let short : q < length m.entered =
        (let all = fit.all_seen in let lt = fit.frames_below.0 in omega (arith, all, lt)) in
        let adds = enters_adds whole here i (length table) (marked_in m q) fit.frames_below.1
        fit.threads_below e' done x inside enters' in
        let few = adds.few in let long = adds.long in let keeps = adds.keeps in
        let work_left = left_enter weight m.entered table q (place_of x) at short new in
        let stack_left = left_enter stack_bound m.entered table q (place_of x) at short new in
        let arrows_left = left_enter arrow_count m.entered table q (place_of x) at short new in
        let lone_left = left_enter lone m.entered table q (place_of x) at short new in
        let reading_left =
        left_enter reading_count m.entered table q (place_of x) at short new in
        let ends = fewer done in let shorter = not_longer done in
        let stack_room = fit.stack_room in let next_room = fit.next_room in
        let few_tries = fit.few_tries in let few_entries = fit.few_entries in
        let entered_tried = fit.entered_tried in let looked_entered = fit.looked_entered in
        subst (λ (z : Walk S). Went table whole here i (with_frames w (explore q ∷ m.frames)) z
        done)
        (sym (walk_is after
        (em ∙ ap (λ (z : State). record z { frames = if done then [] else e.frames }) same) ec))
        (record {
          fit = record {
            all_seen = length-set m.entered q true ∙ fit.all_seen;
            frames_below = frames_kept done adds.frames_below;
            threads_below = adds.threads_below;
            stack_room = omega (arith, stack_left, stack_room, keeps, shorter);
            next_room = omega (arith, reading_left, next_room, adds.reads);
            next_cap = fit.next_cap;
            few_tries = omega (arith, arrows_left, few, few_tries, ends);
            few_entries = omega (arith, lone_left, few_entries);
            entered_tried = omega (arith, entered_tried);
            looked_entered = omega (arith, looked_entered);
          };
          on = record {
            walks = λ search wanted is ways best u.
                walk_enters table search m i ways best q short u new here is x e' done
                (ap (λ o. unwrap_or o (with_arrows [])) at)
                (subst (λ z. Enters z here i x (marked_in m q) e' done) (sym wanted) enters');
            again = λ every tell there.
                entered_again table here there i tell m q x e' done short new at
                (subst (λ z. Enters z here i x (marked_in m q) e' done) every enters');
            spent = omega (arith, arrows_left, few, ends);
            spent_entries = omega (arith, lone_left);
          };
          less = λ d. omega (arith, work_left, long, shorter);
          cleared = λ d. ap (λ b. if b then [] else e.frames) d;
        })

  pub goes_nowhere : (w : Walk S) → GoesOn table whole here i w w false
  goes_nowhere w = record {
    walks = λ at same is ways best u. u;
    again = λ every tell there at same alike is ways best u. u;
    spent = omega arith;
    spent_entries = omega arith;
  }

  pub goes_further : (w x y : Walk S) (done : Bool) → GoesOn table whole here i w x false
      → GoesOn table whole here i x y done → GoesOn table whole here i w y done
  goes_further w x y done first second =
      let spent = first.spent in let more = second.spent in
      let entries = first.spent_entries in let more_entries = second.spent_entries in
      record {
        walks = λ at same is ways best u.
            second.walks at same is ways best (first.walks at same is ways best u);
        again = λ every tell there at same alike is ways best u.
            second.again every tell there at same alike is ways best
            (first.again every tell there at same alike is ways best u);
        spent = omega (arith, spent, more);
        spent_entries = omega (arith, entries, more_entries);
      }

  abbrev back_at : Walk S → Row × List Job → Walk S
  back_at w left = record w { memory = record w.memory { row = left.0; frames = left.1 } }

  -- frames were taken off up to the next place
  pub record IsBack (w x : Walk S) : Type 0 where
    pub fit : IsFit table x
    pub on : GoesOn table whole here i w x false
    pub less : work table x.memory ≤ work table w.memory

  went_restored : (w : Walk S) (slot : ℕ) (old : Option ℕ) (fs : List Job)
      → HasCapacity table w (restore slot old ∷ fs)
      → IsBack (with_frames w (restore slot old ∷ fs))
      (back_at w (slice_set w.memory.row slot old, fs))
  went_restored w slot old fs fit =
      let m = w.memory in
      record {
        fit = record {
          all_seen = fit.all_seen;
          frames_below =
              subst (λ z. FramesBelow (length table) z fs) (sym (length-set m.row slot old))
              fit.frames_below.1;
          threads_below = fit.threads_below;
          stack_room = (let left = fit.stack_room in omega (arith, left));
          next_room = fit.next_room;
          next_cap = fit.next_cap;
          few_tries = fit.few_tries;
          few_entries = fit.few_entries;
          entered_tried = fit.entered_tried;
          looked_entered = fit.looked_entered;
        };
        on = record {
          walks = λ at same is ways best u.
              walk_framed table at (record m { frames = restore slot old ∷ fs }) i ways best u i
              (slice_set m.row slot old) fs u.frames_hold;
          again = λ every tell there at same alike is ways best u.
              walk_framed table at
              (state_relabelled tell (record m { frames = restore slot old ∷ fs })) (tell i) ways
              best u (tell i) [] fs u.frames_hold;
          spent = omega arith;
          spent_entries = omega arith;
        };
        less = omega arith;
      }

  stays_back : (w : Walk S) → IsFit table w → IsBack w w
  stays_back w fit = record { fit = fit; on = goes_nowhere w; less = omega arith }

  went_back : (w : Walk S) (fs : List Job) → HasCapacity table w fs
      → IsBack (with_frames w fs) (back_at w (restored w.memory.row fs))
  went_back w [] fit = stays_back (with_frames w []) fit
  went_back w (explore q ∷ fs) fit = stays_back (with_frames w (explore q ∷ fs)) fit
  went_back w (restore slot old ∷ fs) fit =
      let one = went_restored w slot old fs fit in
      let row = slice_set w.memory.row slot old in
      let more = went_back (back_at w (row, fs)) fs one.fit in
      let less = one.less in let more_less = more.less in
      record {
        fit = more.fit;
        on = goes_further (with_frames w (restore slot old ∷ fs)) (back_at w (row, fs))
            (back_at w (restored row fs)) false one.on more.on;
        less = omega (arith, less, more_less);
      }

  -- this is left then
  pub back_to : (w x : Walk S) (left : List Job)
      → restored w.memory.row w.memory.frames ≡ (x.memory.row, left)
      → x.memory ≡ record w.memory { row = x.memory.row; frames = x.memory.frames }
      → x.steps ≡ w.steps → IsFit table w → IsBack w (with_frames x left)
  back_to w x left is em ec fit =
      subst (IsBack w)
      (ap (back_at w) is ∙ sym (ap (λ (z : Walk S). with_frames z left) (walk_is x em ec)))
      (went_back w w.memory.frames fit)

-- a place that is new was not entered before
pub not_yet : {was : Bool} → was ≡ false → was ≡ true → ⊥
not_yet none e = false≢true (sym none ∙ e)

-- what isn't new was entered before
pub was_met : (was new : Bool) → new ≡ false → (was ≡ false → new ≡ true) → was ≡ true
was_met true new old fresh = refl
was_met false new old fresh = absurd (false≢true (sym old ∙ fresh refl))

pub goes_on : (o : Onward) → (o ≡ onward.Complete → ⊥) → completes o ≡ false
goes_on (onward.To place) d = refl
goes_on onward.Back d = refl
goes_on onward.Complete d = absurd (d refl)

-- A frame was taken off: the memory still suffices, and the counts stay within what is left.
use Rattle.regex_lite_engine.proofs.Common.{◌≡◌, ℕ, ◌+◌, ◌≤◌, Bool, true, false, List, ◌∷◌, length}
use Rattle.regex_lite_engine.proofs.Common.{set, if◌then◌else◌, slice_get, Option, Some, None}
use Rattle.regex_lite_engine.proofs.Common.{IsUtf8}
use Rattle.regex_lite_engine.proofs.Common.{chars, sym, refl, ap, ◌∙◌, subst, arith, length-set}
use Rattle.regex_lite_engine.proofs.Common.{set-get_or, Pairs, pair_number, was_entered, Held}
use Rattle.regex_lite_engine.proofs.Common.{stack_bound_with, arrow_count, place_of, LeadsBelow}
use Rattle.regex_lite_engine.proofs.Common.{StepCounts, lone, position_at}
use Rattle.regex_lite_engine.specs.declared.backtrack.walk.Backtracker.{Backtracker}
use Rattle.regex_lite_engine.specs.declared.nfa.place.Place as code
use Rattle.regex_lite_engine.specs.Backtrack.Entering.{Enters}
use Rattle.regex_lite_engine.specs.Backtrack.Machine.{explore}
use Rattle.regex_lite_engine.specs.Backtrack.Capacity.{with_frames, Went, HasCapacity, WalksTo}
use Rattle.regex_lite_engine.specs.Backtrack.Capacity.{left_of}
use Rattle.regex_lite_engine.specs.Graph.Places.{Place}
use Rattle.regex_lite_engine.specs.Search.Counting.{weight}
use Rattle.regex_lite_engine.proofs.backtrack.LeadsLemmas.{entered_at}
use Rattle.regex_lite_engine.proofs.backtrack.LeftLemmas.{left_enter, left_room}
use Rattle.regex_lite_engine.proofs.backtrack.CapacityLemmas.{enters_few, enters_within}

-- an old pair stays as it is
pub entered_again : (pairs : Pairs) (q at : ℕ) → was_entered pairs q at ≡ true
    → entered_at pairs q at ≡ pairs
entered_again pairs q at was =
    let pair = pair_number pairs.places pairs.first q at in
    ap (λ cells. record pairs { entered = cells })
    (ap (set pairs.entered pair) (sym was) ∙ set-get_or pairs.entered pair false)

module _ (table : List (Place ℕ)) (haystack : List ℕ) (walk : Backtracker) (q at : ℕ)
    (fit : HasCapacity table haystack walk (explore q at ∷ walk.stack.frames)) where
  abbrev before : Backtracker
  before = with_frames walk (explore q at ∷ walk.stack.frames)

  -- the pair was entered before
  pub went_passed : WalksTo table haystack before walk None
      → Went table haystack before
      (record walk { steps = record walk.steps { tried = walk.steps.tried + 1 } }) None
  went_passed walks =
      let room = fit.stack_room in
      record {
        on = record {
          walks = walks;
          kept = record { places = refl; first = refl; row = refl; room = refl; pairs = refl };
          spent = omega arith;
          spent_entries = omega arith;
        };
        fit = λ e. record {
          all = fit.all;
          below = fit.below.3;
          stack_room = omega (arith, room);
          few_tries = omega (arith, fit.few_tries);
          few_entries = fit.few_entries;
          entered_tried = omega (arith, fit.entered_tried);
          looked_entered = fit.looked_entered;
        };
        less = λ e. omega arith;
        entered_tried = omega (arith, fit.entered_tried);
        looked_entered = fit.looked_entered;
      }

  module _ (utf8 : IsUtf8 haystack) (new : was_entered walk.visited q at ≡ false) (x : code.Place)
      (got : slice_get table q ≡ Some (place_of x)) where
    -- what is left after it, by what it counts
    less_left : (f : Place ℕ → ℕ)
        → left_of table haystack f (entered_at walk.visited q at) + f (place_of x)
        ≡ left_of table haystack f walk.visited
    less_left f =
        left_enter table haystack utf8 walk.visited fit.all f q
        (place_of x) got at fit.below.2 fit.below.1 new

    -- there is room for what entering the place defers
    pub enter_room : length walk.stack.frames + stack_bound_with (length walk.stack.row)
        (place_of x) ≤ walk.stack.room
    enter_room =
        let left =
        left_room table haystack utf8 walk.visited fit.all
        (stack_bound_with (length walk.stack.row)) q (place_of x) got at fit.below.2 fit.below.1
        new in
        omega (arith, left, fit.stack_room)

    -- the pair is new
    pub went_entered : (held : Held) (done : Bool) → LeadsBelow (length table) (place_of x)
        → Enters (chars haystack) (position_at haystack at) at x walk.stack held done
        → held.room ≡ walk.stack.room
        → WalksTo table haystack before
        (record walk { visited = entered_at walk.visited q at; stack = held })
        (if done then Some at else None)
        → Went table haystack before (record {
          visited = entered_at walk.visited q at;
          stack = held;
          steps = record {
            tried = walk.steps.tried + 1;
            entered = walk.steps.entered + 1;
            looked = walk.steps.looked + 1;
          };
        }) (if done then Some at else None)
    went_entered held done inside enters same walks =
        let few = enters_few (chars haystack) (position_at haystack at) at walk.stack held done x
        enters in
        let within = enters_within table haystack utf8 walk.visited.first at fit.below.1 fit.below.2
        walk.stack held done fit.below.3 x inside enters in
        let arrows_left = less_left arrow_count in
        let kept_left = less_left (stack_bound_with (length walk.stack.row)) in
        let lone_left : left_of table haystack lone (entered_at walk.visited q at) + 1
        ≡ left_of table haystack lone walk.visited
        = less_left lone in
        let work_left : left_of table haystack weight (entered_at walk.visited q at)
        + (arrow_count (place_of x) + 1)
        ≡ left_of table haystack weight walk.visited
        = less_left weight in
        let few_tries = fit.few_tries in
        let few_entries = fit.few_entries in
        let entered_tried = fit.entered_tried in
        let looked_entered = fit.looked_entered in
        let pair = pair_number walk.visited.places walk.visited.first q at in
        record {
          on = record {
            walks = walks;
            kept = record {
              places = refl;
              first = refl;
              row = few.3;
              room = same;
              pairs = refl;
            };
            spent = omega (arith, arrows_left, few.0);
            spent_entries = omega (arith, lone_left);
          };
          fit = λ e. record {
            all = record {
              places = fit.all.places;
              boundary = fit.all.boundary;
              all = length-set walk.visited.entered pair true ∙ fit.all.all;
            };
            below = within;
            stack_room =
                subst (λ width. length held.frames + left_of table haystack (stack_bound_with width)
                (entered_at walk.visited q at) ≤ held.room + 1)
                (sym few.3) (omega (arith, kept_left, fit.stack_room, few.2, same));
            few_tries = omega (arith, arrows_left, few.0, few_tries);
            few_entries = omega (arith, lone_left, few_entries);
            entered_tried = omega (arith, entered_tried);
            looked_entered = omega (arith, looked_entered);
          };
          less = λ e. omega (arith, work_left, few.1);
          entered_tried = omega (arith, entered_tried);
          looked_entered = omega (arith, looked_entered);
        }

-- a walk that goes the same way and counts less
module _ (table : List (Place ℕ)) (haystack : List ℕ) (before walk : Backtracker)
    (steps : StepCounts) where
  abbrev counting_less : Backtracker
  counting_less = record walk { steps = steps }

  walks_counting_less : (end : Option ℕ) → WalksTo table haystack before walk end
      → WalksTo table haystack before counting_less end
  walks_counting_less None walks = walks
  walks_counting_less (Some at) walks = walks

  pub went_counting_less : (end : Option ℕ) → steps.tried ≤ walk.steps.tried
      → steps.entered ≤ walk.steps.entered → steps.entered ≤ steps.tried
      → steps.looked ≤ steps.entered → Went table haystack before walk end
      → Went table haystack before counting_less end
  went_counting_less end tried entered entered_tried looked_entered went = record {
    on = record {
      walks = walks_counting_less end went.on.walks;
      kept = record {
        places = went.on.kept.places;
        first = went.on.kept.first;
        row = went.on.kept.row;
        room = went.on.kept.room;
        pairs = went.on.kept.pairs;
      };
      spent = omega (arith, tried, went.on.spent);
      spent_entries = omega (arith, entered, went.on.spent_entries);
    };
    fit = λ e. let fit = went.fit e in record {
      all = fit.all;
      below = fit.below;
      stack_room = fit.stack_room;
      few_tries = omega (arith, tried, fit.few_tries);
      few_entries = omega (arith, entered, fit.few_entries);
      entered_tried = entered_tried;
      looked_entered = looked_entered;
    };
    less = λ e. went.less e;
    entered_tried = entered_tried;
    looked_entered = looked_entered;
  }

-- a walk by its parts
pub same_walk : (pairs pairs' : Pairs) (held : Held) (steps steps' : StepCounts) → pairs ≡ pairs'
    → steps ≡ steps'
    → ◌≡◌ {A = Backtracker} (record { visited = pairs; stack = held; steps = steps })
    (record { visited = pairs'; stack = held; steps = steps' })
same_walk pairs pairs' held steps steps' of_pairs of_steps =
    ap (λ (z : Pairs). record { visited = z; stack = held; steps = steps }) of_pairs
    ∙ ap (λ (z : StepCounts). record { visited = pairs'; stack = held; steps = z }) of_steps

-- a pair that is not new was entered
pub was_old : (was fresh : Bool) → fresh ≡ false → (was ≡ false → fresh ≡ true) → was ≡ true
was_old true fresh e reported = refl
was_old false fresh e reported = let t : fresh ≡ true = reported refl in cc

-- From one start to the end of its ways.
use Rattle.regex_lite_engine.proofs.Common.{◌≡◌, ℕ, ◌+◌, ◌≤◌, List, [], ◌∷◌, length, Some, None}
use Rattle.regex_lite_engine.proofs.Common.{Option, sym, refl, ◌∙◌, subst, arith, searching}
use Rattle.regex_lite_engine.proofs.Common.{Restores, stack_bound_with, position_at}
use Rattle.regex_lite_engine.specs.declared.backtrack.walk.Backtracker.{Backtracker}
use Rattle.regex_lite_engine.specs.Backtrack.Machine.{Frame, explore}
use Rattle.regex_lite_engine.specs.Backtrack.Capacity.{explores, with_frames, work, left_of}
use Rattle.regex_lite_engine.specs.Backtrack.Capacity.{FramesBelow, GoesOn, Went}
use Rattle.regex_lite_engine.specs.Backtrack.Capacity.{IsFit, HasCapacity, IsWalkingOrDone}
use Rattle.regex_lite_engine.specs.Backtrack.Searching.{Explores}
use Rattle.regex_lite_engine.specs.Graph.Places.{Place}
use Rattle.regex_lite_engine.proofs.backtrack.RestoreLemmas.{loaded, none_left, restores_below}
use Rattle.regex_lite_engine.proofs.backtrack.RestoreLemmas.{restores_explores, restores_fewer}
use Rattle.regex_lite_engine.proofs.backtrack.WalkLemmas.{walk_restores}

module _ (table : List (Place ℕ)) (haystack : List ℕ) where
  pub goes_further : (a b c : Backtracker) (end : Option ℕ) → GoesOn table haystack a b None
      → GoesOn table haystack b c end → GoesOn table haystack a c end
  goes_further a b c end one more = record {
    walks = λ s from i w.
        subst (λ first. IsWalkingOrDone table haystack s (position_at haystack first) from i c end)
        one.kept.first
        (more.walks s from i
        (subst (λ first.
        IsWalkingOrDone table haystack s (position_at haystack first) from i b None)
        (sym one.kept.first) (one.walks s from i w)));
    kept = record {
      places = more.kept.places ∙ one.kept.places;
      first = more.kept.first ∙ one.kept.first;
      row = more.kept.row ∙ one.kept.row;
      room = more.kept.room ∙ one.kept.room;
      pairs = more.kept.pairs ∙ one.kept.pairs;
    };
    spent = (let x = one.spent in let y = more.spent in omega (arith, x, y));
    spent_entries =
        (let x = one.spent_entries in let y = more.spent_entries in omega (arith, x, y));
  }

  -- it ends with a match
  pub found : (walk walk' walk'' : Backtracker) (s start at : ℕ)
      → GoesOn table haystack (with_frames walk (explore s start ∷ [])) walk' None
      → Went table haystack walk' walk'' (Some at)
      → Explores table haystack s start walk walk'' (Some at)
  found walk walk' walk'' s start at gone went =
      let on = goes_further (with_frames walk (explore s start ∷ [])) walk' walk'' (Some at) gone
      went.on in
      let spent = on.spent in
      record {
        on = record {
          walks = on.walks;
          kept = record {
            places = on.kept.places;
            first = on.kept.first;
            row = on.kept.row;
            room = on.kept.room;
            pairs = on.kept.pairs;
          };
          spent = omega (arith, spent);
          spent_entries = on.spent_entries;
        };
        fit = λ e. cc;
        empty = λ e. cc;
        entered_tried = went.entered_tried;
        looked_entered = went.looked_entered;
      }

  -- frames came off
  pub record IsBack (walk walk' : Backtracker) : Type 0 where
    pub on : GoesOn table haystack walk walk' None
    pub fit : IsFit table haystack walk'
    pub less : work table haystack walk' ≤ work table haystack walk

  -- the last deferred frame is popped
  pub went_back : (walk walk' : Backtracker) (next : Option (ℕ × ℕ))
      → Restores walk.stack.row walk.stack.frames next walk'.stack.row walk'.stack.frames
      → walk' ≡ record walk { stack = walk'.stack }
      → length walk'.stack.row ≡ length walk.stack.row → walk'.stack.room ≡ walk.stack.room
      → IsFit table haystack walk
      → IsBack walk (with_frames walk' (loaded next walk'.stack.frames))
  went_back walk walk' next back same row room fit =
      let frames = loaded next walk'.stack.frames in
      let explored : explores frames ≡ explores walk.stack.frames =
      restores_explores next walk'.stack.row walk'.stack.frames walk.stack.row walk.stack.frames
      back in
      let fewer : length frames ≤ length walk.stack.frames =
      restores_fewer next walk'.stack.row walk'.stack.frames walk.stack.row walk.stack.frames
      back in
      let few_tries = fit.few_tries in let stack_room = fit.stack_room in
      subst (λ (z : Backtracker). IsBack walk (with_frames z frames)) (sym same) (record {
        on = record {
          walks = λ s from i w.
              walk_restores table
              (searching table haystack s (position_at haystack walk.visited.first) from i)
              walk.visited walk.stack walk'.stack next back w;
          kept = record { places = refl; first = refl; row = row; room = room; pairs = refl };
          spent = omega (arith, explored);
          spent_entries = omega arith;
        };
        fit = record {
          all = fit.all;
          below =
              subst (λ width. FramesBelow table haystack walk.visited.first width frames) (sym row)
              (restores_below next walk'.stack.row walk'.stack.frames table haystack
              walk.visited.first (length walk.stack.row) walk.stack.row walk.stack.frames back
              fit.below);
          stack_room =
              subst (λ width. length frames + left_of table haystack (stack_bound_with width)
              walk.visited ≤ walk'.stack.room + 1) (sym row)
              (omega (arith, stack_room, fewer, room));
          few_tries = omega (arith, few_tries, explored);
          few_entries = fit.few_entries;
          entered_tried = fit.entered_tried;
          looked_entered = fit.looked_entered;
        };
        less = omega (arith, fewer);
      })

  -- no frame was left: all ways from the start were followed
  pub ended : (walk walk' walk'' : Backtracker) (s start : ℕ)
      → GoesOn table haystack (with_frames walk (explore s start ∷ [])) walk' None
      → Restores walk'.stack.row walk'.stack.frames None walk''.stack.row walk''.stack.frames
      → IsBack walk' walk'' → Explores table haystack s start walk walk'' None
  ended walk walk' walk'' s start gone restores back =
      let empty =
      none_left walk'.stack.row walk''.stack.row walk'.stack.frames walk''.stack.frames restores in
      let begun = with_frames walk (explore s start ∷ []) in
      record {
        on =
            subst (λ (fs : List Frame). GoesOn table haystack begun (with_frames walk'' fs) None)
            empty (goes_further begun walk' walk'' None gone back.on);
        fit = λ e. subst (HasCapacity table haystack walk'') empty back.fit;
        empty = λ e. empty;
        entered_tried = back.fit.entered_tried;
        looked_entered = back.fit.looked_entered;
      }

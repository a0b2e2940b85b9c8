-- What holds of a depth-first search between two starts, from the first to the last.
use Rattle.regex_lite_engine.proofs.Common.{◌≡◌, ℕ, ◌+◌, ◌-◌, ◌*◌, ◌<◌, ◌≤◌, false, ◌⊎◌, List, []}
use Rattle.regex_lite_engine.proofs.Common.{◌∷◌, length, drop, is_some, Some, None, IsUtf8, sum_by}
use Rattle.regex_lite_engine.proofs.Common.{Option, chars, IsCharBoundary, sym, refl, ap, ◌∙◌}
use Rattle.regex_lite_engine.proofs.Common.{subst, inl, inr, arith, mul-le-mul_left, suc-mul, Text}
use Rattle.regex_lite_engine.proofs.Common.{searching, stack_bound_with, arrow_count, arrows_of}
use Rattle.regex_lite_engine.proofs.Common.{characters_left, lone, CanCount, IsOffset, position_at}
use Rattle.regex_lite_engine.proofs.Common.{IsHere, IsDeadAt, Here}
use Rattle.std.proofs.lemmas.List.{length-drop}
use Rattle.std.proofs.lemmas.Str.{IsUtf8-drop}
use Rattle.regex_lite_engine.specs.declared.backtrack.walk.Backtracker.{Backtracker}
use Rattle.regex_lite_engine.specs.Backtrack.Machine.{explore}
use Rattle.regex_lite_engine.specs.Backtrack.Capacity.{explores, HasCapacity, left_of}
use Rattle.regex_lite_engine.specs.Backtrack.Searching.{Explores, IsFresh, IsUnderWay}
use Rattle.regex_lite_engine.specs.Backtrack.Walking.{IsWalking}
use Rattle.regex_lite_engine.specs.Graph.Places.{Place}
use Rattle.regex_lite_engine.proofs.OffsetLemmas.{boundary_at, offset_grows}
use Rattle.regex_lite_engine.proofs.backtrack.LeadsLemmas.{start_left}
use Rattle.regex_lite_engine.proofs.backtrack.LeftLemmas.{left_blank, left_most, lone_all}
use Rattle.regex_lite_engine.proofs.backtrack.WalkLemmas.{walk_begun}
use Rattle.regex_lite_engine.proofs.search.here.HereLemmas.{over_at}
use Rattle.regex_lite_engine.proofs.search.OutcomeLemmas.{few_chars}
use Rattle.regex_lite_engine.proofs.PositionLemmas.{chars_at, position_is}

-- nothing comes next at the end alone
pub over_here : (text : Text) (q : ℕ) (here : Here) → IsHere text q here
    → is_some here.after ≡ false → q ≡ length text
over_here text q here is none = at_end (over_at text q here is (inl (no_char here.after none)))
  where
    no_char : (next : Option ℕ) → is_some next ≡ false → next ≡ None
    no_char None e = refl
    no_char (Some c) e = cc

    at_end : (q ≡ length text) ⊎ ⊥ → q ≡ length text
    at_end (inl same) = same
    at_end (inr never) = absurd never

module _ (table : List (Place ℕ)) (haystack : List ℕ) (utf8 : IsUtf8 haystack) (start : ℕ)
    (edge : IsCharBoundary haystack start) (s : ℕ) where
  abbrev first : ℕ
  first = position_at haystack start

  abbrev left : ℕ
  left = characters_left (chars haystack) first

  abbrev bytes_left : ℕ
  bytes_left = length haystack - start

  -- no more characters are left than bytes
  few_left : left ≤ bytes_left
  few_left =
      let few = few_chars (drop start haystack) (IsUtf8-drop haystack start utf8 edge) in
      let same : length (chars (drop start haystack)) ≡ left
      = ap length (chars_at haystack first start utf8 (position_is haystack start utf8 edge))
      ∙ length-drop first (chars haystack) in
      let size = length-drop start haystack in
      omega (arith, few, same, size)

  -- where all is left
  all_left : (walk : Backtracker) → IsFresh table haystack start walk → (f : Place ℕ → ℕ)
      → left_of table haystack f walk.visited ≡ sum_by f table * (left + 1)
  all_left walk fresh f =
      left_blank table haystack f walk.visited (length table * (bytes_left + 1)) fresh.none
      ∙ ap (λ z. sum_by f table * (characters_left (chars haystack) (position_at haystack z) + 1))
      fresh.first

  kept_fits : (kept : ℕ) → kept * (left + 1) ≤ kept * (bytes_left + 1)
  kept_fits kept = let few = few_left in mul-le-mul_left kept (omega (arith, few))

  -- a search that has not begun
  pub begun : (walk : Backtracker) → CanCount table 1 left → IsFresh table haystack start walk
      → IsUnderWay table haystack start s first walk
  begun walk counts fresh =
      let inside = (position_is haystack start utf8 edge).0 in
      let arrows : left_of table haystack arrow_count walk.visited ≡ arrows_of table * (left + 1)
      = all_left walk fresh arrow_count in
      let keeps : Place ℕ → ℕ = stack_bound_with (length walk.stack.row) in
      let kept : left_of table haystack keeps walk.visited ≡ sum_by keeps table * (left + 1)
      = all_left walk fresh keeps in
      let each : left_of table haystack lone walk.visited ≡ length table * (left + 1)
      = all_left walk fresh lone ∙ ap (λ z. z * (left + 1)) (lone_all table) in
      let one_more = suc-mul (arrows_of table) (left + 1) in
      let few_tries = counts.tries in
      let few_entries = counts.entries in
      let room = fresh.room in
      let fits = kept_fits (sum_by keeps table) in
      record {
        low = omega arith;
        first = fresh.first;
        fit = record {
          all = fresh.all;
          below = tt;
          stack_room = omega (arith, kept, fits, room);
          few_tries = omega (arith, fresh.tried, arrows, one_more, few_tries);
          few_entries = omega (arith, fresh.entered, each, few_entries);
          entered_tried = omega (arith, fresh.entered);
          looked_entered = omega (arith, fresh.looked);
        };
        room = room;
        empty = fresh.frames;
        walking =
            walk_begun table (searching table haystack s first first 0)
            (length table * (bytes_left + 1)) walk.visited walk.stack fresh.none fresh.blank;
        tries = omega (arith, fresh.tried, arrows, one_more, inside, ap explores fresh.frames);
        entries = omega (arith, fresh.entered, each);
      }

  -- from position p it comes to position q
  module _ (p : ℕ) (walk : Backtracker) (on : IsUnderWay table haystack start s p walk) (q at : ℕ)
      (later : p ≤ q) (is : IsOffset (chars haystack) q at) where
    low : first ≤ q
    low = let from = on.low in omega (arith, from, later)

    -- there is room for the start there
    pub start_fits : CanCount table 1 left → s < length table
        → HasCapacity table haystack walk (explore s at ∷ [])
    start_fits counts lt =
        let start_is = (position_is haystack start utf8 edge).1 in
        let grows = offset_grows (chars haystack) first q low in
        let keeps : Place ℕ → ℕ = stack_bound_with (length walk.stack.row) in
        let most : left_of table haystack keeps walk.visited ≤ sum_by keeps table * (left + 1)
        = subst (λ z. left_of table haystack keeps walk.visited
        ≤ sum_by keeps table * (characters_left (chars haystack) (position_at haystack z) + 1))
        on.first (left_most table haystack keeps walk.visited) in
        let fits = kept_fits (sum_by keeps table) in
        record {
          all = on.fit.all;
          below = (
            lt,
            omega (arith, on.first, start_is, grows, is.1),
            boundary_at haystack q at utf8 is,
            tt,
          );
          stack_room = omega (arith, most, fits, on.room);
          few_tries = omega (arith, on.tries, counts.tries, is.0, later);
          few_entries = on.fit.few_entries;
          entered_tried = on.fit.entered_tried;
          looked_entered = on.fit.looked_entered;
        }

    -- the next start comes, where no way from it leads to a match
    pub went_on : (walk' : Backtracker)
        → ((k : ℕ) → p ≤ k → k < q → IsDeadAt table (chars haystack) s k)
        → Explores table haystack s at walk walk' None
        → IsUnderWay table haystack start s (q + 1) walk'
    went_on walk' dead explored =
        let from = low in
        let tries = on.tries in
        let idle = ap explores (explored.empty refl) in
        let entries = on.entries in
        record {
          low = omega (arith, from);
          first = explored.on.kept.first ∙ on.first;
          fit = explored.fit refl;
          room =
              subst
              (λ width. sum_by (stack_bound_with width) table * (bytes_left + 1) ≤ walk'.stack.room)
              (sym explored.on.kept.row) (omega (arith, on.room, explored.on.kept.room));
          empty = explored.empty refl;
          walking =
              subst
              (λ z. IsWalking table (searching table haystack s first z 0) walk'.visited
              (record walk'.stack { frames = [] }))
              (omega arith)
              (start_left haystack utf8 table s start p q at walk walk' on.first later low is dead
              on.walking explored.on.walks);
          tries = omega (arith, tries, explored.on.spent, later, is.0, idle);
          entries = omega (arith, entries, explored.on.spent_entries);
        }

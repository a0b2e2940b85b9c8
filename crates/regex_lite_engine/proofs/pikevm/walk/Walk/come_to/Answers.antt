use Rattle.regex_lite_engine.proofs.Common.{◌≡◌, ◌+◌, ◌<◌, true, [], ◌∷◌, map, length, sym}
use Rattle.regex_lite_engine.proofs.Common.{if◌then◌else◌, ap, subst, arith, rules, length-map}
use Rattle.regex_lite_engine.proofs.Common.{stack_bound, place_of, places_of, LeadsBelow, ℕ, Bool}
use Rattle.regex_lite_engine.proofs.Common.{false, List, inl, inr, Some, refl, ◌∙◌, length-set}
use Rattle.regex_lite_engine.proofs.Common.{StepCounts}
use Rattle.std.specs.Prelude.{not, ◌==◌}
use Rattle.regex_lite_engine.specs.declared.pikevm.enter.Onward as code
use Rattle.regex_lite_engine.specs.Pikevm.Entering.{completes, onto, Enters, pushing, reading_on}
use Rattle.regex_lite_engine.specs.Pikevm.Machine.{explore, State, Job, Thread}
use Rattle.regex_lite_engine.specs.Pikevm.Capacity.{TakesFrame}
use Rattle.regex_lite_engine.proofs.search.CountLemmas.{counted_all, entered_once, tried_once}
use Rattle.regex_lite_engine.proofs.pikevm.CapacityLemmas.{left_room}
use Rattle.regex_lite_engine.proofs.pikevm.StateLemmas.{later_same, still_fits}
use Rattle.regex_lite_engine.proofs.pikevm.StateLemmas.{keeps_dropped, keeps_position}
use Rattle.regex_lite_engine.proofs.pikevm.WalkLemmas.{marked_in}
use Rattle.regex_lite_engine.proofs.pikevm.WentLemmas.{goes_on, not_yet, was_met, went_entered}
use Rattle.regex_lite_engine.proofs.pikevm.WentLemmas.{went_seen}
use Rattle.regex_lite_engine.proofs.search.PlaceLemmas.{got_place}
use Rattle.regex_lite_engine.specs.declared.nfa.place.Place.{Place}
use Rattle.regex_lite_engine.specs.declared.nfa.place.Place.TheVariants as stored
use Rattle.regex_lite_engine.specs.declared.search.here.Here.{Here}
use Rattle.regex_lite_engine.specs.Search.ThreadStarts.{Reported}
use Rattle.regex_lite_engine.proofs.pikevm.walk.Walk.come_to.Goals as goal

pub returns-then-not-insert-clause-taken : goal.returns-then-not-insert-clause-taken
returns-then-not-insert-clause-taken g c =
    let a = c.args in let w = a.self.now in
    went_seen (places_of a.table.now) (not (g.row.WHOLE == 0)) a.here
    (g.S.ThreadStart.reported a.start) w
    (record w { memory = c.insert.new.self; steps = c.count_try.new.self }) a.place c.requires
    (was_met _ c.insert.result (search rules) c.insert.ensures.fresh.1) c.insert.ensures.added
    c.count_try.ensures

pub enter-onward-requires-clause-room : goal.enter-onward-requires-clause-room
enter-onward-requires-clause-room g c =
    let a = c.args in let m = a.self.now.memory in let all = c.requires.all_seen in
    let room = c.requires.stack_room in
    let left = left_room stack_bound m.entered (places_of a.table.now) a.place
    (place_of c.look-found.result.now)
    (got_place a.table.now.places a.place c.look-found.result.now c.look-found.ensures.found)
    (let lt = c.requires.frames_below.0 in omega (arith, all, lt))
    (not_yet (c.insert.ensures.fresh.0 (search rules))) in
    still_fits a.place m c.insert.new.self c.insert.ensures.added
    (stack_bound (place_of c.look-found.result.now) + 1) (omega (arith, left, room, all))

pub returns-in-Complete-clause-taken : goal.returns-in-Complete-clause-taken
returns-in-Complete-clause-taken g c =
    let a = c.args in let w = a.self.now in let n = c.insert.new.self in
    let e = c.enter-onward.new.memory in let d = c.drop_frames.new.self in
    let x = c.look-found.result.now in let reported = g.S.ThreadStart.reported a.start in
    let size : length (map place_of a.table.now.places) ≡ length a.table.now.places =
    length-map a.table.now.places place_of in
    let enters = subst (λ (o : code.Onward). Enters (not (g.row.WHOLE == 0)) a.here reported x
    (marked_in w.memory a.place)
    (record e { frames = onto o e.frames }) (completes o)) c.in-Complete.is
    (subst (λ (z : State). Enters (not (g.row.WHOLE == 0)) a.here reported x z
    (record e { frames = onto c.enter-onward.result e.frames }) (completes c.enter-onward.result))
    {y = marked_in w.memory a.place} c.insert.ensures.added c.enter-onward.ensures.entered) in
    let same =
    later_same a.place w.memory n e c.insert.ensures.added c.enter-onward.ensures.same in
    let after = record w { memory = d; steps = c.look-found.new.steps } in
    subst
    (λ (o : code.Onward). TakesFrame (places_of a.table.now) (not (g.row.WHOLE == 0)) a.here
    reported w (explore a.place ∷ w.memory.frames) after (onto o d.frames) (completes o))
    (sym c.in-Complete.is)
    (went_entered (places_of a.table.now) (not (g.row.WHOLE == 0)) a.here reported w a.place x e
    true (subst (λ z. LeadsBelow z (place_of x)) (sym size) c.look-found.ensures.inside)
    c.requires (not_yet (c.insert.ensures.fresh.0 (search rules)))
    (got_place a.table.now.places a.place x c.look-found.ensures.found) enters same after
    c.drop_frames.ensures
    (counted_all w.steps c.count_try.ensures c.count_entry.ensures c.look-found.ensures.counted))

pub returns-in_default-clause-taken : goal.returns-in_default-clause-taken
returns-in_default-clause-taken g c =
    let a = c.args in let w = a.self.now in
    let o = c.enter-onward.result in let left = onto o c.enter-onward.new.memory.frames in
    let e = record c.enter-onward.new.memory { frames = left } in
    let x = c.look-found.result.now in let reported = g.S.ThreadStart.reported a.start in
    let size : length (map place_of a.table.now.places) ≡ length a.table.now.places =
    length-map a.table.now.places place_of in
    let enters = subst (λ (z : State). Enters (not (g.row.WHOLE == 0)) a.here reported x z e
    (completes o))
    {y = marked_in w.memory a.place} c.insert.ensures.added c.enter-onward.ensures.entered in
    let same = ap (λ (z : State). record z { frames = left })
    (later_same a.place w.memory c.insert.new.self c.enter-onward.new.memory c.insert.ensures.added
    c.enter-onward.ensures.same) in
    went_entered (places_of a.table.now) (not (g.row.WHOLE == 0)) a.here reported w a.place x e
    (completes o)
    (subst (λ z. LeadsBelow z (place_of x)) (sym size) c.look-found.ensures.inside)
    c.requires (not_yet (c.insert.ensures.fresh.0 (search rules)))
    (got_place a.table.now.places a.place x c.look-found.ensures.found) enters same
    (record w { memory = e; steps = c.look-found.new.steps })
    (ap (λ b. record e { frames = if b then [] else left })
    (sym (goes_on o c.in_default.not-Complete)))
    (counted_all w.steps c.count_try.ensures c.count_entry.ensures c.look-found.ensures.counted)

pub look-found-requires-clause-inside : goal.look-found-requires-clause-inside
look-found-requires-clause-inside g c =
    let places = c.args.table.now.places in
    subst (λ n. c.args.place < n) (length-map places place_of) c.requires.frames_below.0

reading_width : (b : Bool) (m : State) (thread : Thread)
    → length (reading_on b m thread).row ≡ length m.row
reading_width true m thread = refl
reading_width false m thread = refl

looking_width : (b : Bool) (m : State) (more : List Job)
    → length (if b then pushing m more else m).row ≡ length m.row
looking_width true m more = refl
looking_width false m more = refl

module _ (whole : Bool) (here : Here) (reported : Reported) (m e : State) (done : Bool) where
  abbrev width : State → ℕ
  width z = length z.row

  -- entering a place leaves the row as long as it is
  enters_width : (x : Place) → Enters whole here reported x m e done → length e.row ≡ length m.row
  enters_width (stored.Empty to) (same, ed) = ap width same
  enters_width (stored.Char ch to) (same, ed) = ap width same ∙ reading_width _ m _
  enters_width (stored.Class to set) (same, ed) = ap width same ∙ reading_width _ m _
  enters_width (stored.Look l to) (same, ed) = ap width same ∙ looking_width _ m (explore to ∷ [])
  enters_width (stored.Slot slot to) (inl (lt, inl same), ed) =
      ap width same ∙ length-set m.row slot (Some here.at)
  enters_width (stored.Slot slot to) (inl (lt, inr (none, same)), ed) =
      ap width same ∙ length-set m.row slot (Some here.at)
  enters_width (stored.Slot slot to) (inr (past, same), ed) = ap width same
  enters_width (stored.Choice a b) (same, ed) = ap width same
  enters_width (stored.Branches all) (same, ed) = ap width same
  enters_width stored.Match (same, ed) = ap width same

pub returns-in_default-clause-kept : goal.returns-in_default-clause-kept
returns-in_default-clause-kept g c =
    let a = c.args in let w = a.self.now.memory in let n = c.insert.new.self in
    let o = c.enter-onward.result in let e = c.enter-onward.new.memory in
    keeps_position a.place w n e c.insert.ensures.added c.enter-onward.ensures.same
    (enters_width (not (g.row.WHOLE == 0)) a.here (g.S.ThreadStart.reported a.start) n
    (record e { frames = onto o e.frames })
    (completes o) c.look-found.result.now c.enter-onward.ensures.entered)

pub insert-requires : goal.insert-requires
insert-requires g c =
    omega (arith, c.requires.all_seen, c.requires.frames_below.0)

pub returns-then-not-insert-clause-kept : goal.returns-then-not-insert-clause-kept
returns-then-not-insert-clause-kept g c =
    let n = c.insert.new.self in
    keeps_position c.args.place c.args.self.now.memory n n c.insert.ensures.added refl refl

pub returns-then-not-insert-clause-tries : goal.returns-then-not-insert-clause-tries
returns-then-not-insert-clause-tries g c =
    ap (λ (s : StepCounts). s.tried) c.count_try.ensures

pub returns-then-not-insert-clause-counts : goal.returns-then-not-insert-clause-counts
returns-then-not-insert-clause-counts g c =
    tried_once c.args.self.now.steps c.count_try.ensures

pub returns-in-Complete-clause-kept : goal.returns-in-Complete-clause-kept
returns-in-Complete-clause-kept g c =
    let a = c.args in let w = a.self.now.memory in let n = c.insert.new.self in
    let o = c.enter-onward.result in let e = c.enter-onward.new.memory in
    keeps_dropped w e c.drop_frames.new.self c.drop_frames.ensures
    (keeps_position a.place w n e c.insert.ensures.added c.enter-onward.ensures.same
    (enters_width (not (g.row.WHOLE == 0)) a.here (g.S.ThreadStart.reported a.start) n
    (record e { frames = onto o e.frames })
    (completes o) c.look-found.result.now c.enter-onward.ensures.entered))

pub returns-in-Complete-clause-tries : goal.returns-in-Complete-clause-tries
returns-in-Complete-clause-tries g c =
    (entered_once c.args.self.now.steps c.count_try.ensures c.count_entry.ensures
    c.look-found.ensures.counted).2

pub returns-in-Complete-clause-counts : goal.returns-in-Complete-clause-counts
returns-in-Complete-clause-counts g c =
    (entered_once c.args.self.now.steps c.count_try.ensures c.count_entry.ensures
    c.look-found.ensures.counted).0

pub returns-in-Complete-clause-entry : goal.returns-in-Complete-clause-entry
returns-in-Complete-clause-entry g c = λ done.
    (entered_once c.args.self.now.steps c.count_try.ensures c.count_entry.ensures
    c.look-found.ensures.counted).1

pub returns-in_default-clause-tries : goal.returns-in_default-clause-tries
returns-in_default-clause-tries g c =
    (entered_once c.args.self.now.steps c.count_try.ensures c.count_entry.ensures
    c.look-found.ensures.counted).2

pub returns-in_default-clause-counts : goal.returns-in_default-clause-counts
returns-in_default-clause-counts g c =
    (entered_once c.args.self.now.steps c.count_try.ensures c.count_entry.ensures
    c.look-found.ensures.counted).0

pub returns-in_default-clause-entry : goal.returns-in_default-clause-entry
returns-in_default-clause-entry g c = λ done.
    (entered_once c.args.self.now.steps c.count_try.ensures c.count_entry.ensures
    c.look-found.ensures.counted).1

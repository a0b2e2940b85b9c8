use Rattle.regex_lite_engine.proofs.Common.{true, false, List, [], ◌∷◌, refl, ◌∙◌, subst, arith}
use Rattle.regex_lite_engine.proofs.Common.{length, places_of}
use Rattle.std.specs.Prelude.{not, ◌==◌}
use Rattle.regex_lite_engine.specs.Pikevm.Machine.{explore, Job}
use Rattle.regex_lite_engine.specs.Pikevm.Capacity.{with_frames, GoesOn, IsFit}
use Rattle.regex_lite_engine.proofs.search.CountLemmas.{counted_at_first, still_counted}
use Rattle.regex_lite_engine.proofs.pikevm.StateLemmas.{keeps_threads}
use Rattle.regex_lite_engine.proofs.pikevm.WentLemmas.{back_to, goes_further}
use Rattle.std.proofs.lemmas.Bool.{false≢true}
use Rattle.regex_lite_engine.proofs.pikevm.walk.Walk.explore_in.Goals as goal

pub returns-in-None-clause-room : goal.returns-in-None-clause-room
returns-in-None-clause-room g c =
    let a = c.args in let x = c.come_to.new.self in
    (back_to (places_of a.table.now) (not (g.row.WHOLE == 0)) a.here
    (g.S.ThreadStart.reported a.start) x (record x { memory = c.next_place.new.self }) []
    c.in-None.ensures.place.0 c.next_place.ensures.same refl c.in-Back.ensures.taken.fit).fit

pub returns-in-None-clause-explored : goal.returns-in-None-clause-explored
returns-in-None-clause-explored g c =
    let a = c.args in let w = c.places.self in let x = c.come_to.new.self in
    let table = places_of a.table.now in let reported = g.S.ThreadStart.reported a.start in
    let n = record x { memory = c.next_place.new.self } in
    let first = with_frames a.self.now (explore a.first ∷ a.self.now.memory.frames) in
    let here = with_frames w (explore c.places.place ∷ w.memory.frames) in
    let went = c.in-Back.ensures.taken in
    let back = back_to table (not (g.row.WHOLE == 0)) a.here reported x n []
    c.in-None.ensures.place.0 c.next_place.ensures.same refl went.fit in
    goes_further table (not (g.row.WHOLE == 0)) a.here reported first here (with_frames n []) false
    c.places.invariant.on
    (goes_further table (not (g.row.WHOLE == 0)) a.here reported here x (with_frames n []) false
    went.on back.on)

pub places-smaller : goal.places-smaller
places-smaller g c =
    let a = c.args in let x = c.come_to.new.self in let went = c.in-Back.ensures.taken in
    let n = c.next_place.new.self in
    let back = back_to (places_of a.table.now) (not (g.row.WHOLE == 0)) a.here
    (g.S.ThreadStart.reported a.start) x
    (record x { memory = n }) (explore c.in-Some.next ∷ n.frames) c.in-Some.ensures.place
    c.next_place.ensures.same refl went.fit in
    let less = went.less refl in let more = back.less in
    omega (arith, less, more)

pub places-preserved : goal.places-preserved
places-preserved g c =
    let a = c.args in let w = c.places.self in let v = c.places.invariant in
    let x = c.come_to.new.self in let y = x.memory in let n = c.next_place.new.self in
    let table = places_of a.table.now in let reported = g.S.ThreadStart.reported a.start in
    let next = record x { memory = n } in
    let first = with_frames a.self.now (explore a.first ∷ a.self.now.memory.frames) in
    let here = with_frames w (explore c.places.place ∷ w.memory.frames) in
    let left = explore c.in-Some.next ∷ n.frames in
    let went = c.in-Back.ensures.taken in
    let back = back_to table (not (g.row.WHOLE == 0)) a.here reported x next left
    c.in-Some.ensures.place
    c.next_place.ensures.same refl went.fit in
    let kept = keeps_threads y n c.next_place.ensures.same in
    record {
      room = back.fit;
      on = goes_further table (not (g.row.WHOLE == 0)) a.here reported first here
          (with_frames next left) false v.on
          (goes_further table (not (g.row.WHOLE == 0)) a.here reported here x
          (with_frames next left) false went.on back.on);
      kept = record {
        threads = kept.threads ∙ c.in-Back.ensures.kept.threads ∙ v.kept.threads;
        room = kept.room ∙ c.in-Back.ensures.kept.room ∙ v.kept.room;
        row = c.next_place.ensures.width ∙ c.in-Back.ensures.kept.row ∙ v.kept.row;
      };
      counts = still_counted v.counts c.in-Back.ensures.counts;
    }

pub returns-in-Complete-clause-explored : goal.returns-in-Complete-clause-explored
returns-in-Complete-clause-explored g c =
    let a = c.args in let w = c.places.self in let x = c.come_to.new.self in
    let table = places_of a.table.now in let reported = g.S.ThreadStart.reported a.start in
    let first = with_frames a.self.now (explore a.first ∷ a.self.now.memory.frames) in
    let here = with_frames w (explore c.places.place ∷ w.memory.frames) in
    let went = c.in-Complete.ensures.taken in
    subst (λ (fs : List Job). GoesOn table (not (g.row.WHOLE == 0)) a.here reported first
    (with_frames x fs) true)
    {x = x.memory.frames} (went.cleared refl)
    (goes_further table (not (g.row.WHOLE == 0)) a.here reported first here x true
    c.places.invariant.on went.on)

pub places-preserved-in-To : goal.places-preserved-in-To
places-preserved-in-To g c =
    let a = c.args in let w = c.places.self in let v = c.places.invariant in
    let x = c.come_to.new.self in
    let first = with_frames a.self.now (explore a.first ∷ a.self.now.memory.frames) in
    let here = with_frames w (explore c.places.place ∷ w.memory.frames) in
    let to = with_frames x (explore c.in-To.next ∷ x.memory.frames) in
    record {
      room = c.in-To.ensures.taken.fit;
      on = goes_further (places_of a.table.now) (not (g.row.WHOLE == 0)) a.here
          (g.S.ThreadStart.reported a.start) first here to
          false v.on c.in-To.ensures.taken.on;
      kept = record {
        threads = c.in-To.ensures.kept.threads ∙ v.kept.threads;
        room = c.in-To.ensures.kept.room ∙ v.kept.room;
        row = c.in-To.ensures.kept.row ∙ v.kept.row;
      };
      counts = still_counted v.counts c.in-To.ensures.counts;
    }

pub next_place-requires : goal.next_place-requires
next_place-requires g c =
    (length (places_of c.args.table.now), c.in-Back.ensures.taken.fit.frames_below)

pub returns-in-Complete-clause-room : goal.returns-in-Complete-clause-room
returns-in-Complete-clause-room g c =
    let a = c.args in let x = c.come_to.new.self in let went = c.in-Complete.ensures.taken in
    subst (λ (fs : List Job). IsFit (places_of a.table.now) (with_frames x fs))
    {x = x.memory.frames} (went.cleared refl) went.fit

pub returns-in-Complete-clause-counts : goal.returns-in-Complete-clause-counts
returns-in-Complete-clause-counts g c =
    still_counted c.places.invariant.counts c.in-Complete.ensures.counts

pub returns-in-Complete-clause-entry : goal.returns-in-Complete-clause-entry
returns-in-Complete-clause-entry g c = λ _. c.in-Complete.ensures.entry refl

pub returns-in-None-clause-counts : goal.returns-in-None-clause-counts
returns-in-None-clause-counts g c =
    still_counted c.places.invariant.counts c.in-Back.ensures.counts

pub returns-in-None-clause-entry : goal.returns-in-None-clause-entry
returns-in-None-clause-entry g c = λ never. absurd (false≢true never)

pub places-smaller-in-To : goal.places-smaller-in-To
places-smaller-in-To g c = c.in-To.ensures.taken.less refl

pub places-init : goal.places-init
places-init g c = record {
  room = c.requires;
  on = record {
    walks = λ at same is ways best walking. walking;
    again = λ all tell there at same alike is ways best walking. walking;
    spent = omega arith;
    spent_entries = omega arith;
  };
  kept = record { threads = refl; room = refl; row = refl };
  counts = counted_at_first;
}

use Rattle.regex_lite_engine.proofs.Common.{◌≡◌, ℕ, List, [], ◌∷◌, length, Some, None, sym, refl}
use Rattle.regex_lite_engine.proofs.Common.{ap, subst, arith, Restores, places_of, StaysCounted}
use Rattle.regex_lite_engine.specs.Graph.Places.{Place}
use Rattle.regex_lite_engine.specs.declared.backtrack.walk.Backtracker.{Backtracker}
use Rattle.regex_lite_engine.specs.Backtrack.Machine.{completes, explore}
use Rattle.regex_lite_engine.specs.Backtrack.Capacity.{with_frames, GoesOn, HasCapacity}
use Rattle.regex_lite_engine.specs.Backtrack.Searching.{Explores}
use Rattle.regex_lite_engine.proofs.backtrack.ExploreLemmas.{ended, found, goes_further, went_back}
use Rattle.regex_lite_engine.proofs.backtrack.RestoreLemmas.{slots_below}
use Rattle.regex_lite_engine.proofs.search.CountLemmas.{counted_at_first, still_counted}
use Rattle.regex_lite_engine.proofs.backtrack.walk.Backtracker.explore.Goals as goal

-- a walk that has not begun is where it begins
stays : (table : List (Place ℕ)) (haystack : List ℕ) (walk : Backtracker)
    → GoesOn table haystack walk walk None
stays table haystack walk = record {
  walks = λ entry from start walking. walking;
  kept = record { places = refl; first = refl; row = refl; room = refl; pairs = refl };
  spent = omega arith;
  spent_entries = omega arith;
}

pub ways-init : goal.ways-init
ways-init g c =
    let a = c.args in let t = places_of a.table.now in let h = a.haystack.now in
    let w = a.self.now in
    let at_start : explore a.entry a.start ∷ [] ≡ explore a.entry a.start ∷ w.stack.frames =
    ap (λ fs. explore a.entry a.start ∷ fs) (sym c.requires.empty) in
    let first = with_frames w (explore a.entry a.start ∷ []) in
    record {
      room = subst (λ fs. HasCapacity t h w fs) at_start c.requires.room;
      on = subst (λ fs. GoesOn t h first (with_frames w fs) None) at_start (stays t h first);
      counts = counted_at_first;
    }

pub returns-in-Complete-clause-counts : goal.returns-in-Complete-clause-counts
returns-in-Complete-clause-counts g c =
    still_counted c.ways.invariant.counts c.come_to.ensures.counts

pub returns-in-Complete-clause-entry : goal.returns-in-Complete-clause-entry
returns-in-Complete-clause-entry g c counted =
    c.come_to.ensures.entry counted (ap completes c.in-Complete.is)

pub returns-in_err-place-in-Back-clause-counts : goal.returns-in_err-place-in-Back-clause-counts
returns-in_err-place-in-Back-clause-counts g c =
    subst (StaysCounted c.args.self.now.steps)
    (sym (ap (λ (z : Backtracker). z.steps) c.go_back.ensures.same))
    (still_counted c.ways.invariant.counts c.come_to.ensures.counts)

pub returns-in-Complete-clause-explored : goal.returns-in-Complete-clause-explored
returns-in-Complete-clause-explored g c =
    let a = c.args in let t = places_of a.table.now in let w = c.ways.self in
    let v = c.come_to.new.self in
    let next = explore c.ways.place c.ways.at ∷ w.stack.frames in
    found t a.haystack.now a.self.now (with_frames w next) v a.entry a.start c.ways.at
    c.ways.invariant.on (rw c.in-Complete.is at c.come_to.ensures.taken)

pub ways-smaller-in-To : goal.ways-smaller-in-To
ways-smaller-in-To g c = (rw c.in-To.is at c.come_to.ensures.taken).less refl

pub ways-preserved-in-To : goal.ways-preserved-in-To
ways-preserved-in-To g c =
    let a = c.args in let t = places_of a.table.now in let h = a.haystack.now in
    let w = c.ways.self in let v = c.come_to.new.self in
    let next = explore c.ways.place c.ways.at ∷ w.stack.frames in
    let first = with_frames a.self.now (explore a.entry a.start ∷ []) in
    let went = rw c.in-To.is at c.come_to.ensures.taken in
    record {
      room = went.fit refl;
      on =
          goes_further t h first (with_frames w next)
          (with_frames v (explore c.in-To.to c.in-To.past ∷ v.stack.frames)) None
          c.ways.invariant.on went.on;
      counts = still_counted c.ways.invariant.counts c.come_to.ensures.counts;
    }

pub go_back-requires : goal.go_back-requires
go_back-requires g c =
    let a = c.args in let t = places_of a.table.now in let v = c.come_to.new.self in
    let went = rw c.in-Back.is at c.come_to.ensures.taken in
    slots_below t a.haystack.now v.visited.first (length v.stack.row) v.stack.frames
    (went.fit refl).below

pub returns-in_err-place-in-Back-clause-explored : goal.returns-in_err-place-in-Back-clause-explored
returns-in_err-place-in-Back-clause-explored g c =
    let a = c.args in let t = places_of a.table.now in let h = a.haystack.now in
    let w = c.ways.self in let v = c.come_to.new.self in
    let next = explore c.ways.place c.ways.at ∷ w.stack.frames in
    let first = with_frames a.self.now (explore a.entry a.start ∷ []) in
    let went = rw c.in-Back.is at c.come_to.ensures.taken in
    let u = c.go_back.new.self in let e = c.go_back.ensures in
    let back = subst (λ n. Restores v.stack.row v.stack.frames n u.stack.row u.stack.frames)
    c.in_err-place-in-Back.was e.back in
    subst (λ r. Explores t h a.entry a.start a.self.now u r) (sym c.from_residual.ensures)
    (ended t h a.self.now v u a.entry a.start
    (goes_further t h first (with_frames w next) v None c.ways.invariant.on went.on) back
    (went_back t h v u None back e.same e.row e.room (went.fit refl)))

pub ways-smaller : goal.ways-smaller
ways-smaller g c =
    let a = c.args in let t = places_of a.table.now in let h = a.haystack.now in
    let v = c.come_to.new.self in
    let went = rw c.in-Back.is at c.come_to.ensures.taken in
    let u = c.go_back.new.self in let e = c.go_back.ensures in let left = c.in_ok-place-in-Back in
    let less = went.less refl in
    let back = went_back t h v u (Some (left.field-0-0, left.field-0-1))
    (subst (λ n. Restores v.stack.row v.stack.frames n u.stack.row u.stack.frames) left.was e.back)
    e.same e.row e.room (went.fit refl) in
    omega (arith, less, back.less)

pub ways-preserved : goal.ways-preserved
ways-preserved g c =
    let a = c.args in let t = places_of a.table.now in let h = a.haystack.now in
    let w = c.ways.self in let v = c.come_to.new.self in
    let next = explore c.ways.place c.ways.at ∷ w.stack.frames in
    let first = with_frames a.self.now (explore a.entry a.start ∷ []) in
    let went = rw c.in-Back.is at c.come_to.ensures.taken in
    let u = c.go_back.new.self in let e = c.go_back.ensures in let left = c.in_ok-place-in-Back in
    let back = went_back t h v u (Some (left.field-0-0, left.field-0-1))
    (subst (λ n. Restores v.stack.row v.stack.frames n u.stack.row u.stack.frames) left.was e.back)
    e.same e.row e.room (went.fit refl) in
    record {
      room = back.fit;
      on =
          goes_further t h first v
          (with_frames u (explore left.field-0-0 left.field-0-1 ∷ u.stack.frames)) None
          (goes_further t h first (with_frames w next) v None c.ways.invariant.on went.on)
          back.on;
      counts = subst (StaysCounted a.self.now.steps)
          (sym (ap (λ (z : Backtracker). z.steps) e.same))
          (still_counted c.ways.invariant.counts c.come_to.ensures.counts);
    }

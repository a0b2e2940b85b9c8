use Rattle.regex_lite_engine.proofs.Common.{◌≡◌, ℕ, ◌+◌, ◌-◌, ◌*◌, ◌≤◌, false, length}
use Rattle.regex_lite_engine.proofs.Common.{replicate, None, sum_by, sym, ap, ◌∙◌, IsCharBoundary}
use Rattle.regex_lite_engine.proofs.Common.{subst, arith, mul-le-mul_left, length-map, IsBlank}
use Rattle.regex_lite_engine.proofs.Common.{length-replicate, stack_bound_with, place_of, places_of}
use Rattle.regex_lite_engine.proofs.search.MarkLemmas.{blank_row}
use Rattle.regex_lite_engine.proofs.backtrack.short.ShortSearcher.restart.Goals as goal

-- the memory is ready for a search from the offset
pub returns-clause-fresh : goal.returns-clause-fresh
returns-clause-fresh c =
    let a = c.args in
    let table = places_of a.table.now in
    let old = a.self.now.walk.stack in
    let restarted = c.restart.ensures in
    let offsets = length a.haystack.now - a.start + 1 in
    let places : c.places.result ≡ length table
    = c.places.ensures.same ∙ sym (length-map a.table.now.places place_of) in
    let none : c.restart.new.self.entered ≡ replicate (length table * offsets) false
    = restarted.none ∙ ap (λ n. replicate (n * offsets) false) places in
    let row : c.clear.new.self.row ≡ replicate (length old.row) None
    = ap (λ held. held.row) c.clear.ensures in
    let width : length c.clear.new.self.row ≡ length old.row
    = ap length row ∙ length-replicate (length old.row) None in
    let room : c.clear.new.self.room ≡ old.room = ap (λ held. held.room) c.clear.ensures in
    let kept : ℕ = sum_by (stack_bound_with (length old.row)) table in
    let fits : kept * offsets ≤ kept * a.self.now.offsets
    = mul-le-mul_left kept (omega (arith, c.requires.short)) in
    record {
      all = record {
        places = restarted.places ∙ places;
        boundary = subst (IsCharBoundary a.haystack.now) (sym restarted.first) c.requires.boundary;
        all = ap length none
            ∙ length-replicate (length table * offsets) false
            ∙ ap (λ z. length table * (length a.haystack.now - z + 1)) (sym restarted.first);
      };
      first = restarted.first;
      none = none;
      frames = ap (λ held. held.frames) c.clear.ensures;
      blank = subst IsBlank (sym row) (blank_row (length old.row));
      room = subst (λ (z : ℕ). sum_by (stack_bound_with z) table * offsets ≤ c.clear.new.self.room)
          (sym width) (omega (arith, room, fits, c.requires.searches.room));
      tried = c.no_steps-self.ensures.tried;
      entered = c.no_steps-self.ensures.entered;
      looked = c.no_steps-self.ensures.looked;
    }

pub returns-clause-width : goal.returns-clause-width
returns-clause-width c =
    let old = c.args.self.now.walk.stack in
    ap (λ held. length held.row) c.clear.ensures ∙ length-replicate (length old.row) None

pub returns-clause-searches : goal.returns-clause-searches
returns-clause-searches c =
    let old = c.args.self.now in
    let table = places_of c.args.table.now in
    let width : length c.clear.new.self.row ≡ length old.walk.stack.row
    = ap (λ held. length held.row) c.clear.ensures
    ∙ length-replicate (length old.walk.stack.row) None in
    let room : c.clear.new.self.room ≡ old.walk.stack.room
    = ap (λ held. held.room) c.clear.ensures in
    let pairs : c.restart.new.self.room ≡ old.walk.visited.room = c.restart.ensures.room in
    record {
      room = subst (λ (z : ℕ). sum_by (stack_bound_with z) table * old.offsets
          ≤ c.clear.new.self.room) (sym width) (omega (arith, room, c.requires.searches.room));
      pairs = omega (arith, pairs, c.requires.searches.pairs);
      countable = c.requires.searches.countable;
    }

-- there is memory for the pairs of a haystack that is short enough
pub restart-requires-clause-room : goal.restart-requires-clause-room
restart-requires-clause-room c =
    let a = c.args in
    let table = places_of a.table.now in
    let places : c.places.result ≡ length table
    = c.places.ensures.same ∙ sym (length-map a.table.now.places place_of) in
    let fits : length table * (length a.haystack.now - a.start + 1)
    ≤ length table * a.self.now.offsets
    = mul-le-mul_left (length table) (omega (arith, c.requires.short)) in
    subst (λ (z : ℕ). z * (length a.haystack.now - a.start + 1) ≤ a.self.now.walk.visited.room)
    (sym places) (omega (arith, fits, c.requires.searches.pairs))

pub restart-requires-clause-some : goal.restart-requires-clause-some
restart-requires-clause-some c =
    omega (
      arith,
      c.requires.some,
      c.places.ensures.same,
      length-map c.args.table.now.places place_of,
    )

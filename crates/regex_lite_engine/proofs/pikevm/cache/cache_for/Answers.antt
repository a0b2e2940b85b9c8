use Rattle.regex_lite_engine.proofs.Common.{◌≡◌, ◌<◌, map, length, sym, ap, ◌∙◌, subst, arith}
use Rattle.regex_lite_engine.proofs.Common.{false, length-map, length-replicate, place_of}
use Rattle.regex_lite_engine.proofs.pikevm.cache.cache_for.Goals as goal

pub overflow_add-room : goal.overflow_add-room
overflow_add-room g c = omega (
  arith,
  c.places-places.ensures.same,
  c.places-places.ensures.few,
  c.reading-room.ensures.few c.requires,
)

pub returns-clause-fresh : goal.returns-clause-fresh
returns-clause-fresh g c =
    let count : length (map place_of c.args.table.now.places) ≡ length c.args.table.now.places =
    length-map c.args.table.now.places place_of in
    let places : c.places-places.result ≡ length c.args.table.now.places =
    c.places-places.ensures.same in
    let kept = c.places-places.ensures.stack_bound (subst (λ n. 0 < n) (sym places) c.requires) in
    let blank = c.in_ok-blank.ensures in
    let tried = c.no_steps.ensures.tried in let entered = c.no_steps.ensures.entered in
    let room = blank.room in
    let long = ap length blank.entered ∙ length-replicate c.places-places.result false in
    record {
      between = record {
        all_seen = omega (arith, long, places, count);
        cap = omega (arith, room, c.reading-room.ensures.each);
        few = omega (arith, ap length blank.threads);
        below = λ k lt. absurd (omega (arith, lt, ap length blank.threads));
        none_next = blank.next;
        stack_room = omega (arith, kept, places, count);
        stack_empty = blank.frames;
        best_width = c.in_ok-best.ensures.width ∙ sym blank.width;
        entered_tried = omega (arith, tried, entered);
        looked_entered = omega (arith, entered, c.no_steps.ensures.looked);
        match_entered = λ some. absurd (some c.in_ok-best.ensures.none);
      };
      none = c.in_ok-best.ensures.none;
      no_threads = blank.threads;
      no_tries = tried;
      no_entries = entered;
    }

pub returns-clause-countable : goal.returns-clause-countable
returns-clause-countable g c =
    let count : length (map place_of c.args.table.now.places) ≡ length c.args.table.now.places =
    length-map c.args.table.now.places place_of in
    let places = c.places-places.ensures.same in let few = c.places-places.ensures.few in
    record {
      few_places = omega (arith, count, places, few);
      few_arrows = c.reading-room.ensures.few_arrows;
    }

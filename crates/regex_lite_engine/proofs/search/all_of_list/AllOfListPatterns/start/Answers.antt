use Rattle.regex_lite_engine.proofs.Common.{◌<◌, map, length, get_or, Some, sym, ap, ◌∙◌, arith}
use Rattle.regex_lite_engine.proofs.Common.{get_or-map-range_with_len, length-map-range_with_len}
use Rattle.regex_lite_engine.proofs.Common.{slice_get-get_or, range_with_len, start_numbered, List}
use Rattle.regex_lite_engine.proofs.Common.{ℕ, ◌≡◌}
use Rattle.regex_lite_engine.proofs.search.all_of_list.AllOfListPatterns.start.Goals as goal

-- the number is that of an entry
inside : (entries all : List ℕ) (k : ℕ) → all ≡ entries
    → k < length (map (start_numbered entries) (range_with_len 0 (length entries))) → k < length all
inside entries all k is lt =
    let mapped = length-map-range_with_len (start_numbered entries) 0 (length entries) in
    let same = ap length is in
    omega (arith, mapped, same, lt)

pub overflow_cast-result : goal.overflow_cast-result
overflow_cast-result c =
    let reported = c.entries-entries in
    let entries = c.args.self.now.list.now.entries in
    let lt = inside entries reported.result.now c.args.k reported.ensures.same c.requires in
    omega (arith, lt, reported.ensures.few)

pub offset_bounds-entries-k : goal.offset_bounds-entries-k
offset_bounds-entries-k c =
    let reported = c.entries-entries in
    let entries = c.args.self.now.list.now.entries in
    let lt = inside entries reported.result.now c.args.k reported.ensures.same c.requires in
    omega (arith, lt, reported.ensures.few)

pub bounds-entries-k : goal.bounds-entries-k
bounds-entries-k c =
    let reported = c.entries-entries in
    inside c.args.self.now.list.now.entries reported.result.now c.args.k reported.ensures.same
    c.requires

pub returns : goal.returns
returns c =
    let entries = c.args.self.now.list.now.entries in
    let k = c.args.k in
    let starts = map (start_numbered entries) (range_with_len 0 (length entries)) in
    let all = length-map-range_with_len (start_numbered entries) 0 (length entries) in
    slice_get-get_or starts k (start_numbered entries 0) c.requires
    ∙ ap Some (get_or-map-range_with_len (start_numbered entries) 0 (length entries) k k
    (start_numbered entries 0) (omega (arith, all, c.requires)) (omega arith)
    ∙ ap (λ es. record { number = k; place = get_or es k 0 }) (sym c.entries-entries.ensures.same))

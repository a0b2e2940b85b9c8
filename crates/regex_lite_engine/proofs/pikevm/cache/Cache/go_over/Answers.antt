use Rattle.regex_lite_engine.proofs.Common.{ℕ, ◌+◌, ◌-◌, ◌*◌, ◌^◌, ◌<◌, ◌≤◌, length}
use Rattle.regex_lite_engine.proofs.Common.{arith, row_of, mul-le-mul_left, arrows_of}
use Rattle.regex_lite_engine.proofs.Common.{characters_left}
use Rattle.regex_lite_engine.proofs.pikevm.PassLemmas.{bound_on}
use Rattle.regex_lite_engine.proofs.pikevm.cache.Cache.go_over.Goals as goal

pub returns-clause-on : goal.returns-clause-on
returns-clause-on g c haystack s last p is are on =
    let a = c.args in
    let table = g.P.Patterns.table a.patterns.now in
    let entries = g.P.Patterns.entries a.patterns.now in
    let old = a.self.now in
    let new = c.step.new.self in
    let low = on.low in
    let tries = c.step.ensures.tries in
    let few = c.requires.few in
    record {
      low = omega (arith, low);
      ready = c.step.ensures.ready;
      coming = c.step.ensures.comes haystack entries p s last is low are on.coming;
      tries = bound_on table haystack entries s
          (old.walk.steps.tried + length old.walk.memory.threads)
          (new.walk.steps.tried + length new.walk.memory.threads) p p
          (arrows_of table + length entries) low (omega arith) on.tries (omega (arith, tries, few));
      entries = bound_on table haystack entries s old.walk.steps.entered new.walk.steps.entered p p
          (length table) low (omega arith) on.entries c.step.ensures.entries;
      own = λ begin len part. (
          let spent = on.own begin len part in
          let spends = c.step.ensures.own haystack entries p s last begin len is low are on.coming
          part in
          record {
            tries = bound_on table haystack entries s
                (old.walk.steps.tried + length old.walk.memory.threads)
                (new.walk.steps.tried + length new.walk.memory.threads) p p
                (arrows_of (row_of table begin len) + length entries) low (omega arith) spent.tries
                (omega (arith, spends.tries, few));
            entries = bound_on table haystack entries s old.walk.steps.entered
                new.walk.steps.entered p p len low (omega arith) spent.entries spends.entries;
            few = spends.few;
          });
    }

pub step-requires-clause-few_ways : goal.step-requires-clause-few_ways
step-requires-clause-few_ways g c =
    let starts = c.requires.few in
    let few = c.requires.countable in
    omega (arith, c.threads-threads.ensures.few, c.threads-threads.ensures.same, starts, few)

-- what was counted up to a position of the haystack leaves room for that of one more
one_more : (a m n left : ℕ) → n ≤ left → a ≤ m * n → m * (left + 1) < 2 ^ 127 → a + m < 2 ^ 127
one_more a m n left le before all =
    let most : m * n ≤ m * left = mul-le-mul_left m le in
    omega (arith, most, before, all)

pub step-requires-clause-few_tries : goal.step-requires-clause-few_tries
step-requires-clause-few_tries g c =
    let a = c.args in
    let (haystack, s, last, p, is, counts, on) = c.requires.on in
    let table = g.P.Patterns.table a.patterns.now in
    let entries = g.P.Patterns.entries a.patterns.now in
    let inside = is.inside in
    let most = one_more (a.self.now.walk.steps.tried + length a.self.now.walk.memory.threads)
    (arrows_of table + length entries) (p - s) (characters_left haystack s) (omega (arith, inside))
    on.tries counts.tries in
    omega (arith, most, c.requires.few)

pub step-requires-clause-few_entries : goal.step-requires-clause-few_entries
step-requires-clause-few_entries g c =
    let (haystack, s, last, p, is, counts, on) = c.requires.on in
    let table = g.P.Patterns.table c.args.patterns.now in
    let inside = is.inside in
    one_more c.args.self.now.walk.steps.entered (length table) (p - s)
    (characters_left haystack s) (omega (arith, inside)) on.entries counts.entries

pub step-requires-clause-ready : goal.step-requires-clause-ready
step-requires-clause-ready g c = c.requires.on.6.ready

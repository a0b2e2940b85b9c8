use Rattle.regex_lite_meta.proofs.Common.{ℕ, ◌+◌, ◌-◌, ◌*◌, ◌^◌, ◌<◌, ◌≤◌, length, chars, sym, ◌∙◌}
use Rattle.regex_lite_meta.proofs.Common.{refl, arith, arrows_of}
use Rattle.std.proofs.Math.Nat.{mul-le-mul_left}
use Rattle.regex_lite_engine.proofs.pikevm.EndLemmas.{bound_more}
use Rattle.regex_lite_engine.proofs.pikevm.PassLemmas.{bound_on}
use Rattle.regex_lite_engine.proofs.pikevm.SteppingLemmas.{starts_up_to}
use Rattle.regex_lite_engine.proofs.search.list_patterns.ListStartLemmas.{starts_at}
use Rattle.regex_lite_meta.proofs.lazy_dfa.run.go_over.Goals as goal

-- what one more position costs fits
next_fits : (len s p m most a : ℕ) → s ≤ p → p ≤ len → m * (len - s + 1) < most → a ≤ m * (p - s)
    → a + m < most
next_fits len s p m most a low inside fits so_far =
    let next : a + m ≤ m * (p + 1 - s) = bound_more a (a + m) p s m low so_far (omega arith) in
    let within : p + 1 - s ≤ len - s + 1 = omega (arith, low, inside) in
    let all = mul-le-mul_left m within in omega (arith, next, all, fits)

pub step-requires-clause-inside : goal.step-requires-clause-inside
step-requires-clause-inside g c = c.requires.all.inside

pub returns-clause-on : goal.returns-clause-on
returns-clause-on g c = λ s from p is on.
    let a = c.args in
    let table = g.P.Patterns.table a.patterns.now in
    let entries = g.P.Patterns.entries a.patterns.now in
    let h = chars a.haystack.now in
    let old = a.cache.now in
    let new = c.step.new.self in
    let all = c.requires.all in
    let low = on.low in
    let after = on.after in
    let tries = c.step.ensures.tries in
    let few = all.few in
    record {
      low = omega (arith, low);
      after = omega (arith, after);
      ready = c.step.ensures.ready;
      coming =
          c.step.ensures.comes h entries p from (length h) is after
          (starts_up_to is.inside (starts_at all h p)) on.coming;
      tries =
          bound_on table h entries s (old.walk.steps.tried + length old.walk.memory.threads)
          (new.walk.steps.tried + length new.walk.memory.threads) p p
          (arrows_of table + length entries) low (omega arith) on.tries (omega (arith, tries, few));
      entries_left =
          bound_on table h entries s old.walk.steps.entered new.walk.steps.entered p p
          (length table) low (omega arith) on.entries_left c.step.ensures.entries;
      width =
          sym c.step.ensures.ready.best_width ∙ c.step.ensures.width ∙ on.ready.best_width
          ∙ on.width;
      spent = λ begin len part. (
          let own = on.spent begin len part in
          let spends = c.step.ensures.own h entries p from (length h) begin len is after
          (starts_up_to is.inside (starts_at all h p)) on.coming part in
          record {
            tries =
                bound_on table h entries s
                (old.walk.steps.tried + length old.walk.memory.threads)
                (new.walk.steps.tried + length new.walk.memory.threads) p p
                _ low (omega arith) own.tries
                (omega (arith, spends.tries, few));
            entries =
                bound_on table h entries s old.walk.steps.entered new.walk.steps.entered p p len
                low (omega arith) own.entries spends.entries;
            few = spends.few;
          });
    }

pub step-requires-clause-ready : goal.step-requires-clause-ready
step-requires-clause-ready g c = c.requires.on.5.ready

pub returns-clause-again : goal.returns-clause-again
returns-clause-again g c = c.step.ensures.again refl

pub returns-clause-match_flag : goal.returns-clause-match_flag
returns-clause-match_flag g c = c.step.ensures.match_flag

pub returns-clause-ends : goal.returns-clause-ends
returns-clause-ends g c = c.step.ensures.ends

pub step-requires-clause-few_tries : goal.step-requires-clause-few_tries
step-requires-clause-few_tries g c =
    let reported = c.requires.on in
    let few = c.requires.all.few in
    let fits = next_fits (length (chars c.args.haystack.now)) reported.0 reported.2
    (arrows_of (g.P.Patterns.table c.args.patterns.now)
    + length (g.P.Patterns.entries c.args.patterns.now)) (2 ^ 127)
    (c.args.cache.now.walk.steps.tried + length c.args.cache.now.walk.memory.threads) reported.5.low
    reported.3.inside reported.4.tries reported.5.tries in
    omega (arith, fits, few)

pub step-requires-clause-few_entries : goal.step-requires-clause-few_entries
step-requires-clause-few_entries g c =
    let reported = c.requires.on in
    next_fits (length (chars c.args.haystack.now)) reported.0 reported.2
    (length (g.P.Patterns.table c.args.patterns.now)) (2 ^ 127) c.args.cache.now.walk.steps.entered
    reported.5.low reported.3.inside reported.4.entries reported.5.entries_left

use Rattle.regex_lite_meta.proofs.Common.{◌≡◌, None, chars, sym, ◌∙◌, subst, arith, rules}
use Rattle.regex_lite_meta.proofs.Common.{nil_from_length, best_of, IsHere, IsFirstStart}
use Rattle.regex_lite_meta.proofs.lazy_dfa.RunLemmas.{maybe_in_empty, own_first}
use Rattle.regex_lite_meta.proofs.lazy_dfa.StandsLemmas.{later_there, passed_there}
use Rattle.regex_lite_meta.proofs.lazy_dfa.automaton.LazyDfa.at_start_state.Goals as goal

pub returns-clause-is_dfa : goal.returns-clause-is_dfa
returns-clause-is_dfa g c =
    c.settle_start_state-state.ensures.is_dfa (g.P.Patterns.table c.args.patterns.now)
    (g.P.Patterns.entries c.args.patterns.now) c.requires.is_dfa

pub find_state_again-requires-clause-own : goal.find_state_again-requires-clause-own
find_state_again-requires-clause-own g c =
    let on = c.requires.stands.1.on in λ low len part. (on.spent low len part).few

pub returns-in-Some-clause-stands : goal.returns-in-Some-clause-stands
returns-in-Some-clause-stands g c = λ s stands.
    let a = c.args in
    let few = c.if-threads-gt0.false in
    let same = c.threads.ensures.same in
    let none = nil_from_length a.cache.now.walk.memory.threads (omega (arith, few, same)) in
    let no_match : best_of a.cache.now.best ≡ None = search rules in
    let in_start = c.in-Some.in_start in
    let own = c.in-Some.ensures in
    let first = own.first in
    record {
      p = stands.p;
      is = subst (IsHere (chars a.haystack.now) stands.p) (sym own.here_is) stands.is;
      from = stands.from;
      begun = stands.begun;
      own_from = λ e. stands.own_from (sym own.same ∙ e);
      on = stands.on;
      first = omega (arith, first);
      own = subst (λ z. IsFirstStart z in_start.here.at a.cache.now.walk.memory.threads)
          (sym own.first) (own_first in_start.here.at a.cache.now.walk.memory.threads none);
      state =
          maybe_in_empty a.self.now in_start.state in_start.first in_start.here.before a.cache.now
          own.state none no_match;
    }

pub returns-clause-stands : goal.returns-clause-stands
returns-clause-stands g c = λ s stands.
    let few = c.if-threads-gt0.false in
    let same = c.threads.ensures.same in
    let none = nil_from_length c.args.cache.now.walk.memory.threads (omega (arith, few, same)) in
    passed_there stands (c.leave_start_state-here.ensures stands.p stands.is) none (search rules)
    c.settle_start_state-state.new.self c.settle_start_state-state.result
    c.settle_start_state-state.ensures.state c.args.at.until

pub returns-clause-later : goal.returns-clause-later
returns-clause-later g c =
    let stands = c.requires.stands.1 in
    later_there stands (c.leave_start_state-here.ensures stands.p stands.is)

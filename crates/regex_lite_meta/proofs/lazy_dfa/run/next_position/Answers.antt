use Rattle.regex_lite_meta.proofs.Common.{◌+◌, chars, sym, refl, ◌∙◌, inl, inr, arith}
use Rattle.regex_lite_meta.proofs.Common.{nil_from_length}
use Rattle.regex_lite_meta.proofs.lazy_dfa.RunLemmas.{at_next, other_first, own_first, state_from}
use Rattle.regex_lite_meta.proofs.lazy_dfa.ScanLemmas.{next_before}
use Rattle.regex_lite_meta.proofs.lazy_dfa.run.next_position.Goals as goal

pub returns-then-threads-eq0-clause-stands : goal.returns-then-threads-eq0-clause-stands
returns-then-threads-eq0-clause-stands c = λ table entries automaton s from p is begun own_from on
    known.
    let at = c.args.at in
    let now = c.next-here.result in
    let next = c.next-here.ensures p is in
    let none = nil_from_length c.args.cache.now.walk.memory.threads
    (sym c.threads.ensures.same ∙ c.if-threads-eq0.true) in
    record {
      p = p + 1;
      is = next;
      from = from;
      begun = begun;
      own_from = own_from;
      on = on;
      first = omega arith;
      own = own_first now.at c.args.cache.now.walk.memory.threads none;
      state =
          state_from automaton at.state at.first now.at at.here.after now.before c.args.cache.now
          (next_before (chars c.args.haystack.now) p now next ∙ sym is.ahead) (inl none) known;
    }

pub returns-then-threads-eq0-clause-later : goal.returns-then-threads-eq0-clause-later
returns-then-threads-eq0-clause-later c =
    let from = c.requires.here in
    at_next (chars c.args.haystack.now) from.0 c.args.at.here c.next-here.result from.1
    (c.next-here.ensures from.0 from.1)

pub returns-else-threads-eq0-clause-stands : goal.returns-else-threads-eq0-clause-stands
returns-else-threads-eq0-clause-stands c = λ table entries automaton s from p is begun own_from on
    known.
    let at = c.args.at in
    let now = c.next-here.result in
    let next = c.next-here.ensures p is in
    let less = at_next (chars c.args.haystack.now) p at.here now is next in
    let so_far = c.requires.first in
    record {
      p = p + 1;
      is = next;
      from = from;
      begun = begun;
      own_from = own_from;
      on = on;
      first = omega (arith, so_far, less);
      own =
          other_first at.first now.at c.args.cache.now.walk.memory.threads
          (λ e. c.if-threads-eq0.false (c.threads.ensures.same ∙ e))
          (λ e. omega (arith, e, so_far, less));
      state =
          state_from automaton at.state at.first at.first at.here.after now.before c.args.cache.now
          (next_before (chars c.args.haystack.now) p now next ∙ sym is.ahead) (inr refl) known;
    }

pub returns-else-threads-eq0-clause-later : goal.returns-else-threads-eq0-clause-later
returns-else-threads-eq0-clause-later c =
    let from = c.requires.here in
    at_next (chars c.args.haystack.now) from.0 c.args.at.here c.next-here.result from.1
    (c.next-here.ensures from.0 from.1)

use Rattle.regex_lite_meta.proofs.Common.{◌+◌, ◌<◌, ◌∙◌, sym, ap, length, slice_get}
use Rattle.regex_lite_meta.proofs.Common.{get_or_from_slice_get}
use Rattle.regex_lite_meta.proofs.lazy_dfa.StoredStateLemmas.{cell_within, next_state_of}
use Rattle.regex_lite_syntax.proofs.LookupLemmas.{there_is}
use Rattle.regex_lite_meta.proofs.lazy_dfa.automaton.LazyDfa.next_states.Goals as goal

pub returns : goal.returns
returns c = λ row class x is few.
    let i = c.self.inside in
    let v = c.self.invariant in
    let cell = cell_within i.classes i.reach i.states.items i.next_states.items i.used i.ways.items
    c.args.self.now c.self.view_is v.4 x class is.within few in
    let inside : row + class < length i.next_states.items =
    rw is.begins cell in
    let at = there_is i.next_states.items (row + class) inside in (
      at.0,
      ap (λ items. slice_get items (row + class)) c.deref.ensures.value ∙ at.1,
      next_state_of i.classes i.reach i.states.items i.next_states.items i.used i.ways.items
          c.args.self.now
          c.self.view_is v.4 x class is.within few v.0 v.1 v.2 v.3 (row + class)
          (ap (λ n. n + class) is.begins) at.0
          (sym (get_or_from_slice_get i.next_states.items (row + class) at.0 at.0 at.1)),
    )

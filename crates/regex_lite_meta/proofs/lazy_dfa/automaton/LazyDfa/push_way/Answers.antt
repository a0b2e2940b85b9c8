use Rattle.regex_lite_meta.proofs.Common.{◌≡◌, List, sym, ap, ◌∙◌, Way, Automaton, StoredWay}
use Rattle.std.proofs.Common.{true≢false}
use Rattle.regex_lite_meta.proofs.lazy_dfa.StoredChangeLemmas.{seen_pushed}
use Rattle.regex_lite_meta.proofs.lazy_dfa.StoredStateLemmas.{seen}
use Rattle.regex_lite_meta.proofs.lazy_dfa.automaton.LazyDfa.push_way.Goals as goal
use Rattle.regex_lite_meta.proofs.lazy_dfa.automaton.LazyDfa.push_way.Goals.{in-Ok, in-Err}

pub returns-clause-pushed : goal.returns-clause-pushed
returns-clause-pushed c = λ reported.
    let i = c.self.inside in
    let v = c.self.invariant in
    let way : StoredWay = c.args.way in
    elim c.match-push.branch [
      | in-Ok w ↦
          seen_pushed i.classes i.reach i.states.items i.next_states.items i.used i.ways.items v.0
          v.1 c.args.self.now c.self.view_is way c.push.new.self.items w.in-Ok.ensures.items
      | in-Err w ↦ absurd (true≢false (sym reported ∙ w.result-is))
    ]

-- nothing but the pending ways changes
but_for_pending : (old new : Automaton) (pending : List Way)
    → new ≡ record old { pending = pending } → new ≡ record old { pending = new.pending }
but_for_pending old new pending same =
    same
    ∙ ap (λ ways. record old { pending = ways }) (sym (ap (λ (z : Automaton). z.pending) same))

pub returns-clause-same : goal.returns-clause-same
returns-clause-same c =
    let i = c.self.inside in
    let v = c.self.invariant in
    let way : StoredWay = c.args.way in
    elim c.match-push.branch [
      | in-Ok w ↦
          but_for_pending c.args.self.now _ _
          (seen_pushed i.classes i.reach i.states.items i.next_states.items i.used i.ways.items v.0
          v.1 c.args.self.now c.self.view_is way c.push.new.self.items w.in-Ok.ensures.items)
      | in-Err w ↦
          but_for_pending c.args.self.now _ c.args.self.now.pending
          (ap (λ items. seen i.classes i.reach i.states.items i.next_states.items i.used items)
          w.in-Err.ensures.items ∙ c.self.view_is)
    ]

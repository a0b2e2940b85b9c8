use Rattle.regex_lite_meta.proofs.Common.{◌==◌, ◌<◌, length, slice_get_within, refl, sym, ap, not}
use Rattle.regex_lite_meta.proofs.Common.{rules, best_left, best_reported, match_flag_in, ℕ, Text}
use Rattle.regex_lite_meta.proofs.Common.{IsHere, subst}
use Rattle.regex_lite_syntax.specs.Text.{after}
use Rattle.regex_lite_meta.proofs.lazy_dfa.StoredStateLemmas.{transition_led, transition_stored}
use Rattle.regex_lite_meta.proofs.lazy_dfa.ScanLemmas.{TransitionsTo, completed, led_none, led_step}
use Rattle.regex_lite_meta.proofs.lazy_dfa.automaton.LazyDfa.step.Given as given
use Rattle.regex_lite_meta.proofs.lazy_dfa.automaton.LazyDfa.step.Goals as goal
use Rattle.regex_lite_meta.proofs.lazy_dfa.automaton.LazyDfa.step.Goals.{After-index}

pub index-requires : goal.index-requires
index-requires g c =
    let i = c.self.inside in
    let inside = transition_stored i.classes i.reach i.states.items i.next_states.items i.used
    i.ways.items c.args.self.now c.self.view_is (g.P.Patterns.table c.args.patterns.now)
    (g.P.Patterns.entries c.args.patterns.now) c.requires.is_dfa c.args.at.now.state
    c.class-class.result c.in_ok-to.field-0.state c.requires.state c.class-class.ensures.few
    c.in_ok-to.ensures.known in
    search (inside, rules)

-- where the transition leads, and where the way began by which a match is complete then
led : (g : given.Over) (c : After-index g) →
    TransitionsTo (g.P.Patterns.table c.args.patterns.now)
    (g.P.Patterns.entries c.args.patterns.now) c.args.self.now c.args.at.now.state c.args.here.after
    c.in_ok-to.field-0.state (match_flag_in c.index.result.now.match_flag)
led g c =
    let i = c.self.inside in
    transition_led i.classes i.reach i.states.items i.next_states.items i.used i.ways.items
    c.args.self.now c.self.view_is (g.P.Patterns.table c.args.patterns.now)
    (g.P.Patterns.entries c.args.patterns.now) c.requires.is_dfa c.args.at.now.state
    c.class-class.result c.in_ok-to.field-0.state c.requires.state c.class-class.ensures.few
    c.in_ok-to.ensures.known c.args.here.after c.class-class.ensures.same c.index.result.now
    c.index.ensures

-- the same at the position before the next character
led_from : (g : given.Over) (c : After-index g) (haystack : Text) (p : ℕ)
    → IsHere haystack p c.args.here →
    TransitionsTo (g.P.Patterns.table c.args.patterns.now)
    (g.P.Patterns.entries c.args.patterns.now) c.args.self.now c.args.at.now.state
    (after haystack p) c.in_ok-to.field-0.state (match_flag_in c.index.result.now.match_flag)
led_from g c haystack p is =
    subst (λ next. TransitionsTo (g.P.Patterns.table c.args.patterns.now)
    (g.P.Patterns.entries c.args.patterns.now) c.args.self.now c.args.at.now.state next
    c.in_ok-to.field-0.state (match_flag_in c.index.result.now.match_flag)) is.ahead (led g c)

pub returns-in-Nowhere-clause-led : goal.returns-in-Nowhere-clause-led
returns-in-Nowhere-clause-led g c = λ haystack low p scanning is.
    led_none (g.P.Patterns.table c.args.patterns.now) (g.P.Patterns.entries c.args.patterns.now)
    haystack low p c.args.self.now c.args.at.now scanning (not (g.row.EARLIEST == 0))
    c.requires.none
    (led_step (g.P.Patterns.table c.args.patterns.now) (g.P.Patterns.entries c.args.patterns.now)
    haystack low p c.args.self.now c.args.at.now scanning
    (led_from g (goal.at.returns-in-Nowhere-clause-led g c).After-index haystack p is)
    c.args.at.now.best
    (sym (ap (λ match_flag. best_left (match_flag_in match_flag) c.args.at.now.first
    c.args.at.now.at (best_reported c.args.at.now.best)) c.in-Nowhere.is)))

pub returns-in-AtFirst-clause-led : goal.returns-in-AtFirst-clause-led
returns-in-AtFirst-clause-led g c = λ haystack low p scanning is.
    rw c.completed.ensures
    (completed (g.P.Patterns.table c.args.patterns.now) (g.P.Patterns.entries c.args.patterns.now)
    haystack low p c.args.self.now c.args.at.now scanning
    (led_from g (goal.at.returns-in-AtFirst-clause-led g c).After-index haystack p is)
    (not (g.row.EARLIEST == 0))
    (record {
      at = c.args.at.now.first;
      number = c.in-AtFirst.number;
    }) (ap match_flag_in c.in-AtFirst.is) c.requires.none (λ _. refl))

pub returns-else-not-this-clause-led : goal.returns-else-not-this-clause-led
returns-else-not-this-clause-led g c = λ haystack low p scanning is.
    rw c.completed-in-AtLater.ensures
    (completed (g.P.Patterns.table c.args.patterns.now) (g.P.Patterns.entries c.args.patterns.now)
    haystack low p c.args.self.now c.args.at.now scanning
    (led_from g (goal.at.returns-else-not-this-clause-led g c).After-index haystack p is)
    (not (g.row.EARLIEST == 0))
    (record {
      at = c.args.at.now.first;
      number = c.in-AtLater.number;
    }) (ap match_flag_in c.in-AtLater.is) c.requires.none
    (λ other. absurd (c.if-not-this.false (search (other, rules)))))

-- the next state is one of the lazy DFA
within : (g : given.Over) (c : After-index g)
    → c.in_ok-to.field-0.state < length c.args.self.now.states
within g c =
    let transition = led g c in
    slice_get_within c.args.self.now.states c.in_ok-to.field-0.state transition.to transition.is_to

pub returns-in-Nowhere-clause-state : goal.returns-in-Nowhere-clause-state
returns-in-Nowhere-clause-state g c =
    within g (goal.at.returns-in-Nowhere-clause-state g c).After-index

pub returns-in-AtFirst-clause-state : goal.returns-in-AtFirst-clause-state
returns-in-AtFirst-clause-state g c =
    within g (goal.at.returns-in-AtFirst-clause-state g c).After-index

pub returns-else-not-this-clause-state : goal.returns-else-not-this-clause-state
returns-else-not-this-clause-state g c =
    within g (goal.at.returns-else-not-this-clause-state g c).After-index

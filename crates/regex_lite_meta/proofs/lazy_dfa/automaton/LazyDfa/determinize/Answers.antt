use Rattle.regex_lite_meta.proofs.Common.{◌≡◌, true, [], slice_get, Some, sym, refl, ap, ◌∙◌, subst}
use Rattle.regex_lite_meta.proofs.Common.{slice_get_within, best_of, ◌<◌, Automaton, ways_of, Suits}
use Rattle.regex_lite_meta.proofs.Common.{searching_after, IsDfaOf, class_of, context_of, IsIn}
use Rattle.regex_lite_meta.proofs.Common.{classes_in, MatchOption}
use Rattle.regex_lite_meta.specs.LazyDfa.Determinizing.{HasStepped}
use Rattle.regex_lite_meta.proofs.lazy_dfa.DeterminizeLemmas.{determinized, is_dfa_settled}
use Rattle.regex_lite_meta.proofs.lazy_dfa.DeterminizeLemmas.{next_start, still_in, suits_after}
use Rattle.regex_lite_meta.proofs.lazy_dfa.CachedLemmas.{IsNextStart, is_dfa_more}
use Rattle.regex_lite_meta.proofs.lazy_dfa.automaton.LazyDfa.determinize.Given as given
use Rattle.regex_lite_meta.proofs.lazy_dfa.automaton.LazyDfa.determinize.Goals as goal
use Rattle.regex_lite_meta.proofs.lazy_dfa.automaton.LazyDfa.determinize.Goals.{After-settle}
use Rattle.regex_lite_meta.proofs.lazy_dfa.automaton.LazyDfa.determinize.Goals.{Else-not-gather}

-- the step was taken from the state that is known
stepped_there : (g : given.Over) (c : Else-not-gather g) →
    HasStepped (g.P.Patterns.table c.args.patterns.now) (g.P.Patterns.entries c.args.patterns.now)
    c.args.self.now c.in-Some.x c.args.at.first c.args.at.here c.args.match_flag c.args.cache.now
stepped_there g c =
    let a = c.args in
    let patterns = a.patterns.now in
    subst (λ o. MatchOption o (Unit {0}) (λ x. HasStepped (g.P.Patterns.table patterns)
    (g.P.Patterns.entries patterns) a.self.now x a.at.first a.at.here a.match_flag a.cache.now))
    c.in-Some.is c.requires.stepped

-- the state that the step was taken from is there once the ways are gathered
own_state : (g : given.Over) (c : Else-not-gather g) →
    slice_get c.gather.new.self.states c.in-Some.x ≡ Some (stepped_there g c).is_in.state
own_state g c =
    ap (λ (z : Automaton). slice_get z.states c.in-Some.x)
    (c.if-not-gather.ensures.gathered refl)
    ∙ (stepped_there g c).is_in.is_state

-- what is cached once the next state has its place
settled : (g : given.Over) (c : After-settle g) →
    (c.gather.new.self.pending ≡ ways_of c.args.first c.args.cache.now.walk.memory.threads)
    × IsDfaOf (g.P.Patterns.table c.args.patterns.now) (g.P.Patterns.entries c.args.patterns.now)
    c.settle.new.self
settled g c =
    let a = c.args in
    let patterns = a.patterns.now in
    let between = c.requires.between in
    is_dfa_settled (g.P.Patterns.table patterns) (g.P.Patterns.entries patterns) a.self.now
    c.gather.new.self
    c.settle.new.self a.first a.cache.now.walk.memory.threads
    (c.if-not-gather.ensures.gathered refl) c.requires.none_pending c.requires.is_dfa
    between.below between.few c.requires.own c.settle.ensures.extends

pub searching_after-searching-requires : goal.searching_after-searching-requires
searching_after-searching-requires g c =
    let there = (goal.at.searching_after-searching-requires g c).Else-not-gather in
    slice_get_within c.gather.new.self.states c.in-Some.x (stepped_there g there).is_in.state
    (own_state g there)

pub returns-in_err-y-clause-is_dfa : goal.returns-in_err-y-clause-is_dfa
returns-in_err-y-clause-is_dfa g c =
    (settled g (goal.at.returns-in_err-y-clause-is_dfa g c).After-settle).1

pub set_transition-requires-clause-state : goal.set_transition-requires-clause-state
set_transition-requires-clause-state g c =
    let there = (goal.at.set_transition-requires-clause-state g c).Else-not-gather in
    let from = (stepped_there g there).is_in.state in
    let own = own_state g there in
    slice_get_within c.settle.new.self.states c.in-Some.x from
    (c.settle.ensures.extends.kept c.in-Some.x from own)

pub set_transition-requires-clause-class : goal.set_transition-requires-clause-class
set_transition-requires-clause-class g c =
    subst (λ (z : Automaton). c.class-class.result < classes_in z.intervals) c.self.view_is
    c.class-class.ensures.few

pub set_transition-requires-clause-next_state : goal.set_transition-requires-clause-next_state
set_transition-requires-clause-next_state g c =
    let to = c.in_ok-y.ensures.state in
    slice_get_within c.settle.new.self.states c.in_ok-y.y to.state to.is

pub returns : goal.returns
returns g c =
    let a = c.args in
    let x = c.in-Some.x in
    let entries = g.P.Patterns.entries a.patterns.now in
    let now = c.settle.new.self in
    let extends = c.settle.ensures.extends in
    let whole = settled g (goal.at.returns g c).After-settle in
    let there = (goal.at.returns g c).Else-not-gather in
    let own = own_state g there in
    let stepped = stepped_there g there in
    let from = stepped.is_in.state in
    let at : slice_get now.states x ≡ Some from = extends.kept x from own in
    let same : now.intervals ≡ a.self.now.intervals =
    extends.intervals
    ∙ ap (λ (z : Automaton). z.intervals) (c.if-not-gather.ensures.gathered refl) in
    let to = c.in_ok-y.ensures.state in
    let class = c.class-class.result in
    let is_class : class_of now.intervals.boundaries a.at.here.after ≡ class =
    sym (ap (λ (z : Automaton). class_of z.intervals.boundaries a.at.here.after) c.self.view_is)
    ∙ sym c.class-class.ensures.same in
    let kept = c.set_transition.ensures from at in
    let is_match_flag = to.match_flag ∙ c.flag_of_match-match_flag.ensures in
    let searching = to.searching ∙ c.searching_after-searching.ensures from own
    ∙ ap (λ last. searching_after last from.searching) (sym to.match_flag) in
    let before : now.intervals.looks ≡ true → to.state.before ≡ context_of a.at.here.after =
    λ looks.
    to.before ∙ c.context-before.ensures (sym (ap (λ z. z.looks) extends.intervals) ∙ looks) in
    record {
      is_dfa =
          subst (IsDfaOf (g.P.Patterns.table a.patterns.now) entries) (sym kept)
          (is_dfa_more (g.P.Patterns.table a.patterns.now) entries now whole.1 x from class
          c.in_ok-y.y to.state
          at to.is
          (determinized (g.P.Patterns.table a.patterns.now) entries a.self.now now same whole.1 x
          a.at.first
          a.at.here a.match_flag a.cache.now stepped class is_class to.state a.first
          (subst (λ restarts. IsNextStart restarts a.at.first a.at.here.at a.first
          (best_of stepped.before.best) (best_of a.cache.now.best)
          stepped.before.walk.memory.threads) (sym to.restarts)
          (next_start stepped c.requires.first))
          (to.ways ∙ whole.0) is_match_flag searching before));
      state =
          subst (λ z. IsIn z c.in_ok-y.y a.first a.at.here.after a.cache.now) (sym kept)
          (still_in now x class c.in_ok-y.y from at c.in_ok-y.y a.first a.at.here.after
          a.cache.now (record {
            state = to.state;
            is_state = to.is;
            ways = sym (to.ways ∙ whole.0);
            suits = subst (λ b. Suits b (best_of a.cache.now.best)) (sym searching)
                (suits_after a.at.first a.match_flag (best_of stepped.before.best)
                (best_of a.cache.now.best) to.state.match_flag from.searching stepped.is_match_flag
                is_match_flag stepped.is_in.suits);
            sees = λ looks. sym (before looks);
          }));
      none_pending = ap (λ (z : Automaton). z.pending) kept ∙ c.settle.ensures.none_pending;
    }

pub returns-then-not-gather-clause-is_dfa : goal.returns-then-not-gather-clause-is_dfa
returns-then-not-gather-clause-is_dfa g c =
    let a = c.args in
    let same = c.drop_pending.ensures
    ∙ ap (λ (z : Automaton). record z { pending = [] }) c.gather.ensures.same
    ∙ ap (λ ways. record a.self.now { pending = ways }) (sym c.requires.none_pending) in
    subst (IsDfaOf (g.P.Patterns.table a.patterns.now) (g.P.Patterns.entries a.patterns.now))
    (sym same) c.requires.is_dfa

use Rattle.regex_lite_meta.proofs.Common.{ℕ, chars, sym, ◌∙◌, Stands}
use Rattle.regex_lite_meta.specs.LazyDfa.Starting.{GoesOnFrom}
use Rattle.regex_lite_meta.proofs.lazy_dfa.BeginLemmas.{begun_as}
use Rattle.regex_lite_meta.proofs.lazy_dfa.automaton.LazyDfa.search_anew.Given as given
use Rattle.regex_lite_meta.proofs.lazy_dfa.automaton.LazyDfa.search_anew.Goals as goal
use Rattle.regex_lite_meta.proofs.lazy_dfa.automaton.LazyDfa.search_anew.Goals.{After-begun-begun}

-- the search stands at its start
begun : (g : given.Over) (c : After-begun-begun g) (s : ℕ)
    → GoesOnFrom (g.P.Patterns.table c.args.patterns.now) (g.P.Patterns.entries c.args.patterns.now)
    c.args.haystack.now c.args.from s
    → Stands (g.P.Patterns.table c.args.patterns.now) (chars c.args.haystack.now)
    (g.P.Patterns.entries c.args.patterns.now) s c.args.self.now c.begun-begun.result
    c.restart.new.cache
begun g c s skips =
    let table = g.P.Patterns.table c.args.patterns.now in
    let fresh = c.restart.ensures.fresh table c.requires.on.between in
    begun_as table (chars c.args.haystack.now) (g.P.Patterns.entries c.args.patterns.now) s
    c.at.result (skips c.at.result c.at.ensures.at c.at.ensures.here) c.args.self.now
    c.begun-begun.result c.restart.new.cache
    c.begun-begun.ensures.is fresh
    (sym fresh.between.best_width ∙ c.restart.ensures.width ∙ c.requires.on.between.best_width
    ∙ c.requires.on.width)

pub search_while_it_pays-requires-clause-stands : goal.search_while_it_pays-requires-clause-stands
search_while_it_pays-requires-clause-stands g c =
    let on = c.requires.on.counted in
    let at = goal.at.search_while_it_pays-requires-clause-stands g c in
    (on.0, on.2, begun g at.After-begun-begun on.0 on.1)

pub returns : goal.returns
returns g c =
    let at = goal.at.returns g c in
    record {
      found = λ s skips.
          c.search_while_it_pays.ensures.found s (begun g at.After-begun-begun s skips);
      stands = λ s skips.
          c.search_while_it_pays.ensures.stands s (begun g at.After-begun-begun s skips);
      none = c.search_while_it_pays.ensures.none;
      not_anew = c.search_while_it_pays.ensures.not_anew;
      is_dfa = c.search_while_it_pays.ensures.is_dfa;
      none_pending = c.search_while_it_pays.ensures.none_pending;
      between = c.search_while_it_pays.ensures.between;
      width = c.search_while_it_pays.ensures.width;
    }

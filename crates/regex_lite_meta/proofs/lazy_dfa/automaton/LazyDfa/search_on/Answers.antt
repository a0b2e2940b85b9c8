use Rattle.regex_lite_meta.proofs.Common.{ℕ, chars, sym, ◌∙◌, slice_get_within}
use Rattle.regex_lite_meta.proofs.Common.{Stands, position_at}
use Rattle.regex_lite_meta.specs.LazyDfa.Scanning.{ComesTo}
use Rattle.regex_lite_meta.specs.LazyDfa.Starting.{GoesOnFrom}
use Rattle.regex_lite_meta.proofs.lazy_dfa.AnewLemmas.{none_before}
use Rattle.regex_lite_meta.proofs.lazy_dfa.BeginLemmas.{begun_with, comes_from, comes_on}
use Rattle.regex_lite_meta.proofs.lazy_dfa.automaton.LazyDfa.search_on.Given as given
use Rattle.regex_lite_meta.proofs.lazy_dfa.automaton.LazyDfa.search_on.Goals as goal
use Rattle.regex_lite_meta.proofs.lazy_dfa.automaton.LazyDfa.search_on.Goals.{After-begun-at}

pub scan_on-requires-clause-scanning : goal.scan_on-requires-clause-scanning
scan_on-requires-clause-scanning g c =
    let on = c.requires.on.counted in
    let comes = c.requires.scanned on.0 on.1 in (on.0, comes.0, comes.2)

pub returns-then-scan_on : goal.returns-then-scan_on
returns-then-scan_on g c =
    let on = c.requires.on in
    record {
      found = λ s skips.
          let comes = c.requires.scanned s skips in
          c.scan_on.ensures.over c.if-scan_on.true s comes.0 comes.2;
      stands = λ s skips. tt;
      none = tt;
      not_anew = tt;
      is_dfa = on.is_dfa;
      none_pending = on.none_pending;
      between = on.between;
      width = on.width;
    }

-- no match begins before the offset, if the search begins at this position
abbrev IsAfter : (g : given.Over) (c : After-begun-at g) (s : ℕ) → Type 0
IsAfter g c s =
    GoesOnFrom (g.P.Patterns.table c.args.patterns.now) (g.P.Patterns.entries c.args.patterns.now)
    c.args.haystack.now c.args.from s

-- how far cached transitions have led
comes : (g : given.Over) (c : After-begun-at g) (s : ℕ) → IsAfter g c s
    → ComesTo (g.P.Patterns.table c.args.patterns.now) (g.P.Patterns.entries c.args.patterns.now)
    (chars c.args.haystack.now) s (position_at c.args.haystack.now c.args.from) c.args.from
    c.args.self.now c.scan_on.new.at
comes g c s skips =
    comes_on (c.requires.scanned s skips) (c.scan_on.ensures.on c.if-scan_on.false)

-- the search stands at its start, and cached transitions have led so far from there
begun : (g : given.Over) (c : After-begun-at g) (s : ℕ) → IsAfter g c s
    → (stands : Stands (g.P.Patterns.table c.args.patterns.now) (chars c.args.haystack.now)
    (g.P.Patterns.entries c.args.patterns.now) s c.args.self.now c.begun-at.result
    c.restart.new.cache)
    × ComesTo (g.P.Patterns.table c.args.patterns.now) (g.P.Patterns.entries c.args.patterns.now)
    (chars c.args.haystack.now) stands.from stands.p c.begun-at.result.first c.args.self.now
    c.scan_on.new.at
begun g c s skips =
    let table = g.P.Patterns.table c.args.patterns.now in
    let fresh = c.restart.ensures.fresh table c.requires.on.between in
    begun_with table (chars c.args.haystack.now) (g.P.Patterns.entries c.args.patterns.now) s
    c.at.result (skips c.at.result c.at.ensures.at c.at.ensures.here) c.args.self.now
    c.begun-at.result c.restart.new.cache
    c.begun-at.ensures.is fresh
    (sym fresh.between.best_width ∙ c.restart.ensures.width ∙ c.requires.on.between.best_width
    ∙ c.requires.on.width) c.scan_on.new.at
    (comes_from table (g.P.Patterns.entries c.args.patterns.now) c.args.haystack.now
    c.utf8.haystack s c.args.from c.requires.on.boundary skips c.args.self.now c.scan_on.new.at
    c.at.result c.at.ensures.at c.at.ensures.here (comes g c s skips))

pub resume-requires-clause-state : goal.resume-requires-clause-state
resume-requires-clause-state g c =
    let on = c.requires.on.counted in
    let to = comes g (goal.at.resume-requires-clause-state g c).After-begun-at on.0 on.1 in
    slice_get_within c.args.self.now.states c.scan_on.new.at.state to.2.state to.2.is_state

pub resume-requires-clause-stands : goal.resume-requires-clause-stands
resume-requires-clause-stands g c =
    let on = c.requires.on.counted in
    let both = begun g (goal.at.resume-requires-clause-stands g c).After-begun-at on.0 on.1 in
    (on.0, both.0, both.1)

pub begin_anew-requires-clause-stands : goal.begin_anew-requires-clause-stands
begin_anew-requires-clause-stands g c =
    let on = c.requires.on.counted in
    let at = (goal.at.begin_anew-requires-clause-stands g c).After-begun-at in
    let both = begun g at on.0 on.1 in
    let to = comes g at on.0 on.1 in (
      on.0,
      on.0,
      to.0,
      c.resume.ensures.stands on.0 both.0 both.1,
      none_before (g.P.Patterns.table c.args.patterns.now) (chars c.args.haystack.now)
          (g.P.Patterns.entries c.args.patterns.now) on.0,
      to.2,
    )

pub search_while_it_pays-requires-clause-stands : goal.search_while_it_pays-requires-clause-stands
search_while_it_pays-requires-clause-stands g c =
    let on = c.requires.on.counted in
    let at = (goal.at.search_while_it_pays-requires-clause-stands g c).After-begun-at in
    let both = begun g at on.0 on.1 in
    let to = comes g at on.0 on.1 in (
      on.0,
      on.2,
      c.begin_anew.ensures.stands on.0 on.0 to.0 (c.resume.ensures.stands on.0 both.0 both.1)
          (none_before (g.P.Patterns.table c.args.patterns.now) (chars c.args.haystack.now)
          (g.P.Patterns.entries c.args.patterns.now) on.0) to.2,
    )

pub returns : goal.returns
returns g c =
    let at = (goal.at.returns g c).After-begun-at in
    let stands : (s : ℕ) → IsAfter g at s → _ = λ s skips.
    let both = begun g at s skips in
    let to = comes g at s skips in
    c.begin_anew.ensures.stands s s to.0 (c.resume.ensures.stands s both.0 both.1)
    (none_before (g.P.Patterns.table c.args.patterns.now) (chars c.args.haystack.now)
    (g.P.Patterns.entries c.args.patterns.now) s) to.2
    in
    record {
      found = λ s skips. c.search_while_it_pays.ensures.found s (stands s skips);
      stands = λ s skips. c.search_while_it_pays.ensures.stands s (stands s skips);
      none = c.search_while_it_pays.ensures.none;
      not_anew = c.search_while_it_pays.ensures.not_anew;
      is_dfa = c.search_while_it_pays.ensures.is_dfa;
      none_pending = c.search_while_it_pays.ensures.none_pending;
      between = c.search_while_it_pays.ensures.between;
      width = c.search_while_it_pays.ensures.width;
    }

use Rattle.regex_lite_meta.proofs.searcher.GraphSearcher.new.Goals as goal

pub returns-clause-searches : goal.returns-clause-searches
returns-clause-searches c =
    rw (c.pattern-pattern.ensures.table, c.pattern-pattern.ensures.entry) at
    c.in_ok-inner.ensures.searches

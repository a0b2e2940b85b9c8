use Rattle.regex_lite_meta.proofs.Common.{ap, sym, ◌∙◌, subst, places_of}
use Rattle.regex_lite_meta.specs.ListMatches.{IsDfaSearcherFor}
use Rattle.regex_lite_meta.proofs.list_matches.kept.DfaSearcher.new.Goals as goal

pub returns : goal.returns
returns c =
    let fresh = rw (ap places_of c.table.ensures.same) at c.in_ok-cache.ensures.fresh in
    subst (IsDfaSearcherFor c.args.list.now) (sym c.in_ok-new.ensures.ok) (record {
      between = fresh.between;
      countable = rw (ap places_of c.table.ensures.same) at c.in_ok-cache.ensures.countable;
      width = sym fresh.between.best_width ∙ c.in_ok-cache.ensures.width;
    })

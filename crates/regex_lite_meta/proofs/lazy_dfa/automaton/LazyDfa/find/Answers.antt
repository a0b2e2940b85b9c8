use Rattle.regex_lite_meta.proofs.Common.{◌==◌, not, refl, sym, ◌∙◌, chars, position_at}
use Rattle.regex_lite_engine.proofs.search.SkipLemmas.{stays}
use Rattle.regex_lite_meta.proofs.lazy_dfa.OnceLemmas.{found_kept, stands_under_way}
use Rattle.regex_lite_engine.proofs.pikevm.StopLemmas.{over_found}
use Rattle.regex_lite_meta.proofs.lazy_dfa.automaton.LazyDfa.find.Goals as goal

pub advance-requires-clause-on : goal.advance-requires-clause-on
advance-requires-clause-on g c =
    let bs = c.args.haystack.now in
    let s = position_at bs c.args.from in
    let stands = c.in-Err.ensures.stands s (λ here same is. stays (chars bs) s here is) in (
      s,
      stands.p,
      stands.is,
      c.requires.on,
      stands_under_way stands c.in-Err.ensures.not_anew,
    )

pub returns-in-Err : goal.returns-in-Err
returns-in-Err g c =
    let bs = c.args.haystack.now in
    let s = position_at bs c.args.from in
    let stands = c.in-Err.ensures.stands s (λ here same is. stays (chars bs) s here is) in
    let width = c.advance.ensures.width ∙ stands.on.ready.best_width ∙ stands.on.width in
    record {
      found =
          found_kept _ _ _ s (not (g.row.EARLIEST == 0)) c.advance.new.cache c.found.result width
          c.found.ensures
          (over_found (rw (c.advance.ensures.all refl) at c.advance.ensures.stops s stands.p
          stands.is (stands_under_way stands c.in-Err.ensures.not_anew)));
      is_dfa = c.search.ensures.is_dfa;
      none_pending = c.search.ensures.none_pending;
      between = c.advance.ensures.between;
      width = sym c.advance.ensures.between.best_width ∙ width;
    }

pub returns-in-Ok-clause-found : goal.returns-in-Ok-clause-found
returns-in-Ok-clause-found g c =
    let bs = c.args.haystack.now in
    let s = position_at bs c.args.from in
    c.in-Ok.ensures.found s (λ here same is. stays (chars bs) s here is)

pub search-requires-clause-on : goal.search-requires-clause-on
search-requires-clause-on g c =
    let bs = c.args.haystack.now in
    record {
      is_dfa = c.requires.is_dfa;
      none_pending = c.requires.none_pending;
      between = c.requires.between;
      boundary = c.requires.boundary;
      counted =
          (position_at bs c.args.from, λ here same is. stays (chars bs) _ here is, c.requires.on);
      width = c.requires.width;
    }

use Rattle.regex_lite_meta.proofs.Common.{◌^◌, ◌<◌, length, arith, rules, places_of, position_at}
use Rattle.regex_lite_meta.proofs.Common.{sym, ◌∙◌, best_reported, ◌≡◌, ℕ, Option, Some, None}
use Rattle.regex_lite_meta.proofs.Common.{MatchStart, IfSome, refl, subst, false}
use Rattle.regex_lite_engine.proofs.Common.{IsTrue, is_some}
use Rattle.regex_lite_engine.proofs.search.OutcomeLemmas.{can_count}
use Rattle.regex_lite_meta.proofs.list_matches.kept.DfaSearcher.search.Goals as goal

-- there is a match where one is reported
some_reported : (found : Option (MatchStart × ℕ)) → is_some (best_reported found) ≡ is_some found
some_reported None = refl
some_reported (Some found) = refl

once_entered : (found : Option (MatchStart × ℕ)) (entered : ℕ) → IsTrue (is_some found)
    → IfSome found (λ _. 0 < entered) → 0 < entered
once_entered None entered some if_some = let is : IsTrue false = some in cc
once_entered (Some found) entered some if_some = if_some

pub find_once-found-requires-clause-counts : goal.find_once-found-requires-clause-counts
find_once-found-requires-clause-counts c =
    let haystack = c.args.haystack.now in
    let short : length haystack < 2 ^ 63 = search rules in
    can_count (places_of c.pattern-pattern.result.table.now) haystack
    (position_at haystack c.args.start) c.utf8.haystack short
    (rw c.pattern-pattern.ensures.table c.requires.learns.countable) 1 (omega arith)

pub returns-clause-reported : goal.returns-clause-reported
returns-clause-reported c =
    let own = c.pattern-pattern.ensures in
    record {
      best = best_reported c.find_once-found.result;
      is = c.is_some.ensures ∙ sym (some_reported c.find_once-found.result);
      end = rw (own.table, own.entry) at c.find_once-found.ensures.found;
      own = rw (own.table, own.entry) at c.find_once-found.ensures.own;
      entered = λ reported.
          once_entered c.find_once-found.result c.find_once-found.new.cache.walk.steps.entered
          (subst IsTrue c.is_some.ensures reported) c.find_once-found.ensures.entered;
    }

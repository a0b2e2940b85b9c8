use Rattle.regex_lite.proofs.Common.{List, length, Some, sym, ◌∙◌, subst, Expression}
use Rattle.regex_lite.proofs.Common.{AreSlotsForAllGroups}
use Rattle.regex_lite.specs.RegexListSearches.{TellsLocationsOfList}
use Rattle.regex_lite.specs.Scanning.{TellsListMatch}
use Rattle.regex_lite.proofs.string.list.searcher.ListSearcher.read_at.Goals as goal

pub read-requires : goal.read-requires
read-requires c =
    let a = c.args in
    let old = c.requires.room in
    let slots = c.match_at.new.finder.slots in
    let same = sym c.match_at.ensures.sought in
    record {
      room = subst (λ (list : List Expression). AreSlotsForAllGroups list (length slots)) same
          (old.0, old.1, c.match_at.ensures.slots ∙ old.2);
      last = (
        a.haystack.now,
        (
          a.start,
          subst (λ (list : List Expression). TellsListMatch list a.haystack.now a.start slots
              (Some c.in_ok-last.last)) same c.in_ok-last.ensures.found,
        ),
      );
    }

pub returns-clause-found : goal.returns-clause-found
returns-clause-found c =
    let a = c.args in
    let slots = c.match_at.new.finder.slots in
    let last = c.in_ok-last.last in
    let same = c.match_at.ensures.sought in
    subst (λ (list : List Expression). TellsLocationsOfList list a.haystack.now a.start
    c.read.new.locs (Some last)) same
    (c.read.ensures.found a.haystack.now a.start
    (subst (λ (list : List Expression). TellsListMatch list a.haystack.now a.start slots
    (Some last)) (sym same) c.in_ok-last.ensures.found))

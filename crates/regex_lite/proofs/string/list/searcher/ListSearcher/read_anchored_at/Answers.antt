use Rattle.regex_lite.proofs.Common.{◌≡◌, List, length, Some, chars, sym, ◌∙◌, subst, captures_len}
use Rattle.regex_lite.proofs.Common.{Expression, resized, AreSlotsForAllGroups, spans_from}
use Rattle.regex_lite.proofs.Common.{IsMatchOf}
use Rattle.regex_lite.specs.RegexListSearches.{TellsLocationsOfList}
use Rattle.regex_lite.specs.Scanning.{TellsListMatch}
use Rattle.regex_lite.proofs.string.ListAnchoredLemmas.{list_reported_there}
use Rattle.regex_lite.proofs.string.list.searcher.ListSearcher.read_anchored_at.Goals as goal

pub read-requires : goal.read-requires
read-requires c =
    let a = c.args in
    let old = c.requires.room in
    let slots = c.find_anchored_at.new.self.slots in
    let same = sym c.find_anchored_at.ensures.list in
    record {
      room = subst (λ (list : List Expression). AreSlotsForAllGroups list (length slots)) same
          (old.0, old.1, c.find_anchored_at.ensures.slots ∙ old.2);
      last = (
        a.haystack.now,
        (
          a.start,
          subst (λ (list : List Expression). TellsListMatch list a.haystack.now a.start slots
              (Some c.in_ok-last.last)) same c.in_ok-last.ensures.kept,
        ),
      );
    }

pub returns-clause-found : goal.returns-clause-found
returns-clause-found c =
    let a = c.args in
    let bytes = a.haystack.now in
    let slots = c.find_anchored_at.new.self.slots in
    let last = c.in_ok-last.last in
    let at = c.in_ok-last.ensures.found in
    let spans = c.read.new.locs in
    let same = c.find_anchored_at.ensures.list in
    list_reported_there (λ tree found m. IsMatchOf bytes found m
    × (spans ≡ resized (length spans)
    (spans_from (chars bytes) found.marks 0 (captures_len tree)))) a.self.now.list bytes a.start
    last (at.0, at.1, (at.2.0, at.2.1))
    (subst (λ (list : List Expression). TellsLocationsOfList list bytes a.start spans (Some last))
    same (c.read.ensures.found bytes a.start
    (subst (λ (list : List Expression). TellsListMatch list bytes a.start slots (Some last))
    (sym same) c.in_ok-last.ensures.kept)))

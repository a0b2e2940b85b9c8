use Rattle.regex_lite.proofs.Common.{◌≡◌, ℕ, false, Some, None, refl, sym, ◌∙◌, subst, IsMatchOf}
use Rattle.regex_lite.proofs.Common.{Found, Match, haystack_of_match, span_of_match}
use Rattle.regex_lite_engine.specs.Search.Outcomes.{IsSpanOutcomeAtOfList}
use Rattle.regex_lite.specs.Anchored.{TellsMatchAtOfList}
use Rattle.regex_lite.specs.RegexList.{OfTrees}
use Rattle.regex_lite.specs.Scanning.{ListSearching, TellsListMatch}
use Rattle.regex_lite.proofs.string.ListAnchoredLemmas.{list_outcome_from, list_reported_there}
use Rattle.regex_lite.proofs.string.ListKeptLemmas.{list_match}
use Rattle.regex_lite.proofs.string.ListReportedLemmas.{list_span_lies}
use Rattle.regex_lite.proofs.string.ReportedLemmas.{same_pair}
use Rattle.regex_lite.proofs.string.list.searcher.ListSearcher.find_anchored_at.Goals as goal
use Rattle.regex_lite.proofs.string.list.searcher.ListSearcher.find_anchored_at.Goals.{In_ok-number}

-- what the search reported
reported : (c : In_ok-number) → OfTrees c.self.inside.list.now
    (λ trees. IsSpanOutcomeAtOfList false trees c.args.haystack.now c.args.start
    c.search_anchored.new.self.slots
    (Some (c.in_ok-number.number, (c.in_ok-number.from, c.in_ok-number.to))))
reported c =
    let own = c.self.invariant in
    (own.0, own.1, c.in_ok-number.ensures.found own.0 own.2.0 own.2.1)

pub new-requires : goal.new-requires
new-requires c =
    let own = reported (goal.at.new-requires c).In_ok-number in
    let bytes = c.args.haystack.now in
    list_span_lies bytes c.utf8.haystack c.args.start c.self.inside.list.now own.0 own.1
    c.in_ok-number.number _ _ (list_outcome_from own.0 bytes c.args.start _ _ own.2)

-- the match with its slots
kept : (c : In_ok-number) (m : Match) → haystack_of_match m ≡ c.args.haystack.now
    → span_of_match m ≡ (c.in_ok-number.from, c.in_ok-number.to)
    → TellsListMatch c.self.inside.list.now c.args.haystack.now c.args.start
    c.search_anchored.new.self.slots (Some (c.in_ok-number.number, m))
kept c m haystack span =
    let own = reported c in
    let from = list_outcome_from own.0 c.args.haystack.now c.args.start _ _ own.2 in (
      (c.in_ok-number.number, from.0),
      (own.0, own.1, from.1),
      record {
        number = refl;
        is_match = record {
          haystack = haystack;
          span = span ∙ same_pair from.2.start from.2.end;
        };
        has_slots = from.2.slots;
      },
    )

pub returns-clause-kept : goal.returns-clause-kept
returns-clause-kept c =
    subst (λ (own : ListSearching). TellsListMatch own.list c.args.haystack.now c.args.start
    c.search_anchored.new.self.slots (Some (c.in_ok-number.number, c.new.result))) c.self.view_is
    (kept (goal.at.returns-clause-kept c).In_ok-number c.new.result c.new.ensures.haystack
    c.new.ensures.span)

pub returns-in_err-number-clause-found : goal.returns-in_err-number-clause-found
returns-in_err-number-clause-found c =
    let bytes = c.args.haystack.now in
    let list = c.self.inside.list.now in
    let own = c.self.invariant in
    let none : TellsMatchAtOfList list bytes c.args.start None =
    (own.0, own.1, c.in_err-number.ensures.found own.0 own.2.0 own.2.1) in
    subst (λ (own : ListSearching). TellsMatchAtOfList own.list bytes c.args.start
    c.from_residual.result) c.self.view_is
    (subst (TellsMatchAtOfList list bytes c.args.start) (sym c.from_residual.ensures) none)

pub returns-clause-found : goal.returns-clause-found
returns-clause-found c =
    let at = (goal.at.returns-clause-found c).In_ok-number in
    let own = reported at in
    let bytes = c.args.haystack.now in
    let list = c.self.inside.list.now in
    let last : ℕ × Match = (c.in_ok-number.number, c.new.result) in
    let answer : ℕ × Found = (c.in_ok-number.number, own.2.0) in
    subst (λ (own : ListSearching). TellsMatchAtOfList own.list bytes c.args.start (Some last))
    c.self.view_is
    (list_reported_there (λ tree. IsMatchOf bytes) list bytes c.args.start last
    (own.0, own.1, (answer, own.2.1))
    (list_match list bytes c.args.start c.search_anchored.new.self.slots (Some last)
    (kept at c.new.result c.new.ensures.haystack c.new.ensures.span)))

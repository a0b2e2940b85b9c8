use Rattle.regex_lite.proofs.Common.{Some, None, ap, AreTrees, CompiledList, IsMatchOf}
use Rattle.regex_lite_engine.specs.Search.Outcomes.{IsOutcome}
use Rattle.regex_lite.proofs.string.ListedLemmas.{has_entry, listed_match, listed_none}
use Rattle.regex_lite.proofs.string.ListedLemmas.{listed_outcome, listed_span, tree_at}
use Rattle.regex_lite.proofs.string.list.RegexList.find_of_at.Goals as goal
use Rattle.regex_lite.proofs.string.list.RegexList.find_of_at.Goals.{In-Some}

given : (c : In-Some) → AreTrees c.args.self.now c.self.invariant.trees
given c = rw (← c.self.view_is) c.self.invariant.given

-- what the search reported
reported : (c : In-Some) → IsOutcome
    (tree_at c.args.self.now c.self.inside.compiled c.self.invariant (given c) c.args.number
    c.requires.number) c.args.haystack.now c.args.start (Some c.in-Some.outcome)
reported c =
    listed_outcome c.args.self.now c.self.inside.compiled c.self.invariant (given c) c.args.number
    c.requires.number c.deref.result.now.graph c.args.haystack.now c.args.start
    c.in_ok-outcome.field-0 (Some c.in-Some.outcome)
    (ap (λ (compiled : CompiledList). compiled.graph) c.deref.ensures)
    c.in_ok-outcome.ensures.found c.in-Some.is

pub search_listed-requires-clause-number : goal.search_listed-requires-clause-number
search_listed-requires-clause-number c =
    let built = c.self.invariant in
    let own : AreTrees c.args.self.now built.trees = rw (← c.self.view_is) built.given in
    rw c.deref.ensures
    (has_entry c.args.self.now c.self.inside.compiled built own c.args.number c.requires.number)

pub new-found-requires : goal.new-found-requires
new-found-requires c =
    let own = (goal.at.new-found-requires c).In-Some in
    listed_span own.args.self.now own.self.inside.compiled own.self.invariant (given own)
    own.args.number own.requires.number own.args.haystack.now c.utf8.haystack own.args.start
    own.in-Some.outcome (reported own)

pub returns-clause-found : goal.returns-clause-found
returns-clause-found c =
    let own = (goal.at.returns-clause-found c).In-Some in
    listed_match own.args.self.now own.self.inside.compiled own.self.invariant (given own)
    own.args.number own.requires.number own.args.haystack.now c.utf8.haystack own.args.start
    own.in-Some.outcome (reported own) c.new-found.result c.new-found.ensures.haystack
    c.new-found.ensures.span

pub returns-in_default-clause-found : goal.returns-in_default-clause-found
returns-in_default-clause-found c =
    let list = c.args.self.now in
    let own = c.self.inside.compiled in
    let built = c.self.invariant in
    let given : AreTrees list built.trees = rw (← c.self.view_is) built.given in
    listed_none list own built given c.args.number c.requires.number
    (λ tree. IsMatchOf c.args.haystack.now) c.args.haystack.now c.args.start
    (listed_outcome list own built given c.args.number c.requires.number c.deref.result.now.graph
    c.args.haystack.now c.args.start c.in_ok-outcome.field-0 None
    (ap (λ (compiled : CompiledList). compiled.graph) c.deref.ensures)
    c.in_ok-outcome.ensures.found c.in_default.is)

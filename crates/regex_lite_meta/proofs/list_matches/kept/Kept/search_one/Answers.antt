use Rattle.regex_lite_engine.proofs.Common.{◌+◌, List, Bool, None, false}
use Rattle.regex_lite_engine.proofs.Common.{Tree, HasTree, IsBoundedBy}
use Rattle.regex_lite_engine.proofs.Common.{slice_index, chars}
use Rattle.regex_lite_engine.proofs.Common.{slice_get-get_or, whole_places}
use Rattle.regex_lite_engine.proofs.Common.{whole_arrows, table_of_list}
use Rattle.regex_lite_engine.proofs.Common.{position_at}
use Rattle.regex_lite_engine.proofs.search.FirstStartLemmas.{bounded_from}
use Rattle.regex_lite_engine.proofs.search.FirstStartLemmas.{first_boundary, no_end_from}
use Rattle.regex_lite_engine.proofs.search.FirstStartLemmas.{none_before_first, none_tried}
use Rattle.std.proofs.lemmas.Result.{IfOk-weaker}
use Rattle.regex_lite_engine.specs.Graph.StoredList.{IsGraphOfList}
use Rattle.regex_lite_engine.specs.Search.Bounds.{StepCounts}
use Rattle.regex_lite_meta.specs.ListMatches.{IsReportedOf}
use Rattle.regex_lite_meta.specs.ListPass.{IsReportedFrom}
use Rattle.regex_lite_meta.proofs.Common.{places_of}
use Rattle.regex_lite_meta.proofs.AnyLemmas.{by_outcome}
use Rattle.regex_lite_meta.proofs.list_matches.ReportedLemmas.{by_least_end, reported_from_first}
use Rattle.regex_lite_meta.proofs.list_matches.WhichLemmas.{reported_of_tree}
use Rattle.regex_lite_meta.proofs.list_matches.kept.Kept.search_one.Goals as goal

pub search_from-requires-clause-boundary : goal.search_from-requires-clause-boundary
search_from-requires-clause-boundary c =
    let list = c.args.list.now in
    let is = c.pattern-pattern.ensures in
    first_boundary (table_of_list list) c.args.haystack.now c.utf8.haystack
    (slice_index list.entries c.args.number) (position_at c.args.haystack.now c.args.start)
    c.in-Some-first_start.first
    (rw (is.table, is.entry) at (rw c.in-Some-first_start.is at c.first_start.ensures.first))

pub returns-clause-reported : goal.returns-clause-reported
returns-clause-reported c = IfOk-weaker c.search_from.result _ _ known
    c.search_from.ensures.reported
  where
    known : (reported : Bool × StepCounts)
        → IsReportedOf (table_of_list c.args.list.now) (chars c.args.haystack.now)
        (slice_index c.args.list.now.entries c.args.number)
        (position_at c.args.haystack.now c.in-Some-first_start.first.at) reported
        → IsReportedFrom (table_of_list c.args.list.now) c.args.haystack.now
        (slice_index c.args.list.now.entries c.args.number)
        (position_at c.args.haystack.now c.args.start) reported.0
    known reported from =
        let list = c.args.list.now in
        let haystack = c.args.haystack.now in
        let s = position_at haystack c.args.start in
        let m = position_at haystack c.in-Some-first_start.first.at in
        let entry = slice_index list.entries c.args.number in
        let own = c.pattern-pattern.ensures in
        let before = none_before_first (table_of_list list) haystack c.utf8.haystack entry s
        c.in-Some-first_start.first
        (rw (own.table, own.entry) at
        (rw c.in-Some-first_start.is at c.first_start.ensures.first)) in
        reported_from_first (table_of_list list) haystack entry s m reported before from

pub returns-clause-found : goal.returns-clause-found
returns-clause-found c =
    IfOk-weaker c.search_from.result _ _
    (λ (reported : Bool × StepCounts) known trees tree regular is there.
    reported_of_tree c.args.list.now c.args.haystack.now
    (position_at c.args.haystack.now c.args.start) trees regular is c.args.number tree there
    reported.0 c.requires.number known) (returns-clause-reported c)

pub returns-clause-cost : goal.returns-clause-cost
returns-clause-cost c = IfOk-weaker c.search_from.result _ _ cost c.search_from.ensures.reported
  where
    cost : (reported : Bool × StepCounts)
        → IsReportedOf (table_of_list c.args.list.now) (chars c.args.haystack.now)
        (slice_index c.args.list.now.entries c.args.number)
        (position_at c.args.haystack.now c.in-Some-first_start.first.at) reported
        → (trees : List Tree) (tree : Tree) → IsGraphOfList trees c.args.list.now
        → HasTree trees c.args.number tree
        → IsBoundedBy (whole_places tree) (whole_arrows tree + 1) (chars c.args.haystack.now)
        (position_at c.args.haystack.now c.args.start) reported.1.tried reported.1.entered
        reported.1.looked
    cost reported from trees tree is there =
        let list = c.args.list.now in
        let haystack = c.args.haystack.now in
        let s = position_at haystack c.args.start in
        let m = position_at haystack c.in-Some-first_start.first.at in
        let entry = slice_index list.entries c.args.number in
        let own = c.pattern-pattern.ensures in
        let len = whole_places tree in
        let part = is.parts c.args.number tree entry there
        (slice_get-get_or list.entries c.args.number 0 c.requires.number) in
        let before = none_before_first (table_of_list list) haystack c.utf8.haystack entry s
        c.in-Some-first_start.first
        (rw (own.table, own.entry) at
        (rw c.in-Some-first_start.is at c.first_start.ensures.first)) in
        bounded_from len (whole_arrows tree) (chars haystack) s m reported.1.tried
        reported.1.entered reported.1.looked before.from
        (rw part.arrows at (from.own part.low len part.is))

pub returns-clause-entered : goal.returns-clause-entered
returns-clause-entered c =
    IfOk-weaker c.search_from.result _ _
    (λ (reported : Bool × StepCounts) (from : IsReportedOf (table_of_list c.args.list.now)
    (chars c.args.haystack.now) (slice_index c.args.list.now.entries c.args.number)
    (position_at c.args.haystack.now c.in-Some-first_start.first.at) reported). from.entered)
    c.search_from.ensures.reported

pub
    returns-in_default-first_start-clause-reported :
    goal.returns-in_default-first_start-clause-reported
returns-in_default-first_start-clause-reported c =
    let list = c.args.list.now in
    let haystack = c.args.haystack.now in
    let s = position_at haystack c.args.start in
    let entry = slice_index list.entries c.args.number in
    let own = c.pattern-pattern.ensures in
    by_least_end (table_of_list list) (chars haystack) entry s None
    (no_end_from (table_of_list list) (chars haystack) entry s
    (rw (own.table, own.entry) at (c.first_start.ensures.none c.in_default-first_start.is)))

pub returns-in_default-first_start-clause-found : goal.returns-in_default-first_start-clause-found
returns-in_default-first_start-clause-found c = λ trees tree regular is there.
    reported_of_tree c.args.list.now c.args.haystack.now
    (position_at c.args.haystack.now c.args.start) trees regular is c.args.number tree there false
    c.requires.number (returns-in_default-first_start-clause-reported c)

pub returns-in_default-first_start-clause-cost : goal.returns-in_default-first_start-clause-cost
returns-in_default-first_start-clause-cost c = λ trees tree is there.
    let steps = c.no_steps.result in
    let none = c.no_steps.ensures in
    none_tried (whole_places tree) (whole_arrows tree) (chars c.args.haystack.now)
    (position_at c.args.haystack.now c.args.start) steps.tried steps.entered steps.looked
    none.tried none.entered none.looked

pub returns-in-Some-clause-reported : goal.returns-in-Some-clause-reported
returns-in-Some-clause-reported c =
    let own = c.pattern-pattern.ensures in
    let one = c.pattern-pattern.result in
    let reported = rw c.in-Some.is at c.search_words.ensures.reported in
    rw c.is_some.ensures (rw (own.table, own.entry) at (by_outcome (places_of one.table.now)
    c.args.haystack.now one.entry c.args.start c.in-Some.found reported.found))

pub returns-in-Some-clause-found : goal.returns-in-Some-clause-found
returns-in-Some-clause-found c = λ trees tree regular is there.
    reported_of_tree c.args.list.now c.args.haystack.now
    (position_at c.args.haystack.now c.args.start) trees regular is c.args.number tree there
    c.is_some.result c.requires.number (returns-in-Some-clause-reported c)

pub returns-in-Some-clause-cost : goal.returns-in-Some-clause-cost
returns-in-Some-clause-cost c = λ trees tree is there.
    let list = c.args.list.now in
    let entry = slice_index list.entries c.args.number in
    let own = c.pattern-pattern.ensures in
    let part = is.parts c.args.number tree entry there
    (slice_get-get_or list.entries c.args.number 0 c.requires.number) in
    let allowed = rw (own.table, own.entry) at (rw c.in-Some.is at c.search_words.ensures.own) in
    rw part.arrows at (allowed part.low (whole_places tree) part.is)

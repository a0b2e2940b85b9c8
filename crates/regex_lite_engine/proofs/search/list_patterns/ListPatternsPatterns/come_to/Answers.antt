use Rattle.regex_lite_engine.proofs.Common.{◌<◌, length, subst, arith, length-map}
use Rattle.regex_lite_engine.proofs.Common.{table_of_list, start_numbered}
use Rattle.regex_lite_engine.proofs.Common.{chars, map, sym, refl, ◌∙◌, inr, AreStartsAt}
use Rattle.regex_lite_engine.proofs.Common.{IsPassedByAll}
use Rattle.std.specs.List.{All}
use Rattle.regex_lite_engine.proofs.search.ListSkipLemmas.{before_end, dead_here}
use Rattle.regex_lite_engine.proofs.search.list_patterns.ListStartLemmas.{places_inside}
use Rattle.regex_lite_engine.proofs.search.list_patterns.ListPatternsPatterns.come_to.Goals as goal

pub may_begin_at-requires-clause-inside : goal.may_begin_at-requires-clause-inside
may_begin_at-requires-clause-inside c =
    let ahead = sym c.is_some-then-is_some.ensures ∙ c.if-is_some-2.true in
    let end = before_end c.args.haystack.now c.requires.0 c.args.here c.utf8.haystack c.requires.1
    ahead in
    subst (λ z. c.args.here.at < length z) (sym c.as_bytes.ensures.value) end

pub returns-then-not-may_begin_at-clause-starts : goal.returns-then-not-may_begin_at-clause-starts
returns-then-not-may_begin_at-clause-starts c p is =
    let list = c.args.self.now.list.now in
    let haystack = c.args.haystack.now in
    let passed = subst (λ z. IsPassedByAll c.prefixes.result.now z c.args.here.at)
    c.as_bytes.ensures.value (c.if-not-may_begin_at.ensures.passed refl) in
    let dead = dead_here (table_of_list list) list.entries c.prefixes.result.now c.prefixes.ensures
    haystack c.utf8.haystack p c.args.here is (sym c.is_some.ensures ∙ c.if-is_some.true)
    (sym c.is_some-then-is_some.ensures ∙ c.if-is_some-2.true) passed in
    subst (λ numbers. AreStartsAt (table_of_list list) (chars haystack) list.entries p
    (map (start_numbered list.entries) numbers)) (sym c.clear.ensures.items)
    (record { in_order = tt; each = λ number entry e. inr (dead number entry e) })

pub returns-clause-inside : goal.returns-clause-inside
returns-clause-inside c =
    let same = c.entries-entries.ensures.same in
    let size = length (table_of_list c.args.self.now.list.now) in
    places_inside c.args.self.now.list.now.entries c.list_starts.new.numbers.items size
    (subst (All (λ entry. entry < size)) same c.entries-entries.ensures.inside)
    c.list_starts.ensures.inside

pub returns-clause-few : goal.returns-clause-few
returns-clause-few c =
    let numbers = c.list_starts.new.numbers.items in
    let mapped = length-map numbers (start_numbered c.args.self.now.list.now.entries) in
    omega (arith, mapped, c.list_starts.ensures.few)

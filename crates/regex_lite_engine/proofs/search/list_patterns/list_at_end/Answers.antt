use Rattle.regex_lite_engine.proofs.Common.{◌≡◌, ℕ, ◌<◌, ◌≤◌, ◌⊎◌, List, length, map, None, sym, ap}
use Rattle.regex_lite_engine.proofs.Common.{◌∙◌, subst, inl, inr, arith, cases_lt, range_with_len}
use Rattle.regex_lite_engine.proofs.Common.{Text}
use Rattle.regex_lite_engine.proofs.Common.{after, table_of_list, start_numbered, AreStartsAt}
use Rattle.std.specs.List.{All}
use Rattle.std.proofs.lemmas.List.FromFn.{length-range_with_len}
use Rattle.regex_lite_syntax.proofs.LookupLemmas.{there_is}
use Rattle.regex_lite_syntax.proofs.OptionLemmas.{not_there}
use Rattle.regex_lite_engine.proofs.search.list_patterns.ListStartLemmas.{all_inside}
use Rattle.regex_lite_engine.proofs.search.list_patterns.ListStartLemmas.{all_of_entries, starts_at}
use Rattle.regex_lite_engine.proofs.search.list_patterns.list_at_end.Goals as goal

-- after the last character there is the end
at_end : (haystack : Text) (p : ℕ) → p ≤ length haystack → after haystack p ≡ None
    → length haystack ≡ p
at_end haystack p inside none = by_order (cases_lt p (length haystack))
  where
    by_order : (p < length haystack) ⊎ (length haystack ≤ p) → length haystack ≡ p
    by_order (inl before) =
        let more = there_is haystack p before in absurd (not_there (sym none ∙ more.1))
    by_order (inr past) = omega (arith, inside, past)

pub copy_numbers-requires : goal.copy_numbers-requires
copy_numbers-requires c = omega (arith, c.at_end.ensures.few, c.requires.room)

pub returns-then-is_some-clause-starts : goal.returns-then-is_some-clause-starts
returns-then-is_some-clause-starts c haystack p is =
    let list = c.args.list.now in
    let FirstSet : ℕ → List ℕ → Type 0 = λ at numbers. AreStartsAt (table_of_list list) haystack
    list.entries at (map (start_numbered list.entries) numbers) in
    subst (FirstSet p) (sym c.copy_numbers.ensures.copied)
    (subst (λ at. FirstSet at c.at_end.result.now)
    (at_end haystack p is.inside (sym is.ahead ∙ c.requires.end))
    (c.at_end.ensures.starts haystack))

pub returns-then-is_some-clause-inside : goal.returns-then-is_some-clause-inside
returns-then-is_some-clause-inside c =
    subst (All (λ number. number < length c.args.list.now.entries))
    (sym c.copy_numbers.ensures.copied) c.at_end.ensures.inside

pub returns-then-is_some-clause-few : goal.returns-then-is_some-clause-few
returns-then-is_some-clause-few c =
    let size = ap length c.copy_numbers.ensures.copied in
    omega (arith, size, c.at_end.ensures.few)

pub list_all-requires-clause-few : goal.list_all-requires-clause-few
list_all-requires-clause-few c =
    let same = ap length c.entries-entries.ensures.same in
    omega (arith, c.prefixes.ensures.count, same, c.entries-entries.ensures.few)

pub list_all-requires-clause-room : goal.list_all-requires-clause-room
list_all-requires-clause-room c = omega (arith, c.prefixes.ensures.count, c.requires.room)

pub returns-clause-starts : goal.returns-clause-starts
returns-clause-starts c haystack p is =
    let list = c.args.list.now in
    let reported = c.entries-entries.ensures in
    let all = all_of_entries list c.entries-entries.result.now reported.same reported.inside
    reported.few in
    let listed = c.list_all.ensures.listed ∙ ap (range_with_len 0) c.prefixes.ensures.count in
    subst (λ numbers. AreStartsAt (table_of_list list) haystack list.entries p
    (map (start_numbered list.entries) numbers)) (sym listed) (starts_at all haystack p)

pub returns-clause-inside : goal.returns-clause-inside
returns-clause-inside c =
    let n = length c.args.list.now.entries in
    subst (All (λ number. number < n))
    (sym (c.list_all.ensures.listed ∙ ap (range_with_len 0) c.prefixes.ensures.count))
    (all_inside n)

pub returns-clause-few : goal.returns-clause-few
returns-clause-few c =
    let size = ap length c.list_all.ensures.listed in
    omega (
      arith,
      size,
      length-range_with_len 0 c.prefixes.result.now.count,
      c.prefixes.ensures.count,
    )

use Rattle.regex_lite.proofs.Common.{◌≡◌, ℕ, ◌*◌, [], ◌∷◌, length, take, Some, None, sym, ap, ◌∙◌}
use Rattle.regex_lite.proofs.Common.{subst, captures_len, IsSpanOutcome, Expression, OfTree}
use Rattle.regex_lite.proofs.Common.{span_of_match, all_slots}
use Rattle.regex_lite.specs.Keeping.{SearchesForGroups}
use Rattle.regex_lite.proofs.string.KeptLemmas.{finds_span, locations_read, room_for}
use Rattle.regex_lite.proofs.string.KeptLemmas.{room_read, slots_found, slots_of_whole}
use Rattle.regex_lite.proofs.string.KeptLemmas.{still_searches}
use Rattle.regex_lite_meta.specs.Searching.{FindsSpan}
use Rattle.regex_lite.proofs.string.SlotLemmas.{resized_few}
use Rattle.regex_lite.proofs.string.ReportedLemmas.{same_pair}
use Rattle.regex_lite.proofs.string.regex_searcher.RegexSearcher.read.Goals as goal

pub returns-in_default-clause-locations : goal.returns-in_default-clause-locations
returns-in_default-clause-locations c = λ start reported.
    let a = c.args in
    let re = a.self.now in
    let bytes = a.haystack.now in
    let m = a.found.now in
    let only = subst (λ (re : Expression). SearchesForGroups re None) c.self.view_is
    (subst (SearchesForGroups c.self.inside.matches.regex) c.in_default.is c.self.invariant) in
    let slots = all_slots [] (span_of_match m) in
    let held = slots_of_whole re bytes c.utf8.haystack start m reported in
    let enough : OfTree re (λ tree. length slots ≡ 2 * captures_len tree) =
    (only.0, only.1, ap (λ n. 2 * n) (sym only.2)) in
    let few = room_read re bytes c.utf8.haystack start m reported slots held enough a.locs.now
    c.requires.few in
    locations_read re bytes c.utf8.haystack start m reported slots held enough (length a.locs.now)
    c.write.new.self (c.write.ensures.spans
    ∙ resized_few (length a.locs.now) (Some (c.start.result, c.end.result) ∷ []) few
    ∙ ap (λ (span : ℕ × ℕ). take (length a.locs.now) (Some span ∷ []))
    (same_pair c.start.ensures c.end.ensures))

pub read-requires-clause-known : goal.read-requires-clause-known
read-requires-clause-known c =
    let a = c.args in
    let reported = c.requires.found in
    let own =
    subst (λ (re : Expression). SearchesForGroups re (Some c.in-Some.groups)) c.self.view_is
    (subst (SearchesForGroups c.self.inside.matches.regex) c.in-Some.is c.self.invariant) in
    let finds = finds_span a.self.now a.haystack.now c.utf8.haystack reported.0 a.found.now
    reported.1 in
    subst (λ (re : Expression). OfTree re (λ tree. (start : ℕ) × FindsSpan tree a.haystack.now start
    (c.start-2.result, c.end-2.result))) (sym own.0) (
      finds.0,
      finds.1,
      (
        reported.0,
        subst (FindsSpan finds.0 a.haystack.now reported.0)
            (sym (same_pair c.start-2.ensures c.end-2.ensures)) finds.2,
      ),
    )

pub read-requires-clause-room : goal.read-requires-clause-room
read-requires-clause-room c =
    let own =
    subst (λ (re : Expression). SearchesForGroups re (Some c.in-Some.groups)) c.self.view_is
    (subst (SearchesForGroups c.self.inside.matches.regex) c.in-Some.is c.self.invariant) in
    room_for c.args.self.now c.in-Some.groups own c.args.locs.now c.requires.few

pub invariant_of-self-2 : goal.invariant_of-self-2
invariant_of-self-2 c =
    let re = c.self.inside.matches.regex in
    let own = subst (SearchesForGroups re) c.in-Some.is c.self.invariant in
    still_searches re c.in-Some.groups c.read.new.self own c.read.ensures.regex
    c.read.ensures.slots

pub returns-clause-locations : goal.returns-clause-locations
returns-clause-locations c = λ start reported.
    let a = c.args in
    let re = a.self.now in
    let bytes = a.haystack.now in
    let m = a.found.now in
    let slots = c.read.new.self.slots in
    let span : ℕ × ℕ = (c.start-2.result, c.end-2.result) in
    let own =
    subst (λ (re : Expression). SearchesForGroups re (Some c.in-Some.groups)) c.self.view_is
    (subst (SearchesForGroups c.self.inside.matches.regex) c.in-Some.is c.self.invariant) in
    let finds = finds_span re bytes c.utf8.haystack start m reported in
    let there = subst (λ (r : Expression). OfTree r (λ tree. FindsSpan tree bytes start span))
    (sym own.0) (
      finds.0,
      finds.1,
      subst (FindsSpan finds.0 bytes start) (sym (same_pair c.start-2.ensures c.end-2.ensures))
          finds.2,
    ) in
    let outcome = subst (λ (r : Expression). OfTree r
    (λ tree. IsSpanOutcome tree bytes start slots (Some span))) own.0
    (c.read.ensures.found start there) in
    let held = slots_found re bytes c.utf8.haystack start m reported slots span outcome in
    locations_read re bytes c.utf8.haystack start m reported slots held
    (own.1.0, own.1.1, c.read.ensures.slots ∙ own.1.2) (length a.locs.now)
    c.read.new.locs c.read.ensures.spans

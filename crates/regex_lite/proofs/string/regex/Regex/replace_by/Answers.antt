use Rattle.regex_lite.proofs.Common.{◌++◌, slice_range, string_bytes, chars, unwrap_or, sym, refl}
use Rattle.regex_lite.proofs.Common.{ap, ◌∙◌, ahead_of, span_of_match, found_span}
use Rattle.std.specs.declared.borrow.CowStr.TheVariants.{Borrowed}
use Rattle.regex_lite.specs.Ahead.{whole}
use Rattle.regex_lite.specs.Replacements.{IsReplacedBy}
use Rattle.regex_lite.proofs.AnsweredLemmas.{begun_on, borrowed_where_over, owned_where_some}
use Rattle.regex_lite.proofs.AnsweredLemmas.{so_finished}
use Rattle.regex_lite.proofs.ReplacementLemmas.{counted_at_end, counts_one_more, passed_on}
use Rattle.regex_lite.proofs.ReplacementLemmas.{replaced_at_end}
use Rattle.regex_lite.proofs.string.regex.Regex.replace_by.Goals as goal

pub loop-found-preserved : goal.loop-found-preserved
loop-found-preserved c =
    let inv = c.loop-found.invariant in
    let step = c.in-Some.ensures.steps in
    let done = c.in_ok-replace.ensures in
    let text = c.args.text.now in
    let haystack = c.args.haystack.now in
    let start = whole c.args.self.now haystack c.args.limit in
    let old = ahead_of c.loop-found.found-iterator in
    let new = ahead_of c.next.new.self in
    let from = unwrap_or c.loop-found.rewrite.ended 0 in
    let made = string_bytes c.loop-found.rewrite.text in
    let span = span_of_match c.in-Some.found in
    let is = step.1.span ∙ ap (λ bytes. found_span (chars bytes) step.0) inv.haystack in
    let same = ap (λ own. own.now) (inv.same ∙ c.start-rewrite.ensures.haystack) in
    let written = done.text ∙ ap (λ bytes. (made ++ slice_range bytes from span.0) ++ text) same in
    record {
      can = tt;
      finite = tt;
      so_far = passed_on inv.so_far step.4 is (ap (λ at. unwrap_or at 0) done.ended) written;
      counts = counts_one_more inv.counts step.4 done.counted;
      begun = begun_on start old new made _ _ _ span.1 step.0 refl inv.begun step.4 done.ended;
      haystack = ap (λ a. a.haystack) step.4.passed ∙ inv.haystack;
      ended = done.ended ∙ sym step.3;
      same = c.replace.ensures.haystack ∙ inv.same;
    }

pub returns-clause-replaced : goal.returns-clause-replaced
returns-clause-replaced c =
    let inv = c.loop-found.invariant in
    let start = whole c.args.self.now c.args.haystack.now c.args.limit in
    let rewrite = c.loop-found.rewrite in
    let same = ap (λ own. own.now) (inv.same ∙ c.start-rewrite.ensures.haystack) in
    so_finished start (ahead_of c.loop-found.found-iterator) (Borrowed rewrite.haystack)
    (string_bytes rewrite.text) rewrite.ended c.finish.result
    (IsReplacedBy c.args.text.now start) c.finish.ensures.ok same inv.begun
    (replaced_at_end inv.so_far c.in-None.ensures.steps.over)

pub returns-clause-counted : goal.returns-clause-counted
returns-clause-counted c =
    counted_at_end c.finish.result c.loop-found.invariant.counts c.in-None.ensures.steps.over
    c.finish.ensures.counted

pub returns-clause-borrowed : goal.returns-clause-borrowed
returns-clause-borrowed c =
    let inv = c.loop-found.invariant in
    let start = whole c.args.self.now c.args.haystack.now c.args.limit in
    let rewrite = c.loop-found.rewrite in
    borrowed_where_over start (ahead_of c.loop-found.found-iterator) (Borrowed rewrite.haystack)
    (string_bytes rewrite.text) rewrite.ended c.finish.result (Borrowed c.args.haystack)
    c.finish.ensures.ok (ap Borrowed (inv.same ∙ c.start-rewrite.ensures.haystack)) inv.begun

pub returns-clause-owned : goal.returns-clause-owned
returns-clause-owned c =
    let start = whole c.args.self.now c.args.haystack.now c.args.limit in
    let rewrite = c.loop-found.rewrite in
    owned_where_some start (ahead_of c.loop-found.found-iterator) (Borrowed rewrite.haystack)
    (string_bytes rewrite.text) rewrite.ended
    c.finish.result c.finish.ensures.ok c.loop-found.invariant.begun c.in-None.ensures.steps.over

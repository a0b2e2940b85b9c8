use Rattle.regex_lite.proofs.Common.{◌++◌, slice_range, string_bytes, option_map, unwrap_or, sym}
use Rattle.regex_lite.proofs.Common.{ap, ◌∙◌, subst, inl, inr, position_at, Passes, ahead}
use Rattle.regex_lite.proofs.Common.{whole_span, RegexSearching, Scanning}
use Rattle.std.specs.declared.borrow.CowStr.TheVariants.{Borrowed}
use Rattle.regex_lite.specs.Replacements.{IsLeft, IsRefused, IsReplacedInTurn}
use Rattle.regex_lite.proofs.AnsweredLemmas.{begun_on, borrowed_where_over}
use Rattle.regex_lite.proofs.AnsweredLemmas.{owned_where_some, so_finished}
use Rattle.regex_lite.proofs.ReplacementLemmas.{counted_at_end, counts_one_more, found_there}
use Rattle.regex_lite.proofs.ReplacementLemmas.{handed_on, haystack_kept, in_turn_at_end}
use Rattle.regex_lite.proofs.ReplacementLemmas.{in_turn_left, in_turn_passed, in_turn_refused}
use Rattle.regex_lite.proofs.ReplacementLemmas.{of_error, of_passed, sought_kept}
use Rattle.regex_lite.proofs.string.regex.Regex.replace_each.Goals as goal

pub take_back-requires : goal.take_back-requires
take_back-requires g c =
    let step = rw c.in_ok-caps.was at c.in-Some.ensures.steps in
    of_passed {found = step.0} c.in_ok-caps.caps step.5 step.2

pub returns-in_err-caps-clause-refused : goal.returns-in_err-caps-clause-refused
returns-in_err-caps-clause-refused g c =
    let step = rw c.in_err-caps.was at c.in-Some.ensures.steps in
    handed_on c.from_residual.result c.from_residual.ensures.1 (λ error same. inl (
      same ∙ step.0,
      in_turn_left g.R.Replacer.fixed g.R.Replacer.appends c.items.invariant.so_far,
    ))

pub returns-in_err-replace_with-clause-refused : goal.returns-in_err-replace_with-clause-refused
returns-in_err-replace_with-clause-refused g c =
    let inv = c.items.invariant in
    let step = rw c.in_ok-caps.was at c.in-Some.ensures.steps in
    let start = ahead c.args.scan.now in
    let are = found_there step.0 c.in_ok-caps.caps inv.regex inv.haystack step.2 in
    handed_on c.from_residual-in_err-replace_with.result
    c.from_residual-in_err-replace_with.ensures.1
    (λ error same. elim c.in_err-replace_with.ensures.refused [
      | inl (out, kept) ↦ inl (
        same ∙ out,
        subst (IsLeft g.R.Replacer.fixed g.R.Replacer.appends c.args.rep.now start) (sym kept)
            (in_turn_left g.R.Replacer.fixed g.R.Replacer.appends inv.so_far),
      )
      | inr asked ↦
          inr (subst (λ e. IsRefused g.R.Replacer.fixed g.R.Replacer.appends c.args.rep.now start e
          c.replace_with.new.rep) (sym same)
          (in_turn_refused g.R.Replacer.fixed g.R.Replacer.appends {found = step.0} inv.so_far
          step.5 are asked.1))
    ])

pub items-preserved : goal.items-preserved
items-preserved g c =
    let inv = c.items.invariant in
    let step = rw c.in_ok-caps.was at c.in-Some.ensures.steps in
    let done = c.in_ok-replace_with.ensures in
    let asked = done.text in
    let start = ahead c.args.scan.now in
    let old = ahead c.items.scan in
    let passes = subst (λ own. Passes old step.0 (ahead own)) (sym c.take_back.ensures) step.5 in
    let from = unwrap_or c.items.rewrite.ended 0 in
    let made = string_bytes c.items.rewrite.text in
    let caps = c.in_ok-caps.caps in
    let are = found_there step.0 caps inv.regex inv.haystack step.2 in
    let same =
    ap (λ own. own.now) (inv.same ∙ c.start-rewrite.ensures.haystack) ∙ sym c.requires.haystack in
    let written =
    asked.2 ∙ ap (λ bytes. (made ++ slice_range bytes from (whole_span caps).0) ++ asked.0) same in
    record {
      can_append = c.replace_with.ensures.again;
      so_far = in_turn_passed g.R.Replacer.fixed g.R.Replacer.appends {found = step.0} inv.so_far
          passes are asked.1 (ap (λ at. unwrap_or at 0) done.ended) written;
      counts = counts_one_more inv.counts passes done.counted;
      begun = begun_on start old _ made _ _ _ (whole_span caps).1 step.0
          (ap (option_map (position_at start.haystack)) c.requires.begins) inv.begun passes
          done.ended;
      regex = sought_kept start {found = step.0} passes inv.regex;
      haystack = haystack_kept start {found = step.0} passes inv.haystack;
      ended = done.ended
          ∙ sym (ap (λ (own : Scanning RegexSearching). own.ended) c.take_back.ensures ∙ step.4);
      same = c.replace_with.ensures.haystack ∙ inv.same;
    }

pub returns-clause-replaced : goal.returns-clause-replaced
returns-clause-replaced g c =
    let inv = c.items.invariant in
    let start = ahead c.args.scan.now in
    let rewrite = c.items.rewrite in
    let same =
    ap (λ own. own.now) (inv.same ∙ c.start-rewrite.ensures.haystack) ∙ sym c.requires.haystack in
    so_finished start (ahead c.items.scan) (Borrowed rewrite.haystack)
    (string_bytes rewrite.text) rewrite.ended c.finish.result
    (λ new. IsReplacedInTurn g.R.Replacer.fixed g.R.Replacer.appends c.args.rep.now start new
    c.items.rep) c.finish.ensures.ok same inv.begun
    (in_turn_at_end g.R.Replacer.fixed g.R.Replacer.appends inv.so_far
    c.in_default.ensures.steps.over)

pub returns-clause-refused : goal.returns-clause-refused
returns-clause-refused g c =
    of_error c.finish.result c.finish.ensures.refused (λ error out. inl (
      out,
      in_turn_left g.R.Replacer.fixed g.R.Replacer.appends c.items.invariant.so_far,
    ))

pub returns-clause-counted : goal.returns-clause-counted
returns-clause-counted g c =
    counted_at_end c.finish.result c.items.invariant.counts c.in_default.ensures.steps.over
    c.finish.ensures.counted

pub returns-clause-borrowed : goal.returns-clause-borrowed
returns-clause-borrowed g c =
    let inv = c.items.invariant in
    let rewrite = c.items.rewrite in
    borrowed_where_over (ahead c.args.scan.now) (ahead c.items.scan) (Borrowed rewrite.haystack)
    (string_bytes rewrite.text) rewrite.ended
    c.finish.result (Borrowed c.args.haystack) c.finish.ensures.ok
    (ap Borrowed (inv.same ∙ c.start-rewrite.ensures.haystack)) inv.begun

pub returns-clause-owned : goal.returns-clause-owned
returns-clause-owned g c =
    let rewrite = c.items.rewrite in
    owned_where_some (ahead c.args.scan.now) (ahead c.items.scan) (Borrowed rewrite.haystack)
    (string_bytes rewrite.text) rewrite.ended
    c.finish.result c.finish.ensures.ok c.items.invariant.begun c.in_default.ensures.steps.over

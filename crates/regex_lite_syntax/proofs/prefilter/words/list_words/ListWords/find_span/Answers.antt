use Rattle.regex_lite_syntax.proofs.Common.{ℕ, ◌+◌, sym, subst, None, Some, ap, arith}
use Rattle.std.proofs.lemmas.List.{get_or_read}
use Rattle.regex_lite_syntax.specs.Prefilter.NumberedWords.{IsNextOfPatterns, IsSpanOfPattern}
use Rattle.regex_lite_syntax.specs.Prefilter.NumberedWords.{NumberedWords}
use Rattle.regex_lite_syntax.proofs.prefilter.words.list_words.ListWords.find_span.Goals as goal

pub returns-in_err-at : goal.returns-in_err-at
returns-in_err-at c =
    subst (λ next. IsNextOfPatterns c.args.self.now c.args.bytes.now c.args.from next)
    (sym c.from_residual.ensures)
    (subst (λ seen. IsNextOfPatterns seen c.args.bytes.now c.args.from None) c.self.view_is
    c.in_err-at.ensures.next)

pub returns : goal.returns
returns c =
    let e = c.in_ok-at.ensures in
    let at = c.in_ok-at.at in
    let reported : ℕ × (ℕ × ℕ) = (c.index.result.now, (at, at + c.len_of.result)) in
    let numbered : NumberedWords = record {
      words = c.self.inside.words;
      owners = c.self.inside.owners.items;
    } in
    let span : IsSpanOfPattern numbered c.args.bytes.now reported = record {
      number = c.in_ok-at.number;
      stands = e.next.2;
      boundary = e.boundary;
      end = ap (λ n. at + n) c.len_of.ensures.len;
      owner = get_or_read c.self.inside.owners.items c.in_ok-at.number c.index.result.now
          (omega (arith, e.next.2.inside, c.self.invariant)) c.index.ensures 0;
    } in
    subst (λ seen. IsNextOfPatterns seen c.args.bytes.now c.args.from (Some reported))
    c.self.view_is (e.next.0, e.next.1, span)

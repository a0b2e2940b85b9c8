use Rattle.regex_lite_syntax.proofs.Common.{◌≡◌, ◌+◌, Bool, ◌≢◌, ◌⊎◌, ◌∷◌, drop, sym, refl, ap, ◌∙◌}
use Rattle.regex_lite_syntax.proofs.Common.{subst, inl, inr, arith, FlagLetters, Gap, WholeGap}
use Rattle.regex_lite_syntax.proofs.Common.{EndsInOpening, Text, Begins, the}
use Rattle.regex_lite_syntax.specs.declared.error.syntax.SyntaxFault.TheVariants.{
  EmptyFlags,
}
use Rattle.regex_lite_syntax.proofs.ExitLemmas.{at_exit}
use Rattle.regex_lite_syntax.proofs.parse.IndexLemmas.{drop_begins}
use Rattle.regex_lite_syntax.proofs.grammar.NewNameLemmas.{opening_completes}
use Rattle.regex_lite_syntax.proofs.machine.CompletedHeadLemmas.{reads_on_name, reads_on_flags}
use Rattle.regex_lite_syntax.proofs.machine.ReadHeadLemmas.{reads_head, reads_directive}
use Rattle.regex_lite_syntax.proofs.machine.ReadHeadLemmas.{reads_no_flags, reads_no_empty}
use Rattle.regex_lite_syntax.proofs.parse.Parser.read_flags_head.Goals as goal

pub returns-then-is_at-clause-refused : goal.returns-then-is_at-clause-refused
returns-then-is_at-clause-refused c =
    let closing = (c.is_at.ensures.there c.if-is_at.true).1 in
    rw c.into.ensures (reads_no_empty EmptyFlags c.args.self.now _ _ _ _ c.requires.begins
    c.requires.gap (c.requires.question ∙ ap (λ t. (the "?") ∷ t) closing))

pub returns-in_err-end-clause-refused : goal.returns-in_err-end-clause-refused
returns-in_err-end-clause-refused c =
    at_exit _ _ c.from_residual.ensures.1
    (reads_no_flags c.in_err-end.field-0.0 c.args.self.now _ _ _ _
    c.requires.begins c.requires.gap c.requires.question c.requires.unnamed
    c.in_err-end.ensures.cut_short c.in_err-end.ensures.refused)

pub returns-in_err-end-clause-completes : goal.returns-in_err-end-clause-completes
returns-in_err-end-clause-completes c =
    let p = c.args.self.now in
    let question = c.requires.question in
    at_exit _ _ c.from_residual.ensures.1 (λ short. elim (c.in_err-end.ensures.completes short) [
      | inl inside ↦ reads_on_name p _ _ _ _ c.requires.begins c.requires.gap question
          (opening_completes p.names _ (subst (λ t. EndsInOpening t) (sym question) inside))
      | inr flags ↦ reads_on_flags p _ _ _ _ c.requires.begins c.requires.gap question flags
    ])

-- past the gap after the `(` stands the `?`
gap_to : (verbose : Bool) (t u first : Text) → WholeGap verbose t u → u ≡ the "?" ∷ first
    → Gap verbose t (the "?" ∷ first)
gap_to verbose t u first whole e = subst (λ v. Gap verbose t v) e whole.0

pub returns-then-is_at-2-clause-ok : goal.returns-then-is_at-2-clause-ok
returns-then-is_at-2-clause-ok c =
    let p = c.args.self.now in
    let first = drop (c.args.question + 1) c.args.chars.now in
    let rest = drop (c.in_ok-end.end + 1) c.args.chars.now in
    let gap = gap_to p.here.flags.ignore_whitespace _ _ first c.requires.gap c.requires.question in
    let closing = (c.is_at-2.ensures.there c.if-is_at-2.true).1 in
    let letters = subst (λ t. FlagLetters p.here.flags first t c.in_ok-end.flags) closing
    c.in_ok-end.ensures.ok.letters in
    let some : first ≢ the ")" ∷ rest =
    λ e. (c.is_at.ensures.absent c.if-is_at.false) (subst (λ t. Begins (the ")") t) (sym e) refl) in
    record {
      further = omega (arith, c.requires.inside, c.in_ok-end.ensures.inside);
      in_pattern = omega (arith, c.in_ok-end.ensures.inside);
      reads =
          reads_directive p c.set_flags.new.self _ _ first rest _ c.requires.begins gap some letters
          c.set_flags.ensures;
    }

-- what ends flags and is no `)` is a `:`
colon_ends : (t : Text) → Begins (the ":") t ⊎ Begins (the ")") t → (Begins (the ")") t → ⊥)
    → Begins (the ":") t
colon_ends t (inl is_colon) no_paren = is_colon
colon_ends t (inr is_paren) no_paren = absurd (no_paren is_paren)

pub returns-clause-ok : goal.returns-clause-ok
returns-clause-ok c =
    let p = c.args.self.now in
    let xs = c.args.chars.now in
    let end = c.in_ok-end.end in
    let first = drop (c.args.question + 1) xs in
    let gap = gap_to p.here.flags.ignore_whitespace _ _ first c.requires.gap c.requires.question in
    let flags = c.in_ok-end.ensures.ok in
    let is_colon = colon_ends _ flags.ends (c.is_at-2.ensures.absent c.if-is_at-2.false) in
    let here = drop_begins xs end (the ":") (omega (arith, c.in_ok-end.ensures.inside)) is_colon in
    let letters =
    subst (λ t. FlagLetters p.here.flags first t c.in_ok-end.flags) here flags.letters in
    record {
      further = omega (arith, c.requires.inside, c.in_ok-end.ensures.inside);
      in_pattern = omega (arith, c.in_ok-end.ensures.inside);
      reads =
          reads_head p c.open.new.self _ _ first (drop (end + 1) xs) _ c.requires.begins gap letters
          c.in_ok-open.ensures;
    }

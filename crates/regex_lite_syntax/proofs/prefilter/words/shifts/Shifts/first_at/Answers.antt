use Rattle.regex_lite_syntax.proofs.Common.{drop, sym, ◌∙◌, subst, arith, false≢true}
use Rattle.regex_lite_syntax.proofs.Common.{StartsWith}
use Rattle.regex_lite_syntax.specs.Prefilter.WordLists.{all_words}
use Rattle.regex_lite_syntax.proofs.prefilter.words.LinkLemmas.{leads_on}
use Rattle.regex_lite_syntax.proofs.prefilter.words.shifts.Shifts.first_at.Goals as goal

pub words-preserved : goal.words-preserved
words-preserved c =
    let words = all_words c.args.words.now in
    let link = c.words.link in
    let shifts = c.args.self.now in
    leads_on words shifts.first.items shifts.next.items c.args.bytes.now c.args.at
    shifts.hashed c.requires.shifts.links link (omega arith) c.words.invariant c.index.result.now
    c.index.ensures
    (λ stands. false≢true (sym c.if-stands.false ∙ c.stands.ensures.1
    (subst (λ word. StartsWith word (drop c.args.at c.args.bytes.now)) (sym c.word.ensures)
    stands)))

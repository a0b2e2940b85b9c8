use Rattle.regex_lite_engine.proofs.Common.{ap, ◌∙◌, sym}
use Rattle.std.proofs.lemmas.Bool.{eqb-false}
use Rattle.regex_lite_syntax.specs.Prefilter.FirstSet.{may_begin}
use Rattle.regex_lite_engine.specs.Search.Prefixes.{just_starts}
use Rattle.regex_lite_engine.proofs.search.PrefixLemmas.{may_not}
use Rattle.regex_lite_engine.proofs.search.prefix.Prefix.may_begin.Goals as goal

pub returns-in-Some : goal.returns-in-Some
returns-in-Some c = λ off b.
    let first = c.args.self.first in
    ap (may_begin (just_starts first) b) c.in-Some.is
    ∙ may_not first b c.in-Some.c
    (λ same. eqb-false c.in-Some.c c.from.result off (same ∙ sym c.from.ensures))

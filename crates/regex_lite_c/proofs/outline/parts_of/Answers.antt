use Rattle.regex_lite_c.proofs.Common.{◌≡◌, subst}
use Rattle.std.proofs.Common.{IfErr}
use Rattle.regex_lite_syntax.specs.Errors.{out_of_memory}
use Rattle.regex_lite.specs.Outlines.{IsReadable}
use Rattle.regex_lite.specs.Settings.{Settings}
use Rattle.regex_lite_c.proofs.outline.parts_of.Goals as goal

pub returns-clause-complete : goal.returns-clause-complete
returns-clause-complete c =
    subst (λ (settings : Settings). IfErr c.outline-2.result
    (λ error. IsReadable settings → error ≡ out_of_memory))
    c.in_ok-builder_of.ensures.ok c.outline-2.ensures.complete

use Rattle.regex_lite_syntax.proofs.Common.{◌≡◌, Bool, [], ◌++◌, codes, refl, subst, EndsInName}
use Rattle.regex_lite_syntax.proofs.Common.{Text}
use Rattle.regex_lite_syntax.specs.declared.hir.look.Look.TheVariants as looks
use Rattle.regex_lite_syntax.proofs.parse.escape.BoundaryNameLemmas.{one_of_four}
use Rattle.regex_lite_syntax.proofs.parse.escape.NameEndLemmas.{ends_in_longer_name}
use Rattle.regex_lite_syntax.proofs.parse.escape.NameEndLemmas.{name_completable}
use Rattle.regex_lite_syntax.proofs.parse.escape.boundary.ends_in_any_name.Goals as goal

-- inside a name that begins with this one too
in_longer : (verbose : Bool) (name start more t : Text) → name ≡ start
    → EndsInName verbose name t → EndsInName verbose (start ++ more) t
in_longer verbose name start more t same e =
    ends_in_longer_name verbose start more t (subst (λ n. EndsInName verbose n t) same e)

pub returns-then-ends_in_name-clause-completes : goal.returns-then-ends_in_name-clause-completes
returns-then-ends_in_name-clause-completes c is =
    name_completable _ (codes "start-half") _ looks.WordStartHalf refl refl
    (c.ends_in_name.ensures.there is)

pub returns-else-ends_in_name-clause-completes : goal.returns-else-ends_in_name-clause-completes
returns-else-ends_in_name-clause-completes c is =
    name_completable _ (codes "end-half") _ looks.WordEndHalf refl refl
    (c.ends_in_name-else-ends_in_name.ensures.there is)

pub returns-else-ends_in_name-clause-absent : goal.returns-else-ends_in_name-clause-absent
returns-else-ends_in_name-clause-absent c other name look named e =
    let no_start = c.ends_in_name.ensures.absent c.if-ends_in_name.false in
    let no_end = c.ends_in_name-else-ends_in_name.ensures.absent other in
    one_of_four name look named
    (λ is. no_start (in_longer _ name (codes "start") (codes "-half") _ is e))
    (λ is. no_end (in_longer _ name (codes "end") (codes "-half") _ is e))
    (λ is. no_start (in_longer _ name (codes "start-half") [] _ is e))
    (λ is. no_end (in_longer _ name (codes "end-half") [] _ is e))

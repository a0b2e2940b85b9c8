use Rattle.regex_lite_syntax.proofs.Common.{refl, subst, sym, tree_of}
use Rattle.regex_lite_syntax.specs.Prefilter.FirstSet.{ReadsAmong}
use Rattle.regex_lite_syntax.proofs.prefilter.words.NeededWalkLemmas.{leaves}
use Rattle.regex_lite_syntax.proofs.prefilter.words.needed_walk.NeededWalk.leave.Goals as goal

pub returns-clause-reads : goal.returns-clause-reads
returns-clause-reads c =
    subst (ReadsAmong (tree_of c.args.hir.now)) (sym c.end_row.ensures.read)
    c.add_all.ensures.added

pub returns-clause-left : goal.returns-clause-left
returns-clause-left c =
    leaves c.args.self.now _ c.end_row.new.self
    (record { same = refl; wider = c.add_all.ensures.grown }) c.end_row.ensures

use Rattle.regex_lite_syntax.proofs.Common.{inl, inr, arith, class, refl, subst, sym}
use Rattle.regex_lite_syntax.specs.Prefilter.FirstSet.{ReadsAmong}
use Rattle.regex_lite_syntax.proofs.prefilter.first_set.ReadLemmas.{reads_class}
use Rattle.regex_lite_syntax.proofs.prefilter.words.NeededWalkLemmas.{finds_any, finds_class}
use Rattle.regex_lite_syntax.proofs.prefilter.words.NeededWalkLemmas.{leaves}
use Rattle.regex_lite_syntax.proofs.prefilter.words.needed_walk.NeededWalk.visit_class.Goals as goal

pub returns-in-Some : goal.returns-in-Some
returns-in-Some c =
    finds_class c.args.set.now c.in-Some.letter c.args.self.now c.push.new.self (λ ch has. (
      elim (c.in-Some.ensures.has ch has) [
        | inl e ↦ omega (arith, e, c.in-Some.ensures.ascii)
        | inr e ↦ omega (arith, e, c.in-Some.ensures.other_ascii)
      ],
      c.in-Some.ensures.has ch has,
    )) c.push.ensures

pub returns-in-None : goal.returns-in-None
returns-in-None c =
    let ends = c.end_row.ensures in
    finds_any (class c.args.set.now) c.args.self.now c.end_row.new.self
    (subst (ReadsAmong (class c.args.set.now)) (sym ends.read)
    (reads_class c.args.set.now c.add_class.new.self c.add_class.ensures.added))
    (leaves c.args.self.now _ c.end_row.new.self
    (record { same = refl; wider = c.add_class.ensures.grown }) ends)

use Rattle.regex_lite_meta.proofs.Common.{◌≡◌, ◌∙◌, length, subst, sym, rules, position_at}
use Rattle.regex_lite_engine.proofs.Common.{replicate}
use Rattle.std.proofs.lemmas.Result.{IfOk-weaker}
use Rattle.regex_lite_meta.specs.ListPass.{PassKnowsAll}
use Rattle.regex_lite_meta.specs.declared.list_matches.status.Status.TheVariants.{Open}
use Rattle.regex_lite_meta.proofs.list_matches.WhichLemmas.{all_open, reported_which}
use Rattle.regex_lite_meta.proofs.list_matches.pass.ListPass.search.Goals as goal

pub go-requires-clause-passed : goal.go-requires-clause-passed
go-requires-clause-passed c =
    let s = position_at c.args.haystack.now c.args.start in
    let filled : c.fill.new.self.items
    ≡ replicate (length c.args.list.now.entries) (Open c.args.start) = search rules in (
      s,
      s,
      c.at.ensures.here,
      subst (PassKnowsAll c.args.list.now c.args.haystack.now s s) (sym filled)
          (all_open c.args.list.now c.args.haystack.now c.args.start c.requires.boundary),
    )

pub finish-requires-clause-passed : goal.finish-requires-clause-passed
finish-requires-clause-passed c =
    let s = position_at c.args.haystack.now c.args.start in
    let filled : c.fill.new.self.items
    ≡ replicate (length c.args.list.now.entries) (Open c.args.start) = search rules in (
      s,
      c.in_ok-left.ensures.passed s s c.at.ensures.here
          (subst (PassKnowsAll c.args.list.now c.args.haystack.now s s) (sym filled)
          (all_open c.args.list.now c.args.haystack.now c.args.start c.requires.boundary)),
    )

pub returns-clause-found : goal.returns-clause-found
returns-clause-found c =
    let s = position_at c.args.haystack.now c.args.start in
    let filled : c.fill.new.self.items
    ≡ replicate (length c.args.list.now.entries) (Open c.args.start) = search rules in
    let ends = c.in_ok-left.ensures.passed s s c.at.ensures.here
    (subst (PassKnowsAll c.args.list.now c.args.haystack.now s s) (sym filled)
    (all_open c.args.list.now c.args.haystack.now c.args.start c.requires.boundary)) in
    IfOk-weaker c.finish.result _ _
    (λ _ reported. reported_which c.args.list.now c.args.haystack.now c.args.start
    c.finish.new.matched c.requires.boundary.0 (c.finish.ensures.length ∙ c.requires.all)
    (reported s ends)) c.finish.ensures.reported

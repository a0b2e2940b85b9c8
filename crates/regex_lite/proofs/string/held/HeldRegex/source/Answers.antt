use Rattle.regex_lite.proofs.Common.{sym, ap, ◌∙◌, subst, StoredGroups}
use Rattle.regex_lite.proofs.Common.{stored_groups, names_of, NamesGroups}
use Rattle.regex_lite.proofs.string.CapturedLemmas.{built_shares}
use Rattle.regex_lite.proofs.string.held.HeldRegex.source.Goals as goal

pub returns : goal.returns
returns c =
    let built = c.owner.ensures.built in
    let same = c.of_regex.ensures ∙ ap stored_groups (c.in_ok-clone.ensures.cases ∙ c.owner.ensures.same) in (
      built.tree,
      built.given,
      subst (λ (stored : StoredGroups).
          NamesGroups built.tree (names_of stored) stored.static_captures_len) (sym same)
          (built_shares c.args.self.now built),
    )

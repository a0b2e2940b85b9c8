use Rattle.regex_lite_syntax.proofs.Common.{◌≡◌, ℕ, begins_with, refl, true, ap, ◌∙◌}
use Rattle.regex_lite_syntax.proofs.prefilter.words.NeededWalkLemmas.{leaves}
use Rattle.regex_lite_syntax.proofs.prefilter.words.needed_walk.NeededWalk.leave_rest.Goals as goal

all : (c : goal.After-end_row) (k : ℕ) → begins_with c.set_to.new.self k ≡ true
all c k = ap (λ s. begins_with s k) c.set_to.ensures ∙ c.everywhere.ensures.all k

pub returns-clause-all : goal.returns-clause-all
returns-clause-all c = λ k. ap (λ s. begins_with s k) c.end_row.ensures.read ∙ all c k

pub returns-clause-left : goal.returns-clause-left
returns-clause-left c =
    leaves c.args.self.now _ c.end_row.new.self
    (record {
      same = refl;
      wider = record {
        with = λ k begins. all c k;
        at_start = λ begins. ap (λ s. s.at_start) c.set_to.ensures ∙ c.everywhere.ensures.at_start;
      };
    })
    c.end_row.ensures

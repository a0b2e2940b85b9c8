use Rattle.regex_lite_syntax.proofs.Common.{subst, sym}
use Rattle.regex_lite_syntax.specs.Prefilter.NeededWalk.{ReachesToo, as_needed}
use Rattle.regex_lite_syntax.proofs.prefilter.words.NeededBranchLemmas.{among_first, among_second}
use Rattle.regex_lite_syntax.proofs.prefilter.words.NeededBranchLemmas.{reaches_first, reaches_last}
use Rattle.regex_lite_syntax.proofs.prefilter.words.found_words.FoundWords.add.Goals as goal

pub returns-clause-kept : goal.returns-clause-kept
returns-clause-kept c = λ _.
    let before = c.args.self.now in
    let lead = c.add_starts.new.self in
    subst (λ words. ReachesToo (as_needed before.words before.lead) (as_needed words lead))
    (sym (c.if-not-add_all.ensures cc))
    (reaches_first before.words c.args.words.now before.lead lead
    (among_first before.lead c.args.lead.now lead c.add_starts.ensures))

pub returns-clause-added : goal.returns-clause-added
returns-clause-added c = λ _.
    let before = c.args.self.now in
    let lead = c.add_starts.new.self in
    subst (λ words. ReachesToo (as_needed c.args.words.now c.args.lead.now) (as_needed words lead))
    (sym (c.if-not-add_all.ensures cc))
    (reaches_last c.args.words.now before.words c.args.lead.now lead
    (among_second before.lead c.args.lead.now lead c.add_starts.ensures))

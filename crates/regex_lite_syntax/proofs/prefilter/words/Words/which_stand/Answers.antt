use Rattle.regex_lite_syntax.proofs.Common.{◌≡◌, ◌≤◌, ℕ, false, length, replicate, None, Some}
use Rattle.regex_lite_syntax.proofs.Common.{◌∙◌, arith, sym, subst, rules, MatchOption, IfSome}
use Rattle.regex_lite_syntax.specs.Prefilter.Marks.{AreMarked}
use Rattle.regex_lite_syntax.specs.Prefilter.NumberedWords.{NumberedWords, TellsWhichStand}
use Rattle.regex_lite_syntax.specs.Prefilter.WordLists.{all_words}
use Rattle.regex_lite_syntax.proofs.OptionLemmas.{not_there, same_some}
use Rattle.regex_lite_syntax.proofs.prefilter.words.MarkLemmas.{marks_tell, none_in_blank}
use Rattle.regex_lite_syntax.proofs.prefilter.words.MarkLemmas.{none_marked}
use Rattle.regex_lite_syntax.proofs.prefilter.words.Words.which_stand.Goals as goal
use Rattle.regex_lite_syntax.proofs.prefilter.words.Words.which_stand.Goals.{in-Pair, in-Shifts}

pub returns-in-Some-clause-reported : goal.returns-in-Some-clause-reported
returns-in-Some-clause-reported c =
    let bytes = c.args.bytes.now in
    let from = c.args.from in
    let left = c.in-Some.left in
    let owners = c.args.owners.now in
    let numbered : NumberedWords = record {
      words = all_words c.self.inside.list;
      owners = owners;
    } in
    let blank : c.fill.new.self ≡ replicate (length c.args.reported.now) false = search rules in
    let before : AreMarked numbered bytes from from c.fill.new.self =
    subst (AreMarked numbered bytes from from) (sym blank)
    (none_marked numbered bytes from (replicate (length c.args.reported.now) false)
    (none_in_blank (length c.args.reported.now))) in
    let so_far : (from ≤ left) × AreMarked numbered bytes from left c.match-self.reported =
    elim c.match-self.branch [
      | in-Pair w ↦
          let same : left ≡ from = same_some (sym c.in-Some.is ∙ w.left-is) in (
            omega (arith, same),
            rw w.reported-is
                (subst (λ to. AreMarked numbered bytes from to c.fill.new.self) (sym same)
                before),
          )
      | in-Shifts w ↦
          let is : w.mark-left.result ≡ Some left = sym w.left-is ∙ c.in-Some.is in
          let marks = w.mark-left.new.marks in (
            (subst (λ reported. IfSome reported (λ left. (from ≤ left) × (left ≤ length bytes))) is
                w.mark-left.ensures.left).0,
            rw w.reported-is (subst (λ reported. MatchOption reported
                ((to : ℕ) → AreMarked numbered bytes from to marks)
                (λ left. AreMarked numbered bytes from left marks)) is
                (w.mark-left.ensures.marked before)),
          )
    ] in
    subst (λ words. TellsWhichStand (record { words = words; owners = owners }) bytes from
    c.mark_each.new.marks) c.self.view_is
    (marks_tell numbered bytes from c.mark_each.new.marks c.self.invariant.0
    (λ to. c.mark_each.ensures.marked from to so_far.0 so_far.1))

pub returns-in_default-clause-reported : goal.returns-in_default-clause-reported
returns-in_default-clause-reported c =
    let bytes = c.args.bytes.now in
    let from = c.args.from in
    let owners = c.args.owners.now in
    let numbered : NumberedWords = record {
      words = all_words c.self.inside.list;
      owners = owners;
    } in
    let blank : c.fill.new.self ≡ replicate (length c.args.reported.now) false = search rules in
    let before : AreMarked numbered bytes from from c.fill.new.self =
    subst (AreMarked numbered bytes from from) (sym blank)
    (none_marked numbered bytes from (replicate (length c.args.reported.now) false)
    (none_in_blank (length c.args.reported.now))) in
    let all : (to : ℕ) → AreMarked numbered bytes from to c.match-self.reported =
    elim c.match-self.branch [
      | in-Pair w ↦ absurd (not_there (sym c.in_default.is ∙ w.left-is))
      | in-Shifts w ↦
          let is : w.mark-left.result ≡ None = sym w.left-is ∙ c.in_default.is in
          let marks = w.mark-left.new.marks in
          rw w.reported-is (subst (λ reported. MatchOption reported
          ((to : ℕ) → AreMarked numbered bytes from to marks)
          (λ left. AreMarked numbered bytes from left marks)) is
          (w.mark-left.ensures.marked before))
    ] in
    subst (λ words. TellsWhichStand (record { words = words; owners = owners }) bytes from
    c.match-self.reported) c.self.view_is
    (marks_tell numbered bytes from c.match-self.reported c.self.invariant.0 all)

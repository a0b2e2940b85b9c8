use Rattle.regex_lite_syntax.proofs.Common.{◌≡◌, ◌+◌, ◌-◌, arith, inl, inr, sym, subst}
use Rattle.regex_lite_syntax.proofs.Common.{slice_index, IsLinked, cases_eq}
use Rattle.regex_lite_syntax.specs.Prefilter.Marks.{IsMarked, numbered_words}
use Rattle.regex_lite_syntax.specs.Prefilter.Words.{WordStandsAt}
use Rattle.regex_lite_syntax.proofs.prefilter.words.LinkLemmas.{from_some, next_link}
use Rattle.regex_lite_syntax.proofs.prefilter.words.LinkLemmas.{still_reached}
use Rattle.regex_lite_syntax.proofs.prefilter.words.MarkLemmas.{adds_both, adds_none}
use Rattle.regex_lite_syntax.proofs.prefilter.words.shifts.Shifts.mark_at.Goals as goal

pub words-init : goal.words-init
words-init c =
    let numbered = numbered_words c.args.numbered.now in
    let leads = c.first_link-link.ensures numbered.words c.requires.shifts in
    record {
      size = omega arith;
      inside = leads.inside;
      here = λ number below stands. inr (leads.reached number below stands);
      adds = adds_none numbered c.args.bytes.now (λ offset. offset ≡ c.args.at) c.args.marks.now;
    }

pub words-preserved : goal.words-preserved
words-preserved c =
    let numbered = numbered_words c.args.numbered.now in
    let marks = c.mark_word.new.marks in
    let link = c.words.link in
    let v = c.words.invariant in
    let shifts = c.args.self.now in
    let links = c.requires.shifts.links in
    let is = next_link numbered.words shifts.hashed shifts.first.items shifts.next.items links link
    c.index.result.now (omega arith) v.inside c.index.ensures in
    record {
      size = omega (arith, c.mark_word.ensures.length, v.size);
      inside = let most = links.next_inside (link - 1) in omega (arith, is, most);
      here = λ number below stands. elim (v.here number below stands) [
        | inl was ↦ inl (c.mark_word.ensures.adds.kept
            (slice_index numbered.owners number) was)
        | inr reached ↦ elim (cases_eq link (number + 1)) [
          | inl same ↦
              let own : link - 1 ≡ number = omega (arith, same) in
              inl (subst (λ n. IsMarked marks (slice_index numbered.owners n)) own
              (c.mark_word.ensures.here
              (subst (λ n. WordStandsAt numbered.words c.args.bytes.now n c.args.at) (sym own)
              stands)))
          | inr apart ↦ inr (subst (IsLinked shifts.next.items number) (sym is)
              (still_reached shifts.next.items number link apart reached))
        ]
      ];
      adds = adds_both numbered c.args.bytes.now (λ offset. offset ≡ c.args.at)
          c.args.marks.now c.words.marks marks v.adds c.mark_word.ensures.adds;
    }

pub returns-clause-here : goal.returns-clause-here
returns-clause-here c = λ number below stands.
    elim (c.words.invariant.here number below stands) [
      | inl marked ↦ marked
      | inr reached ↦
          let some = from_some c.args.self.now.next.items number c.words.link reached in
          absurd (omega (arith, some, c.words-test.false))
    ]

use Rattle.regex_lite_syntax.proofs.Common.{◌≡◌, ℕ, arith, inl, inr, just, refl}
use Rattle.regex_lite_syntax.proofs.Common.{subst, sym, true}
use Rattle.std.proofs.lemmas.Bool.Decides.{nat_tests}
use Rattle.regex_lite_syntax.specs.Prefilter.NeededWalk.{EndsRow}
use Rattle.regex_lite_syntax.proofs.prefilter.first_set.StartLemmas.{grown_on}
use Rattle.regex_lite_syntax.proofs.prefilter.words.NeededRowLemmas.{letter_added, letter_after}
use Rattle.regex_lite_syntax.proofs.prefilter.words.needed_walk.NeededWalk.push.Goals as goal
use Rattle.regex_lite_syntax.proofs.prefilter.words.needed_walk.NeededWalk.push.Goals.{
  then-is_full,
  else-is_full,
}

itself : (c : ℕ) → just c c ≡ true
itself c = grind (arith, nat_tests)

pub returns : goal.returns
returns c =
    let letter = c.args.letter in
    let now = c.if-is_full.self in
    let first = c.add_char.ensures in
    let second = c.add_char-2.ensures in
    let adds = letter_added letter now _ (record {
      best = refl;
      row = c.push.ensures;
      led = refl;
      wider = grown_on _ _ _ first.grown second.grown;
      own = second.grown.with letter.byte (first.added letter.byte (itself letter.byte));
      other = second.added letter.other (itself letter.other);
    }) in
    letter_after letter c.args.self.now now _ (elim c.if-is_full.branch [
      | then-is_full w ↦
          inl (subst (EndsRow c.args.self.now) (sym w.self-is) w.end_row.ensures)
      | else-is_full w ↦ inr w.self-is
    ]) adds

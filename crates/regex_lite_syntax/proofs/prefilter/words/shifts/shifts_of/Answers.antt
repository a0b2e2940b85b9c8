use Rattle.regex_lite_syntax.proofs.Common.{◌≡◌, ℕ, ◌-◌, ◌≤◌, ◌++◌, length, take, drop, slice_index}
use Rattle.regex_lite_syntax.proofs.Common.{sym, ap, ◌∙◌, subst, inl, inr, arith, cases_eq}
use Rattle.regex_lite_syntax.proofs.Common.{NeverPasses, word_at}
use Rattle.std.proofs.Math.Seq.{take-append_seam}
use Rattle.std.proofs.lemmas.List.{length-replicate}
use Rattle.regex_lite_syntax.specs.Prefilter.WordLists.{all_words}
use Rattle.regex_lite_syntax.proofs.prefilter.words.ShiftLemmas.{all_below, never_after}
use Rattle.regex_lite_syntax.proofs.prefilter.words.shifts.shifts_of.Goals as goal

pub words-init : goal.words-init
words-init c =
    let items = c.in_ok-shifts.ensures.items_if_clones_equal (λ y same. same) in
    record {
      keys = ap length items ∙ length-replicate 1024 (c.args.reach - 1);
      below = λ key.
          let same = ap (λ xs. slice_index xs key) items in
          let less = all_below 1024 (c.args.reach - 1) key in
          omega (arith, same, less);
      near = λ number none. absurd (omega (arith, none));
    }

pub words-preserved : goal.words-preserved
words-preserved c =
    let v = c.words.invariant in
    let before = c.words.shifts.items in
    let after = c.lower.new.shifts in
    let words = all_words c.args.words.now in
    let kept : length after ≡ c.words.shifts.len = c.lower.auto.shifts ∙ c.deref_mut.ensures.len in
    let same : take c.words.shifts.len (after ++ drop (length after) before) ≡ after =
    ap (λ n. take n (after ++ drop (length after) before)) (sym kept)
    ∙ take-append_seam after (drop (length after) before) in
    let lower : (key : ℕ) → slice_index after key ≤ slice_index before key =
    λ key. subst (λ xs. slice_index after key ≤ slice_index xs key) c.deref_mut.ensures.value
    (c.lower.ensures.lower key) in
    rw same (record {
      keys = c.lower.auto.shifts ∙ ap length c.deref_mut.ensures.value ∙ v.keys;
      below = λ key. let old = v.below key in let new = lower key in omega (arith, old, new);
      near = λ number below. elim (cases_eq number c.words.number) [
        | inl here ↦ subst (λ m. NeverPasses c.args.reach after (word_at words m)) (sym here)
            (subst (NeverPasses c.args.reach after) c.word.ensures c.lower.ensures.near)
        | inr apart ↦ never_after c.args.reach before after (word_at words number) lower
            (v.near number (omega arith))
      ];
    })

pub returns : goal.returns
returns c =
    let v = c.words.invariant in
    record {
      keys = v.keys;
      below = v.below;
      near = λ number inside. v.near number (omega arith);
    }

use Rattle.regex_lite_engine.proofs.Common.{◌≡◌, ℕ, zero, suc, ◌+◌, ◌-◌, ◌^◌, ◌<◌, ◌≤◌, Bool, false}
use Rattle.regex_lite_engine.proofs.Common.{◌↔◌, List, [], ◌∷◌, length, get_or, take, IsTrue}
use Rattle.regex_lite_engine.proofs.Common.{slice_get, slice_index_or, slice_set, chars, sym, refl}
use Rattle.regex_lite_engine.proofs.Common.{ap, ◌∙◌, subst, inl, inr, arith, cases_lt}
use Rattle.regex_lite_engine.proofs.Common.{get_or-set_other, get_or-set_same, slice_get-get_or}
use Rattle.regex_lite_engine.proofs.Common.{slice_get_within, empty, whole_places, whole_arrows}
use Rattle.regex_lite_engine.proofs.Common.{HasTree, places_of_all, tries_of_all, HasMatchFrom}
use Rattle.regex_lite_engine.proofs.Common.{IsBoundedBy, position_at}
use Rattle.std.proofs.Common.{min}
use Rattle.std.proofs.Math.Nat.{le-min}
use Rattle.std.proofs.Math.Seq.{take-length}
use Rattle.std.proofs.lemmas.List.{length-set}
use Rattle.std.proofs.lemmas.List.Sums.{sum_by_more}
use Rattle.regex_lite_engine.proofs.pikevm.BoundLemmas.{bounded_both}
use Rattle.regex_lite_meta.proofs.list_matches.search_all.Goals as goal

pub loop-number-preserved : goal.loop-number-preserved
loop-number-preserved c =
    let v = c.loop-number.invariant in
    let number = c.loop-number.number in
    let matched = c.loop-number.matched in
    let list = c.args.list.now in
    let h = chars c.args.haystack.now in
    let s = position_at c.args.haystack.now c.args.start in
    let before = c.loop-number.steps in
    let own = c.in_ok-found.own in
    let all = v.all in
    let known : number < length list.entries
    = omega (arith, c.loop-number-test.true, c.len-number-end.ensures.same) in
    let room : number < length matched = omega (arith, known, all, c.requires.all) in
    record {
      kept = c.in_ok-found.ensures.kept;
      ready = λ none. (c.in_ok-found.ensures.ready (v.ready none)).0;
      within = omega (arith, known);
      all = length-set matched number c.in_ok-found.found ∙ v.all;
      found = λ trees regular is k tree less there. elim (cases_lt k number) [
        | inl old ↦
            subst (λ reported. IsTrue reported ↔ HasMatchFrom tree h s)
            (sym (get_or-set_other matched number k c.in_ok-found.found false
            (λ e. absurd (omega (arith, e, old)))))
            (v.found trees regular is k tree old there)
        | inr le ↦
            let same : number ≡ k = omega (arith, less, le) in
            subst (λ reported. IsTrue reported ↔ HasMatchFrom tree h s)
            (sym (ap (λ n. slice_index_or (slice_set matched number c.in_ok-found.found) n false)
            (sym same)
            ∙ get_or-set_same matched number c.in_ok-found.found false room))
            (c.in_ok-found.ensures.found trees tree regular is (ap (slice_get trees) same ∙ there))
      ];
      entered = λ k less reported. elim (cases_lt k number) [
        | inl old ↦
            let some = v.entered k old (subst IsTrue
            (get_or-set_other matched number k c.in_ok-found.found false
            (λ e. absurd (omega (arith, e, old)))) reported) in
            counted (omega (arith, some))
        | inr le ↦
            let same : number ≡ k = omega (arith, less, le) in
            let some = c.in_ok-found.ensures.entered (subst IsTrue
            (ap (λ n. slice_index_or (slice_set matched number c.in_ok-found.found) n false)
            (sym same)
            ∙ get_or-set_same matched number c.in_ok-found.found false room) reported) in
            counted (omega (arith, some))
      ];
      cost = λ trees is. (
          let tree = get_or trees number empty in
          let each = is.each_entry in
          let within : number < length trees = omega (arith, known, each) in
          let there : HasTree trees number tree = slice_get-get_or trees number empty within in
          let both =
          bounded_both h s (places_of_all (take number trees)) (tries_of_all (take number trees))
          before.tried before.entered before.looked (whole_places tree) (whole_arrows tree + 1)
          own.tried own.entered own.looked (2 ^ 128 - 1) (v.cost trees is)
          (c.in_ok-found.ensures.cost trees tree is there) in
          let places = sum_by_more whole_places trees number empty within in
          let tries = sum_by_more (λ t. whole_arrows t + 1) trees number empty within in
          let reported = c.plus-steps.ensures in
          rw (places, tries, reported.tried, reported.entered, reported.looked) both);
    }
  where
    counted : 0 < c.loop-number.steps.entered + c.in_ok-found.own.entered
        → 0 < c.plus-steps.result.entered
    counted some =
        let most : 1 ≤ min (c.loop-number.steps.entered + c.in_ok-found.own.entered)
        (2 ^ 128 - 1)
        = le-min (omega (arith, some)) (omega arith) in
        omega (arith, most, c.plus-steps.ensures.entered)

pub returns-clause-found : goal.returns-clause-found
returns-clause-found c = λ trees regular is.
    let v = c.loop-number.invariant in
    let all = v.all in
    let each = is.each_entry in
    record {
      all = omega (arith, all, c.requires.all, each);
      each = λ number tree there. v.found trees regular is number tree
          (omega (
            arith,
            slice_get_within trees number tree there,
            each,
            c.loop-number-test.false,
            c.len-number-end.ensures.same,
          ))
          there;
    }

pub returns-clause-cost : goal.returns-clause-cost
returns-clause-cost c = λ trees is.
    let v = c.loop-number.invariant in
    let h = chars c.args.haystack.now in
    let s = position_at c.args.haystack.now c.args.start in
    let steps = c.loop-number.steps in
    let each = is.each_entry in
    let last : c.loop-number.number ≡ length trees
    =
    (let within = v.within in
    omega (arith, within, each, c.loop-number-test.false, c.len-number-end.ensures.same)) in
    let whole : take c.loop-number.number trees ≡ trees
    = ap (λ n. take n trees) last ∙ take-length trees in
    subst (λ ts. IsBoundedBy (places_of_all ts)
    (tries_of_all ts) h s steps.tried steps.entered steps.looked) whole
    (v.cost trees is)

pub returns-clause-entered : goal.returns-clause-entered
returns-clause-entered c = λ k reported. elim (cases_lt k c.loop-number.number) [
  | inl less ↦ c.loop-number.invariant.entered k less reported
  | inr le ↦
      let all = c.loop-number.invariant.all in
      absurd (not_beyond c.loop-number.matched k
      (omega
      (arith, le, all, c.requires.all, c.loop-number-test.false, c.len-number-end.ensures.same))
      reported)
]
  where
    beyond : (list : List Bool) (k : ℕ) → length list ≤ k → slice_index_or list k false ≡ false
    beyond [] k le = refl
    beyond (reported ∷ list) zero le = absurd (omega (arith, le))
    beyond (reported ∷ list) (suc k) le = beyond list k (omega (arith, le))

    not_beyond : (list : List Bool) (k : ℕ) → length list ≤ k
        → IsTrue (slice_index_or list k false) → ⊥
    not_beyond list k le reported = let is : IsTrue false = subst IsTrue (beyond list k le)
        reported in cc

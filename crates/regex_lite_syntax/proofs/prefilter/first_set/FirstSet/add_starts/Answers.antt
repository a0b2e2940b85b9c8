use Rattle.regex_lite_syntax.proofs.Common.{◌≡◌, ◌<◌, Bool, true, false, ◌||◌, ◌&&◌, length}
use Rattle.regex_lite_syntax.proofs.Common.{slice_index_or, sym, refl, ap, ◌∙◌, inl, inr, arith}
use Rattle.regex_lite_syntax.proofs.Common.{rules, cases_eq, get_or-set_other, begins_with}
use Rattle.regex_lite_syntax.proofs.Common.{FirstSet}
use Rattle.std.proofs.Common.{set}
use Rattle.std.proofs.lemmas.List.{get_or-set_same}
use Rattle.regex_lite_syntax.proofs.prefilter.first_set.StartLemmas.{begins_alike, stored_at}
use Rattle.regex_lite_syntax.proofs.prefilter.first_set.StartLemmas.{union_at}
use Rattle.regex_lite_syntax.proofs.prefilter.first_set.FirstSet.add_starts.Goals as goal

pub loop-code-preserved : goal.loop-code-preserved
loop-code-preserved c =
    let v = c.loop-code.invariant in
    let k = c.loop-code.code in
    let now = c.loop-code.self in
    let old = c.args.self.now in
    let other = c.args.other.now in
    let inside : k < length now.ascii = search rules in
    let within : k < length other.ascii = search rules in
    let mine : (old.any && slice_index_or now.ascii k false) ≡ begins_with old k =
    ap (λ b. b && slice_index_or now.ascii k false) (sym v.any)
    ∙ stored_at now k c.loop-code-test.true inside
    ∙ begins_alike now old k v.any v.others (v.kept k (omega arith)) in
    let theirs = stored_at other k c.loop-code-test.true within in
    let bit : Bool = (old.any && slice_index_or now.ascii k false)
    || (other.any && slice_index_or other.ascii k false) in
    let here : bit ≡ (begins_with old k || begins_with other k) =
    ap (λ b. b || (other.any && slice_index_or other.ascii k false)) mine
    ∙ ap (λ b. begins_with old k || b) theirs in
    record {
      any = v.any;
      others = v.others;
      at_start = v.at_start;
      other = refl;
      done = λ d lt. elim (cases_eq d k) [
        | inl same ↦
            ap (λ z. slice_index_or (set now.ascii k bit) z true) same
            ∙ get_or-set_same now.ascii k bit true inside
            ∙ here ∙ sym (ap (λ z. begins_with old z || begins_with other z) same)
        | inr apart ↦
            get_or-set_other now.ascii k d bit true apart
            ∙ v.done d (omega (arith, lt, apart))
      ];
      kept = λ d le. (
          get_or-set_other now.ascii k d bit true
          (λ e. omega (arith, e, le))
          ∙ v.kept d (omega (arith, le)));
    }

pub returns : goal.returns
returns c =
    let v = c.loop-code.invariant in
    let old = c.args.self.now in
    let other = c.args.other.now in
    let all = c.loop-code-test.false in
    let after : FirstSet = record {
      any = c.loop-code.self.any || other.any;
      ascii = c.loop-code.self.ascii;
      others = (old.any && c.loop-code.self.others) || (other.any && other.others);
      at_start = c.loop-code.self.at_start || other.at_start;
    } in
    record {
      with = union_at old other after (ap (λ b. b || other.any) v.any)
          (λ d lt. v.done d (omega (arith, lt, all)))
          (ap (λ b. (old.any && b) || (other.any && other.others)) v.others);
      at_start = ap (λ b. b || other.at_start) v.at_start;
    }

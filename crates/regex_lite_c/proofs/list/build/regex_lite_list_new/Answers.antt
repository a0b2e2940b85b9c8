use Rattle.regex_lite_c.proofs.Common.{◌≡◌, ℕ, List, None, Option, sym, ap, ◌∙◌, subst, inl, inr}
use Rattle.regex_lite_c.proofs.Common.{arith, Expression, number_of, settings_of_all}
use Rattle.regex_lite_c.proofs.Common.{IsFirstOtherBytes}
use Rattle.regex_lite_syntax.specs.Errors.{kind_of}
use Rattle.regex_lite_c.specs.ListBuilding.{AreAllBytes, IsDueAt, IsListBuildAnswer, IsRefusedAs}
use Rattle.regex_lite_c.specs.ListBuilding.{IsReported}
use Rattle.regex_lite_c.specs.declared.list.build.Refused.{Refused}
use Rattle.regex_lite_c.specs.declared.list.build.Refused.TheVariants as refused
use Rattle.regex_lite_c.specs.declared.list.types.ListPattern.{ListPattern}
use Rattle.regex_lite_c.specs.declared.list.types.ListRefusal.{ListRefusal}
use Rattle.regex_lite_c.proofs.build.RefusalLemmas.{above_five}
use Rattle.regex_lite_c.proofs.list.build.regex_lite_list_new.Goals as goal

list_reported : (bytes : List ℕ) (patterns : List ListPattern) (why : Refused) (answer : ℕ)
    (held : Option (List Expression)) (reported : ListRefusal) (old new : List ℕ)
    → held ≡ None → AreAllBytes patterns bytes
    → IsRefusedAs (settings_of_all bytes patterns) why → IsReported why answer reported old new
    → IsListBuildAnswer bytes patterns answer held reported old new
list_reported bytes patterns (refused.NotText number) answer held reported old new none whole first
    tells =
    let all = settings_of_all bytes patterns in
    let is = tells.0 in
    record {
      built = λ wrong. absurd (omega (arith, is, wrong));
      accepted = λ wrong. absurd (omega (arith, is, wrong));
      nothing = λ _. none;
      bad_offset = (λ wrong. absurd (omega (arith, is, wrong)), λ wrong. absurd (wrong whole));
      not_text = λ _. subst (IsFirstOtherBytes all) (sym tells.1) first;
      texts = inr (inl is);
      refused = λ _ _ other. absurd (other is);
      complete = λ _ _ texts _. absurd (first.is_not (texts number first.settings first.numbered));
      no_message = λ _. (tells.2, tells.3);
      no_number = λ wrong. absurd (elim wrong [
        | inl built ↦ omega (arith, is, built)
        | inr bad ↦ omega (arith, is, bad)
      ]);
    }
list_reported bytes patterns (refused.By number error) answer held reported old new none whole due
    tells =
    let all = settings_of_all bytes patterns in
    let is = tells.0 in
    let large = above_five (kind_of error) in
    record {
      built = λ wrong. absurd (omega (arith, is, large, wrong));
      accepted = λ wrong. absurd (omega (arith, is, large, wrong));
      nothing = λ _. none;
      bad_offset =
          (λ wrong. absurd (omega (arith, is, large, wrong)), λ wrong. absurd (wrong whole));
      not_text = λ wrong. absurd (omega (arith, is, large, wrong));
      texts = elim due.1 [
        | inl memory ↦ inr (inr (inl (is ∙ ap (λ e. number_of (kind_of e)) memory)))
        | inr texts ↦ inr (inr (inr texts))
      ];
      refused = λ _ _ _.
          (error, subst (λ n. IsDueAt all n error) (sym tells.1) due.0, is, tells.2);
      complete = λ _ _ _ accepted. is ∙ ap (λ e. number_of (kind_of e)) (due.2 accepted);
      no_message = λ wrong. absurd (elim wrong [
        | inl built ↦ omega (arith, is, large, built)
        | inr rest ↦ elim rest [
          | inl bad ↦ omega (arith, is, large, bad)
          | inr other ↦ omega (arith, is, large, other)
        ]
      ]);
      no_number = λ wrong. absurd (elim wrong [
        | inl built ↦ omega (arith, is, large, built)
        | inr bad ↦ omega (arith, is, large, bad)
      ]);
    }

pub returns : goal.returns
returns c =
    let whole = c.are_all_bytes.ensures.0 c.if-not-are_all_bytes.false in
    list_reported c.args.bytes.now c.args.patterns.now c.in-Err.refused c.tell.result
    c.take-freed.new.self.value c.tell.new.reported c.args.message.now c.tell.new.message
    c.take-freed.ensures.nothing whole c.in-Err.ensures.refused c.tell.ensures

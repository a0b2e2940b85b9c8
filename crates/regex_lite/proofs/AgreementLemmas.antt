-- The searches of a pattern agree.
use Rattle.regex_lite.proofs.Common.{◌≡◌, ℕ, Bool, true, false, ◌↔◌, List, is_some, IsTrue, Some}
use Rattle.regex_lite.proofs.Common.{None, Option, option_map, chars, sym, refl, ap, ◌∙◌, subst}
use Rattle.regex_lite.proofs.Common.{arith, false≢true, Tree, captures_len, HasMatchFrom, Found}
use Rattle.regex_lite.proofs.Common.{IsFound, search_start, Expression, Groups, span_at, group_span}
use Rattle.regex_lite.proofs.Common.{span_of_match, MatchesFrom, offsets, TellsAnswer, TellsMatch}
use Rattle.regex_lite.proofs.Common.{TellsGroups, Match}
use Rattle.std.proofs.Common.{option_and_then}
use Rattle.regex_lite_engine.proofs.laws.PatternTreeLemmas.{regular_tree}
use Rattle.regex_lite_engine.proofs.laws.answer.AnswerLemmas.{found_match, one_answer}
use Rattle.regex_lite_syntax.proofs.OptionLemmas.{same_some}
use Rattle.regex_lite.specs.Laws.{Agree}
use Rattle.regex_lite.specs.Searches.{TellsEnd}
use Rattle.regex_lite.proofs.string.FoundLemmas.{group_0}
use Rattle.regex_lite.proofs.OneTreeLemmas.{matches_reported, one_tree}
use Rattle.regex_lite_engine.proofs.laws.answer.AnswerAtLemmas.{way_of_found}

pub same_truth : (a b : Bool) (P : Type 0) → (IsTrue a ↔ P) → (IsTrue b ↔ P) → a ≡ b
same_truth true true P p q = refl
same_truth true false P p q = absurd (false≢true (q.1 (p.0 refl)))
same_truth false true P p q = absurd (false≢true (p.1 (q.0 refl)))
same_truth false false P p q = refl

module _ (re : Expression) (haystack : List ℕ) (start : ℕ) where
  -- what is returned of an answer shows whether there is a match
  pub answer_reported : {A : Type 0} (says : Tree → Found → A → Type 0) (reported : Option A)
      → TellsAnswer says re haystack start reported
      → IsTrue (is_some reported) ↔ MatchesFrom re haystack start
  answer_reported says None (tree, given, none) = (
    λ some. absurd (false≢true some),
    λ matches.
        absurd (none (subst (λ t. HasMatchFrom t (chars haystack) (search_start haystack start))
        (one_tree re.flags (chars re.pattern) matches.0 tree matches.1 given) matches.2)),
  )
  answer_reported says (Some a) (tree, given, (f, is, of)) =
      let own = found_match tree (chars haystack) (regular_tree tree (re.flags, _, given))
      (search_start haystack start) f is in
      (λ some. (tree, given, (f.start, f.end, own)), λ matches. refl)

  -- the match is group 0
  pub same_whole : (m : Option Match) (groups : Option Groups) → is_some m ≡ is_some groups
      → TellsMatch re haystack start m → TellsGroups re haystack start groups
      → option_map span_of_match m ≡ option_and_then (λ own. group_span own 0) groups
  same_whole None None same p q = refl
  same_whole None (Some groups) same p q = absurd (false≢true same)
  same_whole (Some m) None same p q = absurd (false≢true (sym same))
  same_whole (Some m) (Some groups) same (tree, given, (f, is, of))
      (other, given_too, (g, is_too, are)) =
      let one = one_tree re.flags (chars re.pattern) other tree given_too given in
      let is_other : IsFound tree (chars haystack) (search_start haystack start) g =
      subst (λ t. IsFound t (chars haystack) (search_start haystack start) g) one is_too in
      let f_is_g =
      same_some (one_answer tree (chars haystack) (regular_tree tree (re.flags, _, given))
      (search_start haystack start) (Some f) (Some g) is is_other) in
      ap Some (of.span ∙ ap (λ (own : Found). offsets (chars haystack) (own.start, own.end)) f_is_g)
      ∙ sym (ap (λ all. span_at all 0) are.spans
      ∙ group_0 (chars haystack) other g (captures_len other) (re.flags, _, given_too)
      (way_of_found other (chars haystack) (search_start haystack start) g is_too) (omega arith))

  pub agree : (found : Bool) (m : Option Match) (groups : Option Groups) (end : Option ℕ)
      → (IsTrue found ↔ MatchesFrom re haystack start) → TellsMatch re haystack start m
      → TellsGroups re haystack start groups → TellsEnd re haystack start end
      → Agree found m groups end
  agree found m groups end reported tells_match tells_groups tells_end =
      let by_match = answer_reported _ m tells_match in
      let by_groups = answer_reported _ groups tells_groups in
      let by_end = matches_reported re haystack start end (is_some end) refl tells_end in
      let Matching : Type 0 = MatchesFrom re haystack start in
      record {
        with_match = same_truth (is_some m) found Matching by_match reported;
        with_groups = same_truth (is_some groups) found Matching by_groups reported;
        with_end = same_truth (is_some end) found Matching by_end reported;
        whole = same_whole m groups
            (same_truth (is_some m) (is_some groups) Matching by_match by_groups)
            tells_match tells_groups;
      }

-- What comes next stands after what came before, and is one.
use Rattle.regex_lite.proofs.Common.{◌≡◌, ℕ, zero, suc, ◌≤◌, List, [], ◌∷◌, Some, None, Option}
use Rattle.regex_lite.proofs.Common.{length, chars, unwrap_or, sym, refl, ap, ◌∙◌, subst, arith}
use Rattle.regex_lite.proofs.Common.{Text, Found, span, AreLawful, Expression, IsAnswerOf, one_less}
use Rattle.regex_lite.proofs.Common.{IsNextAnswer, AreWithin}
use Rattle.std.proofs.Math.Nat.{min-zero, suc-min-suc, zero-min}
use Rattle.regex_lite_engine.proofs.laws.PatternTreeLemmas.{regular_tree}
use Rattle.regex_lite_engine.proofs.laws.groups.SpanLemmas.{groups_inside}
use Rattle.regex_lite_syntax.proofs.OptionLemmas.{not_there, same_some}
use Rattle.regex_lite.specs.ListLaws.{NumberWithinLimit, number_within}
use Rattle.regex_lite.specs.MatchList.{AreAnswers, AreAnswersWithin, AreFirstAnswers, IsNext}
use Rattle.regex_lite.proofs.string.LawfulLemmas.{regex_lawful}
use Rattle.regex_lite.proofs.string.ListLemmas.{one_next}
use Rattle.regex_lite.proofs.string.NextLemmas.{next_answer}
use Rattle.regex_lite_engine.proofs.laws.answer.AnswerAtLemmas.{way_of_found}

module _ {A : Type 0} (found_of : A → Found) (Answers : (s : ℕ) → Option A → Type 0) where
  abbrev Within : (limit ended : Option ℕ) → List A → Type 0
  Within limit ended list = AreAnswersWithin found_of Answers limit ended list

  -- the first of a list that is up to a limit, and those after it
  pub first_within : (limit ended : Option ℕ) (answer : A) (list : List A)
      → Within limit ended (answer ∷ list)
      → IsNextAnswer found_of Answers ended (Some answer)
      × Within (one_less limit) (Some (found_of answer).end) list
  first_within None ended answer list are = are
  first_within (Some zero) ended answer list are = absurd cc
  first_within (Some (suc k)) ended answer list (next, rest) = (
    next,
    subst (λ n. AreFirstAnswers found_of Answers n (Some (found_of answer).end) list) (omega arith)
        rest,
  )

  module _ (haystack : Text) (lawful : AreLawful found_of haystack Answers) where
    abbrev one : (ended : Option ℕ) (a b : Option A) → IsNextAnswer found_of Answers ended a
        → IsNextAnswer found_of Answers ended b → a ≡ b
    one = one_next found_of haystack Answers lawful

    none_or_some : (limit ended : Option ℕ) (answer : A) (list : List A)
        → Within limit ended [] → Within limit ended (answer ∷ list) → ⊥
    none_or_some None ended answer list none (next, rest) =
        not_there (one ended None (Some answer) none next)
    none_or_some (Some zero) ended answer list none are = absurd cc
    none_or_some (Some (suc k)) ended answer list none (next, rest) =
        not_there (one ended None (Some answer) none next)

    -- there is one such list
    pub one_within : (limit ended : Option ℕ) (list other : List A) → Within limit ended list
        → Within limit ended other → list ≡ other
    one_within limit ended [] [] p q = refl
    one_within limit ended [] (g ∷ other) p q = absurd (none_or_some limit ended g other p q)
    one_within limit ended (f ∷ list) [] p q = absurd (none_or_some limit ended f list q p)
    one_within limit ended (f ∷ list) (g ∷ other) p q =
        let a = first_within limit ended f list p in
        let b = first_within limit ended g other q in
        let same : f ≡ g = same_some (one ended (Some f) (Some g) a.0 b.0) in
        let rest = one_within (one_less limit) (Some (found_of g).end) list other
        (subst (λ own. Within (one_less limit) (Some (found_of own).end) list) same a.1) b.1 in
        ap (λ x. x ∷ list) same ∙ ap (λ l. g ∷ l) rest

    -- the first of all answers are as many as these, or as the limit says if that is less
    pub length_within : (limit ended : Option ℕ) (list all : List A) → Within limit ended list
        → AreAnswers found_of Answers ended all → length list ≡ number_within limit (length all)
    length_within None ended list all first are =
        ap length (one_within None ended list all first are)
    length_within (Some zero) ended list all first are =
        ap length first ∙ sym (zero-min (length all))
    length_within (Some (suc k)) ended [] [] first are = sym (min-zero (suc k))
    length_within (Some (suc k)) ended [] (g ∷ all) none (next, rest) =
        absurd (not_there (one ended None (Some g) none next))
    length_within (Some (suc k)) ended (f ∷ list) [] (next, rest) none =
        absurd (not_there (one ended None (Some f) none next))
    length_within (Some (suc k)) ended (f ∷ list) (g ∷ all) (next, rest) (next_too, rest_too) =
        let same : f ≡ g = same_some (one ended (Some f) (Some g) next next_too) in
        let later = length_within (Some k) (Some (found_of f).end) list all rest
        (subst (λ own. AreAnswers found_of Answers (Some (found_of own).end) all) (sym same)
        rest_too) in
        ap suc later ∙ sym (suc-min-suc k (length all))

-- it starts at position s or later and ends no earlier than it starts, and group 0 is all of it
pub record StandsFrom (s : ℕ) (found : Found) : Type 0 where
  pub from : s ≤ found.start
  pub ordered : found.start ≤ found.end
  pub whole : span found.marks 0 ≡ Some (found.start, found.end)

module _ (re : Expression) (haystack : Text) where
  answer_stands : (s t : ℕ) (found : Found) → t ≤ s → IsAnswerOf re haystack s (Some found)
      → StandsFrom t found
  answer_stands s t found later (tree, given, is) =
      let own = groups_inside tree haystack found (regular_tree tree (re.flags, _, given))
      (way_of_found tree haystack s found is) in
      record {
        from = omega (arith, later, is.from);
        ordered = (own.inside 0 found.start found.end own.whole).1;
        whole = own.whole;
      }

  -- the first of a list that is up to a limit, and those after it
  pub within_first : (limit ended : Option ℕ) (found : Found) (list : List Found)
      → AreWithin re haystack limit ended (found ∷ list)
      → IsNext re haystack ended (Some found)
      × AreWithin re haystack (one_less limit) (Some found.end) list
  within_first = first_within (λ own. own) (IsAnswerOf re haystack)

  -- where it stands
  pub first_stands : (limit ended : Option ℕ) (found : Found) (list : List Found)
      → AreWithin re haystack limit ended (found ∷ list) → StandsFrom (unwrap_or ended 0) found
  first_stands limit ended found list are =
      let next = within_first limit ended found list are in
      let own = next_answer (λ own. own) (IsAnswerOf re haystack) ended found next.0 in
      answer_stands own.0 (unwrap_or ended 0) found own.2 own.1

  -- there is one such list
  pub same_within : (limit ended : Option ℕ) (list other : List Found)
      → AreWithin re haystack limit ended list → AreWithin re haystack limit ended other
      → list ≡ other
  same_within = one_within (λ own. own) (IsAnswerOf re haystack) haystack (regex_lawful re haystack)

pub number_is_within : NumberWithinLimit
number_is_within re haystack limit all count are (found, ahead, counted) =
    let h = chars haystack in
    counted
    ∙ length_within (λ own. own) (IsAnswerOf re h) h (regex_lawful re h) limit None found all ahead
    are

-- The answers after one another are apart, and one list.
use Rattle.regex_lite.proofs.Common.{◌≡◌, ℕ, suc, ◌+◌, ◌<◌, ◌≤◌, Bool, true, false, List, [], ◌∷◌}
use Rattle.regex_lite.proofs.Common.{length, Some, None, MatchBool, Option, sym, refl, ap, ◌∙◌}
use Rattle.regex_lite.proofs.Common.{subst, arith, nat_tests, Text, Found, IsWithin, AreLawful}
use Rattle.regex_lite.proofs.Common.{IsAnswerOf, IsNextAnswer}
use Rattle.regex_lite_syntax.proofs.OptionLemmas.{not_there, same_some}
use Rattle.regex_lite.specs.ListLaws.{AreAnswersApart, Follows, MatchesAreApart, OneMatchList}
use Rattle.regex_lite.specs.MatchList.{AreAnswers, is_empty_answer}
use Rattle.regex_lite.proofs.string.LawfulLemmas.{regex_lawful}

module _ {A : Type 0} (found_of : A → Found) (haystack : Text)
    (Answers : (s : ℕ) → Option A → Type 0) (lawful : AreLawful found_of haystack Answers) where
  -- what isn't empty there ends later
  ends_later : (e : ℕ) (answer : A) → IsWithin haystack e (found_of answer)
      → is_empty_answer found_of e (Some answer) ≡ false → e < (found_of answer).end
  ends_later e answer within apart = grind (arith, nat_tests, within.from, within.ordered, apart)

  after_end : (e : ℕ) (answer : A) (from_end : Option A) (empty : Bool)
      → is_empty_answer found_of e from_end ≡ empty → Answers e from_end
      → MatchBool empty (Answers (suc e) (Some answer)) (Some answer ≡ from_end)
      → Follows (Some e) (found_of answer) × IsWithin haystack e (found_of answer)
  after_end e answer from_end true is there next =
      let own = lawful.within (suc e) answer next in
      let from = own.from in
      let ordered = own.ordered in (
        (omega (arith, from), omega (arith, from, ordered)),
        record { from = omega (arith, from); ordered = ordered; inside = own.inside },
      )
  after_end e answer from_end false is there next =
      let own = lawful.within e answer (subst (Answers e) (sym next) there) in
      ((own.from, ends_later e answer own (ap (is_empty_answer found_of e) next ∙ is)), own)

  -- each match follows the last one
  pub follows : (ended : Option ℕ) (answer : A) → IsNextAnswer found_of Answers ended (Some answer)
      → Follows ended (found_of answer) × IsWithin haystack 0 (found_of answer)
  follows None answer next = (tt, lawful.within 0 answer next)
  follows (Some e) answer (from_end, there, next) =
      let (after, own) =
      after_end e answer from_end (is_empty_answer found_of e from_end) refl there next in
      (after, record { from = omega arith; ordered = own.ordered; inside = own.inside })

  pub apart_from : (ended : Option ℕ) (list : List A) → AreAnswers found_of Answers ended list
      → AreAnswersApart found_of ended list
  apart_from ended [] over = tt
  apart_from ended (answer ∷ list) (next, rest) =
      let (after, own) = follows ended answer next in
      (after, own.ordered, apart_from (Some (found_of answer).end) list rest)

  few_after : (e : ℕ) (list : List A) → e ≤ length haystack
      → AreAnswers found_of Answers (Some e) list → length list + e ≤ length haystack
  few_after e [] inside over = omega (arith, inside)
  few_after e (answer ∷ list) inside (next, rest) =
      let (after, own) = follows (Some e) answer next in
      omega (arith, few_after (found_of answer).end list own.inside rest, after.1)

  pub few : (list : List A) → AreAnswers found_of Answers None list
      → length list ≤ length haystack + 1
  few [] over = omega arith
  few (answer ∷ list) (next, rest) =
      let (after, own) = follows None answer next in
      omega (arith, few_after (found_of answer).end list own.inside rest)

  -- one at most comes next
  pub one_next : (ended : Option ℕ) (a b : Option A) → IsNextAnswer found_of Answers ended a
      → IsNextAnswer found_of Answers ended b → a ≡ b
  one_next None a b p q = lawful.one 0 a b p q
  one_next (Some e) a b (f, is, p) (g, is_too, q) =
      let same = lawful.one e g f is_too is in
      each (is_empty_answer found_of e f) p
      (subst (λ own. MatchBool (is_empty_answer found_of e own) (Answers (suc e) b) (b ≡ own)) same
      q)
    where
      each : (empty : Bool) → MatchBool empty (Answers (suc e) a) (a ≡ f)
          → MatchBool empty (Answers (suc e) b) (b ≡ f) → a ≡ b
      each true p q = lawful.one (suc e) a b p q
      each false p q = p ∙ sym q

  pub one_from : (ended : Option ℕ) (list other : List A) → AreAnswers found_of Answers ended list
      → AreAnswers found_of Answers ended other → list ≡ other
  one_from ended [] [] over over_too = refl
  one_from ended [] (g ∷ other) over (next, rest) =
      absurd (not_there (one_next ended None (Some g) over next))
  one_from ended (f ∷ list) [] (next, rest) over =
      absurd (not_there (one_next ended None (Some f) over next))
  one_from ended (f ∷ list) (g ∷ other) (next, rest) (next_too, rest_too) =
      let same : f ≡ g = same_some (one_next ended (Some f) (Some g) next next_too) in
      let after_f = subst (λ own. AreAnswers found_of Answers (Some (found_of own).end) other)
      (sym same) rest_too in
      ap (λ own. own ∷ list) same
      ∙ ap (λ own. g ∷ own) (one_from (Some (found_of f).end) list other rest after_f)

pub matches_apart : MatchesAreApart
matches_apart re haystack list are =
    let lawful = regex_lawful re haystack in (
      apart_from (λ own. own) haystack (IsAnswerOf re haystack) lawful None list are,
      few (λ own. own) haystack (IsAnswerOf re haystack) lawful list are,
    )

pub one_list : OneMatchList
one_list re haystack list other are are_too =
    one_from (λ own. own) haystack (IsAnswerOf re haystack) (regex_lawful re haystack) None list
    other are are_too

-- A search has one answer, and it is a match.
use Rattle.regex_lite_engine.proofs.Common.{◌≡◌, ℕ, zero, suc, ◌+◌, ◌<◌, ◌≤◌, ◌↔◌, length, Some}
use Rattle.regex_lite_engine.proofs.Common.{None, Option, sym, refl, ap, ◌∙◌, subst, inl, inr}
use Rattle.regex_lite_engine.proofs.Common.{arith, cases_eq, cases_lt, Text, Tree, Matches}
use Rattle.regex_lite_engine.proofs.Common.{IsRegular, Address, end_address, start_address}
use Rattle.regex_lite_engine.proofs.Common.{IsWayThrough, IsMatchFrom, HasMatchFrom, Found, IsFound}
use Rattle.regex_lite_engine.proofs.Common.{IsAnswer, marks_of_way}
use Rattle.std.proofs.Common.{IsSome, le_antisymm}
use Rattle.regex_lite_syntax.specs.Tree.Matches.{IsPosition}
use Rattle.regex_lite_engine.proofs.laws.LeadsLemmas.{leads_to_one}
use Rattle.regex_lite_engine.proofs.laws.PatternWayLemmas.{match_way, walk_match}
use Rattle.regex_lite_engine.proofs.laws.answer.OrderLemmas.{one_best}
use Rattle.regex_lite_engine.proofs.laws.answer.LeastLemmas.{Least}
use Rattle.regex_lite_engine.proofs.laws.answer.ReachLemmas.{walks, Way}
use Rattle.regex_lite_engine.proofs.laws.answer.BestWayLemmas.{best_way}
use Rattle.regex_lite_syntax.proofs.OptionLemmas.{same_some}

module _ (tree : Tree) (haystack : Text) where
  abbrev Answered : ℕ → Type 0
  Answered s = (answer : Option Found) × IsAnswer tree haystack s answer

  found_here : (s : ℕ) → IsPosition haystack s → Least (Way tree haystack s) → Answered s
  found_here s inside (way, (j, is), first) = (
    Some (record { start = s; end = j; marks = marks_of_way tree haystack s way }),
    record {
      from = omega arith;
      inside = inside;
      least = λ i k m. m.from;
      way = way;
      most_preferred = record { is_way = is; preferred = λ other k p. first other (k, p) };
      marks = refl;
    },
  )

  -- a match from s on starts further on, if none starts at s
  further_on : (s i j : ℕ) → ((j : ℕ) → Matches haystack tree s j → ⊥)
      → IsMatchFrom tree haystack s i j → IsMatchFrom tree haystack (suc s) i j
  further_on s i j none m = elim (cases_eq s i) [
    | inl e ↦ absurd (none j (subst (λ z. Matches haystack tree z j) (sym e) m.matches))
    | inr apart ↦
        record { from = omega (arith, m.from, apart); inside = m.inside; matches = m.matches }
  ]

  -- so the answer is that from the next position on
  later_answer : (s : ℕ) → ((j : ℕ) → Matches haystack tree s j → ⊥) → Answered (suc s)
      → Answered s
  later_answer s none (None, gone) =
      (None, λ (i, j, m). gone (i, j, further_on s i j none m))
  later_answer s none (Some found, is) = (
    Some found,
    record {
      from = omega (arith, is.from);
      inside = is.inside;
      least = λ i j m. is.least i j (further_on s i j none m);
      way = is.way;
      most_preferred = is.most_preferred;
      marks = is.marks;
    },
  )

  none_beyond : (s : ℕ) → length haystack < s → HasMatchFrom tree haystack s → ⊥
  none_beyond s beyond (i, j, m) = omega (arith, beyond, m.from, m.inside)

  module _ (regular : IsRegular tree) where
    -- this many positions are left
    answer_from : (left s : ℕ) → suc (length haystack) ≤ s + left → Answered s
    answer_from zero s few = (None, none_beyond s (omega (arith, few)))
    answer_from (suc left) s few = elim (cases_lt (length haystack) s) [
      | inl beyond ↦ (None, none_beyond s beyond)
      | inr inside ↦ elim (best_way tree haystack s inside) [
        | inl found ↦ found_here s inside found
        | inr none ↦ later_answer s
            (λ j m. (let way = match_way tree haystack s j regular m in none way.0 (j, way.1)))
            (answer_from left (suc s) (omega (arith, few)))
      ]
    ]

    pub has_answer : (s : ℕ) → Answered s
    has_answer s = answer_from (suc (length haystack)) s (omega arith)

    -- what is found is a match
    pub found_match : (s : ℕ) (found : Found) → IsFound tree haystack s found
        → IsMatchFrom tree haystack s found.start found.end
    found_match s found is = record {
      from = is.from;
      inside = is.inside;
      matches = walk_match tree haystack found.start found.end is.way regular
          is.most_preferred.is_way.0;
    }

    one_found : (s : ℕ) (f g : Found) → IsFound tree haystack s f → IsFound tree haystack s g
        → f ≡ g
    one_found s f g p q = same_found start same_way
      where
        start : f.start ≡ g.start
        start = le_antisymm
            (p.least g.start g.end (found_match s g q))
            (q.least f.start f.end (found_match s f p))

        p_way : IsWayThrough tree haystack g.start p.way f.end
        p_way =
            subst (λ z. IsWayThrough tree haystack z p.way f.end) start p.most_preferred.is_way

        q_way : IsWayThrough tree haystack f.start q.way g.end
        q_way =
            subst (λ z. IsWayThrough tree haystack z q.way g.end) (sym start)
            q.most_preferred.is_way

        same_way : p.way ≡ q.way
        same_way =
            one_best p.way q.way (p.most_preferred.preferred q.way g.end q_way)
            (q.most_preferred.preferred p.way f.end p_way)

        by_parts : f.start ≡ g.start → f.end ≡ g.end → f.marks ≡ g.marks → f ≡ g
        by_parts a b c = λ t. record { start = a t; end = b t; marks = c t }

        same_found : f.start ≡ g.start → p.way ≡ q.way → f ≡ g
        same_found e w =
            let moved = subst (λ z. IsWayThrough tree haystack f.start z f.end) w
            p.most_preferred.is_way in
            let there = leads_to_one (walks tree haystack) q.way (start_address, f.start)
            (end_address, f.end) (end_address, g.end) moved.0 q_way.0 in
            let marks = p.marks ∙ ap (λ z. marks_of_way tree haystack f.start z) w
            ∙ ap (λ z. marks_of_way tree haystack z q.way) e ∙ sym q.marks in
            by_parts e (ap (λ (z : Address × ℕ). z.1) there) marks

    pub one_answer : (s : ℕ) (a b : Option Found) → IsAnswer tree haystack s a
        → IsAnswer tree haystack s b → a ≡ b
    one_answer s None None p q = refl
    one_answer s None (Some g) p q = absurd (p (g.start, g.end, found_match s g q))
    one_answer s (Some f) None p q = absurd (q (f.start, f.end, found_match s f p))
    one_answer s (Some f) (Some g) p q = ap Some (one_found s f g p q)

    pub answer_matches : (s : ℕ) (answer : Option Found) → IsAnswer tree haystack s answer
        → (IsSome answer ↔ HasMatchFrom tree haystack s)
        × ((found : Found) → answer ≡ Some found
        → IsMatchFrom tree haystack s found.start found.end)
    answer_matches s None gone =
        ((λ some. absurd (cc (some)), λ has. absurd (gone has)), λ found e. absurd cc)
    answer_matches s (Some found) is =
        let here = found_match s found is in (
          (λ some. (found.start, found.end, here), λ has. refl),
          λ other e.
              subst (λ (f : Found). IsMatchFrom tree haystack s f.start f.end) (same_some e) here,
        )

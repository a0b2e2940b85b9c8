-- A transition after which its own position is the first start, as long as there is no match.
use Rattle.regex_lite_meta.proofs.Common.{◌≡◌, ℕ, ◌<◌, Bool, true, false, List, [], ◌∷◌}
use Rattle.regex_lite_meta.proofs.Common.{◌==◌, Some, None, Option, sym, refl, ap, ◌∙◌, subst, inl}
use Rattle.regex_lite_meta.proofs.Common.{inr, arith, nat_tests, Text, Thread, IsComing, Best}
use Rattle.regex_lite_meta.proofs.Common.{IsHere, Here, reported_by, threads_of, ways_of, best_left}
use Rattle.regex_lite_meta.proofs.Common.{offset}
use Rattle.regex_lite_engine.specs.Graph.Places.{Place}
use Rattle.regex_lite_engine.specs.Pikevm.Again.{all_relabelled, best_again}
use Rattle.regex_lite_engine.specs.Pikevm.Searching.{IsMatchFlag}
use Rattle.regex_lite_engine.specs.Pikevm.Stepping.{FromIs}
use Rattle.regex_lite_engine.specs.Pikevm.Walking.{ThreadsHold}
use Rattle.regex_lite_engine.specs.Search.ThreadStarts.{Reported, IsReported, TellsStart}
use Rattle.regex_lite_engine.specs.Search.Pending.{Node, PendingNode, In, StartsBelow}
use Rattle.regex_lite_meta.specs.LazyDfa.Automaton.{began, match_flag_of, match_start_of}
use Rattle.regex_lite_meta.specs.LazyDfa.Automaton.{reported_if}
use Rattle.regex_lite_meta.specs.LazyDfa.Determinizing.{NoneBegan}
use Rattle.regex_lite_engine.proofs.OffsetLemmas.{offset_less}
use Rattle.regex_lite_syntax.proofs.OptionLemmas.{not_there, same_some}

began_there : (a b : ℕ) → a ≡ b → (a == b) ≡ true
began_there a b e = grind (arith, nat_tests)

began_elsewhere : (a b : ℕ) → (a ≡ b → ⊥) → (a == b) ≡ false
began_elsewhere a b d = grind (arith, nat_tests)

-- a way that didn't begin at the offset
not_begun : (at : ℕ) (reported : Option ℕ) → (reported ≡ Some at → ⊥) → began at reported ≡ false
not_begun at None other = refl
not_begun at (Some start) other = began_elsewhere start at (λ e. other (ap Some e))

-- as long as there is no match, each way that comes to a position began before it
module _ (table : List (Place ℕ)) (entries : List ℕ) (h : Text) (p : ℕ) (here : Here)
    (is : IsHere h p here) where
  earlier_start : (reported : Option ℕ) (from : ℕ) → IsReported reported (offset h from) → from < p
      → reported ≡ Some here.at → ⊥
  earlier_start None from tells less e = not_there e
  earlier_start (Some start) from tells less e =
      let below = offset_less h from p less is.inside in
      let at = is.bytes in
      let same = same_some e in omega (arith, below, at, same, tells)

  none_of : (ts : List Thread) (os : List (PendingNode Node))
      → ((n : Node) (w : List ℕ) → In Node n w os → StartsBelow p w)
      → ThreadsHold table h entries p ts os → NoneBegan here.at ts
  none_of [] os below held = tt
  none_of (t ∷ ts) [] below held = absurd held
  none_of (t ∷ ts) (o ∷ os) below (there, way, rest) = (
    earlier_start t.1.at way.0 way.4.start_reported
        (subst (StartsBelow p) way.6 (below o.0 o.1 (inl (refl, refl)))),
    none_of ts os (λ n w is_in. below n w (inr is_in)) rest,
  )

  pub none_began : (low last : ℕ) (ts : List Thread) (best : Best) → best ≡ None
      → IsComing table h entries low last p ts best → NoneBegan here.at ts
  none_began low last ts best none u =
      none_of ts u.coming
      (λ n w is_in. subst (λ z. StartsBelow z w) (from_is best none u.from_is)
      (u.in_step.now_below n w is_in)) u.hold
    where
      from_is : (best : Best) → best ≡ None → FromIs p u.from best → u.from ≡ p
      from_is None e is = is
      from_is (Some found) e is = absurd (not_there (sym e))

-- what is known of the starts is forgotten, where no thread began at the offset
module _ (table : List (Place ℕ)) (entries : List ℕ) (h : Text) (p first i at at' : ℕ) where
  abbrev tell : Reported → Reported
  tell reported = reported_by at' (match_start_of at reported)

  forgotten : (ts : List Thread) (os : List (PendingNode Node)) → NoneBegan at ts
      → ThreadsHold table h entries p (threads_of i (ways_of first ts)) os
      → ThreadsHold table h entries p (all_relabelled tell ts) os
  forgotten [] os none held = held
  forgotten (t ∷ ts) [] none held = held
  forgotten (t ∷ ts) (o ∷ os) (other, none) (there, way, rest) = (
    there,
    (
      way.0,
      way.1,
      way.2,
      way.3,
      record {
        start_reported = subst (λ b. IsReported (reported_if b at') (offset h way.0))
            (sym (not_begun at t.1.at other)) tt;
        number_reported = way.4.number_reported;
      },
      way.5,
      way.6,
      way.7,
      way.8,
    ),
    forgotten ts os none rest,
  )

  pub coming_forgotten : (low last : ℕ) (ts : List Thread) (best : Best) → NoneBegan at ts
      → IsComing table h entries low last p (threads_of i (ways_of first ts)) best
      → IsComing table h entries low last p (all_relabelled tell ts) best
  coming_forgotten low last ts best none u = record {
    recorded = u.recorded;
    coming = u.coming;
    way = u.way;
    from = u.from;
    in_step = u.in_step;
    before = u.before;
    hold = forgotten ts u.coming none u.hold;
    best_holds = u.best_holds;
    from_is = u.from_is;
  }

-- the position's own start, as another position reports it
pub own_relabelled : (at at' number : ℕ) (reported : Reported) → TellsStart reported at number
    → TellsStart (reported_by at' (match_start_of at reported)) at' number
own_relabelled at at' number reported tells = record {
  start_reported = by_start reported.at tells.start_reported;
  number_reported = tells.number_reported;
}
  where
    by_start : (start : Option ℕ) → IsReported start at → IsReported
        (reported_if (began at start) at') at'
    by_start None is = tt
    by_start (Some start) is =
        subst (λ b. IsReported (reported_if b at') at') (sym (began_there start at is)) refl

-- no match is reported where there is none
pub none_again : (tell : Reported → Reported) (first i at : ℕ) (match_flag : Bool)
    (found before : Best) → found ≡ None → best_again tell at match_flag found before ≡ best_left
    (match_flag_of first match_flag found) i at before
none_again tell first i at false found before none = refl
none_again tell first i at true None before none = refl
none_again tell first i at true (Some found) before none = absurd (not_there (sym none))

-- nor was there one before the transition
pub none_before : (match_flag : Bool) (before now : Best) → IsMatchFlag match_flag before now → now
    ≡ None → before ≡ None
none_before false before now same none = sym same ∙ none
none_before true before now some none = absurd (some none)

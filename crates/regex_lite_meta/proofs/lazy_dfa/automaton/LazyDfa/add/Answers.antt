use Rattle.regex_lite_meta.proofs.Common.{◌≡◌, suc, ◌+◌, ◌-◌, ◌*◌, ◌<◌, ◌≤◌, List, [], ◌∷◌, ◌++◌}
use Rattle.regex_lite_meta.proofs.Common.{map, length, take, drop, sym, refl, ap, ◌∙◌, subst, arith}
use Rattle.regex_lite_meta.proofs.Common.{rules, suc-mul, take_all, Automaton, classes_in, way_in}
use Rattle.regex_lite_meta.proofs.Common.{match_flag_in, number_of, StoredState, NextState}
use Rattle.regex_lite_meta.specs.declared.lazy_dfa.state.TransitionKind.TheVariants.{Unknown}
use Rattle.std.proofs.Math.Seq.{drop-length}
use Rattle.regex_lite_meta.specs.LazyDfa.Automaton.{State}
use Rattle.regex_lite_meta.specs.LazyDfa.Stored.{LieWithin, AllAgree}
use Rattle.std.proofs.Common.{replicate, length-append}
use Rattle.std.proofs.lemmas.List.{length-replicate, take-append-le}
use Rattle.std.specs.Vec.{vec_len}
use Rattle.regex_lite_meta.proofs.lazy_dfa.StoredChangeLemmas.{added_extends, added_is, blank_row}
use Rattle.regex_lite_meta.proofs.lazy_dfa.StoredChangeLemmas.{agree_added, extends_same}
use Rattle.regex_lite_meta.proofs.lazy_dfa.StoredChangeLemmas.{seen_added, within_added}
use Rattle.regex_lite_meta.proofs.lazy_dfa.StoredStateLemmas.{length_states, seen}
use Rattle.regex_lite_meta.proofs.lazy_dfa.automaton.LazyDfa.add.Goals as goal
use Rattle.regex_lite_meta.proofs.lazy_dfa.automaton.LazyDfa.add.Goals.{
  After-len-self-inside,
  After-truncate,
  In-Ok,
}

abbrev blank : NextState
blank = record { row = 0; state = 0; kind = Unknown }

-- the row of the new state comes after those of all others
rows : (c : In-Ok) →
    c.resize.new.self.items
    ≡ c.self.inside.next_states.items ++ replicate (classes_in c.self.inside.classes) blank
rows c =
    let old = c.self.inside.next_states.items in
    let count : vec_len c.self.inside.next_states ≡ length old = search rules in
    let len = c.len-rows.ensures in
    let more = c.len-2.ensures.same in
    let longer = c.len-rows.result + c.len-2.result in
    c.in-Ok.ensures.items
    ∙ ap (λ xs. xs ++ replicate (longer - vec_len c.self.inside.next_states) blank)
    (take_all longer old (omega (arith, count, len)))
    ∙ ap (λ n. old ++ replicate n blank) (omega (arith, count, len, more))

pub invariant_of-self-in-Ok-push : goal.invariant_of-self-in-Ok-push
invariant_of-self-in-Ok-push c =
    let i = c.self.inside in
    let v = c.self.invariant in
    let n = classes_in i.classes in
    let items = c.in-Ok-push.ensures.items in
    let count : vec_len i.ways ≡ length i.ways.items = search rules in
    let len = c.len-self-inside.ensures in
    let own = c.len.ensures in
    let s : StoredState = record {
      from = i.used;
      len = c.len.result - i.used;
      searching = c.args.searching;
      restarts = c.args.restarts;
      before = c.args.before;
      match_flag = c.args.match_flag;
    } in
    let all = rows (goal.at.invariant_of-self-in-Ok-push c).In-Ok in
    let states = ap length items ∙ length-append i.states.items (s ∷ []) in
    let next : length c.push.new.self.items ≡ suc (length i.states.items) =
    omega (arith, states) in
    let few = c.requires in
    let view = ap (λ (z : Automaton). length z.states) c.self.view_is in
    let there = length_states i.states.items i.ways.items n i.next_states.items in (
      subst (LieWithin c.len-self-inside.result) (sym items)
          (within_added i.states.items i.used c.len-self-inside.result s v.0
          (let fits = v.1 in omega (arith, fits, count, len)) refl
          (omega (arith, len, own))),
      omega (arith, count, len),
      omega (arith, next, few, view, there),
      subst (λ next_states. AllAgree c.push.new.self.items n next_states) (sym all)
          (subst
          (λ states. AllAgree states n (i.next_states.items ++ replicate n blank)) (sym items)
          (agree_added i.states.items (s ∷ []) i.next_states.items n n blank refl refl refl v.3)),
      ap length all ∙ length-append i.next_states.items (replicate n blank)
          ∙ (let full = v.4 in
          let more = length-replicate n blank in
          let own = suc-mul (length i.states.items) n in omega (arith, full, more, own))
          ∙ ap (λ k. k * n) (sym next),
      v.5,
      v.6,
    )

abbrev new_state : After-len-self-inside → State
new_state c = record {
  ways = c.args.self.now.pending;
  searching = c.args.searching;
  before = c.args.before;
  match_flag = match_flag_in c.args.match_flag;
  restarts = c.args.restarts;
  next = map number_of
      (replicate (classes_in c.self.inside.classes) blank);
}

added : (c : After-len-self-inside) →
    c.resize.new.self.items
    ≡ c.self.inside.next_states.items ++ replicate (classes_in c.self.inside.classes) blank →
    seen c.self.inside.classes c.self.inside.reach c.push.new.self.items c.resize.new.self.items
    c.len-self-inside.result c.self.inside.ways.items
    ≡ record c.args.self.now {
      states = c.args.self.now.states ++ new_state c ∷ [];
      pending = [];
    }
added c all =
    let i = c.self.inside in
    let v = c.self.invariant in
    let n = classes_in i.classes in
    let count : vec_len i.ways ≡ length i.ways.items = search rules in
    ap (λ k. seen i.classes i.reach c.push.new.self.items c.resize.new.self.items k i.ways.items)
    (c.len-self-inside.ensures ∙ count)
    ∙ seen_added i.classes i.reach i.states.items i.next_states.items i.used i.ways.items v.0 v.1 _
    refl (ap (λ k. k - i.used) (c.len.ensures ∙ count)) c.push.new.self.items
    c.in-Ok-push.ensures.items c.resize.new.self.items (replicate n blank) all v.4
    (length-replicate n blank)
    ∙ ap (λ (z : Automaton). record z {
      states = z.states ++ record (new_state c) { ways = z.pending } ∷ [];
      pending = [];
    }) c.self.view_is

pub returns-in-Ok-push-clause-state : goal.returns-in-Ok-push-clause-state
returns-in-Ok-push-clause-state c = λ reported.
    let at = goal.at.returns-in-Ok-push-clause-state c in
    added_is c.args.self.now _ _ (added at.After-len-self-inside (rows at.In-Ok))

pub returns-in-Ok-push-clause-extends : goal.returns-in-Ok-push-clause-extends
returns-in-Ok-push-clause-extends c =
    let at = goal.at.returns-in-Ok-push-clause-extends c in
    added_extends c.args.self.now _ _ (added at.After-len-self-inside (rows at.In-Ok)) refl
    (λ class lt. blank_row (classes_in c.self.inside.classes) class blank refl
    (subst (λ (z : Automaton). class < classes_in z.intervals) (sym c.self.view_is) lt))

pub returns-in-Ok-push-clause-none_pending : goal.returns-in-Ok-push-clause-none_pending
returns-in-Ok-push-clause-none_pending c = λ reported.
    let ways = c.self.inside.ways.items in
    let count : vec_len c.self.inside.ways ≡ length ways = search rules in
    ap (λ n. map way_in (drop n ways)) (c.len-self-inside.ensures ∙ count)
    ∙ ap (map way_in) (drop-length ways)

-- without the state there are the rows that there were
next_states_left : (c : After-truncate) →
    c.resize.new.self.items
    ≡ c.self.inside.next_states.items ++ replicate (classes_in c.self.inside.classes) blank →
    c.truncate.new.self.items ≡ c.self.inside.next_states.items
next_states_left c all =
    let old = c.self.inside.next_states.items in
    let count : vec_len c.self.inside.next_states ≡ length old = search rules in
    let len = c.len-rows.ensures in
    let n = c.len-rows.result in
    c.truncate.ensures.items ∙ ap (take n) all
    ∙ take-append-le n old (replicate (classes_in c.self.inside.classes) blank)
    (omega (arith, count, len))
    ∙ take_all n old (omega (arith, count, len))

pub invariant_of-self-in-Err : goal.invariant_of-self-in-Err
invariant_of-self-in-Err c =
    let i = c.self.inside in
    let v = c.self.invariant in
    let states = c.in-Err.ensures.items in
    let at = goal.at.invariant_of-self-in-Err c in
    let next_states = next_states_left at.After-truncate (rows at.In-Ok) in (
      subst (LieWithin i.used) (sym states) v.0,
      v.1,
      subst (λ (all : List StoredState). length all ≤ 256) (sym states) v.2,
      subst (AllAgree c.push.new.self.items (classes_in i.classes)) (sym next_states)
          (subst (λ all. AllAgree all (classes_in i.classes) i.next_states.items) (sym states) v.3),
      ap length next_states ∙ v.4
          ∙ ap (λ (all : List StoredState). length all * classes_in i.classes) (sym states),
      v.5,
      v.6,
    )

pub returns-in-Err-clause-extends : goal.returns-in-Err-clause-extends
returns-in-Err-clause-extends c =
    let i = c.self.inside in
    let at = goal.at.returns-in-Err-clause-extends c in
    let same : seen i.classes i.reach c.push.new.self.items c.truncate.new.self.items i.used
    i.ways.items
    ≡ c.args.self.now =
    ap (λ all. seen i.classes i.reach all c.truncate.new.self.items i.used i.ways.items)
    c.in-Err.ensures.items
    ∙ ap (λ all. seen i.classes i.reach i.states.items all i.used i.ways.items)
    (next_states_left at.After-truncate (rows at.In-Ok))
    ∙ c.self.view_is in
    extends_same c.args.self.now _ (ap (λ (z : Automaton). z.intervals) same)
    (ap (λ (z : Automaton). z.reach) same) (ap (λ (z : Automaton). z.states) same)

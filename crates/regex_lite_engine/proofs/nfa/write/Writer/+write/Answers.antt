use Rattle.regex_lite_engine.proofs.Common.{◌≡◌, ◌+◌, ◌*◌, map, length, sym, ap, ◌∙◌, subst, arith}
use Rattle.regex_lite_engine.proofs.Common.{rules, length-map, [], trees, ◌∷◌, nullable, tree_of}
use Rattle.regex_lite_engine.proofs.Common.{own_places, places, place_of, IsAdded, layout, ◌<◌, ◌^◌}
use Rattle.regex_lite_engine.proofs.Common.{◌-◌, drop, places_in, greatest_index, greatest_index_in}
use Rattle.regex_lite_engine.proofs.Common.{Trees, ℕ, ◌≤◌, None, mul-le-mul_right, copies_layout}
use Rattle.regex_lite_engine.proofs.Common.{chain_layout, branches_layout, true, false, suc, ◌++◌}
use Rattle.regex_lite_engine.proofs.Common.{append-nil, more, refl, go_marking, with_arrows}
use Rattle.regex_lite_engine.proofs.nfa.write.AddedLemmas.{before_rest, between_written}
use Rattle.regex_lite_engine.proofs.nfa.write.AddedLemmas.{place_added}
use Rattle.regex_lite_syntax.proofs.TreeLemmas.{trees_of, trees_more}
use Rattle.std.proofs.lemmas.List.{drop_all}
use Rattle.regex_lite_syntax.proofs.hir.Hir.TheLaws.{the_size}
use denote.Param.Weighed.{at_most}
use Rattle.std.proofs.Common.{Result, Ok, Err, IfOk}
use Rattle.std.proofs.lemmas.Grind.{common_steps}
use Rattle.regex_lite_engine.proofs.nfa.write.CapacityLemmas.{endless_room, star_room}
use Rattle.regex_lite_engine.proofs.nfa.write.WrittenOverLemmas.{loop_written}
use Rattle.regex_lite_syntax.proofs.LeafLemmas.{tree_is-Empty, tree_is-Char, tree_is-Class}
use Rattle.regex_lite_syntax.proofs.LeafLemmas.{tree_is-Look, tree_is-Capture, tree_is-Repetition}
use Rattle.regex_lite_syntax.proofs.LeafLemmas.{tree_is-Concat, tree_is-Alternation}
use Rattle.regex_lite_engine.proofs.nfa.write.OnePlaceLemmas.{one_written, written_same}
use Rattle.regex_lite_engine.proofs.nfa.write.Writer.+write.Goals as goal

pub write-returns-in-Repetition : goal.write-returns-in-Repetition
write-returns-in-Repetition t c =
    written_same c.write_repetition.result c.args.self.now c.write_repetition.new.self c.args.exit
    (tree_is-Repetition c.in-Repetition.is c.deref.ensures) c.write_repetition.ensures

pub write-returns-in-Concat : goal.write-returns-in-Concat
write-returns-in-Concat t c =
    written_same c.write_concat.result c.args.self.now c.write_concat.new.self c.args.exit
    (tree_is-Concat _ c.in-Concat.is c.deref-in-Concat.ensures.value) c.write_concat.ensures

pub write-returns-in-Alternation : goal.write-returns-in-Alternation
write-returns-in-Alternation t c =
    written_same c.write_alternation.result c.args.self.now c.write_alternation.new.self c.args.exit
    (tree_is-Alternation _ c.in-Alternation.is c.deref-in-Alternation.ensures.value)
    c.write_alternation.ensures

pub write-add_empty-requires : goal.write-add_empty-requires
write-add_empty-requires t c =
    omega (arith, c.requires.room, ap places (tree_is-Empty c.in-Empty.is))

pub write-returns-in-Empty : goal.write-returns-in-Empty
write-returns-in-Empty t c =
    one_written c.add_empty.result c.args.self.now c.add_empty.new.self c.args.exit _
    (tree_is-Empty c.in-Empty.is) refl refl c.add_empty.ensures

pub write-add_char-requires : goal.write-add_char-requires
write-add_char-requires t c =
    omega (arith, c.requires.room, ap places (tree_is-Char c.in-Char.is))

pub write-returns-in-Char : goal.write-returns-in-Char
write-returns-in-Char t c =
    one_written c.add_char.result c.args.self.now c.add_char.new.self c.args.exit _
    (tree_is-Char c.in-Char.is) refl refl c.add_char.ensures

pub write-add_class-requires : goal.write-add_class-requires
write-add_class-requires t c =
    omega (arith, c.requires.room, ap places (tree_is-Class c.in-Class.is refl))

pub write-returns-in-Class : goal.write-returns-in-Class
write-returns-in-Class t c =
    one_written c.add_class.result c.args.self.now c.add_class.new.self c.args.exit _
    (tree_is-Class c.in-Class.is refl) refl refl c.add_class.ensures

pub write-add_look-requires : goal.write-add_look-requires
write-add_look-requires t c =
    omega (arith, c.requires.room, ap places (tree_is-Look c.in-Look.is))

pub write-returns-in-Look : goal.write-returns-in-Look
write-returns-in-Look t c =
    one_written c.add_look.result c.args.self.now c.add_look.new.self c.args.exit _
    (tree_is-Look c.in-Look.is) refl refl c.add_look.ensures

pub write-returns-in-Capture : goal.write-returns-in-Capture
write-returns-in-Capture t c =
    written_same c.write_group.result c.args.self.now c.write_group.new.self c.args.exit
    (tree_is-Capture c.in-Capture.is c.deref-in-Capture.ensures) c.write_group.ensures

pub write_repetition-write_loop-requires : goal.write_repetition-write_loop-requires
write_repetition-write_loop-requires t c =
    let body = tree_of c.args.body.now in
    let room =
    endless_room c.args.least (places body) (nullable body) c.in-None.is (search rules) in
    (search rules, (omega (arith, room, c.requires.room), c.requires.slots))

pub write_loop-returns : goal.write_loop-returns
write_loop-returns t c =
    let old = c.args.self.now in
    let body = layout (tree_of c.args.body.now) in
    let choice = c.in_ok-choice in
    let inner = c.in_ok-inner in
    record {
      choice = choice.ensures.number;
      body =
          inner.ensures.written.0
          ∙ ap (λ k. (body k choice.choice).1) choice.ensures.grown
          ∙ ap (λ k. (body (length old + 1) k).1) choice.ensures.number;
      written =
          loop_written c.args.greedy body (map place_of old) (map place_of c.add_empty.new.self)
          (map place_of c.write.new.self) (map place_of c.put_choice.new.self) _ (length old)
          choice.choice (length c.add_empty.new.self) inner.inner c.args.exit
          (sym (length-map old place_of)) choice.ensures.number choice.ensures.grown
          choice.ensures.added inner.ensures.written.0 inner.ensures.written.1
          c.put_choice.ensures.put;
      grown =
          omega (arith, c.put_choice.ensures.length, inner.ensures.grown, choice.ensures.grown);
    }

pub write_concat-write-requires : goal.write_concat-write-requires
write_concat-write-requires t c =
    let v = c.loop-i.invariant in
    let part = c.part_at.result.now in
    let deep = at_most the_size c.args.parts.now (c.loop-i.i - 1) part (omega arith) in
    let same = ap the_size c.part_at.ensures.part in
    let later : c.loop-i.i - 1 + 1 ≡ c.loop-i.i = omega (arith, c.loop-i-test.true) in
    let left = ap (λ i. places_in (trees (map tree_of (drop i c.args.parts.now)))) later in
    let room : length c.loop-i.self + places (tree_of part) < 2 ^ 32 =
    omega (arith, c.requires.room, c.part_at.ensures.room, v.grown, left) in
    let slots : greatest_index (tree_of part) < 2 ^ 31 =
    omega (arith, c.requires.slots, c.part_at.ensures.slots) in
    (omega (arith, c.decreases, deep, same), (room, slots))

pub write_branches-write-requires : goal.write_branches-write-requires
write_branches-write-requires t c =
    let v = c.loop-branch.invariant in
    let branches = c.args.branches.now in
    let k = c.loop-branch.branch-index in
    let branch = c.branch-item.result in
    let deep = at_most the_size branches k branch c.loop-branch-test.true in
    let same = ap the_size c.branch-item.is in
    let one = trees_more branches k branch c.loop-branch-test.true c.branch-item.is in
    let room : length c.loop-branch.self + places (tree_of branch) < 2 ^ 32 =
    omega (arith, c.requires.room, v.grown, ap places_in one) in
    let slots : greatest_index (tree_of branch) < 2 ^ 31 =
    (let index = subst (λ (left : Trees). greatest_index_in left < 2 ^ 31) one v.slots in
    omega (arith, index)) in
    (omega (arith, c.decreases, deep, same), (room, slots))

-- the table has as many places as this, where they are as many as that
if_same : {E : Type 0} (result : Result ℕ E) (n a b : ℕ) → a ≡ b → IfOk result (λ _. n ≡ a)
    → IfOk result (λ _. n ≡ b)
if_same (Ok number) n a b same is = is ∙ same
if_same (Err e) n a b same is = tt

pub write_alternation-add-requires : goal.write_alternation-add-requires
write_alternation-add-requires t c =
    omega (arith, c.in_ok-entries.ensures.grown, c.in_ok-join.ensures.grown, c.requires.room)

pub write_alternation-add_empty-requires : goal.write_alternation-add_empty-requires
write_alternation-add_empty-requires t c = omega (arith, c.requires.room)

pub write_alternation-write_branches-requires : goal.write_alternation-write_branches-requires
write_alternation-write_branches-requires t c =
    (search rules, (omega (arith, c.in_ok-join.ensures.grown, c.requires.room), c.requires.slots))

pub write_alternation-returns-clause-grown : goal.write_alternation-returns-clause-grown
write_alternation-returns-clause-grown t c =
    if_same c.add.result (length c.add.new.self) (length c.write_branches.new.self + 1) _
    (omega (arith, c.in_ok-entries.ensures.grown, c.in_ok-join.ensures.grown))
    (place_added c.add.result c.write_branches.new.self c.add.new.self _ refl c.add.ensures).grown

pub write_choices-write-requires : goal.write_choices-write-requires
write_choices-write-requires t c =
    let next : c.loop-i._i + 1 ≤ c.args.count = omega (arith, c.loop-i-test.true) in
    let more = mul-le-mul_right (places (tree_of c.args.body.now) + 1) next in
    let grown = c.loop-i.invariant.grown in
    (search rules, (omega (arith, more, grown, c.requires.room), c.requires.slots))

pub write_choices-add_choice-requires : goal.write_choices-add_choice-requires
write_choices-add_choice-requires t c =
    let next : c.loop-i._i + 1 ≤ c.args.count = omega (arith, c.loop-i-test.true) in
    let more = mul-le-mul_right (places (tree_of c.args.body.now) + 1) next in
    let grown = c.loop-i.invariant.grown in
    omega (arith, more, grown, c.in_ok-inner.ensures.grown, c.requires.room)

pub write_choices-returns : goal.write_choices-returns
write_choices-returns t c =
    let all : c.loop-i._i ≡ c.args.count =
    omega (arith, c.loop-i.auto._i-end, c.loop-i-test.false) in
    rw all at c.loop-i.invariant

pub write_copies-write-requires : goal.write_copies-write-requires
write_copies-write-requires t c =
    let next : c.loop-i._i + 1 ≤ c.args.count = omega (arith, c.loop-i-test.true) in
    let more = mul-le-mul_right (places (tree_of c.args.body.now)) next in
    let grown = c.loop-i.invariant.grown in
    (search rules, (omega (arith, more, grown, c.requires.room), c.requires.slots))

pub write_copies-returns : goal.write_copies-returns
write_copies-returns t c =
    let all : c.loop-i._i ≡ c.args.count =
    omega (arith, c.loop-i.auto._i-end, c.loop-i-test.false) in
    rw all at c.loop-i.invariant

pub write_concat-returns : goal.write_concat-returns
write_concat-returns t c =
    let first : c.loop-i.i ≡ 0 = omega (arith, c.loop-i-test.false) in
    rw first at c.loop-i.invariant

pub write_group-write-requires : goal.write_group-write-requires
write_group-write-requires t c =
    (search rules, (omega (arith, c.in_ok-close.ensures.grown, c.requires.room), c.requires.slots))

pub write_group-open_group-requires-clause-room : goal.write_group-open_group-requires-clause-room
write_group-open_group-requires-clause-room t c =
    omega (arith, c.in_ok-close.ensures.grown, c.in_ok-inner.ensures.grown, c.requires.room)

pub write_loop-put_choice-requires : goal.write_loop-put_choice-requires
write_loop-put_choice-requires t c =
    let choice = c.in_ok-choice.ensures in
    omega (arith, choice.number, choice.grown, c.in_ok-inner.ensures.grown)

pub write_loop-write-requires : goal.write_loop-write-requires
write_loop-write-requires t c =
    (search rules, (omega (arith, c.in_ok-choice.ensures.grown, c.requires.room), c.requires.slots))

pub write_repetition-write_star-requires : goal.write_repetition-write_star-requires
write_repetition-write_star-requires t c =
    let body = tree_of c.args.body.now in
    let none : c.args.least ≡ 0 = omega (arith, c.if-least-gt0.false) in
    let room = star_room (places body) (nullable body) none c.in-None.is in
    (search rules, (omega (arith, room, c.requires.room), c.requires.slots))

pub write_repetition-returns-in-None-2 : goal.write_repetition-returns-in-None-2
write_repetition-returns-in-None-2 t c =
    let body = tree_of c.args.body.now in
    let none : c.args.least ≡ 0 = omega (arith, c.if-least-gt0.false) in
    let own = places body + own_places 0 None (nullable body) in
    record {
      written = rw (c.in-None.is, none) c.write_star.ensures.written;
      grown =
          if_same c.write_star.result (length c.write_star.new.self)
          (length c.args.self.now + own) _
          (ap (λ k. length c.args.self.now + k)
          (sym (star_room (places body) (nullable body) none c.in-None.is)))
          c.write_star.ensures.grown;
    }

pub write_repetition-write_copies-requires : goal.write_repetition-write_copies-requires
write_repetition-write_copies-requires t c =
    let body = tree_of c.args.body.now in
    let room =
    endless_room c.args.least (places body) (nullable body) c.in-None.is (search rules) in
    let grown = c.in_ok-inner-in-None.ensures.grown in
    (search rules, (omega (arith, room, grown, c.requires.room), c.requires.slots))

pub write_repetition-returns-in_ok-inner-in-None : goal.write_repetition-returns-in_ok-inner-in-None
write_repetition-returns-in_ok-inner-in-None t c = record {
  grown =
      let body = tree_of c.args.body.now in
      let room =
      endless_room c.args.least (places body) (nullable body) c.in-None.is (search rules) in
      if_same c.write_copies.result (length c.write_copies.new.self)
      (length c.write_loop.new.self + (c.args.least - 1) * places body) _
      (omega (arith, room, c.in_ok-inner-in-None.ensures.grown)) c.write_copies.ensures.grown;
  written = grind (arith, common_steps);
}

pub write_star-write_loop-requires : goal.write_star-write_loop-requires
write_star-write_loop-requires t c =
    let known : nullable (tree_of c.args.body.now) ≡ false = cc in
    let own = ap (λ b. own_places 0 None b) known in
    (search rules, (omega (arith, own, c.requires.room), c.requires.slots))

pub write_star-add_empty-requires : goal.write_star-add_empty-requires
write_star-add_empty-requires t c =
    let known : nullable (tree_of c.args.body.now) ≡ true = cc in
    let own = ap (λ b. own_places 0 None b) known in
    omega (arith, own, c.requires.room)

pub write_star-write_loop-requires-2 : goal.write_star-write_loop-requires-2
write_star-write_loop-requires-2 t c =
    let known : nullable (tree_of c.args.body.now) ≡ true = cc in
    let own = ap (λ b. own_places 0 None b) known in
    let grown = c.in_ok-join.ensures.grown in
    (search rules, (omega (arith, own, grown, c.requires.room), c.requires.slots))

pub write_star-add_choice-requires : goal.write_star-add_choice-requires
write_star-add_choice-requires t c =
    let known : nullable (tree_of c.args.body.now) ≡ true = cc in
    let own = ap (λ b. own_places 0 None b) known in
    let grown = c.in_ok-inner.ensures.grown in
    omega (arith, own, grown, c.in_ok-join.ensures.grown, c.requires.room)

pub write_star-returns-clause-grown : goal.write_star-returns-clause-grown
write_star-returns-clause-grown t c =
    let known : nullable (tree_of c.args.body.now) ≡ true = cc in
    let own = ap (λ b. own_places 0 None b) known in
    if_same c.add_choice.result (length c.add_choice.new.self)
    (length c.write_loop-2.new.self + 1) _
    (omega (arith, own, c.in_ok-inner.ensures.grown, c.in_ok-join.ensures.grown))
    c.add_choice.ensures.grown

pub write_bounded-write_copies-requires : goal.write_bounded-write_copies-requires
write_bounded-write_copies-requires t c =
    let kept : c.args.least + (c.args.most - c.args.least) ≡ c.args.least =
    omega (arith, c.if-most-least.true) in
    let same = ap (λ n. n * places (tree_of c.args.body.now)) kept in
    (search rules, (omega (arith, same, c.requires.room), c.requires.slots))

pub write_copies-loop-i-preserved : goal.write_copies-loop-i-preserved
write_copies-loop-i-preserved t c =
    let v = c.loop-i.invariant in
    let old = c.args.self.now in
    let body = layout (tree_of c.args.body.now) in
    let now = c.loop-i.self in
    let one : c.loop-i._i + 1 ≡ suc c.loop-i._i = omega arith in
    record {
      written =
          subst (λ n. IsAdded (map place_of old) (map place_of c.write.new.self) c.in_ok-next.next
          (copies_layout body n (length old) c.args.exit)) (sym one)
          (before_rest body (map place_of old) (map place_of now) (map place_of c.write.new.self)
          (copies_layout body c.loop-i._i (length old) c.args.exit) (length old) (length now)
          c.loop-i.next c.in_ok-next.next (sym (length-map old place_of))
          (sym (length-map now place_of)) v.written c.in_ok-next.ensures.written);
      grown = omega (arith, v.grown, c.in_ok-next.ensures.grown);
    }

pub write_concat-loop-i-init : goal.write_concat-loop-i-init
write_concat-loop-i-init t c =
    let parts = c.args.parts.now in
    let old = c.args.self.now in
    let none_left = ap trees_of (drop_all (length parts) parts (omega arith)) in
    record {
      written =
          subst (λ left. IsAdded (map place_of old) (map place_of old) c.args.exit
          (chain_layout left (length old) c.args.exit)) (sym none_left)
          (refl, sym (append-nil (map place_of old)));
      grown = omega (arith, ap places_in none_left);
    }

pub write_concat-loop-i-preserved : goal.write_concat-loop-i-preserved
write_concat-loop-i-preserved t c =
    let v = c.loop-i.invariant in
    let parts = c.args.parts.now in
    let old = c.args.self.now in
    let now = c.loop-i.self in
    let part = c.part_at.result.now in
    let later : c.loop-i.i - 1 + 1 ≡ c.loop-i.i = omega (arith, c.loop-i-test.true) in
    let one = trees_more parts (c.loop-i.i - 1) part (omega arith) c.part_at.ensures.part
    ∙ ap (λ i. more (tree_of part) (trees_of (drop i parts))) later in
    let rest = chain_layout (trees_of (drop c.loop-i.i parts)) (length old) c.args.exit in
    record {
      written =
          subst (λ left. IsAdded (map place_of old) (map place_of c.write.new.self)
          c.in_ok-next.next (chain_layout left (length old) c.args.exit)) (sym one)
          (before_rest (layout (tree_of part)) (map place_of old) (map place_of now)
          (map place_of c.write.new.self) rest (length old) (length now) c.loop-i.next
          c.in_ok-next.next (sym (length-map old place_of)) (sym (length-map now place_of))
          v.written c.in_ok-next.ensures.written);
      grown = omega (arith, v.grown, c.in_ok-next.ensures.grown, ap places_in one);
    }

pub write_branches-returns : goal.write_branches-returns
write_branches-returns t c =
    let now = c.loop-branch.self in
    let entries = c.loop-branch.entries.items in
    let v = c.loop-branch.invariant in
    let none_left = ap trees_of (drop_all c.loop-branch.branch-index c.args.branches.now
    (omega (arith, c.loop-branch-test.false))) in
    record {
      written =
          sym (append-nil (map place_of now))
          ∙ ap (λ left. map place_of now ++ (branches_layout left (length now) c.args.join).0)
          (sym none_left) ∙ v.written;
      entries =
          sym (append-nil entries)
          ∙ ap (λ left. entries ++ (branches_layout left (length now) c.args.join).1)
          (sym none_left) ∙ v.entered;
      grown = omega (arith, v.grown, ap places_in none_left);
    }

pub write_group-returns : goal.write_group-returns
write_group-returns t c =
    let a = c.args in
    let old = a.self.now in
    let whole = c.write.new.self in
    let close = c.in_ok-close in
    let inner = c.in_ok-inner in
    record {
      written =
          between_written c.open_group.result (layout (tree_of a.body.now))
          (with_arrows (go_marking (2 * a.index + 1) a.exit ∷ []))
          (λ k. with_arrows (go_marking (2 * a.index) k ∷ [])) (map place_of old)
          (map place_of c.close_group.new.self) (map place_of whole)
          (map place_of c.open_group.new.self) (length old) close.close
          (length c.close_group.new.self) inner.inner (length whole)
          (sym (length-map old place_of)) close.ensures.number close.ensures.grown
          close.ensures.added inner.ensures.written (sym (length-map whole place_of))
          c.open_group.ensures.number c.open_group.ensures.added;
      grown =
          if_same c.open_group.result (length c.open_group.new.self) (length whole + 1) _
          (omega (arith, close.ensures.grown, inner.ensures.grown)) c.open_group.ensures.grown;
    }

-- The goals from here on need no lemma of their own. They have answers because the prover would
-- try other calls first, which takes long
pub write_bounded-returns-then-least-eq0 : goal.write_bounded-returns-then-least-eq0
write_bounded-returns-then-least-eq0 t c =
    record { written = grind (arith, common_steps); grown = grind (arith, common_steps) }

pub write_bounded-write_choices-requires : goal.write_bounded-write_choices-requires
write_bounded-write_choices-requires t c = grind (arith, common_steps)

pub write_bounded-write_copies-requires-then-least-gt0 :
    goal.write_bounded-write_copies-requires-then-least-gt0
write_bounded-write_copies-requires-then-least-gt0 t c = grind (arith, common_steps)

pub write_bounded-returns-then-least-gt0 : goal.write_bounded-returns-then-least-gt0
write_bounded-returns-then-least-gt0 t c =
    record { written = grind (arith, common_steps); grown = grind (arith, common_steps) }

pub write_bounded-returns-then-most-eq1 : goal.write_bounded-returns-then-most-eq1
write_bounded-returns-then-most-eq1 t c =
    record { written = grind (arith, common_steps); grown = grind (arith, common_steps) }

pub write_bounded-returns-else-most-eq1 : goal.write_bounded-returns-else-most-eq1
write_bounded-returns-else-most-eq1 t c =
    record { written = grind (arith, common_steps); grown = grind (arith, common_steps) }

pub write_choices-loop-i-preserved : goal.write_choices-loop-i-preserved
write_choices-loop-i-preserved t c = grind (arith, common_steps)

pub write_star-returns-clause-written : goal.write_star-returns-clause-written
write_star-returns-clause-written t c = grind (arith, common_steps)

pub write_alternation-returns-clause-written : goal.write_alternation-returns-clause-written
write_alternation-returns-clause-written t c = grind (arith, common_steps)

pub write_branches-loop-branch-preserved : goal.write_branches-loop-branch-preserved
write_branches-loop-branch-preserved t c = grind (arith, common_steps)

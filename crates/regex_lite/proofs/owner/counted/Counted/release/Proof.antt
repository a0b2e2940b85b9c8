-- `release` is one owner less, and the last one has the block back. A full count stays full.
use Rattle.regex_lite.proofs.Common.{Some, None, sym, refl, ap, ◌∙◌, subst, arith, lit<, cell, word}
use Rattle.regex_lite.proofs.Common.{word-Good, handle_tells, flft, ftok, ftrue, SProp, every, ◌⊑◌}
use Rattle.regex_lite.proofs.Common.{fact, no, yes, layout, layouts, param, RattleType, owns, Ptr}
use Rattle.regex_lite.proofs.Common.{block_ptr, ptr_val, plain, types_at, Goes-dropped, Stays}
use Rattle.regex_lite.proofs.Common.{ends_at, says, stay_dropped, walk_of, inst_fn, Sym, a_type}
use Rattle.regex_lite.proofs.Common.{Val, vcons, vnil, vptr, Env, WpFn, alloc_all, env, free_all}
use Rattle.regex_lite.proofs.Common.{get, get_in, look_at, pass_all, sets, through, !, at_ret}
use Rattle.regex_lite.proofs.Common.{await, done, fjoin, frame, fsplit, group, join, keep, later}
use Rattle.regex_lite.proofs.Common.{move, qed, raw, rewrite, split, suffices, use0, use1, ‵, ◌$◌}
use Rattle.regex_lite.proofs.Common.{◌∵◌, ◌⊛◌, agg, sub, and_then, blocks, enter, exec, first, fld}
use Rattle.regex_lite.proofs.Common.{no_more, of_opd, returns, stop}
use mathlib.Core.Path.{◌≡◌}
use mathlib.Core.Bool.{true}
use Prim.Native.Nat.{ℕ, ◌-◌, ◌<◌, ◌^◌}
use seplogic.Ra.Ura.{Ura}
use mir.Syntax.{Fn}
use prog.Model.{Model}
use prog.Wp.{Calls, Loops, Wp, after_block, after_seq, at_return}
use contract.Running.{Running}
use types.Logic.{Logic}
use types.Kit.{any_q}
use types.Run.{look, store, load, lit, neg_lit, bin, assigns, skips, branches, returns_within}
use types.Part.{whole}
use types.Match.{live}
use types.ByLocal.{is}
use denote.Steps.{nothing}
use denote.Triple.Clauses.{Clauses}
use denote.Triple.Statement.{Contract}
use mathlib.Core.List.{List, [], ◌∷◌}
use Rattle.std.specs.contracts.option.Option as Opt
use types.RcWeak.{part, part_in}
use Rattle.std.specs.contracts.alloc.Global as Heap
use Rattle.std.specs.contracts.impls.GlobalAllocator.TheImpl as HeapImpl
use Rattle.std.proofs.alloc.Global.TheLaws as HeapLaws
use Rattle.std.proofs.VecSteps.Shapes.{after, head, inside}
use Rattle.std.proofs.RcSteps.{some_Good, is_not, is_so, Some-of, none_of}
use Rattle.regex_lite.proofs.PointerLemmas.{run_with}
use Rattle.regex_lite.proofs.UnboxedLemmas.{Unboxed, both, both_good, handle, owned_at}
use Rattle.regex_lite.proofs.UnboxedLemmas.{unboxed_made}
use Rattle.regex_lite.proofs.owner.CountLemmas.{value, opens, shuts, less}
use Rattle.regex_lite.proofs.owner.CountLemmas.{counted, says_n, handle_had}
use Rattle.regex_lite.proofs.owner.BlockLemmas.{ends_at_ptr}
use Rattle.regex_lite.proofs.owner.HandedLemmas.{held, inner, handed_at}
use Rattle.regex_lite.specs.contracts.owner.counted.Block as Block
use Rattle.regex_lite.specs.contracts.owner.counted.Counted as C
use Rattle.regex_lite.specs.contracts.owner.counted.Counted.release as F
use Rattle.regex_lite.specs.contracts.owner.counted.Counted.release.Key.{name as #self}
use Rattle.regex_lite.proofs.owner.counted.Counted.release.Statement as stated
use Rattle.regex_lite.proofs.owner.counted.Counted.release.Code as code
use Rattle.regex_lite.proofs.owner.counted.Counted.release.Code.{code}

-- What each step of the proof names. As definitions they stay names there, where a `let` would be
-- written out.
abbrev kept : (T : RattleType) → Stays (F.ended T).signature.params (F.ended T).kept
kept T = (
  stay_dropped (plain (λ _. C.the_row (param 0 T))) no,
  (stay_dropped (plain (λ _. Heap.the_row)) yes, tt),
)

abbrev function : RattleType → Fn
function T = inst_fn (layouts (a_type ∷ []) (T, tt)) code.function

module _ {M : Type 1} {𝓤 : Ura M} (𝓛 : Logic 𝓤) (𝓜 : Model 𝓤 𝓛.H) (𝓡 : Running 𝓤 𝓛.H 𝓜)
    (T : RattleType) where
  abbrev clauses : Clauses 𝓤 (F.ended T)
  clauses = F.clauses T 𝓛 𝓜.mem 𝓡.returns

  abbrev calls : Calls 𝓤 𝓛.H
  calls = (inner 𝓛 (F.ended T) (kept T) clauses 𝓜 𝓡).C

  abbrev loops : Loops 𝓤 𝓛.H
  loops = (inner 𝓛 (F.ended T) (kept T) clauses 𝓜 𝓡).Λ

  abbrev walk : Contract 𝓤
  walk = walk_of 𝓛 (F.ended T) (kept T) (held 𝓛 (F.ended T) (kept T) clauses)

pub release_spec : {M : Type 1} → stated.statement M
unfolding code
release_spec 𝓤 𝓛 𝓜 𝓡 wired T L =
    let H = 𝓛.H in
    let R : RattleType = param 0 T in
    let B : RattleType = Block.the_row R in
    let Z : RattleType = Heap.the_row in
    let al = handle B Z HeapLaws.the_row_laws HeapImpl.ghosts in
    let Out : RattleType = Unboxed B Z HeapLaws.the_row_laws HeapImpl.ghosts in
    let ν : Sym = (C.the_type R).name in
    let En = F.ended T in
    let cl = clauses 𝓛 𝓜 𝓡 T in
    let inst = layouts (a_type ∷ []) (T, tt) in
    let fn = function T in
    let hs = kept T in
    let 𝓒 = calls 𝓛 𝓜 𝓡 T in
    let Λ = loops 𝓛 𝓜 𝓡 T in
    handed_at 𝓛 En hs cl 𝓜 𝓡 (
      Goes-dropped 𝓛 1 (plain (λ _. C.the_row R)) no (λ κs x f. refl),
      (Goes-dropped 𝓛 1 (plain (λ _. Z)) yes (λ κs x f. refl), tt),
    ) (#self inst) fn (wired.0.0 (#self inst) refl) (λ z are.
    let c : Ptr = z.0.3.0.ptr in
    let x = z.0.3.0.value in
    let us = z.0.4.0 in
    let vs = z.0.4.1.0 in
    let Post : Val → SProp 𝓤 = (walk 𝓛 𝓜 𝓡 T).post z in
    let Run : List Val → SProp 𝓤 = λ ws. WpFn 𝓤 H 𝓒 Λ fn ws Post in
    qed 𝓛 (((‵ (flft z.0.0.0 z.0.1.0) ⊛ ‵ ftrue)
    ⊛ ‵ (owns (types_at En.signature.params z.0.0) z.0.3 z.0.4))
    ∷ ‵ (ftok every) ∷ raw (fact 𝓤 (z.0.0.0 ⊑ T.lives)) ∷ ‵ ftrue ∷ []) ∵
    split ! $ move ! (1 ∷ []) $ fsplit ! $ handle_had R c x ! ν us (λ a s one eu. move ! (3 ∷ []) $
    fsplit ! $ handle_tells al ! z.0.3.1.0 vs (λ h ev fits. keep ! (2 ∷ 3 ∷ 6 ∷ 0 ∷ 5 ∷ []) $
    suffices ! (Run (word c ∷ h ∷ [])) (run_with 𝓤 Run eu ev) $
    enter ! 𝓒 Λ fn (word c ∷ h ∷ []) Post $
    alloc_all ! (λ l. pass_all ! refl (word-Good ν c, (fits, tt)) $
    let Ev : Env 𝓤 H = env fn.locals l in
    move ! (1 ∷ 0 ∷ 2 ∷ []) $ opens R c x a ! tt s (λ n w cb co e fw some_n.
    move ! (4 ∷ []) $ use1 𝓛 (‵ (part 64 a.0)) (part_in 64 𝓛 a.0 s one) $
    move ! (1 ∷ 2 ∷ 3 ∷ 4 ∷ 0 ∷ 5 ∷ []) $
    -- [the word; what it says; the value; the weaks; the part; what shuts; the allocator; the
    -- tokens]
    sets !
    (is ! (of_opd ! (get_in ! (fld ! refl (stop !)) (sub ! 0 refl (whole !)))) (ap ptr_val e))
    refl (tt, tt) $ sets ! (of_opd ! (get ! refl)) refl (tt, tt) $ first ! $ blocks ! $
    sets ! (of_opd ! (load ! (through ! refl (fld ! refl (stop !))) (look ! 0 refl))) refl
    (tt, record { fits = fw }) $ sets ! (bin ! (get ! refl) (neg_lit ! tt) tt) refl (tt, tt) $
    first ! $ branches ! (get ! refl)
    (λ full. sets ! (agg ! (and_then ! (lit ! tt) (no_more !))) refl
    (tt, (record { fits = lit< tt }, tt)) $
    move ! (0 ∷ 1 ∷ 2 ∷ 3 ∷ 5 ∷ []) $ shuts R c x a ! tt n w cb co e fw $
    use0 𝓛 (‵ ((Opt.the_row Out).own_val None (live 0 vnil ∷ []))) (none_of 𝓛 Out) $
    returns_within ! Post refl (look_at ! 0 refl) $ free_all ! refl $ keep ! (0 ∷ 4 ∷ 1 ∷ []) $
    suffices ! _
    (ends_at 𝓛 En hs (held 𝓛 En hs cl) z (live 0 vnil) None (tt, (tt, tt)) (tt, (tt, tt))) $
    nothing ! $ nothing ! $ fjoin ! $ nothing ! $ fjoin ! $ join ! $ move ! (1 ∷ 0 ∷ []) $
    join ! $ frame ! $ says ! tt $ done !) (λ below. skips ! $
    exec ! 𝓒 Λ Ev (after 3 (inside (head (after 2 fn.body))))
    (any_q (after_block 𝓤 H (after_seq 𝓤 H
    (Wp 𝓤 H 𝓒 Λ Ev (after 3 fn.body) (at_return 𝓤 H Ev Post)) (at_return 𝓤 H Ev Post)))) $
    let low : w < 2 ^ 64 - 1 = omega (arith, is_not w (2 ^ 64 - 1) below) in
    move ! (1 ∷ []) $ counted R c x a ! n w low (λ wn _.
    -- [the word; the value; the weaks; the part; what shuts; the allocator; the tokens]
    sets ! (bin ! (get ! refl) (lit ! tt) tt) refl (tt, tt) $ branches ! (get ! refl)
    (λ many. let some_w : 0 < w = subst (λ (j : ℕ). 0 < j) (sym wn) some_n in
    let more : 1 < w = omega (arith, is_not w 1 many) in
    let f₁ : w - 1 < 2 ^ 64 = omega arith in
    move ! (1 ∷ []) $ rewrite ! 0 (λ (j : ℕ). ‵ (value R c x a true j)) (sym wn) refl $
    move ! (1 ∷ []) $
    sets ! (bin ! (get ! refl) (lit ! tt) some_w) refl (tt, record { fits = f₁ }) $
    assigns ! (of_opd ! (get ! refl)) (through ! refl (fld ! refl (stop !)))
    (store ! 0 refl (tt, record { fits = f₁ })) $
    sets ! (agg ! (and_then ! (lit ! tt) (no_more !))) refl (tt, (record { fits = lit< tt }, tt)) $
    move ! (1 ∷ 3 ∷ []) $ less R c x a ! w more $ says_n R c x a ! (w - 1) (omega arith) $
    move ! (2 ∷ 0 ∷ 1 ∷ 3 ∷ 4 ∷ []) $ shuts R c x a ! tt (w - 1) (w - 1) cb co e f₁ $
    use0 𝓛 (‵ ((Opt.the_row Out).own_val None (live 0 vnil ∷ []))) (none_of 𝓛 Out) $
    returns_within ! Post refl (look_at ! 0 refl) $ free_all ! refl $ keep ! (0 ∷ 3 ∷ 1 ∷ []) $
    suffices ! _
    (ends_at 𝓛 En hs (held 𝓛 En hs cl) z (live 0 vnil) None (tt, (tt, tt)) (tt, (tt, tt))) $
    nothing ! $ nothing ! $ fjoin ! $ nothing ! $ fjoin ! $ join ! $ move ! (1 ∷ 0 ∷ []) $
    join ! $ frame ! $ says ! tt $ done !)
    (λ last. skips ! $ exec ! 𝓒 Λ Ev (after 3 fn.body) (at_ret Ev Post) $
    let w1 : w ≡ 1 = is_so w 1 last in let n1 : n ≡ 1 = sym wn ∙ w1 in
    let block : B.Denot = record { count = 1; value = x } in
    let made : Out.Denot = record { ptr = block_ptr cb co; alloc = z.0.3.1.0; value = block } in
    let typed = both_good B Z HeapLaws.the_row_laws HeapImpl.ghosts cb co h fits in
    rewrite ! 0 (λ (j : ℕ). ‵ (cell cb co 0 j)) w1 refl $
    rewrite ! 1 (λ (j : ℕ). ‵ (value R c x a true j)) n1 refl $
    move ! (0 ∷ 1 ∷ 3 ∷ 2 ∷ 4 ∷ []) $ group ! 5 $
    use1 𝓛 (later (‵ (owned_at B Z HeapLaws.the_row_laws HeapImpl.ghosts z.0.3.1.0 block
    (block_ptr cb co)) ⊛ ‵ (ftok every))) (ends_at_ptr T L cb co x 𝓛 z.0.3.1.0 a c e) $
    await ! tt $ split ! $
    -- [the block and the right to free it; the thread's token; the allocator; the tokens]
    move ! (0 ∷ 2 ∷ []) $
    unboxed_made B Z HeapLaws.the_row_laws HeapImpl.ghosts ! cb co h z.0.3.1.0 block $
    sets ! (agg ! (and_then ! (get ! refl) (and_then ! (get ! refl) (no_more !)))) refl typed $
    sets ! (agg ! (and_then ! (lit ! tt) (and_then ! (get ! refl) (no_more !)))) refl
    (some_Good (layout Out) (both (vptr cb co) h) typed) $
    use1 𝓛 (‵ ((Opt.the_row Out).own_val (Some made)
    (live 1 (vcons (both (vptr cb co) h) vnil) ∷ []))) (Some-of 𝓛 Out made (both (vptr cb co) h)) $
    returns ! (look_at ! 0 refl) $ free_all ! refl $ keep ! (0 ∷ 2 ∷ 1 ∷ []) $ suffices ! _
    (ends_at 𝓛 En hs (held 𝓛 En hs cl) z (live 1 (vcons (both (vptr cb co) h) vnil))
    (Some made) (tt, (tt, tt)) (tt, (tt, tt))) $ nothing ! $ nothing ! $ fjoin ! $ nothing ! $
    fjoin ! $ join ! $ move ! (1 ∷ 0 ∷ []) $ join ! $ frame ! $ says ! refl $ done !))))))))

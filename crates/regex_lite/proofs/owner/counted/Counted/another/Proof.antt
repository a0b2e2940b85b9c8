-- `another` makes one more owner, or finds the count full, and then gives what a `&'static` holds.
use Rattle.regex_lite.proofs.Common.{Ok, Err, sym, refl, ap, arith, lit<, word, word-Good, word_ty}
use Rattle.regex_lite.proofs.Common.{Lft, Share, fex, fhide, flft, ftok, ftrue, SProp, id⊢, every}
use Rattle.regex_lite.proofs.Common.{RefOf, yes, hidden_shr, lone, hide, layouts, param, param_laws}
use Rattle.regex_lite.proofs.Common.{RattleType, owns, Ptr, ptr_val, plain, types_at, lent_at}
use Rattle.regex_lite.proofs.Common.{lent_at_shr_laws, Goes-dropped, Stays, ends_at, says}
use Rattle.regex_lite.proofs.Common.{stay_dropped, walk_of, inst_fn, Sym, a_type, Val, vcons, vnil}
use Rattle.regex_lite.proofs.Common.{vptr, align, up, Env, WpFn, alloc_all, env, free_all, get}
use Rattle.regex_lite.proofs.Common.{look_at, pass_all, sets, through, !, at_ret, await, done}
use Rattle.regex_lite.proofs.Common.{feq_i, feq_l, fjoin, fpack, fpick, frame, fsplit, join, keep}
use Rattle.regex_lite.proofs.Common.{later, move, qed, raw, rewrite, split, suffices, use1, use3, ‵}
use Rattle.regex_lite.proofs.Common.{◌$◌, ◌∵◌, ◌⊛◌, agg, look_in, sub, addr, and_then, blocks}
use Rattle.regex_lite.proofs.Common.{enter, exec, first, fld, no_more, of_opd, returns, stop, top}
use Rattle.regex_lite.proofs.Common.{stands_for, value_place, lends}
use mathlib.Core.Path.{◌≡◌}
use mathlib.Core.Bool.{Bool, true, false}
use Prim.Native.Nat.{ℕ, ◌+◌, ◌-◌, ◌<◌, ◌^◌}
use lib.Dec.{nleb→lt}
use prog.Wp.{Wp, after_block, after_seq, at_return}
use types.Kit.{any_q, drop}
use types.Run.{look, store, load, lit, neg_lit, bin, assigns, assigns_last, skips, branches}
use types.Run.{returns_within}
use types.Part.{whole}
use types.Match.{live}
use types.ByLocal.{is}
use denote.RawPtr.{◌+ₚ◌}
use denote.SharingLaws.{contraction}
use denote.Steps.{nothing}
use mathlib.Core.List.{List, [], ◌∷◌}
use denote.Signature.{type_at}
use Rattle.std.specs.contracts.result.Result as Res
use Rattle.std.proofs.VecSteps.Shapes.{after, head, inside}
use Rattle.std.proofs.RcSteps.{first_Good}
use Rattle.std.proofs.ResultValues.{ok_of, err_of}
use Rattle.regex_lite.proofs.PointerLemmas.{Word, run_with_one}
use Rattle.regex_lite.proofs.owner.CountLemmas.{lent, value, static, fills, lent_out, lent_back}
use Rattle.regex_lite.proofs.owner.CountLemmas.{opens, shuts, more, counted, says_n, handle_made}
use Rattle.regex_lite.proofs.owner.HandedLemmas.{held, inner, handed_at}
use Rattle.regex_lite.specs.contracts.owner.counted.Counted as C
use Rattle.regex_lite.specs.contracts.owner.counted.Counted.another as F
use Rattle.regex_lite.specs.contracts.owner.counted.Counted.another.Key.{name as #self}
use Rattle.regex_lite.proofs.owner.counted.Counted.another.Statement as stated
use Rattle.regex_lite.proofs.owner.counted.Counted.another.Code as code
use Rattle.regex_lite.proofs.owner.counted.Counted.another.Code.{code}

pub another_spec : {M : Type 1} → stated.statement M
unfolding code
another_spec 𝓤 𝓛 𝓜 𝓡 wired T L =
    let H = 𝓛.H in
    let R : RattleType = param 0 T in
    let ν : Sym = (C.the_type R).name in
    let value_at : ℕ = up (align (lone R.mir)) 8 in
    let En = F.ended T in
    let cl = F.clauses T 𝓛 𝓜.mem 𝓡.returns in
    let inst = layouts (a_type ∷ []) (T, tt) in
    let fn = inst_fn inst code.function in
    let Owner = RefOf (0 ∷ []) tt (plain (λ _. C.the_row R)) (λ _. tt) in
    let hs : Stays En.signature.params En.kept = (stay_dropped Owner yes, tt) in
    let 𝓣 = inner 𝓛 En hs cl 𝓜 𝓡 in
    handed_at 𝓛 En hs cl 𝓜 𝓡 (Goes-dropped 𝓛 2 Owner yes (λ κs x f. refl), tt) (#self inst) fn
    (wired.0.0 (#self inst) refl) (λ z are.
    let κ : Lft = z.0.0.0 in
    let q : Share = z.0.1.0 in
    let c : Ptr = z.0.3.0.now.ptr in
    let x = z.0.3.0.now.value in
    let b = z.0.3.0.ref_ptr.0 in
    let o = z.0.3.0.ref_ptr.1 in
    let us = vptr b o ∷ [] in
    let Ref : RattleType = type_at {n = 2} (RefOf [] tt (plain (λ _. R)) (λ _. tt)) z.0.0 in
    let Out : RattleType = C.the_row R in
    let Post : Val → SProp 𝓤 = (walk_of 𝓛 En hs (held 𝓛 En hs cl)).post z in
    let Run : List Val → SProp 𝓤 = λ ws. WpFn 𝓤 H 𝓣.C 𝓣.Λ fn ws Post in
    let asked = raw ((cl z.0.0 z.0.3).requires z.1) in
    qed 𝓛 (((‵ (flft κ q) ⊛ ‵ (flft z.0.0.1.0 z.0.1.1.0) ⊛ ‵ ftrue)
    ⊛ ‵ (owns (types_at En.signature.params z.0.0) z.0.3 z.0.4)) ∷ (‵ (ftok every) ⊛ asked) ∷ []) ∵
    split ! $ split ! $ move ! (3 ∷ []) $ split ! $ move ! (4 ∷ []) $ fsplit ! $ fsplit ! $
    feq_l ! (λ eu. keep ! (0 ∷ 4 ∷ 2 ∷ 5 ∷ []) $
    use1 𝓛 (‵ (hidden_shr (Word (R ∷ []) ν) κ (c, tt) b o) ⊛ ‵ (fhide (lent R c x κ))) (id⊢ 𝓤 _) $
    split ! $
    suffices ! (Run us) (run_with_one 𝓤 Run eu) $
    enter ! 𝓣.C 𝓣.Λ fn us Post $ alloc_all ! (λ l. pass_all ! refl ((tt, tt), tt) $
    let Ev : Env 𝓤 H = env fn.locals l in
    lent_out R c x ν κ q b o ! tt (λ a s q'. move ! (1 ∷ 0 ∷ 6 ∷ []) $
    opens R c x a ! tt s (λ n w cb co e fw some_n.
    -- [the word; what it says; the value; the weaks; the share; what shuts; the handle; the way
    -- back; the invariant; what is seen; the other tokens]
    sets ! (is ! (of_opd ! (load ! (through ! refl (fld ! refl (stop !)))
    (look_in ! 6 (sub ! 0 refl (whole !))))) (ap ptr_val e)) refl (tt, tt) $
    sets ! (of_opd ! (get ! refl)) refl (tt, tt) $ first ! $ blocks ! $
    sets ! (of_opd ! (load ! (through ! refl (fld ! refl (stop !))) (look ! 0 refl))) refl
    (tt, record { fits = fw }) $
    sets ! (bin ! (neg_lit ! tt) (lit ! tt) (lit< tt)) refl (tt, record { fits = lit< tt }) $
    sets ! (bin ! (get ! refl) (get ! refl) tt) refl (tt, tt) $ first ! $ branches ! (get ! refl)
    (λ full. assigns ! (of_opd ! (neg_lit ! tt)) (through ! refl (fld ! refl (stop !)))
    (store ! 0 refl (tt, record { fits = lit< tt })) $
    sets ! (addr ! (through ! refl (fld ! refl (stop !)))) refl (tt, tt) $
    sets ! (agg ! (and_then ! (lit ! tt) (and_then ! (get ! refl) (no_more !)))) refl
    (tt, (record { fits = lit< tt }, (tt, tt))) $ move ! (1 ∷ 2 ∷ 9 ∷ []) $
    use3 𝓛 (later (‵ (static R c x) ⊛ ‵ (fex ℕ (value R c x a true))))
    (fills R (param_laws 0 T L).shr_laws c x 𝓛 a n w) $ await ! tt $ split ! $
    use1 𝓛 (‵ (static R c x) ⊛ ‵ (static R c x)) (contraction 𝓛 (lends R c x)
    (lent_at_shr_laws R (param_laws 0 T L).shr_laws (value_place R c x) x) []) $ split ! $
    -- [what is seen for ever, twice; the value; the word; the weaks; the share; what shuts; the
    -- handle; the way back; the invariant; the other tokens]
    move ! (2 ∷ []) $ fpick ! (λ m. move ! (1 ∷ []) $ fpack ! (top ≡ top) (λ _. static R c x) refl $
    fpack ! Bool (stands_for (static R c x) m top) false $
    move ! (3 ∷ 0 ∷ 1 ∷ 4 ∷ 6 ∷ []) $ shuts R c x a ! tt m top cb co e (lit< tt) $
    move ! (2 ∷ 3 ∷ 4 ∷ []) $ lent_back R c x ν κ q b o ! tt a.0 s q' $ move ! (2 ∷ []) $
    rewrite ! 0 (λ (r : Ptr). ‵ (lent_at R (r +ₚ value_at) x [])) e refl $ fsplit ! $
    drop ! $ hide ! $
    feq_i ! (List Val) (vptr cb (co + value_at) ∷ []) (vptr cb (co + value_at) ∷ []) refl $
    fjoin ! $
    let seen : Ref.Denot = record { ref_ptr = (cb, co + value_at); now = x } in
    use1 𝓛 (‵ ((Res.the_row Out Ref).own_val (Err seen)
    (live 1 (vcons (vptr cb (co + value_at)) vnil) ∷ [])))
    (err_of 𝓛 Out Ref seen (vptr cb (co + value_at))) $
    returns_within ! Post refl (look_at ! 0 refl) $ free_all ! refl $ keep ! (0 ∷ 1 ∷ 4 ∷ 2 ∷ []) $
    suffices ! _ (ends_at 𝓛 En hs (held 𝓛 En hs cl) z
    (live 1 (vcons (vptr cb (co + value_at)) vnil)) (Err seen) (tt, tt) (tt, tt)) $
    nothing ! $ nothing ! $ fjoin ! $ join ! $ move ! (1 ∷ 2 ∷ []) $ join ! $ join ! $ frame ! $
    says ! refl $ done !)) (λ room. skips ! $
    exec ! 𝓣.C 𝓣.Λ Ev (after 4 (inside (head (after 2 fn.body))))
    (any_q (after_block 𝓤 H (after_seq 𝓤 H (Wp 𝓤 H 𝓣.C 𝓣.Λ Ev (after 3 fn.body)
    (at_return 𝓤 H Ev Post)) (at_return 𝓤 H Ev Post)))) $
    let low : w < 2 ^ 64 - 2 = nleb→lt (2 ^ 64 - 2) w room in
    let f₁ : w + 1 < 2 ^ 64 = omega arith in
    let made : Out.Denot = record { ptr = c; value = x } in
    move ! (1 ∷ []) $ counted R c x a ! n w (omega arith) (λ wn below. move ! (1 ∷ []) $
    rewrite ! 0 (λ (j : ℕ). ‵ (value R c x a true j)) (sym wn) refl $ move ! (1 ∷ []) $
    -- [the word; the value; the weaks; the share; what shuts; the handle; the way back; the
    -- invariant; what is seen; the other tokens]
    sets ! (bin ! (get ! refl) (lit ! tt) (record { fits = f₁ })) refl (tt, record { fits = f₁ }) $
    assigns_last ! (of_opd ! (get ! refl)) (through ! refl (fld ! refl (stop !)))
    (store ! 0 refl (tt, record { fits = f₁ })) $
    exec ! 𝓣.C 𝓣.Λ Ev (after 3 fn.body) (at_ret Ev Post) $
    sets ! (is ! (agg ! (and_then ! (get ! refl) (no_more !))) (ap word (sym e))) refl
    (word-Good ν c) $
    sets ! (agg ! (and_then ! (lit ! tt) (and_then ! (get ! refl) (no_more !)))) refl
    (first_Good (word_ty ν) (word c) (word-Good ν c)) $
    move ! (1 ∷ []) $ more R c x a ! w f₁ $ says_n R c x a ! (w + 1) (omega arith) $
    move ! (3 ∷ 0 ∷ 1 ∷ 4 ∷ 6 ∷ []) $ shuts R c x a ! tt (w + 1) (w + 1) cb co e f₁ $
    move ! (2 ∷ 3 ∷ 4 ∷ []) $ lent_back R c x ν κ q b o ! tt a.0 s q' $ move ! (2 ∷ 3 ∷ 4 ∷ []) $
    handle_made R c x ! ν a $
    use1 𝓛 (‵ ((Res.the_row Out Ref).own_val (Ok made) (live 0 (vcons (word c) vnil) ∷ [])))
    (ok_of 𝓛 Out Ref made (word c)) $
    returns ! (look_at ! 0 refl) $ free_all ! refl $ keep ! (0 ∷ 1 ∷ 3 ∷ 2 ∷ []) $
    suffices ! _ (ends_at 𝓛 En hs (held 𝓛 En hs cl) z (live 0 (vcons (word c) vnil))
    (Ok made) (tt, tt) (tt, tt)) $ nothing ! $ nothing ! $ fjoin ! $ join ! $
    move ! (1 ∷ 2 ∷ []) $ join ! $ join ! $ frame ! $ says ! refl $ done !)))))))

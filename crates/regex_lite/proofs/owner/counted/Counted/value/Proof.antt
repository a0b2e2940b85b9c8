-- `value` shows what every owner lends.
use Rattle.regex_lite.proofs.Common.{sym, refl, word, word_ty, proved_at, fat, fhide, flft, ftrue}
use Rattle.regex_lite.proofs.Common.{SProp, fst∗, id⊢, never, tables, RefOf, yes, hidden_shr, lone}
use Rattle.regex_lite.proofs.Common.{hide, unhide, layouts, param, param_laws, RattleType, owns}
use Rattle.regex_lite.proofs.Common.{Ptr, in_a_block, plain, types_at, lent_at, lent_at_shr_laws}
use Rattle.regex_lite.proofs.Common.{Goes-dropped, Stays, ends_at, says, stay_dropped, walk_of}
use Rattle.regex_lite.proofs.Common.{inst_fn, Sym, a_type, Val, vptr, align, up, Env, WpFn}
use Rattle.regex_lite.proofs.Common.{alloc_all, env, free_all, get, look_at, pass_all, sets}
use Rattle.regex_lite.proofs.Common.{through, !, at_ret, done, feq_i, feq_l, fjoin, fsplit, join}
use Rattle.regex_lite.proofs.Common.{keep, move, qed, raw, rewrite, split, suffices, use1, ‵, ◌$◌}
use Rattle.regex_lite.proofs.Common.{◌∵◌, ◌⊛◌, sem, look_in, sub, addr, blocks, enter, exec, first}
use Rattle.regex_lite.proofs.Common.{fld, of_opd, returns, stop, only_one, value_place, lends}
use Rattle.regex_lite.proofs.Common.{owned}
use Prim.Native.Nat.{ℕ, ◌+◌}
use types.Kit.{drop}
use types.Run.{hop}
use types.Part.{whole}
use types.ByLocal.{sets_last}
use denote.RcWeak.{rc_sees}
use denote.RawPtr.{◌+ₚ◌}
use denote.Steps.{nothing}
use mathlib.Core.List.{List, [], ◌∷◌}
use denote.Memory.{shared_of}
use Rattle.std.proofs.VecSteps.Shapes.{after}
use Rattle.regex_lite.proofs.PointerLemmas.{Word, reads, read, run_with_one}
use Rattle.regex_lite.proofs.owner.CountLemmas.{key, S, lent}
use Rattle.regex_lite.specs.contracts.owner.counted.Counted as counted
use Rattle.regex_lite.specs.contracts.owner.counted.Counted.value.{ended, clauses}
use Rattle.regex_lite.specs.contracts.owner.counted.Counted.value.Key.{name as #self}
use Rattle.regex_lite.proofs.owner.counted.Counted.value.Statement.{statement}
use Rattle.regex_lite.proofs.owner.counted.Counted.value.Code as code

pub value_spec : {M : Type 1} → statement M
value_spec 𝓤 𝓛 𝓜 𝓡 wired T L =
    let H = 𝓛.H in
    let 𝓣 = tables 𝓤 H 𝓜 𝓡 𝓡.env in
    let R : RattleType = param 0 T in
    let ν : Sym = (counted.the_type R).name in
    let value_at : ℕ = up (align (lone R.mir)) 8 in
    let En = ended T in
    let cl = clauses T 𝓛 𝓜.mem 𝓡.returns in
    let inst = layouts (a_type ∷ []) (T, tt) in
    let fn = inst_fn inst code.function in
    let Owner = RefOf (0 ∷ []) tt (plain (λ _. counted.the_row R)) (λ _. tt) in
    let hs : Stays En.signature.params En.kept = (stay_dropped Owner yes, tt) in
    proved_at 𝓛 En hs cl 𝓜 𝓡 (Goes-dropped 𝓛 2 Owner yes (λ κs x f. refl), tt) (#self inst) fn
    (code.unfolded 𝓤 H 𝓜 𝓡 wired (T, tt)) (λ z are.
    let κs = z.0.0 in
    let qs = z.0.1 in
    let κ = κs.0 in
    let c : Ptr = z.0.3.0.now.ptr in
    let x = z.0.3.0.now.value in
    let b = z.0.3.0.ref_ptr.0 in
    let o = z.0.3.0.ref_ptr.1 in
    let us = vptr b o ∷ [] in
    let Post : Val → SProp 𝓤 = (walk_of 𝓛 En hs cl).post z in
    let Run : List Val → SProp 𝓤 = λ ws. WpFn 𝓤 H 𝓣.C 𝓣.Λ fn ws Post in
    let asked = raw ((cl κs z.0.3).requires z.1) in
    qed 𝓛 (((‵ (flft κ qs.0) ⊛ ‵ (flft κs.1.0 qs.1.0) ⊛ ‵ ftrue)
    ⊛ ‵ (owns (types_at En.signature.params κs) z.0.3 z.0.4)) ∷ asked ∷ []) ∵
    split ! $ split ! $ move ! (2 ∷ []) $ fsplit ! $ fsplit ! $ feq_l ! (λ is.
    keep ! (0 ∷ 2 ∷ 3 ∷ []) $
    use1 𝓛 (‵ (hidden_shr (Word (R ∷ []) ν) κ (c, tt) b o) ⊛ ‵ (fhide (lent R c x κ))) (id⊢ 𝓤 _) $
    split ! $ move ! (1 ∷ []) $ unhide ! $
    use1 𝓛 (‵ (lends R c x κ)) (rc_sees 64 (key R c x) (S R c x) only_one (owned R c x) ftrue
    ftrue (lends R c x) 𝓛 (lent_at_shr_laws R (param_laws 0 T L).shr_laws (value_place R c x) x)
    κ) $ in_a_block ! c (λ r. lent_at R (r +ₚ value_at) x κ)
    (fst∗ 𝓤 (never 𝓤) (sem 𝓛 (shared_of R x 0 0 κ))) (λ cb co e. fsplit ! $ drop ! $ hide ! $
    suffices ! (Run us) (run_with_one 𝓤 Run is) $
    enter ! 𝓣.C 𝓣.Λ fn us Post $ alloc_all ! (λ l. pass_all ! refl ((tt, tt), tt) $
    let Ev : Env 𝓤 H = env fn.locals l in
    let at : Val = vptr cb (co + value_at) in
    move ! (1 ∷ 2 ∷ []) $ reads (R ∷ []) ν c ! tt b o (λ q'.
    rewrite ! 0 (λ (r : Ptr). ‵ (fat q' (word_ty ν) b o (word r))) e refl $ first ! $ blocks ! $
    sets_last ! (addr ! (through ! refl
    (fld ! refl (hop ! (look_in ! 0 (sub ! 0 refl (whole !))) (fld ! refl (stop !)))))) refl
    (tt, tt) $ exec ! 𝓣.C 𝓣.Λ Ev (after 1 fn.body) (at_ret Ev Post) $
    sets ! (of_opd ! (get ! refl)) refl (tt, tt) $
    rewrite ! 0 (λ (r : Ptr). ‵ (fat q' (word_ty ν) b o (word r))) (sym e) refl $
    read (R ∷ []) ν c ! tt b o q' $
    move ! (1 ∷ []) $ feq_i ! (List Val) (at ∷ []) (at ∷ []) refl $ fjoin ! $
    returns ! (look_at ! 0 refl) $ free_all ! refl $ keep ! (0 ∷ 1 ∷ 2 ∷ []) $
    suffices ! _ (ends_at 𝓛 En hs cl z at (record { ref_ptr = (cb, co + value_at); now = x })
    (tt, tt) (tt, tt)) $
    says ! refl $ nothing ! $ nothing ! $ fjoin ! $ join ! $ move ! (1 ∷ 2 ∷ []) $ join ! $
    join ! $ done !)))))

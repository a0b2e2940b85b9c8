-- `into_unboxed` tests the pointer, and hands on the box.
use Rattle.regex_lite_c.proofs.Common.{List, [], ◌∷◌, Some, None, Option, refl, ap, lit<, word}
use Rattle.regex_lite_c.proofs.Common.{word-Good, leaves, proved_at, ftrue, SProp, tables, yes}
use Rattle.regex_lite_c.proofs.Common.{layout, RattleType, owns, Ptr, block_ptr, plain, types_at}
use Rattle.regex_lite_c.proofs.Common.{nothing, Goes-dropped, Stays, stay_dropped, walk_of, Sym}
use Rattle.regex_lite_c.proofs.Common.{Val, vcons, vnil, vptr, WpFn, alloc_all, free_all, get}
use Rattle.regex_lite_c.proofs.Common.{get_in, look_at, pass_all, sets, by, !, fjoin, fsplit, keep}
use Rattle.regex_lite_c.proofs.Common.{move, qed, raw, split, suffices, use0, ‵, ◌$◌, ◌∵◌, ◌⊛◌}
use Rattle.regex_lite_c.proofs.Common.{live, agg, sub, whole, and_then, enter, fld, lit, no_more}
use Rattle.regex_lite_c.proofs.Common.{of_opd, returns, stop}
use base.Fml.{flft}
use mir.MapTy.{inst_fn}
use mir.Syntax.{a_type}
use denote.Exit.{no}
use denote.Param.{layouts, param}
use types.Kit.{at_ret, drop}
use types.Run.{bin, first, branches, skips, exec, returns_within}
use types.ByLocal.{is, env}
use denote.RawPtr.{ptr_val, tests_null}
use Rattle.std.proofs.RcSteps.{some_Good, none_of}
use Rattle.std.proofs.VecSteps.Shapes.{after}
use Rattle.std.specs.contracts.option.Option as Opt
use Rattle.std.specs.contracts.impls.GlobalAllocator.TheImpl as HeapImpl
use Rattle.std.proofs.alloc.Calls.{Goes-blank}
use Rattle.std.proofs.alloc.Global.TheLaws as HeapLaws
use Rattle.regex_lite.proofs.PointerLemmas.{run_with}
use Rattle.regex_lite.proofs.UnboxedLemmas.{both, both_good}
use Rattle.regex_lite_c.proofs.place.PlaceLemmas.{Out, Z, either, had, handed_out, stated}
use Rattle.regex_lite_c.proofs.place.PlaceLemmas.{stores_in}
use Rattle.regex_lite_c.specs.contracts.place.HeapPlace as place
use Rattle.regex_lite_c.specs.contracts.place.HeapPlace.into_unboxed as f
use Rattle.regex_lite_c.proofs.place.HeapPlace.into_unboxed.Statement.{statement}
use Rattle.regex_lite_c.proofs.place.HeapPlace.into_unboxed.Code as code

pub into_unboxed_spec : {M : Type 1} → statement M
into_unboxed_spec 𝓤 𝓛 𝓜 𝓡 wired T L =
    let H = 𝓛.H in
    let 𝓣 = tables 𝓤 H 𝓜 𝓡 𝓡.env in
    let R : RattleType = param 0 T in
    let P : RattleType = place.the_row R in
    let ν : Sym = (place.the_type R).name in
    let En = f.ended T in
    let cl = f.clauses T 𝓛 𝓜.mem 𝓡.returns in
    let inst = layouts (a_type ∷ []) (T, tt) in
    let fn = inst_fn inst code.function in
    let hs : Stays En.signature.params En.kept =
    (stay_dropped (plain (λ _. P)) no, (stay_dropped (plain (λ _. Z)) yes, tt)) in
    proved_at 𝓛 En hs cl 𝓜 𝓡 (
      Goes-blank 𝓛 1 (plain (λ _. P)) no (λ κs x u. tt),
      (Goes-dropped 𝓛 1 (plain (λ _. Z)) yes (λ κs x u. refl), tt),
    ) (f.Key.name inst) fn (code.unfolded 𝓤 H 𝓜 𝓡 wired (T, tt)) (λ z are.
    let κs = z.0.0 in
    let c : Ptr = z.0.3.0.ptr in
    let v : Option R.Denot = z.0.3.0.value in
    let a = z.0.3.1.0 in
    let us = z.0.4.0 in
    let vs = z.0.4.1.0 in
    let Post : Val → SProp 𝓤 = (walk_of 𝓛 En hs cl).post z in
    let Run : List Val → SProp 𝓤 = λ ws. WpFn 𝓤 H 𝓣.C 𝓣.Λ fn ws Post in
    qed 𝓛 (((‵ (flft κs.0 z.0.1.0) ⊛ ‵ ftrue)
    ⊛ ‵ (owns (types_at En.signature.params κs) z.0.3 z.0.4))
    ∷ raw ((cl κs z.0.3).requires z.1) ∷ []) ∵
    move ! (1 ∷ []) $ drop ! $ split ! $ move ! (1 ∷ []) $ fsplit ! $ fsplit ! $
    -- [the word; what is held; the allocator and nothing; the token and nothing]
    move ! (2 ∷ []) $ fsplit ! $ move ! (2 ∷ 3 ∷ 0 ∷ []) $
    had R ! (R ∷ []) ν c v a us vs (λ h eu ev fits.
    -- [what is held; the allocator; nothing; the token and nothing]
    suffices ! (Run (word c ∷ h ∷ [])) (run_with 𝓤 Run eu ev) $
    enter ! 𝓣.C 𝓣.Λ fn (word c ∷ h ∷ []) Post $
    alloc_all ! (λ l. stores_in fn.locals l (pass_all ! refl (word-Good ν c, (fits, tt))) $
    either R ! a c v
    (λ e n. sets !
    (is ! (of_opd ! (get_in ! (fld ! refl (stop !)) (sub ! 0 refl (whole !)))) (ap ptr_val e)) refl
    (tt, record { fits = lit< tt }) $
    sets ! (bin ! (get ! refl) (lit ! tt) tt) refl (tt, tt) $ first ! $ branches ! (get ! refl)
    (λ _.
    sets ! (agg ! (and_then ! (lit ! tt) (no_more !))) refl (tt, (record { fits = lit< tt }, tt)) $
    stated R n $
    use0 𝓛 (‵ ((Opt.the_row (Out R)).own_val None (live 0 vnil ∷ []))) (none_of 𝓛 (Out R)) $
    nothing ! $ nothing ! $ fjoin ! $ nothing ! $ fjoin ! $
    returns_within ! Post refl (look_at ! 0 refl) $ free_all ! refl $ keep ! (5 ∷ 0 ∷ 1 ∷ 2 ∷ []) $
    by ! (leaves 𝓛 En hs cl z (live 0 vnil) None (tt, (tt, tt)) (tt, (tt, tt))))
    (λ wrong. absurd wrong))
    (λ b o x e s can.
    let Ev = env fn.locals l in
    let made : Val = both (vptr b o) h in
    let typed = both_good R Z HeapLaws.the_row_laws HeapImpl.ghosts b o h fits in
    let out : (Out R).Denot = record { ptr = block_ptr b o; alloc = a; value = x } in
    sets !
    (is ! (of_opd ! (get_in ! (fld ! refl (stop !)) (sub ! 0 refl (whole !)))) (ap ptr_val e)) refl
    (tt, tt) $
    sets ! (bin ! (get ! refl) (lit ! tt) (tests_null (block_ptr b o) can)) refl (tt, tt) $
    first ! $ branches ! (get ! refl)
    (λ wrong. absurd wrong)
    (λ _. skips ! $ exec ! 𝓣.C 𝓣.Λ Ev (after 3 fn.body) (at_ret Ev Post) $
    sets ! (agg ! (and_then ! (get ! refl) (and_then ! (get ! refl) (no_more !)))) refl typed $
    sets ! (agg ! (and_then ! (lit ! tt) (and_then ! (get ! refl) (no_more !)))) refl
    (some_Good (layout (Out R)) made typed) $
    handed_out R ! b o h a x $
    stated R s $
    nothing ! $ nothing ! $ fjoin ! $ nothing ! $ fjoin ! $
    -- [the two parameters; the fact; the result; nothing; the token and nothing]
    returns ! (look_at ! 0 refl) $ free_all ! refl $ keep ! (4 ∷ 0 ∷ 2 ∷ 1 ∷ []) $
    by !
    (leaves 𝓛 En hs cl z (live 1 (vcons made vnil)) (Some out) (tt, (tt, tt)) (tt, (tt, tt))))))))

-- `of` keeps the pointer.
use Rattle.regex_lite_c.proofs.Common.{◌≡◌, List, [], ◌∷◌, Some, Option, refl, word, word-Good}
use Rattle.regex_lite_c.proofs.Common.{leaves, proved_at, ftrue, SProp, tables, RattleType}
use Rattle.regex_lite_c.proofs.Common.{owns, Ptr, block_ptr, plain, types_at, nothing}
use Rattle.regex_lite_c.proofs.Common.{Stays, stay_dropped, walk_of, Sym, Val, vptr, WpFn}
use Rattle.regex_lite_c.proofs.Common.{alloc_all, free_all, get, get_in, look_at, pass_all, sets}
use Rattle.regex_lite_c.proofs.Common.{by, !, fjoin, fsplit, keep, move, qed, raw, split, suffices}
use Rattle.regex_lite_c.proofs.Common.{‵, ◌$◌, ◌∵◌, ◌⊛◌, agg, sub, whole, and_then, enter, fld}
use Rattle.regex_lite_c.proofs.Common.{no_more, of_opd, returns, stop}
use base.Fml.{flft}
use mir.MapTy.{inst_fn}
use mir.Syntax.{a_type}
use denote.Exit.{no}
use denote.Param.{layouts, param}
use types.Kit.{drop, fpack}
use Rattle.std.specs.contracts.impls.GlobalAllocator.TheImpl as HeapImpl
use Rattle.std.proofs.alloc.Calls.{Goes-blank}
use Rattle.std.proofs.alloc.Global.TheLaws as HeapLaws
use Rattle.regex_lite.proofs.UnboxedLemmas.{both, both_good, unboxed_had}
use Rattle.regex_lite.proofs.PointerLemmas.{run_with_one, word_made}
use Rattle.regex_lite_c.proofs.place.PlaceLemmas.{Out, Z, boxed, stated}
use Rattle.regex_lite_c.specs.contracts.place.HeapPlace as place
use Rattle.regex_lite_c.specs.contracts.place.HeapPlace.of as f
use Rattle.regex_lite_c.proofs.place.HeapPlace.of.Statement.{statement}
use Rattle.regex_lite_c.proofs.place.HeapPlace.of.Code as code

pub of_spec : {M : Type 1} → statement M
of_spec 𝓤 𝓛 𝓜 𝓡 wired T L =
    let H = 𝓛.H in
    let 𝓣 = tables 𝓤 H 𝓜 𝓡 𝓡.env in
    let R : RattleType = param 0 T in
    let ν : Sym = (place.the_type R).name in
    let LZ = HeapLaws.the_row_laws in
    let g = HeapImpl.ghosts in
    let En = f.ended T in
    let cl = f.clauses T 𝓛 𝓜.mem 𝓡.returns in
    let inst = layouts (a_type ∷ []) (T, tt) in
    let fn = inst_fn inst code.function in
    let hs : Stays En.signature.params En.kept =
    (stay_dropped (plain (λ _. Out R)) no, tt) in
    proved_at 𝓛 En hs cl 𝓜 𝓡 (
      Goes-blank 𝓛 1 (plain (λ _. Out R)) no (λ κs x u. tt),
      tt,
    ) (f.Key.name inst) fn (code.unfolded 𝓤 H 𝓜 𝓡 wired (T, tt)) (λ z are.
    let κs = z.0.0 in
    let qs = z.0.1 in
    let v = z.0.3.0 in
    let Post : Val → SProp 𝓤 = (walk_of 𝓛 En hs cl).post z in
    let Run : List Val → SProp 𝓤 = λ ws. WpFn 𝓤 H 𝓣.C 𝓣.Λ fn ws Post in
    qed 𝓛 (((‵ (flft κs.0 qs.0) ⊛ ‵ ftrue) ⊛ ‵ (owns (types_at En.signature.params κs) z.0.3 z.0.4))
    ∷ raw ((cl κs z.0.3).requires z.1) ∷ []) ∵
    move ! (1 ∷ []) $ drop ! $ split ! $ move ! (1 ∷ []) $ fsplit ! $
    unboxed_had R Z LZ g ! v z.0.4.0 (λ b o h e ws fits.
    let w : Val = both (vptr b o) h in
    let typed = both_good R Z LZ g b o h fits in
    let c : Ptr = block_ptr b o in
    let held : Option R.Denot = Some v.value in
    fpack ! Z.Denot (λ a. boxed R a c v.value) v.alloc $
    -- [the box; the allocator; nothing; the token and nothing]
    suffices ! (Run (w ∷ [])) (run_with_one 𝓤 Run ws) $
    enter ! 𝓣.C 𝓣.Λ fn (w ∷ []) Post $ alloc_all ! (λ l. pass_all ! refl (typed, tt) $
    sets ! (of_opd ! (get_in ! (fld ! refl (stop !)) (sub ! 0 refl (whole !)))) refl (tt, tt) $
    sets ! (agg ! (and_then ! (get ! refl) (no_more !))) refl (word-Good ν c) $
    word_made (R ∷ []) ν c ! $ fjoin ! $
    stated R {P = held ≡ held} refl $ nothing ! $ nothing ! $ fjoin ! $
    returns ! (look_at ! 0 refl) $ free_all ! refl $ keep ! (5 ∷ 0 ∷ 2 ∷ 1 ∷ []) $
    by ! (leaves 𝓛 En hs cl z (word c) (record { ptr = c; value = held }) (tt, tt) (tt, tt)))))

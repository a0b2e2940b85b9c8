-- `of` takes the pointer of the box.
use Rattle.regex_lite.proofs.Common.{◌≡◌, List, [], ◌∷◌, ◌++◌, refl, ap, ◌∙◌, Goes-blank}
use Rattle.regex_lite.proofs.Common.{handle_tells, leaves, proved_at, flft, ftrue, SProp, emp, id⊢}
use Rattle.regex_lite.proofs.Common.{fact, fact_i, tables, no, param, param_laws, RattleType, owns}
use Rattle.regex_lite.proofs.Common.{Ptr, block_ptr, ptr_val, plain, types_at, triple_of, Stays}
use Rattle.regex_lite.proofs.Common.{stay_dropped, walk_of, inst_fn, a_type, dnil, Val, of_list}
use Rattle.regex_lite.proofs.Common.{vptr, vstruct, WpFn, alloc_all, free_all, get, get_in, look_at}
use Rattle.regex_lite.proofs.Common.{pass_all, sets, !, await, by, feq_l, fjoin, fpick, fsplit}
use Rattle.regex_lite.proofs.Common.{join, keep, later, move, pick, qed, raw, rewrite, some, split}
use Rattle.regex_lite.proofs.Common.{split3, suffices, use0, use1, ‵, ◌$◌, ◌∵◌, ◌⊛◌, agg, sub}
use Rattle.regex_lite.proofs.Common.{and_then, enter, fld, no_more, of_opd, returns, stop}
use mir.Syntax.{dcons}
use types.Kit.{drop}
use types.ByLocal.{lands_as}
use types.Part.{whole}
use denote.Builtin.{RawPtr}
use denote.Steps.{nothing, only, heard}
use denote.Param.{bounded}
use denote.Struct.Tuple.{Tuple}
use denote.Triple.Clauses.{Lasts, lasts}
use denote.Triple.Call.{calls_at}
use denote.Triple.Table.{framed}
use Rattle.std.proofs.BoxSteps.Form as box
use Rattle.std.proofs.BoxSteps.Steps.{box_out, box_in}
use Rattle.std.specs.contracts.boxed.Box.into_raw_with_allocator as callee
use Rattle.std.proofs.boxed.Box.into_raw_with_allocator.Met.{met}
use Rattle.regex_lite.proofs.PointerLemmas.{run_with_one}
use Rattle.regex_lite.proofs.UnboxedLemmas.{both, both_good, owned_at, lies, unboxed_made}
use Rattle.regex_lite.specs.contracts.owner.unboxed.Unboxed.of.{ended, clauses}
use Rattle.regex_lite.specs.contracts.owner.unboxed.Unboxed.of.Key.{name as #self}
use Rattle.regex_lite.proofs.owner.unboxed.Unboxed.of.Statement.{statement}
use Rattle.regex_lite.proofs.owner.unboxed.Unboxed.of.Code as code

pub of_spec : {M : Type 1} → statement M
of_spec 𝓤 𝓛 𝓜 𝓡 wired T A L LA g d dx dd allocator glue glued =
    let H = 𝓛.H in
    let 𝓣 = tables 𝓤 H 𝓜 𝓡 𝓡.env in
    let R : RattleType = param 0 T in
    let Z : RattleType = param 1 A in
    let LZ = param_laws 1 A LA in
    let E : box.Bx =
    record { row = T; laws = L; al = record { row = A; laws = LA; g = g; d = d; drops = dd } } in
    let En = ended T A g d dx dd in
    let c = clauses T A g d dx dd 𝓛 𝓜.mem 𝓡.returns in
    let inst = bounded (a_type ∷ a_type ∷ []) (T, (A, tt)) (dcons d (dcons dx (dcons dd dnil))) in
    let fn = inst_fn inst code.function in
    let hs : Stays En.signature.params En.kept = (stay_dropped (plain (λ _. box.B E)) no, tt) in
    let k =
    triple_of 𝓛 (callee.signature T A g d dd dx) (callee.spec T A g d dd dx 𝓛 𝓜.mem 𝓡.returns) in
    let Ce = callee.ended T A g d dd dx in
    let Pair = Tuple (RawPtr ∷ Z ∷ []) in
    let known = met 𝓤 𝓛 𝓜 𝓡 (code.calls-std::boxed::Box::into_raw_with_allocator 𝓡.env wired) T A L
    LA g d dd dx allocator glued glue in
    proved_at 𝓛 En hs c 𝓜 𝓡 (Goes-blank 𝓛 2 (plain (λ _. box.B E)) no (λ κs x f. tt), tt)
    (#self inst) fn (code.unfolded 𝓤 H 𝓜 𝓡 wired (T, (A, tt)) d dx dd) (λ z are.
    let κs = z.0.0 in
    let qs = z.0.1 in
    let v = z.0.3.0 in
    let a = v.alloc in
    let x = v.value in
    let Post : Val → SProp 𝓤 = (walk_of 𝓛 En hs c).post z in
    let Run : List Val → SProp 𝓤 = λ ws. WpFn 𝓤 H 𝓣.C 𝓣.Λ fn ws Post in
    let toks = ‵ (flft κs.0 qs.0) ⊛ ‵ (flft κs.1.0 qs.1.0) ⊛ ‵ ftrue in
    let asked = raw ((c κs z.0.3).requires z.1) in
    qed 𝓛 ((toks ⊛ ‵ (owns (types_at En.signature.params κs) z.0.3 z.0.4)) ∷ asked ∷ []) ∵
    split ! $ move ! (1 ∷ []) $ fsplit ! $ box_out E ! v z.0.4.0 (λ b o h e ws fits.
    let w : Val = box.word E h b o in
    let y : k.Ghost = ((κs, qs, tt, (v, tt), (w ∷ [], tt)), tt) in
    box_in E ! v b o x e refl $ fjoin ! $ move ! (1 ∷ 0 ∷ []) $ join ! $ join ! $
    use1 𝓛 (raw (k.pre y)) (id⊢ 𝓤 _) $
    suffices ! (Run (w ∷ [])) (run_with_one 𝓤 Run ws) $ enter ! 𝓣.C 𝓣.Λ fn (w ∷ []) Post $
    alloc_all ! (λ l. pass_all ! refl (box.box_typed E h b o fits, tt) $
    sets ! (of_opd ! (get ! refl)) refl (box.box_typed E h b o fits) $
    calls_at ! (framed 𝓤 H 𝓜 𝓣) k known y (and_then ! (get ! refl) (no_more !)) (λ u.
    use1 𝓛 (later (some
    (λ (r : Ptr × A.Denot). (toks ⊛ ‵ (Pair.own_val r (u ∷ []))) ⊛ some (λ (ls : Lasts Ce κs y.0.3).
    ‵ (lasts Ce κs y.0.3 ls) ⊛ (raw (fact 𝓤 (r.1 ≡ a)) ⊛ ‵ (owned_at R Z LZ g a x r.0))))))
    (id⊢ 𝓤 (k.post y u)) $ await ! tt $ pick !
    (λ r. split ! $ move ! (1 ∷ []) $ pick ! (λ _. split3 ! $ drop ! $ heard ! (r.1 ≡ a) (λ same.
    -- [what is owned at the pointer; the tokens and the pair]
    lies R Z LZ g ! a x r.0 (λ b' o' e'. move ! (1 ∷ []) $ split ! $ move ! (1 ∷ []) $
    fpick ! (λ each. fsplit ! $ feq_l ! (λ pair. fsplit ! $ feq_l ! (λ ptr. fsplit ! $
    rewrite ! 0 (λ (s : A.Denot). ‵ (A.own_val s each.1.0)) same refl $
    handle_tells E.al ! a each.1.0 (λ h' alloc fits'.
    let p : Ptr = block_ptr b' o' in
    let w' : Val = both (vptr b' o') h' in
    let good = both_good R Z LZ g b' o' h' fits' in
    lands_as ! (ap only (pair ∙ (λ j.
    vstruct (of_list ((ptr ∙ ap (λ (s : Ptr). ptr_val s ∷ []) e') j ++ (alloc j ++ []))) ∷ [])))
    refl good $
    sets ! (of_opd ! (get_in ! (fld ! refl (stop !)) (sub ! 0 refl (whole !)))) refl (tt, tt) $
    sets ! (of_opd ! (get_in ! (fld ! refl (stop !)) (sub ! 1 refl (whole !)))) refl fits' $
    sets ! (of_opd ! (get ! refl)) refl fits' $
    sets ! (agg ! (and_then ! (get ! refl) (and_then ! (get ! refl) (no_more !)))) refl good $
    move ! (3 ∷ 0 ∷ []) $ unboxed_made R Z LZ g ! b' o' h' a x $
    use0 𝓛 (raw (fact 𝓤 (x ≡ x))) (fact_i 𝓤 (x ≡ x) (emp 𝓤) refl) $
    nothing ! $ nothing ! $ fjoin ! $
    returns ! (look_at ! 0 refl) $ free_all ! refl $ keep ! (4 ∷ 0 ∷ 2 ∷ 1 ∷ []) $
    by ! (leaves 𝓛 En hs c z w' (record { ptr = p; alloc = a; value = x }) ((tt, (tt, tt)), tt)
    (tt, tt))))))))))))))

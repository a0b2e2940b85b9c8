-- `into_box` makes the box again.
use Rattle.regex_lite.proofs.Common.{◌≡◌, List, [], ◌∷◌, sym, refl, ap, subst, Goes-blank}
use Rattle.regex_lite.proofs.Common.{leaves, proved_at, flft, ftrue, SProp, ent, id⊢, ◌⊑◌, fact}
use Rattle.regex_lite.proofs.Common.{tables, no, layout, param, param_laws, RattleType, owns}
use Rattle.regex_lite.proofs.Common.{block_ptr, plain, types_at, triple_of, Stays, stay_dropped}
use Rattle.regex_lite.proofs.Common.{walk_of, inst_fn, a_type, dnil, Val, vptr, WpFn, alloc_all}
use Rattle.regex_lite.proofs.Common.{env, free_all, get, get_in, look_at, pass_all, sets, Goal, ! }
use Rattle.regex_lite.proofs.Common.{Item, Seq, Soaks, at_ret, await, by, feq_i, fjoin, fsplit}
use Rattle.regex_lite.proofs.Common.{join, keep, later, move, pick, qed, raw, rewrite, some, split}
use Rattle.regex_lite.proofs.Common.{split3, suffices, use1, ‵, ◌$◌, ◌∵◌, ◌⊛◌, Logic, sub, and_then}
use Rattle.regex_lite.proofs.Common.{blocks, enter, exec, first, fld, no_more, of_opd, returns}
use Rattle.regex_lite.proofs.Common.{stop}
use seplogic.Ra.Ura.{Ura}
use mir.Syntax.{dcons}
use types.Kit.{mean, drop}
use types.ByLocal.{lands_last, holding}
use types.Part.{whole}
use denote.Steps.{nothing, only}
use denote.Param.{bounded}
use denote.Triple.Clauses.{Lasts, lasts}
use denote.Triple.Call.{calls_at_last}
use denote.Triple.Table.{framed}
use Rattle.std.proofs.alloc.Shapes.{after}
use Rattle.std.proofs.cell.Inside.{Good}
use Rattle.std.proofs.BoxSteps.Form as box
use Rattle.std.proofs.BoxSteps.Steps.{box_out, box_in}
use Rattle.std.specs.contracts.boxed.Box.from_raw as callee
use Rattle.std.proofs.boxed.Box.from_raw.Met.{met}
use Rattle.regex_lite.proofs.PointerLemmas.{run_with_one}
use Rattle.regex_lite.proofs.UnboxedLemmas.{Unboxed, both, both_good, unboxed_had}
use Rattle.regex_lite.specs.contracts.owner.unboxed.Unboxed.into_box.{ended, clauses}
use Rattle.regex_lite.specs.contracts.owner.unboxed.Unboxed.into_box.Key.{name as #self}
use Rattle.regex_lite.proofs.owner.unboxed.Unboxed.into_box.Statement.{statement}
use Rattle.regex_lite.proofs.owner.unboxed.Unboxed.into_box.Code as code

module _ (E : box.Bx) where
  abbrev B : RattleType
  B = box.B E

  module _ {M : Type 1} {𝓤 : Ura M} {𝓛 : Logic 𝓤} {K : Type 0} {Γ : List (Item 𝓤)}
      {G : Goal 𝓤 𝓛.H} where
    -- a box that comes later with these tokens, and two facts of it
    box_comes : K → Soaks G → (tokens : Item 𝓤) {X : Type 0} (left : X → Item 𝓤)
        (one two : B.Denot → Item 𝓤) (u : Val) {i : Item 𝓤}
        → ent 𝓤 (mean 𝓛 i) (mean 𝓛 (later (some (λ (r : B.Denot).
        (tokens ⊛ ‵ (B.own_val r (u ∷ []))) ⊛ some (λ (x : X). left x ⊛ (one r ⊛ two r))))))
        → ((r : B.Denot) → Good (layout B) u
        → Seq K 𝓛 (‵ (B.own_val r (u ∷ [])) ∷ tokens ∷ one r ∷ two r ∷ Γ) G)
        → Seq K 𝓛 (i ∷ Γ) G
    box_comes t soaks tokens left one two u is then = use1 𝓛 (later (some (λ (r : B.Denot).
        (tokens ⊛ ‵ (B.own_val r (u ∷ []))) ⊛ some (λ x. left x ⊛ (one r ⊛ two r))))) is $
        await t soaks $ pick t (λ r. split t $ move t (1 ∷ []) $ pick t (λ x. split3 t $ drop t $
        move t (2 ∷ []) $ split t $ move t (1 ∷ []) $
        box_out E t r (u ∷ []) (λ b o h e us fits. box_in E t r b o r.value e refl $
        rewrite t 0 (λ (xs : List Val). ‵ (B.own_val r xs)) (sym us) refl $
        then r (subst (Good (layout B)) (sym (ap only us)) (box.box_typed E h b o fits)))))

pub into_box_spec : {M : Type 1} → statement M
into_box_spec 𝓤 𝓛 𝓜 𝓡 wired T A L LA g d dx dd allocator glue glued =
    let H = 𝓛.H in
    let 𝓣 = tables 𝓤 H 𝓜 𝓡 𝓡.env in
    let R : RattleType = param 0 T in
    let Z : RattleType = param 1 A in
    let LZ = param_laws 1 A LA in
    let E : box.Bx =
    record { row = T; laws = L; al = record { row = A; laws = LA; g = g; d = d; drops = dd } } in
    let En = ended T A g d dx dd in
    let c = clauses T A g d dx dd 𝓛 𝓜.mem 𝓡.returns in
    let inst = bounded (a_type ∷ a_type ∷ []) (T, (A, tt)) (dcons d (dcons dx (dcons dd dnil))) in
    let fn = inst_fn inst code.function in
    let hs : Stays En.signature.params En.kept =
    (stay_dropped (plain (λ _. Unboxed R Z LZ g)) no, tt) in
    let Ce = callee.ended T A g d dd in
    let k = triple_of 𝓛 (callee.signature T A g d dd) (callee.spec T A g d dd 𝓛 𝓜.mem 𝓡.returns) in
    let known = met 𝓤 𝓛 𝓜 𝓡
    (code.calls-std::boxed::Box::from_raw 𝓡.env wired) T A L LA g d dd allocator glued in
    proved_at 𝓛 En hs c 𝓜 𝓡 (Goes-blank 𝓛 2 (plain (λ _. Unboxed R Z LZ g)) no (λ κs x f. tt), tt)
    (#self inst) fn (code.unfolded 𝓤 H 𝓜 𝓡 wired (T, (A, tt)) d dx dd) (λ z are.
    let κs = z.0.0 in
    let qs = z.0.1 in
    let v = z.0.3.0 in
    let a = v.alloc in
    let Post : Val → SProp 𝓤 = (walk_of 𝓛 En hs c).post z in
    let Run : List Val → SProp 𝓤 = λ ws. WpFn 𝓤 H 𝓣.C 𝓣.Λ fn ws Post in
    let toks = ‵ (flft κs.0 qs.0) ⊛ ‵ (flft κs.1.0 qs.1.0) ⊛ ‵ ftrue in
    let asked = raw ((c κs z.0.3).requires z.1) in
    qed 𝓛 ((toks ⊛ ‵ (owns (types_at En.signature.params κs) z.0.3 z.0.4)) ∷ asked ∷ []) ∵
    split ! $ move ! (1 ∷ []) $ fsplit ! $ unboxed_had R Z LZ g ! v z.0.4.0 (λ b o h e ws fits.
    let w : Val = both (vptr b o) h in
    let y : k.Ghost =
    ((κs, qs, tt, (a, (block_ptr b o, tt)), (h ∷ [], (vptr b o ∷ [], tt))), v.value) in
    -- [what is owned at the pointer; the allocator; nothing; the tokens; what is asked]
    move ! (4 ∷ []) $
    use1 𝓛 (raw (fact 𝓤 (κs.0 ⊑ T.lives)) ⊛ raw (fact 𝓤 (κs.1.0 ⊑ A.lives)) ⊛ ‵ ftrue) (id⊢ 𝓤 _) $
    split3 ! $
    move ! (2 ∷ []) $ drop ! $ move ! (1 ∷ 2 ∷ []) $ join ! $ move ! (1 ∷ 0 ∷ []) $ join ! $
    move ! (2 ∷ []) $ feq_i ! (List Val) (vptr b o ∷ []) (vptr b o ∷ []) refl $ fjoin ! $
    move ! (2 ∷ 0 ∷ []) $ fjoin ! $ move ! (2 ∷ 0 ∷ []) $ join ! $ join ! $
    use1 𝓛 (raw (k.pre y)) (id⊢ 𝓤 _) $
    suffices ! (Run (w ∷ [])) (run_with_one 𝓤 Run ws) $ enter ! 𝓣.C 𝓣.Λ fn (w ∷ []) Post $
    alloc_all ! (λ l.
    let Ev = env fn.locals l in
    let held = holding 𝓛 Ev ((5, h) ∷ (3, h) ∷ (2, vptr b o) ∷ (1, w) ∷ []) in
    pass_all ! refl (both_good R Z LZ g b o h fits, tt) $
    sets ! (of_opd ! (get_in ! (fld ! refl (stop !)) (sub ! 0 refl (whole !)))) refl (tt, tt) $
    sets ! (of_opd ! (get_in ! (fld ! refl (stop !)) (sub ! 1 refl (whole !)))) refl fits $
    first ! $ blocks ! $ sets ! (of_opd ! (get ! refl)) refl fits $
    calls_at_last {Γ = held} ! (framed 𝓤 H 𝓜 𝓣) k known y
    (and_then ! (get ! refl) (and_then ! (get ! refl) (no_more !))) (λ u.
    box_comes E {Γ = held} ! tt toks (λ (ls : Lasts Ce κs y.0.3). ‵ (lasts Ce κs y.0.3 ls))
    (λ r. raw (fact 𝓤 (r.value ≡ v.value))) (λ r. raw (fact 𝓤 (r.alloc ≡ a))) u
    (id⊢ 𝓤 (k.post y u)) (λ r good.
    lands_last ! refl good $ exec ! 𝓣.C 𝓣.Λ Ev (after 3 fn.body) (at_ret Ev Post) $
    sets ! (of_opd ! (get ! refl)) refl good $ nothing ! $ nothing ! $ fjoin ! $
    returns ! (look_at ! 0 refl) $ free_all ! refl $ keep ! (2 ∷ 0 ∷ 1 ∷ 3 ∷ []) $
    by ! (leaves 𝓛 En hs c z u r ((tt, (tt, tt)), tt) (tt, tt)))))))

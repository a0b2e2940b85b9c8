-- `of` keeps the pointer, and what the reference holds.
use Rattle.regex_lite.proofs.Common.{◌≡◌, List, [], ◌∷◌, refl, word, word-Good, leaves, proved_at}
use Rattle.regex_lite.proofs.Common.{flft, ftrue, SProp, emp, fact, fact_i, tables, RefOf, yes}
use Rattle.regex_lite.proofs.Common.{unhide, layouts, param, RattleType, owns, Ptr, block_ptr}
use Rattle.regex_lite.proofs.Common.{plain, types_at, Goes-dropped, Stays, stay_dropped, walk_of}
use Rattle.regex_lite.proofs.Common.{inst_fn, Sym, a_type, Val, vptr, WpFn, alloc_all, free_all}
use Rattle.regex_lite.proofs.Common.{get, look_at, pass_all, sets, through, !, by, feq_l, fjoin}
use Rattle.regex_lite.proofs.Common.{fsplit, keep, move, qed, raw, split, suffices, use0, ‵, ◌$◌}
use Rattle.regex_lite.proofs.Common.{◌∵◌, ◌⊛◌, agg, addr, and_then, enter, no_more, returns, stop}
use denote.Steps.{nothing}
use Rattle.regex_lite.proofs.PointerLemmas.{run_with_one, word_made}
use Rattle.regex_lite.specs.contracts.owner.lasting.Lasting as lasting
use Rattle.regex_lite.specs.contracts.owner.lasting.Lasting.of.{ended, clauses}
use Rattle.regex_lite.specs.contracts.owner.lasting.Lasting.of.Key.{name as #self}
use Rattle.regex_lite.proofs.owner.lasting.Lasting.of.Statement.{statement}
use Rattle.regex_lite.proofs.owner.lasting.Lasting.of.Code as code

pub of_spec : {M : Type 1} → statement M
of_spec 𝓤 𝓛 𝓜 𝓡 wired T L =
    let H = 𝓛.H in
    let 𝓣 = tables 𝓤 H 𝓜 𝓡 𝓡.env in
    let R : RattleType = param 0 T in
    let ν : Sym = (lasting.the_type R).name in
    let En = ended T in
    let c = clauses T 𝓛 𝓜.mem 𝓡.returns in
    let inst = layouts (a_type ∷ []) (T, tt) in
    let fn = inst_fn inst code.function in
    let Seen = RefOf [] tt (plain (λ _. R)) (λ _. tt) in
    let hs : Stays En.signature.params En.kept = (stay_dropped Seen yes, tt) in
    proved_at 𝓛 En hs c 𝓜 𝓡 (Goes-dropped 𝓛 1 Seen yes (λ κs x f. refl), tt) (#self inst) fn
    (code.unfolded 𝓤 H 𝓜 𝓡 wired (T, tt)) (λ z are.
    let κs = z.0.0 in
    let qs = z.0.1 in
    let v = z.0.3.0 in
    let x = v.now in
    let b = v.ref_ptr.0 in
    let o = v.ref_ptr.1 in
    let p : Ptr = block_ptr b o in
    let Post : Val → SProp 𝓤 = (walk_of 𝓛 En hs c).post z in
    let Run : List Val → SProp 𝓤 = λ ws. WpFn 𝓤 H 𝓣.C 𝓣.Λ fn ws Post in
    let asked = raw ((c κs z.0.3).requires z.1) in
    qed 𝓛 (((‵ (flft κs.0 qs.0) ⊛ ‵ ftrue) ⊛ ‵ (owns (types_at En.signature.params κs) z.0.3 z.0.4))
    ∷ asked ∷ []) ∵ split ! $ move ! (1 ∷ []) $ fsplit ! $ fsplit ! $
    feq_l ! (λ is. unhide ! $ nothing ! $ fjoin ! $
    -- [what the reference holds; nothing; the tokens; what is asked]
    keep ! (0 ∷ 2 ∷ []) $ suffices ! (Run (vptr b o ∷ [])) (run_with_one 𝓤 Run is) $
    enter ! 𝓣.C 𝓣.Λ fn (vptr b o ∷ []) Post $ alloc_all ! (λ l. pass_all ! refl ((tt, tt), tt) $
    sets ! (addr ! (through ! refl (stop !))) refl (tt, tt) $
    sets ! (agg ! (and_then ! (get ! refl) (no_more !))) refl (word-Good ν p) $
    word_made (R ∷ []) ν p ! $ fjoin ! $
    use0 𝓛 (raw (fact 𝓤 (x ≡ x))) (fact_i 𝓤 (x ≡ x) (emp 𝓤) refl) $ nothing ! $ nothing ! $
    fjoin ! $ returns ! (look_at ! 0 refl) $ free_all ! refl $ keep ! (3 ∷ 0 ∷ 2 ∷ 1 ∷ []) $
    by ! (leaves 𝓛 En hs c z (word p) (record { ptr = p; value = x }) (tt, tt) (tt, tt)))))

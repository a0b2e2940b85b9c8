-- `into_place` keeps the pointer.
use Rattle.regex_lite_c.proofs.Common.{◌≡◌, List, [], ◌∷◌, refl, word, word-Good, leaves, proved_at}
use Rattle.regex_lite_c.proofs.Common.{ftrue, SProp, tables, yes, RattleType, owns, Ptr, plain}
use Rattle.regex_lite_c.proofs.Common.{types_at, nothing, Goes-dropped, Stays, stay_dropped}
use Rattle.regex_lite_c.proofs.Common.{walk_of}
use Rattle.regex_lite_c.proofs.Common.{Sym, Val, WpFn, alloc_all, free_all, get, get_in, look_at}
use Rattle.regex_lite_c.proofs.Common.{pass_all, sets, by, !, fjoin, fsplit, keep, move, qed, raw}
use Rattle.regex_lite_c.proofs.Common.{split, suffices, ‵, ◌$◌, ◌∵◌, ◌⊛◌, agg, sub, whole, and_then}
use Rattle.regex_lite_c.proofs.Common.{enter, fld, no_more, of_opd, returns, stop}
use types.Kit.{drop}
use Rattle.std.proofs.RcSteps.{Ptr-Good}
use Rattle.regex_lite.proofs.PointerLemmas.{run_with_one, word_had, word_made}
use Rattle.regex_lite_c.proofs.place.PlaceLemmas.{stated}
use Rattle.regex_lite_c.specs.contracts.searcher.TextSearcher as stored
use Rattle.regex_lite_c.specs.contracts.place.HeapPlace as place
use Rattle.regex_lite_c.specs.contracts.handle.SearcherHandle as handle
use Rattle.regex_lite_c.specs.contracts.handle.SearcherHandleHolds.into_place as f
use Rattle.regex_lite_c.proofs.handle.SearcherHandleHolds.into_place.Statement.{statement}
use Rattle.regex_lite_c.proofs.handle.SearcherHandleHolds.into_place.Code as code

pub into_place_spec : {M : Type 1} → statement M
into_place_spec 𝓤 𝓛 𝓜 𝓡 wired =
    let H = 𝓛.H in
    let 𝓣 = tables 𝓤 H 𝓜 𝓡 𝓡.env in
    let R : RattleType = stored.the_row in
    let From : RattleType = handle.the_row in
    let En = f.ended in
    let cl = f.clauses 𝓛 𝓜.mem 𝓡.returns in
    let fn = code.function in
    let hs : Stays En.signature.params En.kept = (stay_dropped (plain (λ _. From)) yes, tt) in
    proved_at 𝓛 En hs cl 𝓜 𝓡 (
      Goes-dropped 𝓛 0 (plain (λ _. From)) yes (λ κs x u. refl),
      tt,
    ) f.Key.name fn (code.unfolded 𝓤 H 𝓜 𝓡 wired) (λ z are.
    let c : Ptr = z.0.3.0.ptr in
    let v = z.0.3.0.value in
    let from : Sym = handle.the_type.name in
    let to : Sym = (place.the_type R).name in
    let Post : Val → SProp 𝓤 = (walk_of 𝓛 En hs cl).post z in
    let Run : List Val → SProp 𝓤 = λ ws. WpFn 𝓤 H 𝓣.C 𝓣.Λ fn ws Post in
    qed 𝓛 ((‵ ftrue ⊛ ‵ (owns (types_at En.signature.params z.0.0) z.0.3 z.0.4))
    ∷ raw ((cl z.0.0 z.0.3).requires z.1) ∷ []) ∵
    move ! (1 ∷ []) $ drop ! $ split ! $ move ! (1 ∷ []) $ fsplit ! $ fsplit ! $
    word_had [] from c ! z.0.4.0 (λ is.
    -- [what is held; nothing; nothing]
    suffices ! (Run (word c ∷ [])) (run_with_one 𝓤 Run is) $
    enter ! 𝓣.C 𝓣.Λ fn (word c ∷ []) Post $
    alloc_all ! (λ l. pass_all ! refl (word-Good from c, tt) $
    sets ! (of_opd ! (get_in ! (fld ! refl (stop !)) (sub ! 0 refl (whole !)))) refl (Ptr-Good c) $
    sets ! (of_opd ! (get ! refl)) refl (Ptr-Good c) $
    sets ! (agg ! (and_then ! (get ! refl) (no_more !))) refl (word-Good to c) $
    word_made (R ∷ []) to c ! $ fjoin ! $
    stated R {P = v ≡ v} refl $ nothing ! $ nothing ! $ fjoin ! $
    -- [nothing; the fact; the place; nothing; nothing]
    returns ! (look_at ! 0 refl) $ free_all ! refl $ keep ! (4 ∷ 0 ∷ 2 ∷ 1 ∷ []) $
    by ! (leaves 𝓛 En hs cl z (word c) (record { ptr = c; value = v }) (tt, tt) (tt, tt)))))

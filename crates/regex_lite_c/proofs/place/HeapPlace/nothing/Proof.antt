-- `nothing` is a null pointer.
use Rattle.regex_lite_c.proofs.Common.{◌≡◌, [], ◌∷◌, None, Option, refl, lit<, word, word-Good}
use Rattle.regex_lite_c.proofs.Common.{leaves, proved_at, SProp, tables, null_ptr, nothing, walk_of}
use Rattle.regex_lite_c.proofs.Common.{Sym, Val, RattleType, alloc_all, free_all, get, look_at}
use Rattle.regex_lite_c.proofs.Common.{pass_all, sets, by, !, fjoin, qed, raw, ◌$◌, ◌∵◌, agg}
use Rattle.regex_lite_c.proofs.Common.{ftrue, owns, types_at, keep, move, split, ‵, ◌⊛◌}
use Rattle.regex_lite_c.proofs.Common.{and_then, enter, lit, no_more, of_opd, returns}
use base.Fml.{flft}
use types.Kit.{drop}
use mir.MapTy.{inst_fn}
use mir.Syntax.{a_type}
use denote.Param.{layouts, param}
use Rattle.regex_lite.proofs.PointerLemmas.{word_made}
use Rattle.regex_lite_c.proofs.place.PlaceLemmas.{stated}
use Rattle.regex_lite_c.specs.contracts.place.HeapPlace as place
use Rattle.regex_lite_c.specs.contracts.place.HeapPlace.nothing as f
use Rattle.regex_lite_c.proofs.place.HeapPlace.nothing.Statement.{statement}
use Rattle.regex_lite_c.proofs.place.HeapPlace.nothing.Code as code

pub nothing_spec : {M : Type 1} → statement M
nothing_spec 𝓤 𝓛 𝓜 𝓡 wired T L =
    let H = 𝓛.H in
    let 𝓣 = tables 𝓤 H 𝓜 𝓡 𝓡.env in
    let R : RattleType = param 0 T in
    let ν : Sym = (place.the_type R).name in
    let En = f.ended T in
    let cl = f.clauses T 𝓛 𝓜.mem 𝓡.returns in
    let inst = layouts (a_type ∷ []) (T, tt) in
    let fn = inst_fn inst code.function in
    let none : Option R.Denot = None in
    proved_at 𝓛 En tt cl 𝓜 𝓡 tt (f.Key.name inst) fn (code.unfolded 𝓤 H 𝓜 𝓡 wired (T, tt)) (λ z are.
    let κs = z.0.0 in
    let Post : Val → SProp 𝓤 = (walk_of 𝓛 En tt cl).post z in
    qed 𝓛 (((‵ (flft κs.0 z.0.1.0) ⊛ ‵ ftrue)
    ⊛ ‵ (owns (types_at En.signature.params κs) z.0.3 z.0.4))
    ∷ raw ((cl κs z.0.3).requires z.1) ∷ []) ∵
    move ! (1 ∷ []) $ drop ! $ split ! $ move ! (1 ∷ []) $ drop ! $
    enter ! 𝓣.C 𝓣.Λ fn [] Post $ alloc_all ! (λ l. pass_all ! refl tt $
    sets ! (of_opd ! (lit ! tt)) refl (tt, record { fits = lit< tt }) $
    sets ! (agg ! (and_then ! (get ! refl) (no_more !))) refl (word-Good ν null_ptr) $
    stated R {P = none ≡ none} refl $
    nothing ! $ word_made (R ∷ []) ν null_ptr ! $ fjoin ! $ nothing ! $
    returns ! (look_at ! 0 refl) $ free_all ! refl $ keep ! (3 ∷ 0 ∷ 1 ∷ 2 ∷ []) $
    by ! (leaves 𝓛 En tt cl z (word null_ptr) (record { ptr = null_ptr; value = none }) tt tt)))

-- `first` makes the first owner of a block.
use Rattle.regex_lite.proofs.Common.{◌≡◌, ℕ, List, [], ◌∷◌, refl, word, word-Good, Goes-blank}
use Rattle.regex_lite.proofs.Common.{leaves, proved_at, fex, flft, ftrue, full_share, SProp, emp}
use Rattle.regex_lite.proofs.Common.{◌⊑◌, fact, fact_i, tables, no, part_at, layouts, param}
use Rattle.regex_lite.proofs.Common.{RattleType, owns, Ptr, block_ptr, plain, types_at, Stays}
use Rattle.regex_lite.proofs.Common.{stay_dropped, walk_of, inst_fn, Sym, a_type, Val, vptr, WpFn}
use Rattle.regex_lite.proofs.Common.{alloc_all, free_all, get, get_in, look_at, pass_all, sets, ! }
use Rattle.regex_lite.proofs.Common.{await, by, fjoin, fsplit, join, keep, later, move, qed, raw}
use Rattle.regex_lite.proofs.Common.{rewrite, split, suffices, use0, use3, ‵, ◌$◌, ◌∵◌, ◌⊛◌, agg}
use Rattle.regex_lite.proofs.Common.{sub, and_then, enter, fld, no_more, of_opd, returns, stop}
use types.Part.{whole}
use denote.Steps.{nothing, heard}
use Rattle.std.specs.contracts.alloc.Global as Heap
use Rattle.std.specs.contracts.impls.GlobalAllocator.TheImpl as HeapImpl
use Rattle.std.proofs.alloc.Global.TheLaws as HeapLaws
use Rattle.regex_lite.proofs.UnboxedLemmas.{Unboxed, both, both_good, unboxed_had}
use Rattle.regex_lite.proofs.owner.CountLemmas.{Id, handle}
use Rattle.regex_lite.proofs.PointerLemmas.{run_with_one, word_made}
use Rattle.regex_lite.proofs.owner.BlockLemmas.{starts}
use Rattle.regex_lite.specs.contracts.owner.counted.Block as Block
use Rattle.regex_lite.specs.contracts.owner.counted.Counted as C
use Rattle.regex_lite.specs.contracts.owner.counted.Counted.first.{ended, clauses}
use Rattle.regex_lite.specs.contracts.owner.counted.Counted.first.Key.{name as #self}
use Rattle.regex_lite.proofs.owner.counted.Counted.first.Statement.{statement}
use Rattle.regex_lite.proofs.owner.counted.Counted.first.Code as code

pub first_spec : {M : Type 1} → statement M
first_spec 𝓤 𝓛 𝓜 𝓡 wired T L =
    let H = 𝓛.H in let 𝓣 = tables 𝓤 H 𝓜 𝓡 𝓡.env in let R : RattleType = param 0 T in
    let B : RattleType = Block.the_row R in let Z : RattleType = Heap.the_row in
    let LZ = HeapLaws.the_row_laws in
    let g = HeapImpl.ghosts in
    let En = ended T in let cl = clauses T 𝓛 𝓜.mem 𝓡.returns in
    let inst = layouts (a_type ∷ []) (T, tt) in
    let fn = inst_fn inst code.function in let ν : Sym = (C.the_type R).name in
    let hs : Stays En.signature.params En.kept =
    (stay_dropped (plain (λ _. Unboxed B Z LZ g)) no, tt) in
    proved_at 𝓛 En hs cl 𝓜 𝓡 (Goes-blank 𝓛 1 (plain (λ _. Unboxed B Z LZ g)) no (λ κs x f. tt), tt)
    (#self inst) fn (code.unfolded 𝓤 H 𝓜 𝓡 wired (T, tt)) (λ z are.
    let κs = z.0.0 in let qs = z.0.1 in let v = z.0.3.0 in let x = v.value.value in
    let Post : Val → SProp 𝓤 = (walk_of 𝓛 En hs cl).post z in
    let Run : List Val → SProp 𝓤 = λ ws. WpFn 𝓤 H 𝓣.C 𝓣.Λ fn ws Post in
    qed 𝓛 (((‵ (flft κs.0 qs.0) ⊛ ‵ ftrue) ⊛ ‵ (owns (types_at En.signature.params κs) z.0.3 z.0.4))
    ∷ raw (fact 𝓤 (κs.0 ⊑ T.lives)) ∷ raw (fact 𝓤 (v.value.count ≡ 1)) ∷ []) ∵ move ! (1 ∷ 2 ∷ []) $
    heard ! (κs.0 ⊑ T.lives) (λ le. heard ! (v.value.count ≡ 1) (λ one. split ! $
    move ! (1 ∷ []) $ fsplit ! $ unboxed_had B Z LZ g ! v z.0.4.0 (λ b o h e ws fits.
    let w : Val = both (vptr b o) h in let typed = both_good B Z LZ g b o h fits in
    let c : Ptr = block_ptr b o in
    fsplit ! $ rewrite ! 0
    (λ (k : ℕ). ‵ (part_at B full_share (record { count = k; value = x }) b o)) one refl $
    move ! (4 ∷ []) $ split ! $
    -- [the token; nothing; the block; the right to free; the allocator; nothing]
    suffices ! (Run (w ∷ [])) (run_with_one 𝓤 Run ws) $
    enter ! 𝓣.C 𝓣.Λ fn (w ∷ []) Post $ alloc_all ! (λ l. pass_all ! refl (typed, tt) $
    move ! (2 ∷ 3 ∷ 0 ∷ []) $ use3 𝓛 (later (‵ (fex Id (handle R c x)) ⊛ ‵ (flft κs.0 qs.0)))
    (starts T L b o x 𝓛 v.alloc κs.0 qs.0 le) $ await ! tt $ split ! $
    sets ! (of_opd ! (get_in ! (fld ! refl (stop !)) (sub ! 0 refl (whole !)))) refl (tt, tt) $
    sets ! (agg ! (and_then ! (get ! refl) (no_more !))) refl (word-Good ν c) $
    word_made (R ∷ []) ν c ! $ fjoin ! $ move ! (1 ∷ 2 ∷ []) $ join ! $
    use0 𝓛 (raw (fact 𝓤 (x ≡ x))) (fact_i 𝓤 (x ≡ x) (emp 𝓤) refl) $ nothing ! $ nothing ! $
    fjoin ! $ returns ! (look_at ! 0 refl) $ free_all ! refl $ keep ! (2 ∷ 0 ∷ 3 ∷ 1 ∷ []) $
    by ! (leaves 𝓛 En hs cl z (word c) (record { ptr = c; value = x }) (tt, tt) (tt, tt)))))))

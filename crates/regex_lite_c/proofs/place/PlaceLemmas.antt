-- A place by value: one pointer, and what is at it.
use Rattle.regex_lite_c.proofs.Common.{Some, None, Option, refl, word, layout, RattleType, Ptr}
use Rattle.regex_lite_c.proofs.Common.{block_ptr, null_ptr, Sym, Val, vcons, vnil, vptr, move, raw}
use Rattle.regex_lite_c.proofs.Common.{use0, ‵, ◌$◌, live}
use mathlib.Core.Path.{◌≡◌}
use Prim.Native.Nat.{ℕ, suc}
use mathlib.Core.List.{List, [], ◌∷◌}
use seplogic.Ra.Ura.{Ura}
use mir.Raw.{raw as bare}
use mir.Syntax.{Local, Ty, local, ty_ptr}
use base.Logic.{ent, emp, via, snd∗, guard, guard_i}
use base.Fml.{Fml}
use base.Fraction.{full_share}
use types.Logic.{Logic, sem}
use types.Kit.{Item, Goal, Seq, Step, step, given, drop, use1, learn, fpick, params'}
use types.ByLocal.{env}
use contract.Monad.{fact, fact_i, fact_use}
use denote.Memory.{lone}
use denote.RawPtr.{Testable, lies_at}
use Rattle.std.specs.Box.Ownership.{box_owns}
use Rattle.std.specs.contracts.alloc.Global as Heap
use Rattle.std.specs.contracts.impls.GlobalAllocator.TheImpl as HeapImpl
use Rattle.std.specs.contracts.option.Option as Opt
use Rattle.std.proofs.GlobalToken.{dealloc_token-Testable}
use Rattle.std.proofs.RcSteps.{Some-of}
use Rattle.std.proofs.alloc.Calls.{handle_tells}
use Rattle.std.proofs.alloc.Global.TheLaws as HeapLaws
use Rattle.std.proofs.cell.Inside.{Good}
use Rattle.regex_lite.proofs.PointerLemmas.{Word, word_had}
use Rattle.regex_lite.proofs.UnboxedLemmas.{Unboxed, both, handle, unboxed_made}
use Rattle.regex_lite_c.specs.Handles.{holds_of}

-- the type of the allocator
abbrev pub Z : RattleType
Z = Heap.the_row

-- the local of a function's result
abbrev pub result_local : List Local → (ℕ → ℕ) → Ty × ℕ
result_local [] l = (ty_ptr, l 0)
result_local (local τ h ∷ ls) l = (τ, l 0)

-- its other locals
abbrev pub other_locals : List Local → (ℕ → ℕ) → List (Ty × ℕ)
other_locals [] l = []
other_locals (x ∷ ls) l = env ls (λ i. l (suc i))

-- a step that stores arguments in locals, which are named and not written out
abbrev pub stores_in : {M : Type 1} {𝓤 : Ura M} {𝓛 : Logic 𝓤} {K : Type 0} {Γ' Γ : List (Item 𝓤)}
    {G : Goal 𝓤 𝓛.H} {vs : List Val} (ls : List Local) (l : ℕ → ℕ)
    → Step K 𝓛 Γ' G Γ (params' (result_local ls l ∷ other_locals ls l) vs G)
    → Step K 𝓛 Γ' G Γ (params' (result_local ls l ∷ other_locals ls l) vs G)
stores_in ls l stored = stored

-- what is held is of the type with this row
module _ (R : RattleType) where
  -- what is handed out is a box of it
  abbrev pub Out : RattleType
  Out = Unboxed R Z HeapLaws.the_row_laws HeapImpl.ghosts

  -- what is owned where it lies, with the right of this allocator to free it
  abbrev pub boxed : Z.Denot → Ptr → R.Denot → Fml
  boxed a = box_owns (HeapImpl.ghosts.dealloc_token a) R

  module _ {M : Type 1} {𝓤 : Ura M} (𝓛 : Logic 𝓤) where
    -- a place that is owned can be tested for null
    tested : (a : Z.Denot) (p : Ptr) (x : R.Denot)
        → ent 𝓤 (sem 𝓛 (boxed a p x)) (guard 𝓤 (Testable p) (sem 𝓛 (boxed a p x)))
    tested a p x =
        let frees : Fml = HeapImpl.ghosts.dealloc_token a (bare (lone R.mir)) p in
        fact_use 𝓤 (Testable p)
        (via 𝓤 (sem 𝓛 frees) (snd∗ 𝓤 (sem 𝓛 (lies_at R full_share p x)) (sem 𝓛 frees))
        (dealloc_token-Testable 𝓛 a (bare (lone R.mir)) p))
        (guard_i 𝓤 (Testable p) (sem 𝓛 (boxed a p x)))

  module _ {M : Type 1} {𝓤 : Ura M} {𝓛 : Logic 𝓤} {K : Type 0} {Γ : List (Item 𝓤)}
      {G : Goal 𝓤 𝓛.H} where
    -- there is nothing, or a box that this allocator can free, as every one can
    pub either : K → (a : Z.Denot) (p : Ptr) (v : Option R.Denot)
        → (p ≡ null_ptr → v ≡ None → Seq K 𝓛 Γ G)
        → ((b o : ℕ) (x : R.Denot) → p ≡ block_ptr b o → v ≡ Some x
        → Testable (block_ptr b o) → Seq K 𝓛 (‵ (boxed a (block_ptr b o) x) ∷ Γ) G)
        → Seq K 𝓛 (‵ (holds_of R p v) ∷ Γ) G
    either t a null_ptr None none one = drop t $ none refl refl
    either t a null_ptr (Some x) none one = fpick t (λ wrong. absurd wrong)
    either t a (block_ptr b o) None none one = fpick t (λ wrong. absurd wrong)
    either t a (block_ptr b o) (Some x) none one = fpick t (λ _.
        use1 𝓛 (given (Testable (block_ptr b o)) (‵ (boxed a (block_ptr b o) x)))
        (tested 𝓛 a (block_ptr b o) x) $
        learn t (λ can. one b o x refl refl can))

    -- the machine's values of a place, which is a word, and of the allocator
    pub had : K → (params : List RattleType) (ν : Sym) (c : Ptr) (v : Option R.Denot) (a : Z.Denot)
        (us vs : List Val)
        → ((h : Val) → us ≡ word c ∷ [] → vs ≡ h ∷ [] → Good (layout Z) h
        → Seq K 𝓛 (‵ (holds_of R c v) ∷ ‵ (Z.own_val a (h ∷ [])) ∷ Γ) G)
        → Seq K 𝓛 (‵ ((Word params ν).own_val (c, tt) us) ∷ ‵ (holds_of R c v)
        ∷ ‵ (Z.own_val a vs) ∷ Γ) G
    had t params ν c v a us vs next =
        word_had params ν c t us (λ eu. move t (1 ∷ []) $
        handle_tells (handle R Z HeapLaws.the_row_laws HeapImpl.ghosts) t a vs
        (λ h ev fits. move t (1 ∷ []) $ next h eu ev fits))

    -- a box is handed out beside the allocator
    pub handed_out : K → (b o : ℕ) (h : Val) (a : Z.Denot) (x : R.Denot)
        → Step K 𝓛 (‵ ((Opt.the_row Out).own_val
        (Some (record { ptr = block_ptr b o; alloc = a; value = x }))
        (live 1 (vcons (both (vptr b o) h) vnil) ∷ [])) ∷ Γ) G
        (‵ (boxed a (block_ptr b o) x) ∷ ‵ (Z.own_val a (h ∷ [])) ∷ Γ) G
    handed_out t b o h a x = step (λ next.
        let made : Val = both (vptr b o) h in
        let out : Out.Denot = record { ptr = block_ptr b o; alloc = a; value = x } in
        unboxed_made R Z HeapLaws.the_row_laws HeapImpl.ghosts t b o h a x $
        use1 𝓛 (‵ ((Opt.the_row Out).own_val (Some out) (live 1 (vcons made vnil) ∷ [])))
        (Some-of 𝓛 Out out made) $ next)

    -- a fact is stated
    pub stated : {P : Type 0} → P → Step K 𝓛 (raw (fact 𝓤 P) ∷ Γ) G Γ G
    stated {P} p = step (λ next. use0 𝓛 (raw (fact 𝓤 P)) (fact_i 𝓤 P (emp 𝓤) p) $ next)

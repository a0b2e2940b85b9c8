-- An unboxed value is its place, the value there, and the right to free the place.
use Rattle.regex_lite.proofs.Common.{refl, subst, handle_tells, Fml, fst∗, never, lone, layout}
use Rattle.regex_lite.proofs.Common.{Laws, RattleType, Ptr, block_ptr, in_a_block, ptr_val, dnil}
use Rattle.regex_lite.proofs.Common.{Val, of_list, vcons, vnil, vptr, vstruct, Goal, Item, Seq}
use Rattle.regex_lite.proofs.Common.{Step, feq_i, feq_l, fjoin, fpack, fpick, fsplit, move, step, ‵}
use Rattle.regex_lite.proofs.Common.{◌$◌, Logic, sem}
use mathlib.Core.Path.{◌≡◌}
use mathlib.Core.Bool.{true, ◌&&◌}
use Prim.Native.Nat.{ℕ}
use mathlib.Core.List.{List, [], ◌∷◌, ◌++◌}
use lib.Dec.{T}
use seplogic.Ra.Ura.{Ura}
use mir.Syntax.{impl, tnil}
use mir.Val.{has_ty, WT}
use mir.Raw.{raw as bare}
use types.Kit.{drop}
use denote.RattleType.{Valss}
use denote.Builtin.{RawPtr}
use denote.RawPtr.{null_ptr}
use denote.Steps.{nothing}
use denote.Struct.Owning.{shape}
use denote.Struct.Struct.{within}
use Rattle.std.specs.Box.Ownership.{box_owns}
use Rattle.std.specs.declared.alloc.Allocator.{Ghosts}
use Rattle.std.proofs.alloc.Calls.{Al}
use Rattle.std.proofs.cell.Inside.{Good}
use Rattle.std.proofs.ResultValues.{and_tt}
use Rattle.regex_lite.specs.contracts.owner.unboxed.Unboxed as unboxed

-- the machine's value: the pointer beside the allocator
abbrev pub both : (ptr alloc : Val) → Val
both ptr alloc = vstruct (vcons ptr (vcons alloc vnil))

module _ (R Z : RattleType) (L : Laws Z) (g : Ghosts Z.Denot) where
  abbrev pub Unboxed : RattleType
  Unboxed = unboxed.the_row R Z g

  -- the allocator, and what its laws are
  abbrev pub handle : Al
  handle = record { row = Z; laws = L; g = g; d = impl [] tnil dnil; drops = impl [] tnil dnil }

  pub both_good : (b o : ℕ) (h : Val) → Good (layout Z) h
      → T (has_ty (layout Z) h && true) × WT (both (vptr b o) h)
  both_good b o h fits = (and_tt (has_ty (layout Z) h) fits.0, (tt, (fits.1, tt)))

  abbrev pub owned_at : Z.Denot → R.Denot → Ptr → Fml
  owned_at a x p = box_owns (g.dealloc_token a) R p x

  module _ {M : Type 1} {𝓤 : Ura M} {𝓛 : Logic 𝓤} {K : Type 0} {Γ : List (Item 𝓤)}
      {G : Goal 𝓤 𝓛.H} where
    -- what is owned at a pointer is owned in a block
    pub lies : K → (a : Z.Denot) (x : R.Denot) (p : Ptr)
        → ((b o : ℕ) → p ≡ block_ptr b o → Seq K 𝓛 (‵ (owned_at a x (block_ptr b o)) ∷ Γ) G)
        → Seq K 𝓛 (‵ (owned_at a x p) ∷ Γ) G
    lies t a x p k = in_a_block t p (owned_at a x)
        (fst∗ 𝓤 (never 𝓤) (sem 𝓛 (g.dealloc_token a (bare (lone R.mir)) null_ptr))) k

  module _ {M : Type 1} {𝓤 : Ura M} {𝓛 : Logic 𝓤} {K : Type 0} {Γ : List (Item 𝓤)}
      {G : Goal 𝓤 𝓛.H} where
    -- [what is owned at the pointer; the allocator]
    pub unboxed_had : K → (d : Unboxed.Denot) (vs : List Val)
        → ((b o : ℕ) (h : Val) → d.ptr ≡ block_ptr b o → vs ≡ both (vptr b o) h ∷ []
        → Good (layout Z) h
        → Seq K 𝓛
        (‵ (owned_at d.alloc d.value (block_ptr b o)) ∷ ‵ (Z.own_val d.alloc (h ∷ [])) ∷ Γ) G)
        → Seq K 𝓛 (‵ (Unboxed.own_val d vs) ∷ Γ) G
    unboxed_had t d vs k = fsplit t $
        fpick t (λ each. fsplit t $ feq_l t (λ all. fsplit t $ feq_l t (λ first. fsplit t $
        handle_tells handle t d.alloc each.1.0 (λ h second fits.
        move t (1 ∷ []) $ drop t $ move t (1 ∷ []) $
        lies t d.alloc d.value d.ptr (λ b o e. k b o h e
        (subst (λ (p : Ptr). vs ≡ both (ptr_val p) h ∷ []) e
        (subst (λ (hs : List Val). vs ≡ vstruct (of_list (ptr_val d.ptr ∷ (hs ++ []))) ∷ []) second
        (subst (λ (ps : List Val). vs ≡ vstruct (of_list (ps ++ (each.1.0 ++ []))) ∷ [])
        first all))) fits)))))

    pub unboxed_made : K → (b o : ℕ) (h : Val) (a : Z.Denot) (x : R.Denot)
        → Step K 𝓛 (‵ (Unboxed.own_val (record { ptr = block_ptr b o; alloc = a; value = x })
        (both (vptr b o) h ∷ [])) ∷ Γ) G
        (‵ (owned_at a x (block_ptr b o)) ∷ ‵ (Z.own_val a (h ∷ [])) ∷ Γ) G
    unboxed_made t b o h a x = step (λ next.
        let w : Val = both (vptr b o) h in
        nothing t $ move t (2 ∷ 0 ∷ []) $ fjoin t $
        feq_i t (List Val) (vptr b o ∷ []) (vptr b o ∷ []) refl $ fjoin t $
        feq_i t (List Val) (w ∷ []) (w ∷ []) refl $ fjoin t $ fpack t (Valss (RawPtr ∷ Z ∷ []))
        (within (shape (unboxed.the_type R Z g)) (block_ptr b o, (a, tt)) (w ∷ []))
        (vptr b o ∷ [], (h ∷ [], tt)) $ fjoin t $ next)

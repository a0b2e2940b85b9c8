-- A struct with one pointer, by value and by reference.
use Rattle.regex_lite.proofs.Common.{sym, refl, subst, word, word_ty, Lft, Share, fat, flft, SProp}
use Rattle.regex_lite.proofs.Common.{ent, id⊢, hidden_shr, part_at, RattleType, Ptr, ptr_val, Sym}
use Rattle.regex_lite.proofs.Common.{Val, of_list, vstruct, Goal, Item, Seq, Soaks, Step, feq_i}
use Rattle.regex_lite.proofs.Common.{feq_l, fjoin, fpack, fpick, fsplit, move, rewrite, step, use1}
use Rattle.regex_lite.proofs.Common.{‵, ◌$◌, Logic}
use mathlib.Core.Path.{◌≡◌}
use Prim.Native.Nat.{ℕ}
use mathlib.Core.List.{List, [], ◌∷◌, ◌++◌}
use seplogic.Ra.Ura.{Ura}
use mir.Syntax.{ty_ptr}
use mir.Raw.{raw as bare}
use types.Kit.{drop}
use denote.RattleType.{Valss}
use denote.Memory.{cell_at}
use denote.Copied.{Copied, plain_Copied, Struct-Copied}
use denote.RawPtr.{RawPtr, coded_ptr, ptr_own, rawptr_pure}
use denote.Opens.{Shut}
use denote.Steps.{nothing, looks, shuts as shuts_part}
use denote.Struct.Struct.{Shape, Struct, within}
use denote.Struct.Laws.{RawPtr-laws}

-- what is run with a value is run with what is equal to it
pub run_with_one : {M : Type 1} (𝓤 : Ura M) (Run : List Val → SProp 𝓤) {us : List Val} {w : Val}
    → us ≡ w ∷ [] → ent 𝓤 (Run (w ∷ [])) (Run (us ++ []))
run_with_one 𝓤 Run {us} {w} eu =
    subst (λ (ws : List Val). ent 𝓤 (Run (w ∷ [])) (Run (ws ++ []))) (sym eu)
    (id⊢ 𝓤 (Run (w ∷ [])))

-- so with two values
pub run_with : {M : Type 1} (𝓤 : Ura M) (Run : List Val → SProp 𝓤) {us vs : List Val} {w h : Val}
    → us ≡ w ∷ [] → vs ≡ h ∷ [] → ent 𝓤 (Run (w ∷ h ∷ [])) (Run (us ++ (vs ++ [])))
run_with 𝓤 Run {us} {vs} {w} {h} eu ev =
    subst (λ (ws : List Val). ent 𝓤 (Run (w ∷ h ∷ [])) (Run (ws ++ (vs ++ [])))) (sym eu)
    (subst (λ (ws : List Val). ent 𝓤 (Run (w ∷ h ∷ [])) (Run (w ∷ (ws ++ [])))) (sym ev)
    (id⊢ 𝓤 (Run (w ∷ h ∷ []))))

module _ (params : List RattleType) (ν : Sym) where
  abbrev pub one_field : Shape
  one_field = record { name = ν; args = []; types = params; fields = RawPtr ∷ [] }

  abbrev pub Word : RattleType
  Word = Struct one_field

  module _ (c : Ptr) {M : Type 1} {𝓤 : Ura M} {𝓛 : Logic 𝓤} {K : Type 0} {Γ : List (Item 𝓤)}
      {G : Goal 𝓤 𝓛.H} where
    pub word_had : K → (vs : List Val) → (vs ≡ word c ∷ [] → Seq K 𝓛 Γ G)
        → Seq K 𝓛 (‵ (Word.own_val (c, tt) vs) ∷ Γ) G
    word_had t vs k = fpick t (λ vss. fsplit t $ feq_l t (λ ev. fsplit t $ feq_l t (λ e. drop t $
        k (subst (λ (ws : List Val). vs ≡ vstruct (of_list (ws ++ [])) ∷ []) e ev))))

    pub word_made : K → Step K 𝓛 (‵ (Word.own_val (c, tt) (word c ∷ [])) ∷ Γ) G Γ G
    word_made t = step (λ s.
        nothing t $ feq_i t (List Val) (ptr_val c ∷ []) (ptr_val c ∷ []) refl $ fjoin t $
        feq_i t (List Val) (word c ∷ []) (word c ∷ []) refl $ fjoin t $
        fpack t (Valss (RawPtr ∷ [])) (within one_field (c, tt) (word c ∷ []))
        (ptr_val c ∷ [], tt) $ s)

  module _ (c : Ptr) {M : Type 1} {𝓤 : Ura M} {𝓛 : Logic 𝓤} {K : Type 0} {Γ : List (Item 𝓤)}
      {G : Goal 𝓤 𝓛.H} where
    -- [the word; what shuts]
    pub reads : K → Soaks G → {κ : Lft} {q : Share} (b o : ℕ)
        → ((q' : Share) → Seq K 𝓛
        (‵ (fat q' (word_ty ν) b o (word c)) ∷ Shut 𝓛 κ q (part_at Word q' (c, tt) b o) ∷ Γ) G)
        → Seq K 𝓛 (‵ (hidden_shr Word κ (c, tt) b o) ∷ ‵ (flft κ q) ∷ Γ) G
    reads t z b o k =
        let raw_copied : Copied 𝓛 RawPtr =
        plain_Copied 𝓛 Ptr coded_ptr (ty_ptr ∷ []) ptr_own rawptr_pure ptr_val RawPtr-laws.tells in
        let copied : Copied 𝓛 Word = Struct-Copied 𝓛 one_field (refl, tt) (raw_copied, tt) in
        looks t z Word copied.opens (c, tt) b o
        (λ q' vs. move t (3 ∷ []) $ drop t $ move t (1 ∷ []) $ word_had c t vs (λ e.
        rewrite t 0 (λ (us : List Val). ‵ (cell_at q' (word_ty ν ∷ []) us b o)) e refl $
        use1 𝓛 (‵ (fat q' (word_ty ν) b o (word c))) (𝓛.laws.raw_at q' (word_ty ν) b o (word c)) $
        k q'))

    pub read : K → Soaks G → {κ : Lft} {q : Share} (b o : ℕ) (q' : Share)
        → Step K 𝓛 (‵ (flft κ q) ∷ Γ) G
        (‵ (fat q' (word_ty ν) b o (word c)) ∷ Shut 𝓛 κ q (part_at Word q' (c, tt) b o) ∷ Γ) G
    read t z b o q' = step (λ s.
        use1 𝓛 (‵ (fat q' (bare (word_ty ν)) b o (word c)))
        (𝓛.laws.at_raw q' (word_ty ν) b o (word c)) $
        word_made c t $ move t (1 ∷ 0 ∷ []) $ shuts_part t z Word q' (c, tt) (word c ∷ []) b o $ s)

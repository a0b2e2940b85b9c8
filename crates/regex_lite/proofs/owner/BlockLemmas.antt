-- How a counted owner begins and ends.
--     apart       the block in memory is its count and its value, with the way back
--     starts      of a block whose count is 1 the first owner is made
--     ends        the last owner has the block back
use Rattle.regex_lite.proofs.Common.{sym, refl, subst, lit<, cell, Fml, Lft, Share, fex, flft, fsep}
use Rattle.regex_lite.proofs.Common.{ftok, ftrue, full_share, SProp, ent, id⊢, sep, every, part_at}
use Rattle.regex_lite.proofs.Common.{layout, param, Laws, param_laws, RattleType, Ptr, block_ptr}
use Rattle.regex_lite.proofs.Common.{align, up, !, await, by, done, fjoin, fpack, fpick, frame}
use Rattle.regex_lite.proofs.Common.{fsplit, group, join, later, move, now, pick, qed, raw, some}
use Rattle.regex_lite.proofs.Common.{split, split3, updating, use1, use2, ‵, ◌$◌, ◌∵◌, ◌⊛◌, Logic}
use Rattle.regex_lite.proofs.Common.{sem, top, stands_for, only_one, value_place, lends, owned}
use mathlib.Core.Path.{◌≡◌}
use mathlib.Core.Bool.{Bool, true, false}
use Prim.Native.Nat.{ℕ, ◌+◌, ◌<◌, ◌^◌}
use mathlib.Core.List.{List, [], ◌∷◌}
use seplogic.Ra.Ura.{Ura}
use mir.Syntax.{w64, ty_int}
use mir.Raw.{raw as bare}
use base.Logic.{wand, all_e, apply∗}
use base.Fml.{Incl, Incl-trans, fwand, fbor}
use contract.BorrowLft.{meet_⊑_left, meet_⊑_right}
use types.Kit.{given, drop, learn, assume, fjoin3, flt_i}
use types.RcWeak as rc
use denote.RattleType.{Denots}
use denote.Memory.{part_of}
use denote.Plain.{UInt, uint_out, uint_in}
use denote.RawPtr.{lies_at}
use denote.Steps.{nothing}
use denote.Struct.Laws.{usize-laws}
use denote.Struct.Lending.{Lends-lies, Lends-first}
use denote.Struct.Members.{Member, rows_of, parts_at}
use denote.Struct.Parts.{shape_of, PartsBack, Struct-parts}
use denote.Struct.Struct.{Struct}
use Rattle.std.specs.Rc.Ownership.{counter_at}
use Rattle.std.specs.Global.{Global}
use Rattle.std.specs.contracts.impls.GlobalAllocator.TheImpl.{ghosts}
use Rattle.regex_lite.specs.Owner.Ownership.{is_stored, block_back, Whole, whole}
use Rattle.regex_lite.proofs.owner.CountLemmas.{Id, key, S, static, box, value, weaks, handle}

module _ (T : RattleType) (L : Laws T) (b o : ℕ) (x : T.Denot) {M : Type 1} {𝓤 : Ura M}
    (𝓛 : Logic 𝓤) where
  open 𝓛 use {H, A}

  abbrev R : RattleType
  R = param 0 T

  abbrev c : Ptr
  c = block_ptr b o

  abbrev ms : List Member
  ms = record { row = UInt w64; ty = ty_int w64 } ∷ record { row = R; ty = layout T } ∷ []

  abbrev Fields : RattleType
  Fields = Struct (shape_of [] ms)

  abbrev at : ℕ
  at = up (align (layout T)) 8

  abbrev W : Fml
  W = part_at (Whole R c x) full_share (whole R c x) b o

  -- this `Global` can free the block
  abbrev C : Global → Fml
  C alloc = ghosts.dealloc_token alloc (bare (layout (Whole R c x))) c

  abbrev Joins : Fml
  Joins = fwand (fsep (counter_at c 0 1) (lies_at R full_share (value_place R c x) x))
      (lies_at (Whole R c x) full_share c (whole R c x))

  as_fields : ent 𝓤 (sem 𝓛 W) (sem 𝓛 (part_at Fields full_share (1, (x, tt)) b o))
  unfolding part_of
  as_fields = id⊢ 𝓤 _

  as_block : ent 𝓤 (sem 𝓛 (part_at Fields full_share (1, (x, tt)) b o)) (sem 𝓛 W)
  unfolding part_of
  as_block = id⊢ 𝓤 _

  pub apart : ent 𝓤 (sem 𝓛 W) (sep 𝓤 (sem 𝓛 (cell b o 0 1))
      (sep 𝓤 (sem 𝓛 (part_at R full_share x b (o + at))) (sem 𝓛 Joins)))
  apart = let F : SProp 𝓤 = sem 𝓛 (parts_at full_share ms 0 (1, (x, tt)) b o) in
      let X : Fml = part_at Fields full_share (1, (x, tt)) b o in
      qed 𝓛 (‵ W ∷ []) ∵ use1 𝓛 (‵ X) as_fields $ use1 𝓛
      ((‵ (part_at (UInt w64) full_share 1 b (o + 0)) ⊛ ‵ (part_at R full_share x b (o + at))
      ⊛ ‵ ftrue) ⊛ raw (PartsBack 𝓛 full_share [] ms b o))
      (Struct-parts 𝓛 full_share [] ms (usize-laws.lawful 𝓛, ((param_laws 0 T L).lawful 𝓛, tt))
      (1, (x, tt)) b o) $ split ! $ split3 ! $
      use1 𝓛 (‵ (cell b o 0 1)) (uint_out 𝓛 full_share w64 1 b (o + 0)) $ frame ! $
      frame ! $ drop ! $ use1 𝓛 (raw (wand 𝓤 F (sem 𝓛 X)))
      (all_e 𝓤 (λ (a : Denots (rows_of ms)). wand 𝓤 (sem 𝓛 (parts_at full_share ms 0 a b o))
      (sem 𝓛 (part_at Fields full_share a b o))) (1, (x, tt))) $
      assume ! (‵ (fsep (counter_at c 0 1) (lies_at R full_share (value_place R c x) x))) $
      fsplit ! $ fsplit ! $ drop ! $ use1 𝓛 (‵ (part_at (UInt w64) full_share 1 b (o + 0)))
      (uint_in 𝓛 full_share w64 1 b (o + 0)) $ nothing ! $ move ! (1 ∷ 2 ∷ 0 ∷ []) $ fjoin3 ! $
      use2 𝓛 (‵ X) (apply∗ 𝓤 F (sem 𝓛 X)) $ by ! as_block

  pub starts : (alloc : Global) (μ : Lft) (q : Share) → Incl μ T.lives
      → ent 𝓤 (sep 𝓤 (sem 𝓛 W) (sep 𝓤 (sem 𝓛 (C alloc)) (A.lft μ q)))
      (H.⇛ (sep 𝓤 (sem 𝓛 (fex Id (handle R c x))) (A.lft μ q)))
  starts alloc μ q inc = qed 𝓛 (‵ W ∷ ‵ (C alloc) ∷ ‵ (flft μ q) ∷ []) ∵ updating ! $
      move ! (1 ∷ []) $ fpack ! Global C alloc $ move ! (1 ∷ []) $
      use1 𝓛 (‵ (cell b o 0 1) ⊛ ‵ (part_at R full_share x b (o + at)) ⊛ ‵ Joins) apart $ split3 ! $
      -- [the cell; the value; the way back; the right to free; the token]
      flt_i ! 1 (2 ^ 64) (lit< tt) $ fjoin ! $
      nothing ! $ fpack ! ((1 ≡ 1) × (1 < top)) (λ _. ftrue) (refl, lit< tt) $
      fpack ! Bool (stands_for (static R c x) 1 1) true $ move ! (1 ∷ 0 ∷ []) $ fjoin ! $
      fpack ! ℕ (λ w. fsep (counter_at c 0 w) (is_stored (static R c x) 1 w)) 1 $
      move ! (3 ∷ 2 ∷ []) $ fjoin ! $ move ! (2 ∷ 0 ∷ []) $ fjoin ! $
      nothing ! $ fpack ! (1 ≡ 1) (λ _. ftrue) refl $ nothing ! $
      -- [nothing; no weak owners; what is owned; the word; the token]
      move ! (3 ∷ 1 ∷ 2 ∷ 0 ∷ []) $ group ! 4 $ use1 𝓛 (later
      (some (λ (a : Id). ‵ (rc.part 64 a.0) ⊛ ‵ (box R c x a) ⊛ ‵ (fbor (a.0 ∷ []) (owned R c x)))))
      (rc.rc_new 64 (key R c x) (S R c x) only_one (owned R c x) ftrue ftrue 𝓛 (lit< tt)) $
      await ! tt $ pick ! (λ a. split3 ! $ fpick ! (λ e. fpick ! (λ one.
      move ! (0 ∷ 3 ∷ []) $ join ! $ move ! (2 ∷ 0 ∷ []) $
      use2 𝓛 (later (‵ (lends R c x (a.0 ∷ [])) ⊛ ‵ (flft (a.0 ∷ []) e) ⊛ ‵ (flft μ q)))
      (Lends-first 𝓛 (lies_at R full_share (value_place R c x) x) (block_back R c x)
      (lends R c x) T.lives
      (Lends-lies 𝓛 R T.lives (value_place R c x) x ((param_laws 0 T L).shares 𝓛 x))
      (a.0 ∷ []) ((a.0 ∷ [], e) ∷ (μ, q) ∷ []) (Incl-trans (meet_⊑_right (a.0 ∷ []) μ) inc)
      (meet_⊑_left (a.0 ∷ []) μ)) $ await ! tt $ split3 ! $
      move ! (1 ∷ []) $ use1 𝓛 (‵ (rc.part 64 a.0)) (rc.part_in 64 𝓛 a.0 e one) $
      move ! (0 ∷ 3 ∷ 1 ∷ []) $ fjoin3 ! $ fpack ! Id (handle R c x) a $ now ! $ done !)))

  pub ends : (alloc : Global) (a : Id) → ent 𝓤
      (sep 𝓤 (sem 𝓛 (cell b o 0 1)) (sep 𝓤 (sem 𝓛 (value R c x a true 1))
      (sep 𝓤 (sem 𝓛 (rc.part 64 a.0)) (sep 𝓤 (sem 𝓛 (weaks R c x a 1))
      (rc.Shut 64 (key R c x) (S R c x) only_one (owned R c x) ftrue ftrue 𝓛 a every)))))
      (H.⇛ (sep 𝓤 (sem 𝓛 (fsep W (C alloc))) (A.tok every)))
  ends alloc a =
      qed 𝓛 (‵ (cell b o 0 1) ∷ ‵ (value R c x a true 1) ∷ ‵ (rc.part 64 a.0) ∷ ‵ (weaks R c x a 1)
      ∷ raw (rc.Shut 64 (key R c x) (S R c x) only_one (owned R c x) ftrue ftrue 𝓛 a every) ∷ [])
      ∵ updating ! $ move ! (1 ∷ 2 ∷ []) $ use2 𝓛 (later (‵ (owned R c x) ⊛ ‵ (rc.part 64 a.1)
      ⊛ raw (wand 𝓤 (sem 𝓛 ftrue) (sem 𝓛 (value R c x a false 0)))))
      (rc.last 64 (key R c x) (S R c x) only_one (owned R c x) ftrue ftrue 𝓛 a) $ await ! tt $
      split3 ! $ nothing ! $ move ! (0 ∷ 3 ∷ []) $
      use2 𝓛 (‵ (value R c x a false 0)) (apply∗ 𝓤 (sem 𝓛 ftrue) (sem 𝓛 (value R c x a false 0))) $
      -- [the value's place; what is owned; the weak part; the cell; the weaks; what shuts]
      move ! (0 ∷ 4 ∷ 2 ∷ 5 ∷ []) $ group ! 4 $
      use1 𝓛 (later (given (0 ≡ 0) (‵ ftrue ⊛ ‵ ftrue ⊛ ‵ (ftok every))))
      (rc.weak_last 64 (key R c x) (S R c x) only_one (owned R c x) ftrue ftrue 𝓛 a every false 0) $
      await ! tt $ learn ! (λ _. split3 ! $ drop ! $ drop ! $
      -- [the thread's token; what is owned; the cell]
      move ! (1 ∷ []) $ fsplit ! $ move ! (1 ∷ []) $ fsplit ! $ fpick ! (λ _. move ! (4 ∷ []) $
      flt_i ! 1 (2 ^ 64) (lit< tt) $ fjoin ! $ move ! (0 ∷ 3 ∷ []) $ fjoin ! $ move ! (0 ∷ 2 ∷ []) $
      use2 𝓛 (‵ W)
      (apply∗ 𝓤 (sem 𝓛 (fsep (counter_at c 0 1) (lies_at R full_share (value_place R c x) x)))
      (sem 𝓛 W)) $ move ! (0 ∷ 1 ∷ []) $ fjoin ! $ now ! $ done !))

  abbrev Had : Id → Ptr → SProp 𝓤
  Had a r = sep 𝓤 (sem 𝓛 (cell b o 0 1)) (sep 𝓤 (sem 𝓛 (value R r x a true 1))
      (sep 𝓤 (sem 𝓛 (rc.part 64 a.0)) (sep 𝓤 (sem 𝓛 (weaks R r x a 1))
      (rc.Shut 64 (key R r x) (S R r x) only_one (owned R r x) ftrue ftrue 𝓛 a every))))

  pub ends_at_ptr : (alloc : Global) (a : Id) (r : Ptr) → r ≡ c
      → ent 𝓤 (Had a r) (H.⇛ (sep 𝓤 (sem 𝓛 (fsep W (C alloc))) (A.tok every)))
  ends_at_ptr alloc a r e =
      subst (λ (p : Ptr). ent 𝓤 (Had a p) (H.⇛ (sep 𝓤 (sem 𝓛 (fsep W (C alloc))) (A.tok every))))
      (sym e) (ends alloc a)

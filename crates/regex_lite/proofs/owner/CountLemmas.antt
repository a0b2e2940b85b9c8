-- What the walks of a counted owner share.
--     fills         at the top the last part goes for ever, and whoever looks has what a
--                   `&'static` holds
--     says_count    below the top the word is the count
--     opens, shuts  the invariant is opened to the word, and shut
--     more, less    one owner more and one less
--     lent_out, lent_back      an owner that is borrowed
use Rattle.regex_lite.proofs.Common.{sym, refl, arith, cell, word, word_ty, Fml, Lft, Share, fat}
use Rattle.regex_lite.proofs.Common.{fex, fhide, flft, fsep, ftok, ftrue, SProp, ent, id⊢, never}
use Rattle.regex_lite.proofs.Common.{sep, every, hidden_shr, part_at, unhide, RattleType, Ptr}
use Rattle.regex_lite.proofs.Common.{block_ptr, in_a_block, lent_at_shr_laws, Sym, Val, !, Goal}
use Rattle.regex_lite.proofs.Common.{Item, Seq, Soaks, Step, await, by, done, fjoin, fpack, fpick}
use Rattle.regex_lite.proofs.Common.{fsplit, group, join, keep, later, move, now, pick, qed, raw}
use Rattle.regex_lite.proofs.Common.{rewrite, some, split, split3, step, updating, use1, use2, use3}
use Rattle.regex_lite.proofs.Common.{‵, ◌$◌, ◌∵◌, ◌⊛◌, Logic, sem, top, stands_for, only_one}
use Rattle.regex_lite.proofs.Common.{value_place, lends, owned}
use mathlib.Core.Path.{◌≡◌}
use mathlib.Core.Bool.{Bool, true, false}
use Prim.Native.Nat.{ℕ, ◌+◌, ◌-◌, ◌<◌, ◌^◌}
use mathlib.Core.List.{List, [], ◌∷◌}
use seplogic.Ra.Ura.{Ura}
use base.FractionLaws.{Counts}
use base.Share
use base.Logic.{guard}
use base.Fml.{Key, fobor}
use contract.BorrowLft.{meet_⊑_left}
use types.Kit.{given, drop, learn, check, fsplit3, fjoin3, flt_i, flt_l}
use types.Tokens.{bor_new, bor_fracture, shr_bor-open, obor_close}
use types.Within.{tokens_halve}
use types.Na.{na_inv_dup}
use types.RcWeak as rc
use denote.RcWeak as handles
use denote.RattleType.{RowLaws}
use denote.RawPtr.{block_of, count_of}
use denote.Moves.{moves_from}
use denote.Opens.{Shut}
use denote.Sharing.{some as for_some}
use denote.Steps.{nothing}
use Rattle.std.specs.Rc.Ownership.{counter_at}
use Rattle.regex_lite.specs.Owner.Ownership.{is_stored, count_at}
use Rattle.regex_lite.proofs.PointerLemmas.{Word, word_had, word_made, reads, read}

abbrev pub Id : Type 0
Id = ℕ × ℕ

-- `Types/RcWeak.antt`'s words at the block c and the value x
module _ (R : RattleType) (c : Ptr) (x : R.Denot) where
  abbrev pub key : Key
  key = (block_of c, count_of c)

  abbrev pub static : Fml
  static = lends R c x []

  abbrev pub S : ℕ → Fml
  S = count_at c static

  abbrev pub box : Id → Fml
  box = rc.box 64 key S only_one (owned R c x) ftrue ftrue

  abbrev pub value : Id → Bool → ℕ → Fml
  value = rc.value 64 key S only_one (owned R c x) ftrue ftrue

  abbrev pub weaks : Id → ℕ → Fml
  weaks = rc.weaks 64 key S only_one (owned R c x) ftrue ftrue

  abbrev pub handle : Id → Fml
  handle = handles.handle 64 key S only_one (owned R c x) ftrue ftrue (lends R c x) (λ i. i.0)

  abbrev pub lent : Lft → Fml
  lent = for_some Id
      (handles.lent 64 key S only_one (owned R c x) ftrue ftrue (lends R c x) (λ i. i.0))

  abbrev pub Closes : {M : Type 1} {𝓤 : Ura M} (𝓛 : Logic 𝓤) → Id → Item 𝓤
  Closes 𝓛 a = raw (rc.Shut 64 key S only_one (owned R c x) ftrue ftrue 𝓛 a every)

module _ (R : RattleType) (L : RowLaws R) (c : Ptr) (x : R.Denot) {M : Type 1} {𝓤 : Ura M}
    (𝓛 : Logic 𝓤) where
  open 𝓛 use {H}

  abbrev Before : Fml → Id → ℕ → SProp 𝓤
  Before F a n =
      sep 𝓤 (sem 𝓛 F) (sep 𝓤 (sem 𝓛 (value R c x a true n)) (sem 𝓛 (lends R c x (a.0 ∷ []))))

  abbrev After : Id → SProp 𝓤
  After a = H.⇛ (sep 𝓤 (sem 𝓛 (static R c x)) (sem 𝓛 (fex ℕ (value R c x a true))))

  fills_by : (a : Id) (n w : ℕ) → (y : Bool)
      → ent 𝓤 (Before (stands_for (static R c x) n w y) a n) (After a)
  fills_by a n w true = qed 𝓛 (‵ (stands_for (static R c x) n w true) ∷ ‵ (value R c x a true n)
      ∷ ‵ (lends R c x (a.0 ∷ [])) ∷ []) ∵ updating ! $ fpick ! (λ e. drop ! $
      let low : n < 2 ^ 64 - 1 = e.1 in
      use1 𝓛 (‵ (value R c x a true (n + 1)) ⊛ ‵ (rc.part 64 a.0))
      (rc.more 64 (key R c x) (S R c x) only_one (owned R c x) ftrue ftrue 𝓛 a n (omega arith)) $
      split ! $ fpack ! ℕ (value R c x a true) (n + 1) $ move ! (1 ∷ []) $
      fpick ! (λ s. fpick ! (λ one. bor_new ! tt [] $ bor_fracture ! tt (λ r. flft (a.0 ∷ []) r) s $
      move ! (0 ∷ 3 ∷ []) $ use2 𝓛 (‵ (static R c x))
      (moves_from 𝓛 (lends R c x) (lent_at_shr_laws R L (value_place R c x) x) [] (a.0 ∷ [])
      (a.0 ∷ []) (meet_⊑_left (a.0 ∷ []) [])) $ now ! $ keep ! (0 ∷ 2 ∷ []) $ done !)))
  fills_by a n w false = qed 𝓛 (‵ (stands_for (static R c x) n w false) ∷ ‵ (value R c x a true n)
      ∷ ‵ (lends R c x (a.0 ∷ [])) ∷ []) ∵ updating ! $ fpick ! (λ e. now ! $
      move ! (1 ∷ []) $ fpack ! ℕ (value R c x a true) n $ keep ! (1 ∷ 0 ∷ []) $ done !)

  pub fills : (a : Id) (n w : ℕ) → ent 𝓤 (Before (is_stored (static R c x) n w) a n) (After a)
  fills a n w = qed 𝓛 (‵ (is_stored (static R c x) n w) ∷ ‵ (value R c x a true n)
      ∷ ‵ (lends R c x (a.0 ∷ [])) ∷ []) ∵ fpick ! (λ y. by ! (fills_by a n w y))

module _ (R : RattleType) (c : Ptr) (x : R.Denot) {M : Type 1} {𝓤 : Ura M} (𝓛 : Logic 𝓤) where
  not_top : (n w : ℕ) → w < top → (y : Bool)
      → ent 𝓤 (sem 𝓛 (stands_for (static R c x) n w y))
      (guard 𝓤 ((w ≡ n) × (n < top)) (sem 𝓛 ftrue))
  not_top n w low true =
      qed 𝓛 (‵ (stands_for (static R c x) n w true) ∷ []) ∵ fpick ! (λ e. check ! e $ done !)
  not_top n w low false =
      qed 𝓛 (‵ (stands_for (static R c x) n w false) ∷ []) ∵ fpick ! (λ e. absurd (omega arith))

  pub says_count : (n w : ℕ) → w < top
      → ent 𝓤 (sem 𝓛 (is_stored (static R c x) n w)) (guard 𝓤 ((w ≡ n) × (n < top)) (sem 𝓛 ftrue))
  says_count n w low =
      qed 𝓛 (‵ (is_stored (static R c x) n w) ∷ []) ∵ fpick ! (λ y. by ! (not_top n w low y))

module _ (R : RattleType) (c : Ptr) (x : R.Denot) where
  abbrev pub Back : {M : Type 1} {𝓤 : Ura M} (𝓛 : Logic 𝓤) → Sym → Lft → Share → ℕ → ℕ → ℕ → Share
      → Share → Item 𝓤
  Back 𝓛 ν κ q b o i s q' = ‵ (fobor κ (Share.left q) (flft (i ∷ []) s))
      ⊛ Shut 𝓛 κ (Share.right q) (part_at (Word (R ∷ []) ν) q' (c, tt) b o)

  -- what a handle of the name ν owns
  abbrev pub owned_by : Sym → List Val → Fml
  owned_by ν vs = fsep ((Word (R ∷ []) ν).own_val (c, tt) vs) (fex Id (handle R c x))

  module _ {M : Type 1} {𝓤 : Ura M} {𝓛 : Logic 𝓤} {K : Type 0} {Γ : List (Item 𝓤)}
      {G : Goal 𝓤 𝓛.H} where
    pub box_twice : K → (a : Id)
        → Step K 𝓛 (‵ (box R c x a) ∷ ‵ (box R c x a) ∷ Γ) G (‵ (box R c x a) ∷ Γ) G
    box_twice t a = step (λ s. use1 𝓛 (‵ (box R c x a) ⊛ ‵ (box R c x a)) (na_inv_dup 𝓛 (key R c x)
        (rc.Inv 64 (key R c x) (S R c x) only_one (owned R c x) ftrue ftrue a)) $ split t $ s)

module _ (R : RattleType) (c : Ptr) (x : R.Denot) where
  module _ {M : Type 1} {𝓤 : Ura M} {𝓛 : Logic 𝓤} {K : Type 0} {Γ : List (Item 𝓤)}
      {G : Goal 𝓤 𝓛.H} where
    -- [the share; the invariant; what every owner lends]
    pub handle_had : K → (ν : Sym) (vs : List Val)
        → ((a : Id) (s : Share) → Counts 64 s 1 → vs ≡ word c ∷ []
        → Seq K 𝓛 (‵ (flft (a.0 ∷ []) s) ∷ ‵ (box R c x a) ∷ ‵ (lends R c x (a.0 ∷ [])) ∷ Γ) G)
        → Seq K 𝓛 (‵ (owned_by R c x ν vs) ∷ Γ) G
    handle_had t ν vs k =
        fsplit t $ word_had (R ∷ []) ν c t vs (λ e. fpick t (λ a. fsplit3 t $ fpick t (λ s.
        fpick t (λ one. k a s one e))))

    pub handle_made : K → (ν : Sym) (a : Id)
        → Step K 𝓛 (‵ (owned_by R c x ν (word c ∷ [])) ∷ Γ) G
        (‵ (rc.part 64 a.0) ∷ ‵ (box R c x a) ∷ ‵ (lends R c x (a.0 ∷ [])) ∷ Γ) G
    handle_made t ν a =
        step (λ s. fjoin3 t $ fpack t Id (handle R c x) a $ word_made (R ∷ []) ν c t $ fjoin t $ s)

    module _ (ν : Sym) (κ : Lft) (q : Share) (b o : ℕ) where
      -- [the share; the invariant; the word; the way back; the invariant; what every owner lends]
      pub lent_out : K → Soaks G
          → ((a : Id) (s q' : Share)
          → Seq K 𝓛 (‵ (flft (a.0 ∷ []) s) ∷ ‵ (box R c x a) ∷ ‵ (fat q' (word_ty ν) b o (word c))
          ∷ Back R c x 𝓛 ν κ q b o a.0 s q' ∷ ‵ (box R c x a) ∷ ‵ (lends R c x (a.0 ∷ [])) ∷ Γ) G)
          → Seq K 𝓛 (‵ (hidden_shr (Word (R ∷ []) ν) κ (c, tt) b o) ∷ ‵ (fhide (lent R c x κ))
          ∷ ‵ (flft κ q) ∷ Γ) G
      lent_out t z k = move t (2 ∷ []) $
          use1 𝓛 (‵ (flft κ (Share.left q)) ⊛ ‵ (flft κ (Share.right q))) (𝓛.lfts.lft_split κ q) $
          split t $ move t (2 ∷ 1 ∷ []) $ reads (R ∷ []) ν c t z b o (λ q'.
          move t (3 ∷ []) $ unhide t $ fpick t (λ a. fsplit3 t $ move t (0 ∷ 5 ∷ []) $
          shr_bor-open t z (tokens_halve 𝓛 (a.0 ∷ [])) (λ s.
          move t (0 ∷ 5 ∷ []) $ join t $ move t (2 ∷ []) $ box_twice R c x t a $
          move t (3 ∷ 0 ∷ 5 ∷ 2 ∷ 1 ∷ 4 ∷ []) $ k a s q')))

      pub lent_back : K → Soaks G → (i : ℕ) (s q' : Share)
          → Step K 𝓛 (‵ (flft κ q) ∷ Γ) G (‵ (flft (i ∷ []) s) ∷ ‵ (fat q' (word_ty ν) b o (word c))
          ∷ Back R c x 𝓛 ν κ q b o i s q' ∷ Γ) G
      lent_back t z i s q' = step (λ next.
          move t (2 ∷ []) $ split t $ move t (0 ∷ 2 ∷ []) $ obor_close t z $ drop t $
          move t (2 ∷ 1 ∷ []) $ read (R ∷ []) ν c t z b o q' $ move t (1 ∷ 0 ∷ []) $
          use2 𝓛 (‵ (flft κ q)) (𝓛.lfts.lft_join κ q) $ next)

    module _ (a : Id) where
      -- [the word; what it says; the value; the weaks; the share; what shuts]
      pub opens : K → Soaks G → (s : Share)
          → ((n w b o : ℕ) → c ≡ block_ptr b o → w < 2 ^ 64 → 0 < n
          → Seq K 𝓛 (‵ (cell b o 0 w) ∷ ‵ (is_stored (static R c x) n w) ∷ ‵ (value R c x a true n)
          ∷ ‵ (weaks R c x a 1) ∷ ‵ (flft (a.0 ∷ []) s) ∷ Closes R c x 𝓛 a ∷ Γ) G)
          → Seq K 𝓛 (‵ (box R c x a) ∷ ‵ (flft (a.0 ∷ []) s) ∷ ‵ (ftok every) ∷ Γ) G
      opens t z s k = use3 𝓛 (later
          (some (λ (u : ℕ × ℕ). ‵ (S R c x u.0) ⊛ ‵ (only_one u.1) ⊛ ‵ (value R c x a true u.0)
          ⊛ ‵ (weaks R c x a u.1) ⊛ ‵ (flft (a.0 ∷ []) s) ⊛ Closes R c x 𝓛 a)))
          (rc.open_strong 64 (key R c x) (S R c x) only_one
          (owned R c x) ftrue ftrue 𝓛 a every refl s) $ await t z $ pick t (λ u. split3 t $
          move t (1 ∷ []) $
          fpick t (λ one. drop t $ move t (1 ∷ []) $ split3 t $ move t (2 ∷ []) $ split t $
          move t (3 ∷ []) $
          rewrite t 0 (λ (m : ℕ). ‵ (weaks R c x a m)) one refl $ move t (3 ∷ []) $
          use1 𝓛 (given (0 < u.0) (‵ (value R c x a true u.0)))
          (rc.strong_some 64 (key R c x) (S R c x) only_one (owned R c x) ftrue ftrue 𝓛 a u.0) $
          learn t (λ some'. move t (4 ∷ []) $ fpick t (λ w. fsplit t $
          in_a_block t c (λ r. counter_at r 0 w) (id⊢ 𝓤 (never 𝓤))
          (λ b o e. fsplit t $ flt_l t (λ fw.
          move t (0 ∷ 1 ∷ 2 ∷ 3 ∷ 4 ∷ 5 ∷ []) $ k u.0 w b o e fw some'))))))

      pub shuts : K → Soaks G → (n w b o : ℕ) → c ≡ block_ptr b o → w < 2 ^ 64
          → Step K 𝓛 (‵ (ftok every) ∷ Γ) G (‵ (cell b o 0 w) ∷ ‵ (is_stored (static R c x) n w)
          ∷ ‵ (value R c x a true n) ∷ ‵ (weaks R c x a 1) ∷ Closes R c x 𝓛 a ∷ Γ) G
      shuts t z n w b o e fw = step (λ next.
          flt_i t w (2 ^ 64) fw $ fjoin t $
          rewrite t 0 (λ (r : Ptr). ‵ (counter_at r 0 w)) (sym e) refl $ fjoin t $
          fpack t ℕ (λ v. fsep (counter_at c 0 v) (is_stored (static R c x) n v)) w $
          nothing t $ fpack t (1 ≡ 1) (λ _. ftrue) refl $ move t (1 ∷ 0 ∷ []) $ group t 5 $
          use1 𝓛 (later (‵ (ftok every)))
          (rc.shut 64 (key R c x) (S R c x) only_one (owned R c x) ftrue ftrue 𝓛 a every true n 1) $
          await t z $ next)

      pub more : K → (n : ℕ) → n + 1 < 2 ^ 64
          → Step K 𝓛 (‵ (value R c x a true (n + 1)) ∷ ‵ (rc.part 64 a.0) ∷ Γ) G
          (‵ (value R c x a true n) ∷ Γ) G
      more t n f = step (λ next. use1 𝓛 (‵ (value R c x a true (n + 1)) ⊛ ‵ (rc.part 64 a.0))
          (rc.more 64 (key R c x) (S R c x) only_one (owned R c x) ftrue ftrue 𝓛 a n f) $
          split t $ next)

      pub less : K → (n : ℕ) → 1 < n
          → Step K 𝓛 (‵ (value R c x a true (n - 1)) ∷ Γ) G
          (‵ (value R c x a true n) ∷ ‵ (rc.part 64 a.0) ∷ Γ) G
      less t n many = use2 𝓛 (‵ (value R c x a true (n - 1)))
          (rc.less 64 (key R c x) (S R c x) only_one (owned R c x) ftrue ftrue 𝓛 a n many)

      -- what the word says below the top
      pub counted : K → (n w : ℕ) → w < top → (w ≡ n → n < top → Seq K 𝓛 Γ G)
          → Seq K 𝓛 (‵ (is_stored (static R c x) n w) ∷ Γ) G
      counted t n w low k = use1 𝓛 (given ((w ≡ n) × (n < top)) (‵ ftrue))
          (qed 𝓛 (‵ (is_stored (static R c x) n w) ∷ []) ∵ by ! (says_count R c x 𝓛 n w low)) $
          learn t (λ e. drop t $ k e.0 e.1)

      pub says_n : K → (n : ℕ) → n < top → Step K 𝓛 (‵ (is_stored (static R c x) n n) ∷ Γ) G Γ G
      says_n t n low =
          step (λ next. nothing t $ fpack t ((n ≡ n) × (n < top)) (λ _. ftrue) (refl, low) $
          fpack t Bool (stands_for (static R c x) n n) true $ next)

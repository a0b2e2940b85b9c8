-- A `&` to a value that lasts holds what its owner does, since that can be had twice.
use mathlib.Core.List.{[], ◌∷◌}
use seplogic.Ra.Ura.{Ura}
use base.Before.{before}
use Rattle.regex_lite.proofs.Common.{Fml, Lft, ent, sep, param, Laws, RattleType, Ptr, lent_at}
use Rattle.regex_lite.proofs.Common.{lent_at_shr_laws, !, await, done, later, move, now, qed, raw}
use Rattle.regex_lite.proofs.Common.{split, updating, use1, use2, ‵, ◌$◌, ◌⊛◌, Logic, sem}
use base.Logic.{wand, snd∗, apply∗}
use base.Fml.{fbor}
use types.Logic.{lfts}
use types.Kit.{drop}
use denote.Param.Shared.{copy_shared}
use denote.Sharing.{ShrLaws}
use denote.SharingLaws.{contraction}
use denote.Struct.Field.{RawPtr-field}
use denote.Struct.Laws.{RawPtr-copy}
use denote.Struct.Lending.{Lends, of_Lends}
use Rattle.regex_lite.specs.Owner.Ownership.{lent_static}
use Rattle.regex_lite.specs.contracts.owner.lasting.Lasting as lasting
use Rattle.regex_lite.proofs.owner.lasting.Lasting.TheLaw.Statement.{statement}

module _ (T : RattleType) (L : Laws T) (p : Ptr) (x : T.Denot) where
  abbrev held : Fml
  held = lent_static (param 0 T) p x

  abbrev shared : Lft → Fml
  shared = lent_at (param 0 T) p x

  abbrev shared_laws : ShrLaws shared
  shared_laws = lent_at_shr_laws (param 0 T) L.shr_laws p x

  twice : {M : Type 1} {𝓤 : Ura M} (𝓛 : Logic 𝓤)
      → ent 𝓤 (sem 𝓛 held) (sep 𝓤 (sem 𝓛 held) (sem 𝓛 held))
  twice 𝓛 = contraction 𝓛 shared shared_laws []

  held_laws : ShrLaws (λ κ. held)
  held_laws = record {
    contraction = λ M 𝓤 𝓛 κ. twice 𝓛;
    mono = λ M 𝓤 𝓛 κ' κ. snd∗ 𝓤 (sem 𝓛 (before κ' κ)) (sem 𝓛 held);
  }

  lends : {M : Type 1} {𝓤 : Ura M} (𝓛 : Logic 𝓤) (l : Lft) → Lends 𝓛 held (λ κ. held) l
  lends {𝓤 = 𝓤} 𝓛 l κ ts inc within =
      let back = wand 𝓤 (sem 𝓛 held) (𝓛.H.⇛ (sep 𝓤 (𝓛.A.bor κ held) (lfts 𝓛 ts))) in
      qed 𝓛 (‵ (fbor κ held) ∷ raw (lfts 𝓛 ts) ∷ []) {P = 𝓛.H.⇛ (sep 𝓤 (sem 𝓛 held) (lfts 𝓛 ts))} (
      updating ! $ use2 𝓛 (later (‵ held ⊛ raw back)) (𝓛.more.bor_acc_by κ ts held within) $
      await ! tt $ split ! $ use1 𝓛 (‵ held ⊛ ‵ held) (twice 𝓛) $ split ! $ move ! (0 ∷ 2 ∷ []) $
      use2 𝓛 (later (‵ (fbor κ held) ⊛ raw (lfts 𝓛 ts)))
      (apply∗ 𝓤 (sem 𝓛 held) (𝓛.H.⇛ (sep 𝓤 (𝓛.A.bor κ held) (lfts 𝓛 ts)))) $
      await ! tt $ split ! $ drop ! $ move ! (1 ∷ 0 ∷ []) $ now ! $ done !)

pub shares : (T : RattleType) (L : Laws T) → statement T L
shares T L =
    of_Lends (lasting.struct T) (lasting.the_codes T.Denot T.coded) (lasting.the_heap T)
    (lasting.the_lent T) (λ d p. held_laws T L d.ptr d.value)
    (copy_shared RawPtr-field RawPtr-copy, tt)
    (λ M 𝓤 𝓛 d p. lends T L d.ptr d.value 𝓛 (lasting.the_row T).lives)

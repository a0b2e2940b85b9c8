-- A `&` to a counted owner holds a share of its token.
use Rattle.regex_lite.proofs.Common.{ftrue, Laws, RattleType, lent_at_shr_laws, only_one}
use Rattle.regex_lite.proofs.Common.{value_place, lends, owned}
use denote.RawPtr.{block_of, count_of}
use denote.Param.Shared.{copy_shared}
use denote.Struct.Field.{RawPtr-field}
use denote.Struct.Laws.{RawPtr-copy}
use denote.Struct.Lending.{of_Lends}
use denote.RcWeak.{Lends-rc, rc_shr_laws}
use mathlib.Core.List.{[]}
use Rattle.regex_lite.specs.Owner.Ownership.{count_at}
use Rattle.regex_lite.specs.contracts.owner.counted.Counted as C
use Rattle.regex_lite.proofs.owner.counted.Counted.TheLaw.Statement.{statement}

pub shares : (T : RattleType) (L : Laws T) → statement T L
shares T L = of_Lends (C.struct T) (C.the_codes T.Denot T.coded) (C.the_heap T) (C.the_lent T)
    (λ d p. let c = d.ptr in let x = d.value in
    rc_shr_laws 64 (block_of c, count_of c) (count_at c (lends T c x [])) only_one
    (owned T c x) ftrue ftrue (lends T c x) (lent_at_shr_laws T L.shr_laws (value_place T c x) x))
    (copy_shared RawPtr-field RawPtr-copy, tt) (λ M 𝓤 𝓛 d p. let c = d.ptr in let x = d.value in
    Lends-rc 64 (block_of c, count_of c) (count_at c (lends T c x [])) only_one (owned T c x) ftrue
    ftrue (lends T c x) 𝓛 (lent_at_shr_laws T L.shr_laws (value_place T c x) x) (C.the_row T).lives)

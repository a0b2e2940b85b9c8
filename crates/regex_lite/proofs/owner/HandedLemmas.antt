-- What a walk that holds the thread's token begins with.
use Rattle.regex_lite.proofs.Common.{subst, ent, fst∗, every, owns, types_at, triple_of, Stays}
use Rattle.regex_lite.proofs.Common.{walk_of, WpFn, Logic, sem}
use seplogic.Ra.Ura.{Ura}
use mir.Syntax.{Fn}
use base.Logic.{via, snd∗}
use prog.Model.{Model}
use prog.Routine.{Callee, over, ◌≼⁺◌}
use contract.Beside.{Carries}
use contract.Monad.{fact_use}
use contract.Named.{bare_unfolds}
use contract.Running.{Running, MachineTables, tables_of, bare_tables}
use sound.WpLaws.{WpFn-mono}
use denote.Laws.{Ises, Are, owns_show, showss}
use denote.Signature.{Signature}
use denote.Triple.Clauses.{Ended, Clauses, closing}
use denote.Triple.Entry.{on_entry, alive}
use denote.Triple.Handed.{holding, hands}
use denote.Triple.Spec.{Meets}
use denote.Triple.Table.{entered}
use denote.Triple.Walked.{AllGo, walk_Meets}

module _ {M : Type 1} {𝓤 : Ura M} (𝓛 : Logic 𝓤) (T : Ended)
    (hs : Stays T.signature.params T.kept) (c : Clauses 𝓤 T) where
  open 𝓛 use {H, A}

  abbrev S : Signature
  S = T.signature

  abbrev pub held : Clauses 𝓤 T
  held = holding 𝓤 T (A.tok every) c

  module _ (𝓜 : Model 𝓤 H) (𝓡 : Running 𝓤 H 𝓜) where
    abbrev 𝓒 : Carries 𝓤 H 𝓜 (A.tok every)
    𝓒 = subst (Carries 𝓤 H 𝓜) 𝓛.turn_is 𝓡.carries

    abbrev pub inner : MachineTables 𝓤 H 𝓒.inner
    inner = bare_tables 𝓤 H 𝓒.inner 𝓡.allowed 𝓡.how 𝓡.env

    -- where a parameter's type does not tell its machine values
    pub handed_at : AllGo 𝓛 S.lifetimes S.params T.kept hs → (k : Callee) (e : Fn)
        → over 𝓡.env e ≼⁺ 𝓡.env k
        → ((z : (walk_of 𝓛 T hs held).Ghost)
        → Are (types_at S.params z.0.0) (Ises (types_at S.params z.0.0)) z.0.3 z.0.4
        → ent 𝓤 ((walk_of 𝓛 T hs held).pre z)
        (WpFn 𝓤 H inner.C inner.Λ e ((walk_of 𝓛 T hs held).args z) ((walk_of 𝓛 T hs held).post z)))
        → Meets 𝓛 S (𝓡.run (𝓡.env k)) (closing 𝓛 T c)
    unfolding tables_of
    handed_at go k e is walk = hands 𝓛 T (A.tok every) c 𝓜 𝓒 𝓡 (𝓡.env k)
        (entered 𝓤 H (triple_of 𝓛 S (closing 𝓛 T held)) inner.C inner.Λ k e
        (bare_unfolds 𝓤 H 𝓒.inner 𝓡.allowed 𝓡.how 𝓡.env k e is)
        (walk_Meets 𝓛 T hs go held (WpFn 𝓤 H inner.C inner.Λ e)
        (WpFn-mono 𝓤 H 𝓛.laws (tables_of 𝓤 H 𝓒.inner inner) e) (λ z.
        let Rs = types_at S.params z.0.0 in
        let a = z.0.3 in
        let vss = z.0.4 in
        let On = on_entry 𝓛 S z.0.0 z.0.1 a vss in
        fact_use 𝓤 (Are Rs (Ises Rs) a vss)
        (via 𝓤 (sem 𝓛 (owns Rs a vss)) (via 𝓤 On (fst∗ 𝓤 On ((held z.0.0 a).requires z.1))
        (snd∗ 𝓤 (alive 𝓛 S z.0.0 z.0.1) (sem 𝓛 (owns Rs a vss))))
        (owns_show 𝓛 Rs (Ises Rs) (showss 𝓛 Rs) a vss)) (walk z))))

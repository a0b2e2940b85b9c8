use Rattle.regex_lite_engine.proofs.Common.{◌+◌, sym, ap, ◌∙◌, position_at}
use Rattle.regex_lite_engine.proofs.PositionLemmas.{after_at, position_is}
use Rattle.regex_lite_engine.proofs.search.here.next_char.Goals as goal

pub returns-in-None : goal.returns-in-None
returns-in-None c =
    let a = c.args in let h = a.haystack.now in
    sym (after_at h (position_at h a.at) a.at c.utf8.haystack
    (position_is h a.at c.utf8.haystack c.requires))
    ∙ sym c.first_char.ensures ∙ c.in-None.is

pub returns-in-Some : goal.returns-in-Some
returns-in-Some c =
    let a = c.args in let h = a.haystack.now in (
      sym (after_at h (position_at h a.at) a.at c.utf8.haystack
          (position_is h a.at c.utf8.haystack c.requires))
          ∙ sym c.first_char.ensures ∙ c.in-Some.is,
      ap (λ z. a.at + z) c.byte_len.ensures,
    )

use Rattle.regex_lite_engine.proofs.Common.{suc, ◌+◌, chars, sym, refl, ap, subst, rules, IsOffset}
use Rattle.regex_lite_engine.proofs.Common.{IsCharBoundary}
use Rattle.regex_lite_engine.proofs.search.here.HereLemmas.{moved, here_next}
use Rattle.regex_lite_engine.proofs.OffsetLemmas.{boundary_at}
use Rattle.regex_lite_engine.proofs.search.here.Here.next.Goals.{After-byte_len}
use Rattle.regex_lite_engine.proofs.search.here.Here.next.Goals as goal

-- the next character begins at a boundary
edge : (c : After-byte_len)
    → IsCharBoundary c.args.haystack.now (c.args.self.at + c.byte_len.result)
edge c =
    boundary_at c.args.haystack.now (suc c.requires.0) (c.args.self.at + c.byte_len.result)
    c.utf8.haystack
    (subst (λ z. IsOffset (chars c.args.haystack.now) (suc c.requires.0) (c.args.self.at + z))
    (sym c.byte_len.ensures)
    (moved c.args.haystack.now c.requires.0 c.in-Some.c c.args.self c.requires.1 c.in-Some.is))

pub overflow_add-at : goal.overflow_add-at
overflow_add-at c = let at = edge (goal.at.overflow_add-at c).After-byte_len in search rules

pub first_char-requires : goal.first_char-requires
first_char-requires c = edge (goal.at.first_char-requires c).After-byte_len

pub invariant_of-result : goal.invariant_of-result
invariant_of-result c = let at = edge (goal.at.invariant_of-result c).After-byte_len in search rules

pub returns : goal.returns
returns c = λ p is.
    here_next c.args.haystack.now p c.in-Some.c c.args.self _ c.utf8.haystack c.in-Some.is refl
    (ap (λ z. c.args.self.at + z) c.byte_len.ensures) c.first_char.ensures is

use Rattle.regex_lite_engine.proofs.Common.{IsTrue, sym, refl, subst, inr, arith, nil_from_length}
use Rattle.regex_lite_engine.proofs.pikevm.cache.Cache.next_start.Goals as goal

pub returns : goal.returns
returns g c = λ p is.
    let none = c.is_none.ensures.0 (subst IsTrue (sym c.if-not-is_none.false) refl) in
    let no_threads = c.if-threads-gt0.false in
    let counted = c.threads.ensures in
    inr (
      nil_from_length c.args.self.now.walk.memory.threads (omega (arith, no_threads, counted)),
      none,
      c.pass_over.ensures p is,
    )

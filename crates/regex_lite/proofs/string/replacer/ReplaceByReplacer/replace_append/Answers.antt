use Rattle.regex_lite.proofs.Common.{[], Err, string_bytes, sym, refl, subst, rules}
use Rattle.std.proofs.lemmas.List.{append-nil}
use Rattle.regex_lite.specs.Replacing.{IsAppendedResult}
use Rattle.regex_lite.proofs.string.replacer.ReplaceByReplacer.replace_append.Goals as goal

pub returns-in-Err-clause-appended : goal.returns-in-Err-clause-appended
returns-in-Err-clause-appended g c = (
  [],
  sym (append-nil (string_bytes c.args.dst.now)),
  (
    c.args.caps,
    c.call_mut.result,
    refl,
    search rules,
    subst (λ made. IsAppendedResult made [] (Err c.in-Err.error)) (sym c.in-Err.is) (refl, refl),
  ),
)

use Rattle.regex_lite.proofs.Common.{◌≡◌, ◌∙◌, IfOk, subst, inl, rules, IsOwnedStr, IsOver, ahead}
use Rattle.std.specs.Prelude.{◌⊎◌, IfErr}
use Rattle.std.specs.Cow.{cow_str_bytes}
use Rattle.std.specs.declared.borrow.CowStr.TheVariants.{Borrowed}
use Rattle.regex_lite_syntax.specs.Errors.{out_of_memory}
use Rattle.regex_lite.specs.Ahead.{AreSoManyAhead, whole}
use Rattle.regex_lite.specs.Replacements.{IsLeft, IsRefused, IsReplacedInTurn}
use Rattle.regex_lite.proofs.ReplacementLemmas.{handed_on, none_asked}
use Rattle.regex_lite.proofs.string.regex.Regex.replace_in_turn.Goals as goal

pub returns-in_err-searcher-clause-refused : goal.returns-in_err-searcher-clause-refused
returns-in_err-searcher-clause-refused g c =
    let a = c.args in
    handed_on c.from_residual.result c.from_residual.ensures.1 (λ error same. inl (
      same ∙ c.in_err-searcher.ensures.refused,
      none_asked g.R.Replacer.fixed g.R.Replacer.appends a.rep.now
          (whole a.self.now a.haystack.now a.limit),
    ))

pub returns-clause-replaced : goal.returns-clause-replaced
returns-clause-replaced g c =
    let a = c.args in
    let all : ahead c.new-scan.result ≡ whole a.self.now a.haystack.now a.limit = search rules in
    subst (λ own. IfOk c.replace_each.result (λ new. IsReplacedInTurn g.R.Replacer.fixed
    g.R.Replacer.appends a.rep.now own (cow_str_bytes new.0) c.replace_each.new.rep)) all
    c.replace_each.ensures.replaced

pub returns-clause-counted : goal.returns-clause-counted
returns-clause-counted g c =
    let a = c.args in
    let all : ahead c.new-scan.result ≡ whole a.self.now a.haystack.now a.limit = search rules in
    subst (λ own. IfOk c.replace_each.result (λ new. AreSoManyAhead own new.1)) all
    c.replace_each.ensures.counted

pub returns-clause-refused : goal.returns-clause-refused
returns-clause-refused g c =
    let a = c.args in
    let all : ahead c.new-scan.result ≡ whole a.self.now a.haystack.now a.limit = search rules in
    let fixed = g.R.Replacer.fixed in
    let appends = g.R.Replacer.appends in
    subst (λ own. IfErr c.replace_each.result (λ error.
    ((error ≡ out_of_memory) × IsLeft fixed appends a.rep.now own c.replace_each.new.rep)
    ⊎ IsRefused fixed appends a.rep.now own error c.replace_each.new.rep)) all
    c.replace_each.ensures.refused

pub returns-clause-borrowed : goal.returns-clause-borrowed
returns-clause-borrowed g c =
    let a = c.args in
    let all : ahead c.new-scan.result ≡ whole a.self.now a.haystack.now a.limit = search rules in
    subst (λ own. IfOk c.replace_each.result (λ new. IsOver own → new.0 ≡ Borrowed a.haystack))
    all c.replace_each.ensures.borrowed

pub returns-clause-owned : goal.returns-clause-owned
returns-clause-owned g c =
    let a = c.args in
    let all : ahead c.new-scan.result ≡ whole a.self.now a.haystack.now a.limit = search rules in
    subst (λ own. IfOk c.replace_each.result (λ new. ¬ (IsOver own) → IsOwnedStr new.0))
    all c.replace_each.ensures.owned

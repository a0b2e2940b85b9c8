use Rattle.std.proofs.Common.{sym, ◌∙◌, subst, Some, refl, arith, ◌++◌, ◌∷◌, []}
use Rattle.std.specs.Prelude.{IsCharBoundary}
use Rattle.std.proofs.lemmas.Bool.{false≢true}
use Rattle.std.proofs.lemmas.Str.{IsCharBoundary-start}
use Rattle.regex_lite.specs.MatchViews.{span_of_match}
use Rattle.regex_lite.specs.Anchored.{TellsMatchAtOfList}
use Rattle.tokeniser.specs.Tokens.{AreTokens, IsPartAt, IsTokenAt}
use Rattle.tokeniser.specs.declared.tokens.Token.{Token}
use Rattle.tokeniser.proofs.PartLemmas.{begins, edge_after, ends_later, nothing_at, part_at}
use Rattle.tokeniser.proofs.PartLemmas.{token_at}
use Rattle.tokeniser.proofs.TokenLemmas.{one_more, whole_text}
use Rattle.tokeniser.proofs.tokens.tokens_of.Goals as goal

pub loop-at-init : goal.loop-at-init
loop-at-init c = record {
  same = refl;
  edge = IsCharBoundary-start c.args.text.now c.utf8.text;
  tokens = subst (λ ts. AreTokens c.args.searcher.now c.args.text.now 0 ts 0)
      (sym c.new-tokens.ensures.items) refl;
}

pub returns-in_default-clause-fault : goal.returns-in_default-clause-fault
returns-in_default-clause-fault c =
    let rules = c.args.searcher.now in
    let text = c.args.text.now in
    let at = c.loop-at.at in
    let inv = c.loop-at.invariant in
    let reported = subst (λ s. TellsMatchAtOfList s text at c.find_anchored_at.result) inv.same
    c.find_anchored_at.ensures.found in (
      (c.loop-at.tokens.items, inv.tokens, c.loop-at-test.true),
      nothing_at c.anchored_searches_find_the_match_there.ensures.several rules text c.utf8.text
          at inv.edge
          (subst (TellsMatchAtOfList rules text at) c.in_default.is reported),
    )

pub returns-then-is_empty-clause-fault : goal.returns-then-is_empty-clause-fault
returns-then-is_empty-clause-fault c =
    let rules = c.args.searcher.now in
    let text = c.args.text.now in
    let at = c.loop-at.at in
    let inv = c.loop-at.invariant in
    let found = c.in-Some.found in
    let reported = subst (λ s. TellsMatchAtOfList s text at (Some (c.in-Some.rule, found))) inv.same
    c.in-Some.ensures.found in
    let law = c.anchored_searches_find_the_match_there.ensures.several in
    let start = begins law rules text c.utf8.text at inv.edge c.in-Some.rule found reported in
    let part = part_at law rules text c.utf8.text at inv.edge c.in-Some.rule found reported in
    let end = sym (c.if-is_empty.ensures.0 refl) ∙ start in (
      (c.loop-at.tokens.items, inv.tokens, c.loop-at-test.true),
      subst (IsPartAt rules text c.in-Some.rule at) end part,
    )

pub loop-at-preserved : goal.loop-at-preserved
loop-at-preserved c =
    let rules = c.args.searcher.now in
    let text = c.args.text.now in
    let at = c.loop-at.at in
    let inv = c.loop-at.invariant in
    let law = c.anchored_searches_find_the_match_there.ensures.several in
    let found = c.in-Some.found in
    let end = (span_of_match found).1 in
    let reported = subst (λ s. TellsMatchAtOfList s text at (Some (c.in-Some.rule, found))) inv.same
    c.in-Some.ensures.found in
    let made : Token = record { rule = c.in-Some.rule; text = c.as_str.result } in
    let token : IsTokenAt rules text at end made =
    token_at law rules text c.utf8.text at inv.edge c.in-Some.rule found reported made
    found.lies_in refl c.as_str.ensures
    (λ same. false≢true (sym c.if-is_empty.false ∙ c.is_empty.ensures.1 same)) in
    record {
      same = c.find_anchored_at.ensures.same ∙ inv.same;
      edge = subst (IsCharBoundary text) (sym c.end-at.ensures)
          (edge_after law rules text c.utf8.text at inv.edge c.in-Some.rule found reported
          found.lies_in);
      tokens = subst (λ ts. AreTokens rules text 0 ts c.end-at.result)
          (sym c.in_ok-push.ensures.items)
          (subst (AreTokens rules text 0 (c.loop-at.tokens.items ++ made ∷ []))
          (sym c.end-at.ensures)
          (one_more rules text c.loop-at.tokens.items 0 at end made inv.tokens token));
    }

pub loop-at-smaller : goal.loop-at-smaller
loop-at-smaller c =
    let rules = c.args.searcher.now in
    let text = c.args.text.now in
    let at = c.loop-at.at in
    let inv = c.loop-at.invariant in
    let law = c.anchored_searches_find_the_match_there.ensures.several in
    let found = c.in-Some.found in
    let reported = subst (λ s. TellsMatchAtOfList s text at (Some (c.in-Some.rule, found))) inv.same
    c.in-Some.ensures.found in
    let later = ends_later law rules text c.utf8.text at inv.edge c.in-Some.rule found reported
    found.lies_in
    (λ same. false≢true (sym c.if-is_empty.false ∙ c.is_empty.ensures.1 same)) in
    omega (arith, c.loop-at-test.true, c.end-at.ensures, later)

pub returns-clause-whole : goal.returns-clause-whole
returns-clause-whole c =
    whole_text c.args.searcher.now c.args.text.now c.loop-at.tokens.items c.loop-at.at
    c.loop-at.invariant.tokens c.loop-at-test.false

-- What an anchored search for the rules shows of the part of the text that begins there.
use Rattle.std.proofs.Common.{◌≡◌, ◌<◌, ℕ, List, Some, None, sym, ap, ◌∙◌, subst, inr, arith}
use Rattle.std.specs.Prelude.{slice_get, IsCharBoundary, IsUtf8}
use Rattle.regex_lite.specs.declared.string.matches.Match.{Match}
use Rattle.regex_lite.specs.Anchored.{TellsMatchAtOfList}
use Rattle.regex_lite.specs.AnchoredLaws.{AnchoredListSearchesFindAt, IsMatchAtOfList}
use Rattle.regex_lite.specs.AnchoredLaws.{ListFindsAt}
use Rattle.regex_lite.specs.Expression.{Expression}
use Rattle.regex_lite.specs.Groups.{LiesIn, text_at}
use Rattle.regex_lite.specs.MatchOffsets.{MatchesAt, PrefersSpan}
use Rattle.regex_lite.specs.MatchViews.{haystack_of_match, span_of_match, text_of_match}
use Rattle.tokeniser.specs.declared.tokens.Token.{Token}
use Rattle.tokeniser.specs.Tokens.{IsPartAt, IsTokenAt}

module _ (law : AnchoredListSearchesFindAt) (rules : List Expression) (text : List ℕ)
    (utf8 : IsUtf8 text) (at : ℕ) (edge : IsCharBoundary text at) where
  finds : ListFindsAt rules text at
  finds = law rules text at utf8 (inr edge)

  -- where nothing is found, no rule matches there
  pub nothing_at : TellsMatchAtOfList rules text at None
      → (number : ℕ) (rule : Expression) → slice_get rules number ≡ Some rule
      → ¬ (MatchesAt rule text at)
  nothing_at reported number rule is matches = (finds.none.0 reported).1 (number, rule, is, matches)

  module _ (number : ℕ) (m : Match) (reported : TellsMatchAtOfList rules text at (Some (number, m)))
    where
      there : IsMatchAtOfList rules text at number (span_of_match m)
      there = ((finds.found number m).0 reported).2

      haystack : haystack_of_match m ≡ text
      haystack = ((finds.found number m).0 reported).1

      pub begins : (span_of_match m).0 ≡ at
      begins = there.at.begins

      -- what is found there is the part that begins there
      pub part_at : IsPartAt rules text number at (span_of_match m).1
      part_at = record {
        rule = there.re;
        numbered = there.numbered;
        lowest = λ lower other less is matches.
            omega (arith, less, there.lowest lower other is matches);
        preferred = subst (λ i. PrefersSpan there.re text (i, (span_of_match m).1)) begins
            there.at.preferred;
      }

      -- the next token begins at the end of this one
      pub edge_after : LiesIn (haystack_of_match m) (span_of_match m)
          → IsCharBoundary text (span_of_match m).1
      edge_after lies =
          subst (λ t. IsCharBoundary t (span_of_match m).1) haystack lies.ends_cleanly

      -- it ends later than it begins, if it isn't empty
      pub ends_later : LiesIn (haystack_of_match m) (span_of_match m)
          → ¬ ((span_of_match m).0 ≡ (span_of_match m).1) → at < (span_of_match m).1
      ends_later lies some = omega (arith, lies.ordered, begins, some)

      pub token_at : (token : Token) → LiesIn (haystack_of_match m) (span_of_match m)
          → token.rule ≡ number → token.text.now ≡ text_of_match m
          → ¬ ((span_of_match m).0 ≡ (span_of_match m).1)
          → IsTokenAt rules text at (span_of_match m).1 token
      token_at token lies is_rule is_text some = record {
        part = subst (λ n. IsPartAt rules text n at (span_of_match m).1) (sym is_rule) part_at;
        some = ends_later lies some;
        stands = is_text ∙ ap (λ t. text_at t (span_of_match m)) haystack
            ∙ ap (λ i. text_at text (i, (span_of_match m).1)) begins;
      }

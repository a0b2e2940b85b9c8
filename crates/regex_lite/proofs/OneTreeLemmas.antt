-- A pattern has one tree at most, so that a search for its tree is a search for the pattern.
use Rattle.regex_lite.proofs.Common.{◌≡◌, ℕ, Bool, true, false, ◌↔◌, List, is_some, IsTrue, Some}
use Rattle.regex_lite.proofs.Common.{None, Option, chars, sym, ap, ◌∙◌, subst, false≢true, IsTree}
use Rattle.regex_lite.proofs.Common.{Text, Tree}
use Rattle.std.specs.Prelude.{not}
use Rattle.regex_lite.proofs.Common.{HasMatchFrom, search_start, Expression, MatchesFrom, OfTree}
use Rattle.regex_lite_syntax.specs.declared.flags.Flags.{Flags}
use Rattle.regex_lite_syntax.proofs.machine.WholeLemmas.{grammar_once}
use Rattle.regex_lite.specs.Searches.{TellsEnd}

-- two trees of a pattern are the same
pub one_tree : (flags : Flags) (pattern : Text) (a b : Tree)
    → IsTree flags pattern a → IsTree flags pattern b → a ≡ b
one_tree flags pattern a b p q = (grammar_once flags pattern a b p.0 q.0 p.1 q.1 p.2 q.2).0

-- so two facts about the tree of a pattern are facts about one tree
pub of_both : (re : Expression) (P Q : Tree → Type 0) → OfTree re P → OfTree re Q
    → OfTree re (λ tree. P tree × Q tree)
of_both re P Q (tree, given, p) (other, given_too, q) =
    let one = one_tree re.flags (chars re.pattern) other tree given_too given in
    (tree, given, (p, subst Q one q))

-- the least end shows whether the pattern matches
pub matches_reported : (re : Expression) (haystack : List ℕ) (start : ℕ) (end : Option ℕ)
    (found : Bool) → found ≡ is_some end → TellsEnd re haystack start end
    → IsTrue found ↔ MatchesFrom re haystack start
matches_reported re haystack start None found is (tree, given, none) = (
  λ yes_found. absurd (false≢true (sym is ∙ yes_found)),
  λ matches.
      absurd (none (subst (λ t. HasMatchFrom t (chars haystack) (search_start haystack start))
      (one_tree re.flags (chars re.pattern) matches.0 tree matches.1 given) matches.2)),
)
matches_reported re haystack start (Some at) found is (tree, given, (end, least, same)) =
    (λ yes_found. (tree, given, (least.start, end, least.is_match)), λ matches. is)

-- whether its tree matches is whether the pattern does
pub has_reported : (re : Expression) (haystack : List ℕ) (start : ℕ) (found : Bool)
    → OfTree re (λ tree. IsTrue found
    ↔ HasMatchFrom tree (chars haystack) (search_start haystack start))
    → IsTrue found ↔ MatchesFrom re haystack start
has_reported re haystack start found (tree, given, reported) = (
  λ yes_found. (tree, given, reported.0 yes_found),
  λ matches.
      reported.1 (subst (λ t. HasMatchFrom t (chars haystack) (search_start haystack start))
      (one_tree re.flags (chars re.pattern) matches.0 tree matches.1 given) matches.2),
)

-- a pattern may be empty exactly if it isn't reported that each match reads
pub empty_reported : (reads empty : Bool) → reads ≡ not empty → not reads ≡ empty
empty_reported reads true is = ap not is
empty_reported reads false is = ap not is

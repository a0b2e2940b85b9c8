-- Operators, heads of groups and directives in a longer text that begins with the text.
use Rattle.regex_lite_syntax.proofs.Common.{ℕ, Bool, ◌∷◌, ◌++◌, Option, ap, ◌∙◌, subst}
use Rattle.regex_lite_syntax.proofs.Common.{append_assoc, Counted, exactly, at_least, between}
use Rattle.regex_lite_syntax.proofs.Common.{FlagLetters, setting, clearing, NameWritten}
use Rattle.regex_lite_syntax.proofs.Common.{NameOpening, with_p, without_p, Named, GroupKind, Head}
use Rattle.regex_lite_syntax.proofs.Common.{numbered, plain, Directive, sets, Operator, uncounted}
use Rattle.regex_lite_syntax.proofs.Common.{uncounted_lazy, counted, counted_lazy, Point, onward}
use Rattle.regex_lite_syntax.proofs.Common.{Text, the, Flags}
use Rattle.std.proofs.lemmas.List.{append_cancel_right}
use Rattle.regex_lite_syntax.specs.Grammar.Heads.{named}
use Rattle.regex_lite_syntax.proofs.grammar.LongerGapLemmas.{Settles, gap_longer, gap_before}
use Rattle.regex_lite_syntax.proofs.grammar.LongerNumberLemmas.{number_longer}
use Rattle.regex_lite_syntax.proofs.grammar.NameOpeningLemmas.{named_question}

-- the same point of a longer pattern
abbrev pub longer : (more : Text) → Point → Point
longer more p = onward p (p.rest ++ more)

module _ (more : Text) where
  pub counted_longer : {verbose : Bool} {t rest : Text} {least : ℕ} {most : Option ℕ}
      → Counted verbose t rest least most → Counted verbose (t ++ more) (rest ++ more) least most
  counted_longer (exactly k e) = exactly (number_longer more k (λ e. cc e)) e
  counted_longer {verbose} {rest} (at_least past k g e) =
      at_least (past ++ more) (number_longer more k (λ e. cc e))
      (gap_before more verbose past rest _ g) e
  counted_longer (between past n k m order e) =
      between (past ++ more) n (number_longer more k (λ e. cc e))
      (number_longer more m (λ e. cc e)) order e

  -- an operator, past which nothing comes to stand that would belong to it
  pub operator_longer : {flags : Flags} {t rest : Text} {least : ℕ} {most : Option ℕ}
      {greedy : Bool} → Operator flags t rest least most greedy
      → Settles more flags.ignore_whitespace rest
      → Operator flags (t ++ more) (rest ++ more) least most greedy
  operator_longer (uncounted c e b n g) settles =
      uncounted c (ap (λ u. u ++ more) e) b (settles.question n) g
  operator_longer (uncounted_lazy c e b g) settles = uncounted_lazy c (ap (λ u. u ++ more) e) b g
  operator_longer (counted opened e k n g) settles =
      counted (opened ++ more) (ap (λ u. u ++ more) e) (counted_longer k) (settles.past_gap n) g
  operator_longer {flags} {rest} (counted_lazy opened past e k q g) settles =
      counted_lazy (opened ++ more) (past ++ more) (ap (λ u. u ++ more) e) (counted_longer k)
      (gap_before more flags.ignore_whitespace past rest _ q) g

  pub letters_longer : {old new : Flags} {t rest : Text} → FlagLetters old t rest new
      → FlagLetters old (t ++ more) (rest ++ more) new
  letters_longer {rest} (setting on p all differ e) =
      setting on (ap (λ u. u ++ more) p ∙ append_assoc on rest more) all differ e
  letters_longer {rest} (clearing on off past p q some all all_off differ e) =
      clearing on off (past ++ more) (ap (λ u. u ++ more) p ∙ append_assoc on (the "-" ∷ past) more)
      (ap (λ u. u ++ more) q ∙ append_assoc off rest more) some all all_off differ e

  pub written_longer : {t rest name : Text} → NameWritten t rest name
      → NameWritten (t ++ more) (rest ++ more) name
  written_longer {t} {rest} {name} w = record {
    written = ap (λ u. u ++ more) w.written ∙ append_assoc name (the ">" ∷ rest) more;
    inside = w.inside;
    is_a_name = w.is_a_name;
  }

  pub opening_longer : {t past : Text} → NameOpening t past → NameOpening (t ++ more) (past ++ more)
  opening_longer (with_p e) = with_p (ap (λ u. u ++ more) e)
  opening_longer (without_p e) = without_p (ap (λ u. u ++ more) e)

  pub named_longer : {t rest name : Text} → Named t rest name
      → Named (t ++ more) (rest ++ more) name
  named_longer n = record {
    past = n.past ++ more;
    opens = opening_longer n.opens;
    called = written_longer n.called;
  }

  -- a head, past which no `?` comes to stand
  pub head_longer : {level : ℕ} {p q : Point} {kind : GroupKind} → Head level p q kind
      → Settles more q.flags.ignore_whitespace q.rest
      → Head level (longer more p) (longer more q) kind
  head_longer (numbered rest e none h k) settles =
      let here = subst (λ (x : Point). Settles more x.flags.ignore_whitespace x.rest) h settles in
      numbered (rest ++ more) (ap (λ u. u ++ more) e) (here.past_gap none) (ap (longer more) h) k
  head_longer {p} (named opened first rest name e g n h k) settles =
      let question = (named_question first rest name n).1 in
      named (opened ++ more) (first ++ more) (rest ++ more) name (ap (λ u. u ++ more) e)
      (gap_longer more p.flags.ignore_whitespace opened first g (λ none. cc (none, question)))
      (named_longer n) (ap (longer more) h) k
  head_longer {p} (plain opened first rest new e g letters h k) settles =
      plain (opened ++ more) (first ++ more) (rest ++ more) new (ap (λ u. u ++ more) e)
      (gap_before more p.flags.ignore_whitespace opened first _ g) (letters_longer letters)
      (ap (longer more) h) k

  pub directive_longer : {p q : Point} → Directive p q → Directive (longer more p) (longer more q)
  directive_longer {p} (sets opened first rest new e g n letters h) =
      sets (opened ++ more) (first ++ more) (rest ++ more) new (ap (λ u. u ++ more) e)
      (gap_before more p.flags.ignore_whitespace opened first _ g)
      (λ same. n (append_cancel_right first (the ")" ∷ rest) more same)) (letters_longer letters)
      (ap (longer more) h)

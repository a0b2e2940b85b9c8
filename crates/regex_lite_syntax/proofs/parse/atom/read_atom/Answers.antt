use Rattle.regex_lite_syntax.proofs.Common.{◌+◌, ◌∷◌, ◌++◌, drop, refl, ap, ◌∙◌, arith, rules}
use Rattle.regex_lite_syntax.proofs.Common.{bracketed, Atom, BracketedClass, Set, Text, the, Tree}
use Rattle.regex_lite_syntax.proofs.ExitLemmas.{at_exit}
use Rattle.regex_lite_syntax.proofs.grammar.AtomLemmas.{by_kind, NoSign, no_escape}
use Rattle.regex_lite_syntax.proofs.CharacterLemmas.{left_are}
use Rattle.regex_lite_syntax.proofs.parse.DenialLemmas.{denies_part}
use Rattle.regex_lite_syntax.proofs.parse.CompletionLemmas.{cut_short_says}
use Rattle.regex_lite_syntax.proofs.parse.IndexLemmas.{drop_char}
use Rattle.regex_lite_syntax.proofs.parse.atom.AtomCompletionLemmas.{completed_escape}
use Rattle.regex_lite_syntax.proofs.parse.atom.AtomCompletionLemmas.{completed_class}
use Rattle.regex_lite_syntax.proofs.parse.atom.LiteralLemmas.{other_atom}
use Rattle.regex_lite_syntax.proofs.parse.atom.read_atom.Goals as goal

pub returns-in_err-end-in-92-clause-refused : goal.returns-in_err-end-in-92-clause-refused
returns-in_err-end-in-92-clause-refused c =
    let xs = c.args.chars.now in
    let here = drop_char xs c.args.at _ c.requires.inside c.index-chars-at.is in
    let backslash = here ∙ ap (λ d. d ∷ drop (c.args.at + 1) xs) c.in-92.is in
    at_exit _ _ c.from_residual-in_err-end-in-92.ensures.1 (λ more follows (rest, a, atom).
    no_escape c.args.flags _ _ rest a (ap (λ u. u ++ more) backslash) (λ past p escape.
    c.in_err-end-in-92.ensures.refused more follows (past, p, escape, search rules)) atom)

pub returns-in_err-end-in-91-clause-refused : goal.returns-in_err-end-in-91-clause-refused
returns-in_err-end-in-91-clause-refused c =
    let xs = c.args.chars.now in
    let flags = c.args.flags in
    let here = drop_char xs c.args.at _ c.requires.inside c.index-chars-at.is in
    let bracket = here ∙ ap (λ d. d ∷ drop (c.args.at + 1) xs) c.in-91.is in
    at_exit _ _ c.from_residual-in_err-end-in-91.ensures.1 (denies_part c.in_err-end-in-91.field-0.0
    (λ t. (rest : Text) × (s : Set)
    × BracketedClass flags.case_insensitive flags.ignore_whitespace t rest s)
    (λ t. (rest : Text) × (a : Tree) × Atom flags t rest a) _ _ (λ more (rest, a, atom).
    let from = by_kind flags bracketed (the "[") _ _ rest a (ap (λ u. u ++ more) bracket) refl atom
    in (rest, from.0, from.1)) c.in_err-end-in-91.ensures.refused)

pub returns-in_ok-char_tree-in_default-clause-ok : goal.returns-in_ok-char_tree-in_default-clause-ok
returns-in_ok-char_tree-in_default-clause-ok c =
    let here = drop_char c.args.chars.now c.args.at _ c.requires.inside c.index-chars-at.is in
    let sign : NoSign c.index-chars-at.result = record {
      no_full_stop = λ e. omega (arith, e);
      no_caret = λ e. omega (arith, e);
      no_dollar = λ e. omega (arith, e);
      no_backslash = λ e. omega (arith, e);
      no_bracket = λ e. omega (arith, e);
    } in
    other_atom c.args.flags _ _ _ _ here c.requires.past_gap c.requires.begins sign
    c.in_ok-char_tree-in_default.ensures

pub returns-in_err-end-in-92-clause-completes : goal.returns-in_err-end-in-92-clause-completes
returns-in_err-end-in-92-clause-completes c =
    let xs = c.args.chars.now in
    let here = drop_char xs c.args.at _ c.requires.inside c.index-chars-at.is in
    let backslash = here ∙ ap (λ d. d ∷ drop (c.args.at + 1) xs) c.in-92.is in
    at_exit _ _ c.from_residual-in_err-end-in-92.ensures.1
    (λ short. completed_escape c.args.flags (drop c.args.at xs) (drop (c.args.at + 1) xs) backslash
    (c.in_err-end-in-92.ensures.completes short))

pub returns-in_err-end-in-91-clause-completes : goal.returns-in_err-end-in-91-clause-completes
returns-in_err-end-in-91-clause-completes c =
    let xs = c.args.chars.now in
    let here = drop_char xs c.args.at _ c.requires.inside c.index-chars-at.is in
    let bracket = here ∙ ap (λ d. d ∷ drop (c.args.at + 1) xs) c.in-91.is in
    let characters = left_are c.args.at xs c.requires.characters in
    at_exit _ _ c.from_residual-in_err-end-in-91.ensures.1
    (cut_short_says c.in_err-end-in-91.field-0.0 _ _
    (completed_class c.args.flags (drop c.args.at xs) (drop (c.args.at + 1) xs) bracket characters)
    c.in_err-end-in-91.ensures.completes)

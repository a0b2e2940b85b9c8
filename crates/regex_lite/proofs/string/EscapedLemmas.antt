-- The pattern that is made of a text: its characters, and why it can be refused.
use Rattle.regex_lite.proofs.Common.{◌≡◌, ℕ, ◌≤◌, true, false, List, [], ◌∷◌, map, IsUtf8, chars}
use Rattle.regex_lite.proofs.Common.{sym, refl, ap, ◌∙◌, subst, inl, inr, arith, Refusal}
use Rattle.regex_lite.proofs.Common.{syntax_error, too_deep, too_many_groups, passed_limit}
use Rattle.regex_lite.proofs.Common.{out_of_memory, refused_replacement, kind_of, Text}
use Rattle.regex_lite.proofs.Common.{escaped_pattern, IsDue}
use Rattle.std.proofs.Common.{cond}
use Rattle.std.specs.Str.{all_scalars}
use Rattle.std.proofs.lemmas.Bool.{and_from, and_parts}
use Rattle.std.proofs.lemmas.Str.{chars-encodes, scalars-chars}
use Rattle.regex_lite_syntax.specs.declared.error.LimitFault.TheVariants as limit
use Rattle.regex_lite_syntax.specs.Text.{the}
use Rattle.regex_lite_syntax.specs.Tree.{character, trees}
use Rattle.regex_lite_syntax.specs.Tree.Properties.{greatest_index, greatest_index_in}
use Rattle.regex_lite_syntax.specs.Escaped.{is_meta_character, escaped, literal}
use Rattle.regex_lite_syntax.specs.Grammar.{Grammar}
use Rattle.regex_lite_syntax.specs.Limits.{depth, depth_of_list, PassesNesting}
use Rattle.regex_lite_syntax.proofs.grammar.EscapedLemmas.{escaped_literal}
use Rattle.regex_lite_syntax.proofs.grammar.LiteralMatchLemmas.{literal_matches}
use Rattle.regex_lite_syntax.proofs.CharacterLemmas.{chars_are}
use Rattle.regex_lite.specs.Settings.{no_flags}
use Rattle.regex_lite.specs.Laws.{escaped_settings, IsForSize, EscapedTextsMatchThemselves}
use Rattle.regex_lite.proofs.OneTreeLemmas.{one_tree}

-- characters in a row stand in nothing, and are in no group
flat : (text : Text) → depth_of_list (trees (map character text)) ≡ 0
flat [] = refl
flat (c ∷ t) = omega (arith, flat t)

literal_depth : (text : Text) → depth (literal text) ≤ 1
literal_depth [] = omega arith
literal_depth (c ∷ []) = omega arith
literal_depth (c ∷ d ∷ t) = omega (arith, flat t)

no_index : (text : Text) → greatest_index_in (trees (map character text)) ≡ 0
no_index [] = refl
no_index (c ∷ t) = omega (arith, no_index t)

literal_index : (text : Text) → greatest_index (literal text) ≡ 0
literal_index [] = refl
literal_index (c ∷ []) = refl
literal_index (c ∷ d ∷ t) = no_index (c ∷ d ∷ t)

escaped_scalars : (text : Text) → all_scalars text ≡ true → all_scalars (escaped text) ≡ true
escaped_scalars [] all = refl
escaped_scalars (c ∷ t) all =
    let each = and_parts _ (all_scalars t) all in
    let rest = escaped_scalars t each.1 in
    elim (is_meta_character c)
    as (λ b. all_scalars (cond b (the "\\" ∷ c ∷ escaped t) (c ∷ escaped t)) ≡ true) [
      | true ↦ and_from _ _ each.0 rest
      | false ↦ and_from _ _ each.0 rest
    ]

module _ (text : List ℕ) (utf8 : IsUtf8 text) where
  -- the characters of the pattern are those of the text, escaped
  pattern_chars : escaped (chars text) ≡ chars (escaped_pattern text)
  pattern_chars =
      let scalars = escaped_scalars (chars text) (scalars-chars text utf8) in
      sym (chars-encodes (escaped (chars text)) scalars)

  tree_of_pattern : Grammar no_flags (chars (escaped_pattern text)) (literal (chars text)) 0 0
  tree_of_pattern =
      subst (λ pattern. Grammar no_flags pattern (literal (chars text)) 0 0) pattern_chars
      (escaped_literal no_flags (chars text) refl refl (chars_are text utf8))

  pub refused_for_size : (error : Refusal) → IsDue (escaped_settings text) error
      → IsForSize (kind_of error)
  refused_for_size (passed_limit limit.Size) due = tt
  refused_for_size (passed_limit limit.Places) due = tt
  refused_for_size out_of_memory due = tt
  refused_for_size (syntax_error rule) (inl none) =
      none (literal (chars text), (0, 0, tree_of_pattern))
  refused_for_size (syntax_error rule) (inr (tree, read, says)) = says
  refused_for_size too_deep (inl says) =
      absurd (deep (says.with_tree (literal (chars text)) 0 0 tree_of_pattern))
    where
      deep : PassesNesting 50 (literal (chars text)) 0 → ⊥
      deep (inl groups) = absurd (omega (arith, groups))
      deep (inr nodes) = absurd (omega (arith, nodes, literal_depth (chars text)))
  refused_for_size too_deep (inr (tree, read, says)) = says
  refused_for_size too_many_groups (inl says) =
      absurd (omega (arith, says.with_tree (literal (chars text)) 0 0 tree_of_pattern))
  refused_for_size too_many_groups (inr (tree, read, says)) = says
  refused_for_size (passed_limit limit.Slots) (inl says) = says
  refused_for_size (passed_limit limit.Slots) (inr (tree, read, many)) =
      let same = one_tree no_flags (chars (escaped_pattern text)) tree (literal (chars text))
      (read.0, read.1, read.2) (0, 0, tree_of_pattern) in
      absurd (omega (arith, many, ap greatest_index same ∙ literal_index (chars text)))
  refused_for_size refused_replacement (inl says) = says
  refused_for_size refused_replacement (inr (tree, read, says)) = says

pub escaped_matches : EscapedTextsMatchThemselves
escaped_matches text utf8 =
    (literal (chars text), (0, 0, tree_of_pattern text utf8), literal_matches (chars text))

-- The names that a regex hands out are those of its tree.
use Rattle.regex_lite.proofs.Common.{◌≡◌, ℕ, List, [], ◌∷◌, map, length, Some, None, Option}
use Rattle.regex_lite.proofs.Common.{option_map, chars, sym, refl, ap, ◌∙◌, subst, length-map}
use Rattle.regex_lite.proofs.Common.{rc_str_bytes, Tree, captures_len}
use Rattle.std.proofs.Common.{slice_index_or}
use Rattle.std.specs.declared.alloc.Global.{Global}
use Rattle.std.specs.declared.rc.RcStr.{RcStr}
use Rattle.regex_lite_syntax.specs.Tree.Regular.{IsRegular}
use Rattle.regex_lite_syntax.specs.Tree.Properties.{group_name}
use Rattle.regex_lite_syntax.specs.Tree.Views.{text_of_name}
use Rattle.regex_lite_syntax.proofs.machine.WholeMatchLemmas.{no_name}
use Rattle.regex_lite.specs.Expression.{name_at, AreNames}

-- the characters of the bytes of each
same_texts : (names : List (Option (RcStr Global)))
    → map (option_map chars) (map (option_map rc_str_bytes) names)
    ≡ map (option_map text_of_name) names
same_texts [] = refl
same_texts (None ∷ rest) = ap (λ texts. None ∷ texts) (same_texts rest)
same_texts (Some name ∷ rest) = ap (λ texts. Some (text_of_name name) ∷ texts) (same_texts rest)

pub are_names : (bytes : List (Option (List ℕ))) (names : List (Option (RcStr Global)))
    (tree : Tree) → bytes ≡ map (option_map rc_str_bytes) names → IsRegular tree
    → length names ≡ captures_len tree
    → ((k : ℕ) → slice_index_or (map (option_map text_of_name) names) k None ≡ group_name tree k)
    → AreNames bytes tree
are_names bytes names tree bytes_are regular each_group named =
    let name : (k : ℕ) → name_at (map (option_map rc_str_bytes) names) k ≡ group_name tree k =
    λ k. ap (λ texts. slice_index_or texts k None) (same_texts names) ∙ named k in
    subst (λ b. AreNames b tree) (sym bytes_are) (record {
      each_group = length-map _ _ ∙ each_group;
      name = name;
      whole_match = name 0 ∙ no_name tree regular;
    })

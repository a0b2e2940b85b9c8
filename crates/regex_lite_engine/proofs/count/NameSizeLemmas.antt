-- What a name takes, by the bytes of its text.
use Rattle.regex_lite_engine.proofs.Common.{◌≡◌, ℕ, Bool, true, false, length, ◌==◌, Some, None}
use Rattle.regex_lite_engine.proofs.Common.{Option, sym, refl, ap, ◌∙◌, arith, encodes-chars}
use Rattle.regex_lite_engine.proofs.Common.{len_utf8, option_or, Text, Tree, empty, character}
use Rattle.regex_lite_engine.proofs.Common.{class, look, repetition, capture, concat, alternation}
use Rattle.regex_lite_engine.proofs.Common.{Trees, none, more}
use Rattle.regex_lite_syntax.specs.Tree.Views.{text_of_name}
use Rattle.std.proofs.Common.{Global}
use Rattle.std.specs.List.{sum_by}
use Rattle.std.proofs.lemmas.Str.{IsUtf8-string_bytes}
use Rattle.std.specs.Rc.{rc_str_bytes}
use Rattle.std.specs.declared.rc.RcStr.{RcStr}
use Rattle.regex_lite_syntax.specs.Tree.Properties.{name_if, group_name, group_name_in}
use Rattle.regex_lite_engine.specs.Graph.Size.{name_size, names_size, names_size_in}
use Rattle.regex_lite_engine.proofs.OffsetLemmas.{length_encodes}

pub name_length : (name : RcStr Global)
    → sum_by len_utf8 (text_of_name name) ≡ length (rc_str_bytes name)
name_length name =
    sym (length_encodes (text_of_name name))
    ∙ ap length (encodes-chars (rc_str_bytes name) (IsUtf8-string_bytes name.text.value))

no_name_here : (this : Bool) (name : Option Text) → name_size name ≡ 0 → name_if this name ≡ None
no_name_here true None nothing = refl
no_name_here true (Some name) nothing = absurd (omega (arith, nothing))
no_name_here false name nothing = refl

-- neither has a name
neither : (a b : Option Text) → a ≡ None → b ≡ None → option_or a b ≡ None
neither a b of_a of_b = rw of_a of_b

-- where the names take nothing, no group has one
mutual
  pub no_name : (tree : Tree) → names_size tree ≡ 0 → (k : ℕ) → group_name tree k ≡ None
  no_name empty nothing k = refl
  no_name (character c) nothing k = refl
  no_name (class ranges) nothing k = refl
  no_name (look test) nothing k = refl
  no_name (repetition least most greedy body) nothing k = no_name body nothing k
  no_name (capture index name body) nothing k =
      neither (name_if (index == k) name) (group_name body k)
      (no_name_here (index == k) name (omega (arith, nothing)))
      (no_name body (omega (arith, nothing)) k)
  no_name (concat parts) nothing k = no_name_in parts nothing k
  no_name (alternation branches) nothing k = no_name_in branches nothing k

  no_name_in : (trees : Trees) → names_size_in trees ≡ 0 → (k : ℕ) → group_name_in trees k ≡ None
  no_name_in none nothing k = refl
  no_name_in (more a rest) nothing k =
      neither (group_name a k) (group_name_in rest k) (no_name a (omega (arith, nothing)) k)
      (no_name_in rest (omega (arith, nothing)) k)

-- The groups of a match have the static number of their regex, which is what a call of
-- `extract` asks for.
use Rattle.regex_lite.proofs.Common.{◌≡◌, ℕ, List, Some, None, Option, chars, sym, ap, ◌∙◌}
use Rattle.regex_lite.proofs.Common.{static_captures_len, Expression, OfTree, Groups, TellsGroups}
use Rattle.regex_lite_syntax.proofs.OptionLemmas.{not_there, same_some}
use Rattle.regex_lite.proofs.OneTreeLemmas.{one_tree}

pub static_number : (re : Expression) (haystack : List ℕ) (start : ℕ) (known : Option ℕ)
    (reported : Option Groups) (groups : Groups) → OfTree re
    (λ tree. known ≡ static_captures_len tree) → TellsGroups re haystack start reported → reported
    ≡ Some groups → groups.static_captures_len ≡ known
static_number re haystack start known None groups is_known tells is = absurd (not_there is)
static_number re haystack start known (Some own) groups (tree, given, e)
    (other, given_too, (f, found, are)) is =
    ap (λ (g : Groups). g.static_captures_len) (sym (same_some is)) ∙ are.static_captures
    ∙ ap static_captures_len (one_tree re.flags (chars re.pattern) other tree given_too given)
    ∙ sym e

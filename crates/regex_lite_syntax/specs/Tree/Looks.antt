-- Where each look holds, by the characters next to a position of the whole haystack.
use Rattle.std.specs.Prelude.{ℕ, Bool, false, not, ◌&&◌, ◌||◌, ◌==◌}
use Rattle.std.specs.Prelude.{Option, Some, None, is_none, IsTrue}
use Rattle.regex_lite_syntax.specs.declared.hir.look.Look.{Look}
use Rattle.regex_lite_syntax.specs.declared.hir.look.Look.TheVariants.{Start, End, StartLF, EndLF}
use Rattle.regex_lite_syntax.specs.declared.hir.look.Look.TheVariants.{StartCRLF, EndCRLF, Word}
use Rattle.regex_lite_syntax.specs.declared.hir.look.Look.TheVariants.{WordNegate, WordStart}
use Rattle.regex_lite_syntax.specs.declared.hir.look.Look.TheVariants.{WordEnd, WordStartHalf}
use Rattle.regex_lite_syntax.specs.declared.hir.look.Look.TheVariants.{WordEndHalf}
use Rattle.regex_lite_syntax.specs.Text.{Text, before, after, the}
use Rattle.regex_lite_syntax.specs.NamedSets.{members, word}

-- there is a character, and it is this one
abbrev pub is : Option ℕ → ℕ → Bool
is None c = false
is (Some d) c = d == c

-- there is a word character
abbrev pub is_word : Option ℕ → Bool
is_word None = false
is_word (Some c) = members word c

-- the look holds between these neighbours; the haystack's start and end have only one
unfoldable pub holds_between : Look → (before after : Option ℕ) → Bool
holds_between Start b a = is_none b
holds_between End b a = is_none a
holds_between StartLF b a = is_none b || is b (the "\n")
holds_between EndLF b a = is_none a || is a (the "\n")
holds_between StartCRLF b a =
    is_none b || is b (the "\n") || (is b (the "\r") && not (is a (the "\n")))
holds_between EndCRLF b a =
    is_none a || is a (the "\r") || (is a (the "\n") && not (is b (the "\r")))
holds_between Word b a = (is_word b && not (is_word a)) || (not (is_word b) && is_word a)
holds_between WordNegate b a = (is_word b && is_word a) || (not (is_word b) && not (is_word a))
holds_between WordStart b a = not (is_word b) && is_word a
holds_between WordEnd b a = is_word b && not (is_word a)
holds_between WordStartHalf b a = not (is_word b)
holds_between WordEndHalf b a = not (is_word a)

-- the look holds at a position of the haystack
abbrev pub Holds : Look → Text → ℕ → Type 0
Holds look haystack i = IsTrue (holds_between look (before haystack i) (after haystack i))

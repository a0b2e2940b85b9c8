use Rattle.regex_lite_syntax.proofs.Common.{◌≡◌, ◌++◌, IsTrue, slice_range, AllPass, is_flag_letter}
use Rattle.regex_lite_syntax.proofs.Common.{with_flags, all_differ}
use Rattle.regex_lite_syntax.proofs.parse.letters.read_letters.Given as goal

abbrev pub invariant-loop-end : goal.invariant-loop-end
invariant-loop-end l =
    let letters = slice_range l.chars l.at l.end in
    record {
      all : AllPass is_flag_letter letters;
      differ : IsTrue (all_differ (l.before ++ letters));
      flags : l.flags ≡ with_flags l.set letters l.fn.old;
    }

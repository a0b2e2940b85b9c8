use Rattle.std.proofs.lemmas.Str.{IsCharBoundary-start}
use Rattle.regex_lite.proofs.string.regex.Regex.captures_iter.Goals as goal

pub captures_iter_after-requires : goal.captures_iter_after-requires
captures_iter_after-requires c = IsCharBoundary-start c.args.haystack.now c.utf8.haystack

use Rattle.regex_lite.proofs.Common.{◌≡◌, ◌+◌, ◌++◌, drop, ◌∙◌, subst, inr, rules, IsNextOffset}
use Rattle.std.specs.Char.{len_utf8}
use lib.Utf8.{encode}
use Rattle.regex_lite_engine.proofs.PositionLemmas.{next_position, start_position}
use Rattle.regex_lite.proofs.string.iter.scan.next_offset.Goals as goal

pub returns-in-Some : goal.returns-in-Some
returns-in-Some c =
    let haystack = c.args.haystack.now in
    let at = c.args.at in
    let rest = c.next.new.self.rest.now in
    let parts : drop at haystack ≡ encode c.in-Some.c ++ rest = search rules in
    let len : len_utf8 c.in-Some.c ≡ c.len_utf8.result = search rules in
    let (edge, next) = next_position haystack c.utf8.haystack at c.in-Some.c rest c.requires
    parts in
    subst (λ n. IsNextOffset haystack at (at + n)) len (record {
      can_start = inr edge;
      starts = start_position haystack (at + len_utf8 c.in-Some.c) edge ∙ next;
    })

use Rattle.regex_lite_engine.proofs.Common.{◌≡◌, ℕ, suc, ◌+◌, List, Some, Option, chars, sym}
use Rattle.regex_lite_engine.proofs.Common.{ap, ◌∙◌, arith, range_with_len, after, may_start}
use Rattle.regex_lite_engine.proofs.Common.{may_go_on}
use Rattle.regex_lite_syntax.specs.Prefilter.PrefixIndex.{may_start_at}
use Rattle.std.specs.List.{filter}
use Rattle.regex_lite_syntax.specs.Text.{before}
use Rattle.regex_lite_syntax.proofs.prefilter.prefix_index.ThirdLemmas.{filter_twice}
use Rattle.regex_lite_engine.proofs.search.list_patterns.list_by_index.Goals as goal

pub returns-clause-listed : goal.returns-clause-listed
returns-clause-listed c p is =
    let h = chars c.args.haystack.now in
    let prefixes = c.args.prefixes.now in
    let later = c.next-second.ensures p is in
    let next : p + 1 ≡ suc p = omega arith in
    let listed : (b a s : Option ℕ) → List ℕ
    = λ b a s. filter (may_start prefixes b a s) (range_with_len 0 prefixes.count) in
    let by_two : c.list.new.numbers.items
    ≡ filter (may_start_at prefixes h p) (range_with_len 0 prefixes.count) =
    c.list.ensures.listed
    ∙ ap (λ b. listed b (Some c.args.first) c.next-second.result.after) is.behind
    ∙ ap (λ a. listed (before h p) a c.next-second.result.after) (sym c.requires.first ∙ is.ahead)
    ∙ ap (listed (before h p) (after h p)) (later.ahead ∙ ap (after h) next) in
    c.keep_by_third.ensures.kept (p + 1) later
    ∙ ap (λ q. filter (may_go_on prefixes.third_masks (after h (suc q))) c.list.new.numbers.items)
    next ∙ ap (filter (may_go_on prefixes.third_masks (after h (suc (suc p))))) by_two
    ∙ filter_twice (may_start_at prefixes h p)
    (may_go_on prefixes.third_masks (after h (suc (suc p)))) (range_with_len 0 prefixes.count)

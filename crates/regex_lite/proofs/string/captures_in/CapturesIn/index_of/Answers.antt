use Rattle.regex_lite.proofs.Common.{map, length, option_map, sym, ap, ◌∙◌, arith, length-map}
use Rattle.regex_lite.proofs.Common.{rc_str_bytes, Groups}
use Rattle.regex_lite.proofs.string.GroupLemmas.{named_first, named_nowhere, name_read, one_more}
use Rattle.regex_lite.proofs.string.captures_in.CapturesIn.index_of.Goals as goal

pub returns-then-is_named : goal.returns-then-is_named
returns-then-is_named g c =
    let names = ap (λ (own : Groups). own.names) c.self.view_is in
    let items = c.capture_names-names.ensures in
    let read = name_read c.args.self.now.names c.capture_names-names.result.now
    c.index-names-k.result c.args.name.now
    c.loop-k.k (ap (map (option_map rc_str_bytes)) items ∙ names) c.loop-k-test.true
    c.index-names-k.is in
    named_first c.args.self.now.names c.args.name.now c.loop-k.k read.0 c.loop-k.invariant
    (sym read.1 ∙ sym c.is_named.ensures ∙ c.if-is_named.true)

pub loop-k-preserved : goal.loop-k-preserved
loop-k-preserved g c =
    let names = ap (λ (own : Groups). own.names) c.self.view_is in
    let items = c.capture_names-names.ensures in
    let read = name_read c.args.self.now.names c.capture_names-names.result.now
    c.index-names-k.result c.args.name.now
    c.loop-k.k (ap (map (option_map rc_str_bytes)) items ∙ names) c.loop-k-test.true
    c.index-names-k.is in
    one_more c.args.self.now.names c.args.name.now c.loop-k.k c.loop-k.invariant
    (sym read.1 ∙ sym c.is_named.ensures ∙ c.if-is_named.false)

pub returns : goal.returns
returns g c =
    let names = ap (λ (own : Groups). own.names) c.self.view_is in
    let items = c.capture_names-names.ensures in
    let few =
    ap length (sym names ∙ ap (map (option_map rc_str_bytes)) (sym items)) ∙ length-map _ _ in
    named_nowhere c.args.self.now.names c.args.name.now
    (λ j less. c.loop-k.invariant j (omega (arith, less, few, c.loop-k-test.false)))

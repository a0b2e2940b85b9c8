use Rattle.regex_lite_c.proofs.Common.{◌≡◌, ◌<◌, map, length, get_or, sym, ◌∙◌, arith, length-map}
use Rattle.regex_lite_c.proofs.Common.{settings_of_source}
use Rattle.std.proofs.lemmas.Option.{slice_get_within}
use Rattle.regex_lite_c.proofs.list.ListBuildLemmas.{accepted_more, no_source, refused_first}
use Rattle.regex_lite_c.proofs.list.ListBuildLemmas.{source_at}
use Rattle.regex_lite_c.proofs.list.build.lowest_refused.Goals as goal

pub returns-in-Err : goal.returns-in-Err
returns-in-Err c =
    let sources = c.args.sources.now in
    let k = c.loop-k.k in
    refused_first (map settings_of_source sources) k c.number_for.result
    (settings_of_source (get_or sources k no_source)) c.in-Err.error c.loop-k.invariant
    c.in-Err.ensures (source_at sources k (omega (arith, c.loop-k-test.true, c.loop-k.auto.k-end)))
    (λ memory. c.number_for.ensures.memory memory ∙ sym (length-map sources settings_of_source))
    c.number_for.ensures.refused

pub loop-k-preserved : goal.loop-k-preserved
loop-k-preserved c =
    let sources = c.args.sources.now in
    let k = c.loop-k.k in
    accepted_more (map settings_of_source sources) k
    (settings_of_source (get_or sources k no_source)) c.loop-k.invariant
    (source_at sources k (omega (arith, c.loop-k-test.true, c.loop-k.auto.k-end)))
    c.in_default.ensures.accepted

pub returns : goal.returns
returns c = λ k own there.
    let f = settings_of_source in
    let all = map f c.args.sources.now in
    let below : k < length all = slice_get_within all k own there in
    let many : length all ≡ length c.args.sources.now = length-map c.args.sources.now f in
    c.loop-k.invariant k own (omega (arith, below, many, c.loop-k-test.false, c.loop-k.auto.k-end))
    there

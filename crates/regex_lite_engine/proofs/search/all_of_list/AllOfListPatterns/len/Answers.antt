use Rattle.regex_lite_engine.proofs.Common.{length, sym, ap, ◌∙◌, length-map-range_with_len}
use Rattle.regex_lite_engine.proofs.Common.{start_numbered}
use Rattle.regex_lite_engine.proofs.search.all_of_list.AllOfListPatterns.len.Goals as goal

pub returns : goal.returns
returns c =
    let entries = c.args.self.now.list.now.entries in
    ap length c.entries.ensures.same
    ∙ sym (length-map-range_with_len (start_numbered entries) 0 (length entries))

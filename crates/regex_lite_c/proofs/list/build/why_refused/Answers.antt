use Rattle.regex_lite_c.proofs.Common.{map, sym, length-map, settings_of_source}
use Rattle.regex_lite_c.proofs.list.ListBuildLemmas.{refused_together}
use Rattle.regex_lite_c.proofs.list.build.why_refused.Goals as goal

pub returns-in-None : goal.returns-in-None
returns-in-None c =
    refused_together (map settings_of_source c.args.sources.now) _ c.args.error
    (sym (length-map c.args.sources.now settings_of_source))
    c.in-None.ensures c.requires.texts c.requires.refused

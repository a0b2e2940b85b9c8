use Rattle.std.proofs.Common.{None}
use Rattle.std.proofs.lemmas.Result.{IfErr-weaker, IfOk-weaker}
use Rattle.std.specs.Cow.{cow_str_bytes}
use Rattle.regex_lite.specs.Ahead.{whole}
use Rattle.template_tool.proofs.rewrite.rewrite.Goals as goal

pub returns : goal.returns
returns c =
    let ahead = whole c.args.regex.now c.args.text.now None in
    let template = c.args.template in
    let law = c.texts_rewrite_by_their_template.ensures in
    record {
      rewritten = IfOk-weaker c.replace_all.result _ _
          (λ new replaced.
          let made = (law.rewritten (λ t. t.now) template ahead (cow_str_bytes new)).0 replaced in
          record {
            found = made.found;
            are_all = made.are_ahead;
            texts = made.texts;
            each = made.each;
            whole = made.whole;
          })
          c.replace_all.ensures.replaced;
      refused = IfErr-weaker c.replace_all.result _ _
          (λ error said. law.refused (λ t. t.now) template ahead error said)
          c.replace_all.ensures.refused;
    }

use Rattle.std.proofs.Common.{sym, ap, ◌∙◌}
use Rattle.std.specs.Prelude.{option_map}
use Rattle.regex_lite.specs.CaptureNames.{names_left}
use Rattle.log_router.specs.Routes.{field_of, texts_of_field}
use Rattle.log_router.proofs.RouteLemmas.{names_more, made_more, made_same, text_of}
use Rattle.log_router.proofs.route.fields_of.Goals as goal

pub loop-name-preserved-in-Continue-1 : goal.loop-name-preserved-in-Continue-1
loop-name-preserved-in-Continue-1 c =
    let done = c.loop-name.yielded in
    let name = c.in-Some.name in
    record {
      names = names_more text_of (names_left c.into_iter-name-iterator.result) done name
          (names_left c.loop-name.name-iterator) (names_left c.next.new.self)
          c.loop-name.invariant.names c.in-Some.ensures.steps;
      made = made_more text_of (field_of c.args.caps.now) texts_of_field done name
          c.loop-name.fields.items c.loop-name.invariant.made c.push.new.self.items
          c.in-Some-field_of.field c.in-Some-field_of.ensures c.in_ok-push.ensures.items;
    }

pub loop-name-preserved : goal.loop-name-preserved
loop-name-preserved c =
    let done = c.loop-name.yielded in
    let name = c.in-Some.name in
    record {
      names = names_more text_of (names_left c.into_iter-name-iterator.result) done name
          (names_left c.loop-name.name-iterator) (names_left c.next.new.self)
          c.loop-name.invariant.names c.in-Some.ensures.steps;
      made = made_same text_of (field_of c.args.caps.now) texts_of_field done name
          c.loop-name.fields.items c.loop-name.invariant.made
          (ap (option_map texts_of_field) (sym c.in_default.is) ∙ c.field_of.ensures);
    }

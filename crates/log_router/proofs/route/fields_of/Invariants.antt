use Rattle.std.proofs.Common.{◌≡◌, ◌++◌, map}
use Rattle.std.specs.Prelude.{filter_map}
use Rattle.regex_lite.specs.CaptureNames.{names_left}
use Rattle.log_router.specs.Routes.{field_of, texts_of_field}
use Rattle.log_router.proofs.RouteLemmas.{text_of}
use Rattle.log_router.proofs.route.fields_of.Given as goal

abbrev pub invariant-loop-name : goal.invariant-loop-name
invariant-loop-name l = record {
  names : names_left l.initial.name-iterator
      ≡ map text_of l.yielded ++ names_left l.name-iterator;
  made : map texts_of_field l.fields.items
      ≡ filter_map (field_of l.caps) (map text_of l.yielded);
}

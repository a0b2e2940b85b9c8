use Rattle.regex_lite_meta.proofs.Common.{◌≡◌, length, IfSome, Option, sym, subst, places_of}
use Rattle.std.proofs.Common.{Box, Global, IfOk, Result, Ok, Err}
use Rattle.std.specs.Result.{result_ok}
use Rattle.regex_lite_engine.specs.Backtrack.Short.{SearchesShort}
use Rattle.regex_lite_engine.specs.declared.backtrack.short.ShortSearcher.{ShortSearcher}
use Rattle.regex_lite_meta.specs.Slots.{FindsShortSlots}
use Rattle.regex_lite_meta.proofs.slots.short_for.Goals as goal

-- what is true of the searcher is true of it in its box
module _ (P : ShortSearcher → Type 0) (short : ShortSearcher) (holds : P short) where
  abbrev InBox : Option (Box ShortSearcher Global) → Type 0
  InBox reported = IfSome reported (λ boxed. P boxed.value)

  in_box : {E : Type 0} (made : Result (Box ShortSearcher Global) E)
      → IfOk made (λ boxed. boxed.value ≡ short) → (reported : Option (Box ShortSearcher Global))
      → reported ≡ result_ok made → InBox reported
  in_box (Ok boxed) is reported same = subst InBox (sym same) (subst P (sym is) holds)
  in_box (Err error) is reported same = subst InBox (sym same) tt

pub returns-in-Ok-Some : goal.returns-in-Ok-Some
returns-in-Ok-Some c =
    let made = c.in-Ok-Some in
    let table = places_of c.args.table.now in
    let finds : FindsShortSlots table c.args.slots made.short
    = record {
      searches = subst (λ made. IfSome made (SearchesShort table)) made.field-0-is
          made.ensures.searches;
      width = subst (λ made. IfSome made
          (λ (short : ShortSearcher). length short.walk.stack.row ≡ c.args.slots)) made.field-0-is
          made.ensures.width;
    } in
    in_box (FindsShortSlots table c.args.slots) made.short finds c.new-in-Ok-Some.result
    c.new-in-Ok-Some.ensures.ok c.ok.result c.ok.ensures.value

use Rattle.regex_lite_syntax.proofs.Common.{◌≡◌, ℕ, ◌<◌, Bool, true, false, ◌≢◌, List, map, length}
use Rattle.regex_lite_syntax.proofs.Common.{get_or, ◌==◌, Some, None, Option, option_map, Global}
use Rattle.regex_lite_syntax.proofs.Common.{sym, refl, ap, ◌∙◌, rules, eqb-true, option_or, RcStr}
use Rattle.regex_lite_syntax.proofs.Common.{Text, name_at, AddsNames, text_of_name}
use Rattle.std.proofs.Common.{slice_set, get_or-set_same, get_or-set_other}
use Rattle.std.proofs.lemmas.Bool.{eq-eqb}
use Rattle.std.proofs.lemmas.List.{map-set, length-map, get_or-map}
use Rattle.regex_lite_syntax.specs.Tree.Properties.{name_if}
use Rattle.regex_lite_syntax.specs.Tree.NameTables.{name_if_at}
use Rattle.regex_lite_syntax.proofs.hir.names.add_name.Goals as goal

option_or-none : (name : Option Text) → option_or name None ≡ name
option_or-none None = refl
option_or-none (Some name) = refl

-- the name at one index, by whether it is the one that is written
added_at : (table : List (Option Text)) (index k : ℕ) (name : Option Text) (is_it : Bool)
    → (index == k) ≡ is_it → index < length table → get_or table index None ≡ None
    → get_or (slice_set table index name) k None
    ≡ option_or (get_or table k None) (name_if is_it name)
added_at table index k name true e inside free =
    let same : index ≡ k = eqb-true index k e in
    ap (λ i. get_or (slice_set table index name) i None) (sym same)
    ∙ get_or-set_same table index name None inside
    ∙ ap (λ here. option_or here name) (sym free ∙ ap (λ i. get_or table i None) same)
added_at table index k name false e inside free =
    let other : k ≢ index =
    (λ same. let hit : (index == k) ≡ true = eq-eqb index k (sym same) in cc) in
    get_or-set_other table index k name None other ∙ sym (option_or-none (get_or table k None))

added : (table : List (Option (RcStr Global))) (index : ℕ) (name copy : Option (RcStr Global))
    → index < length table → name_at table index ≡ None
    → option_map text_of_name copy ≡ option_map text_of_name name
    → AddsNames (name_if_at index (option_map text_of_name name)) table (slice_set table index copy)
added table index name copy inside free same k =
    let text = λ (x : Option (RcStr Global)). option_map text_of_name x in
    let within : index < length (map text table) = rw length-map inside in
    ap (λ texts. get_or texts k None) (map-set text table index copy)
    ∙ ap (λ x. get_or (slice_set (map text table) index x) k None) same
    ∙ added_at (map text table) index k (text name) (index == k) refl within free

-- an entry that holds no string has no name
free_at : (table : List (Option (RcStr Global))) (index : ℕ) (entry : Option (RcStr Global))
    → index < length table → entry ≡ get_or table index entry → entry ≡ None
    → name_at table index ≡ None
free_at table index entry inside is none =
    get_or-map (option_map text_of_name) table index entry None inside
    ∙ ap (option_map text_of_name) (sym is ∙ none)

pub returns-in_ok-names : goal.returns-in_ok-names
returns-in_ok-names c =
    let table = c.args.names.now in
    let index = c.args.index in
    let name = c.args.name.now in
    let copy = c.in_ok-names.field-0 in
    let entry = c.index-names-index.result in
    let none : entry ≡ None = search rules in
    let same : option_map text_of_name copy ≡ option_map text_of_name name = search rules in
    let free = free_at table index entry c.requires c.index-names-index.is none in
    added table index name copy c.requires free same

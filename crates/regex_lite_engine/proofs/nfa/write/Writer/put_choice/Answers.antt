use Rattle.regex_lite_engine.proofs.Common.{map, set, choice, ap, ◌∙◌, map-set, place_of}
use Rattle.regex_lite_engine.proofs.nfa.write.Writer.put_choice.Goals as goal

pub returns-clause-put : goal.returns-clause-put
returns-clause-put c =
    let a = c.args in let places = c.self.inside.places.items in
    map-set place_of places a.number c.choice_of.result
    ∙ ap (λ place. set (map place_of places) a.number place) c.choice_of.ensures
    ∙ ap (λ all. set (map place_of all) a.number (choice a.greedy a.body a.other)) c.self.view_is

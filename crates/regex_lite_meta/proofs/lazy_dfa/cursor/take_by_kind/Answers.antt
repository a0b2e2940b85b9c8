use Rattle.regex_lite_meta.proofs.Common.{Some, None, true, sym, refl, ap, ◌∙◌, DfaPosition}
use Rattle.regex_lite_meta.proofs.Common.{best_reported}
use Rattle.regex_lite_meta.specs.LazyDfa.Automaton.{first_left}
use Rattle.regex_lite_meta.specs.LazyDfa.Stored.{is_restarting, known_match_flag, last_match_flag}
use Rattle.regex_lite_syntax.proofs.OptionLemmas.{not_there}
use Rattle.regex_lite_meta.proofs.lazy_dfa.TakenLemmas.{best_kept, ends_scan, goes_on}
use Rattle.regex_lite_meta.proofs.lazy_dfa.TakenLemmas.{non_special_taken, takes_after, to_nothing}
use Rattle.regex_lite_meta.proofs.lazy_dfa.cursor.take_by_kind.Goals as goal

-- the match that the transition completes is that of the first pattern
pub returns-in-Completes-clause-taken : goal.returns-in-Completes-clause-taken
returns-in-Completes-clause-taken g c = λ state own.
    let before : DfaPosition = c.args.at.now in
    goes_on c.args.cursor.at c.args.next_state.row c.args.end c.args.next_state.kind state before
    c.complete.new.self own (Some (record { first = true; number = Some 0 }))
    (ap (λ (s : DfaPosition). best_reported s.best) c.complete.ensures) c.after-in-Completes.result
    (ap known_match_flag c.in-Completes.is) c.after-in-Completes.ensures.at
    c.after-in-Completes.ensures.row (ap (λ (s : DfaPosition). s.first) c.complete.ensures
    ∙ sym (ap (λ e. first_left (is_restarting e) before.first c.args.cursor.at) c.in-Completes.is))
    (ap (λ (s : DfaPosition). s.start_state_at) c.complete.ensures)

pub returns-in-NonSpecial-clause-taken : goal.returns-in-NonSpecial-clause-taken
returns-in-NonSpecial-clause-taken g c = λ state own.
    non_special_taken c.args.cursor.at c.args.end c.args.next_state state c.args.at.now
    c.after.result c.in-NonSpecial.is own c.after.ensures.at c.after.ensures.row

pub returns-else-this-ne0-2-clause-taken : goal.returns-else-this-ne0-2-clause-taken
returns-else-this-ne0-2-clause-taken g c = λ state own.
    let before : DfaPosition = c.args.at.now in
    let same = c.complete-in-Ends.ensures in
    ends_scan c.args.cursor.at c.args.next_state.row c.args.end c.args.next_state.kind state before
    c.complete-in-Ends.new.self own (Some (record { first = true; number = Some 0 }))
    (ap (λ (s : DfaPosition). best_reported s.best) same) (ap last_match_flag c.in-Ends.is)
    (λ none. not_there (sym none ∙ ap (λ (s : DfaPosition). best_reported s.best) same))
    (same
    ∙ sym (ap (λ (s : DfaPosition). record before { at = s.at; best = s.best }) same))

pub returns-in-Empties-clause-taken : goal.returns-in-Empties-clause-taken
returns-in-Empties-clause-taken g c = λ state own.
    let before : DfaPosition = c.args.at.now in
    let mid : DfaPosition = record before { at = c.args.cursor.at } in
    takes_after c.args.cursor.at c.args.next_state.row c.args.end state before mid
    c.take_to_nothing.new.at c.take_to_nothing.result refl
    (to_nothing c.args.cursor.at c.args.next_state.row c.args.end c.args.next_state.kind state mid
    c.take_to_nothing.new.at c.after-in-Empties.result c.take_to_nothing.result own
    (ap last_match_flag c.in-Empties.is) c.after-in-Empties.ensures.at
    c.after-in-Empties.ensures.row c.take_to_nothing.ensures)

pub returns-in-Empties-clause-earliest : goal.returns-in-Empties-clause-earliest
returns-in-Empties-clause-earliest g c = λ _.
    let before : DfaPosition = c.args.at.now in
    best_kept c.after-in-Empties.result (record before { at = c.args.cursor.at })
    c.take_to_nothing.new.at c.take_to_nothing.result c.take_to_nothing.ensures

pub returns-in-Restarts-clause-taken : goal.returns-in-Restarts-clause-taken
returns-in-Restarts-clause-taken g c = λ state own.
    let before : DfaPosition = c.args.at.now in
    goes_on c.args.cursor.at c.args.next_state.row c.args.end c.args.next_state.kind state before
    (record before { at = c.args.cursor.at; first = c.args.cursor.at }) own None refl
    c.after-in-Restarts.result (ap known_match_flag c.in-Restarts.is) c.after-in-Restarts.ensures.at
    c.after-in-Restarts.ensures.row (sym (ap
    (λ e. first_left (is_restarting e) before.first c.args.cursor.at) c.in-Restarts.is)) refl

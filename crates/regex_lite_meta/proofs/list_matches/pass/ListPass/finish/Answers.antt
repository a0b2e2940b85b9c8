use Rattle.regex_lite_meta.proofs.Common.{◌≡◌, ◌<◌, length, sym, ◌∙◌, subst}
use Rattle.regex_lite_meta.proofs.Common.{arith, slice_index, slice_index_or, slice_set, false}
use Rattle.regex_lite_meta.proofs.Common.{table_of_list, cases_lt, inl, inr, position_at}
use Rattle.regex_lite_engine.proofs.Common.{get_or-set_other, get_or-set_same, length-set}
use Rattle.regex_lite_meta.specs.ListPass.{IsReportedFrom}
use Rattle.regex_lite_meta.proofs.list_matches.PassLemmas.{reported_on}
use Rattle.regex_lite_meta.proofs.list_matches.TriedLemmas.{dfa_position_read, ends_with_all}
use Rattle.regex_lite_meta.proofs.list_matches.TriedLemmas.{rest_known}
use Rattle.regex_lite_meta.proofs.list_matches.pass.ListPass.finish.Goals as goal
use Rattle.regex_lite_meta.proofs.list_matches.pass.ListPass.finish.Goals.{in-Known}
use Rattle.regex_lite_meta.proofs.list_matches.pass.ListPass.finish.Goals.{}
use Rattle.regex_lite_meta.proofs.list_matches.pass.ListPass.finish.Goals.{in-From+in_ok-matched-in-From}

pub search_one-requires-clause-boundary : goal.search_one-requires-clause-boundary
search_one-requires-clause-boundary c =
    let list = c.args.list.now in
    let haystack = c.args.haystack.now in
    let statuses = c.args.self.now.statuses.items in
    let number = c.loop-number.number in
    let ends = c.requires.passed.1 in
    let s = c.requires.passed.0 in
    let all = ends_with_all list haystack s statuses c.args.left ends in
    let inside : number < length list.entries
    = omega (arith, c.loop-number-test.true, c.len-number-end.ensures.same) in
    let read = dfa_position_read statuses number c.index.result.now (omega (arith, all, inside))
    c.index.ensures in
    let rest = rest_known list haystack c.utf8.haystack s number statuses c.rest.result c.args.left
    inside (rw read c.rest.ensures.ended) (rw read c.rest.ensures.left) ends in
    (rw c.in-From.is at rest).boundary

pub loop-number-preserved : goal.loop-number-preserved
loop-number-preserved c =
    let list = c.args.list.now in
    let haystack = c.args.haystack.now in
    let statuses = c.args.self.now.statuses.items in
    let number = c.loop-number.number in
    let matched = c.loop-number.matched in
    let v = c.loop-number.invariant in
    let all_reported = v.all in
    let inside : number < length list.entries
    = omega (arith, c.loop-number-test.true, c.len-number-end.ensures.same) in
    let room : number < length matched = omega (arith, inside, all_reported, c.requires.all) in
    let all = ends_with_all list haystack c.requires.passed.0 statuses c.args.left
    c.requires.passed.1 in
    let read = dfa_position_read statuses number c.index.result.now (omega (arith, all, inside))
    c.index.ensures in
    record {
      within = omega (arith, inside);
      all = length-set matched number c.match-rest.matched ∙ v.all;
      kept = elim c.match-rest.branch [
        | in-Known w ↦ rw w.kept-is v.kept
        | in-From+in_ok-matched-in-From w ↦
            rw w.kept-is w.in_ok-matched-in-From.ensures.kept
      ];
      ready = elim c.match-rest.branch [
        | in-Known w ↦ rw w.kept-is v.ready
        | in-From+in_ok-matched-in-From w ↦
            rw w.kept-is (λ none. (w.in_ok-matched-in-From.ensures.ready (v.ready none)).0)
      ];
      reported = λ s ends k less.
          let rest = rest_known list haystack c.utf8.haystack s number statuses c.rest.result
          c.args.left inside (rw read c.rest.ensures.ended) (rw read c.rest.ensures.left) ends in
          let known : IsReportedFrom (table_of_list list) haystack (slice_index list.entries number)
          s c.match-rest.matched
          = elim c.match-rest.branch [
            | in-Known w ↦ rw w.matched-is (rw w.in-Known.is at rest)
            | in-From+in_ok-matched-in-From w ↦
                rw w.matched-is
                (reported_on (table_of_list list) haystack c.utf8.haystack
                (slice_index list.entries number) s
                (position_at haystack w.in-From.offset) _ (rw w.in-From.is at rest).none
                w.in_ok-matched-in-From.ensures.reported)
          ] in
          elim (cases_lt k number) [
            | inl old ↦
                subst (IsReportedFrom (table_of_list list) haystack (slice_index list.entries k) s)
                (sym (get_or-set_other matched number k c.match-rest.matched false
                (λ e. absurd (omega (arith, e, old))))) (v.reported s ends k old)
            | inr le ↦
                let same : number ≡ k = omega (arith, less, le) in
                subst (λ z. IsReportedFrom (table_of_list list) haystack
                (slice_index list.entries z) s
                (slice_index_or (slice_set matched number c.match-rest.matched) z false)) same
                (subst (IsReportedFrom (table_of_list list) haystack
                (slice_index list.entries number) s)
                (sym (get_or-set_same matched number c.match-rest.matched false room)) known)
          ];
    }

pub returns-clause-reported : goal.returns-clause-reported
returns-clause-reported c = λ s ends number less.
    let v = c.loop-number.invariant in
    v.reported s ends number
    (omega (arith, less, c.loop-number-test.false, c.len-number-end.ensures.same))

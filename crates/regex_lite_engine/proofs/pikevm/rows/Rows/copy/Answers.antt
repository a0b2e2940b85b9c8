use Rattle.regex_lite_engine.proofs.Common.{◌≡◌, ℕ, [], ◌∷◌, length, set, sym, refl, ap, ◌∙◌, arith}
use Rattle.regex_lite_engine.proofs.Common.{rules, set-get_or, Row}
use Rattle.regex_lite_engine.proofs.pikevm.rows.BlankLemmas.{row_wide, rows_wide}
use Rattle.regex_lite_engine.proofs.pikevm.rows.Rows.copy.Goals as goal

-- rows of no width are alike
empty_row : (row : Row) (w : ℕ) → length row ≡ w → w ≡ 0 → row ≡ []
empty_row [] w long none = refl
empty_row (a ∷ row) w long none = absurd (omega (arith, long, none))

pub returns-else-self-gt0-clause-copied : goal.returns-else-self-gt0-clause-copied
returns-else-self-gt0-clause-copied c =
    let ok = c.self.invariant in let v = c.self.view_is in
    let none : c.self.inside.width ≡ 0 = search rules in
    let from = empty_row _ _ (row_wide ok v c.requires.from) none in
    let to = empty_row _ _ (row_wide ok v c.requires.to) none in
    sym (ap (λ row. set c.args.self.now c.args.to row) (from ∙ sym to)
    ∙ set-get_or c.args.self.now c.args.to [])

pub returns-else-self-gt0-clause-width : goal.returns-else-self-gt0-clause-width
returns-else-self-gt0-clause-width c =
    rows_wide c.self.invariant c.self.view_is c.requires.from c.requires.to

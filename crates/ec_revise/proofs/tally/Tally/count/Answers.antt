-- The row is put under the number.
use Rattle.std.proofs.Common.{◌≡◌, ℕ, cond, Some, ap, subst, ◌∙◌}
use Rattle.std.specs.Prelude.{◌==◌}
use Rattle.ec_revise.specs.TurnCounts.{row_at, with_one}
use Rattle.ec_revise.proofs.TallyRows.{CountsEach-put}
use Rattle.ec_revise.proofs.tally.Tally.count.Goals as goal

pub returns : goal.returns
returns c =
    let put : (n : ℕ) → row_at n c.insert.new.self ≡ cond (c.args.p.0 == n) (Some c.with_turn-tallied.result) (row_at n c.args.self.now) =
    λ n. subst (λ rows. row_at n c.insert.new.self ≡ cond (c.args.p.0 == n) (Some c.with_turn-tallied.result) (row_at n rows)) c.self.view_is (c.in_ok-insert.ensures.ok n) in
    CountsEach-put c.args.p c.args.part c.args.up c.with_turn-tallied.result c.args.self.now c.insert.new.self put
    (c.with_turn-tallied.ensures ∙ ap (with_one c.args.part c.args.up) c.get.ensures)

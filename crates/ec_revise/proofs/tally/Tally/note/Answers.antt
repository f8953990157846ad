-- The row is put in its own place.
use Rattle.std.proofs.Common.{◌≡◌, cond, Some, subst}
use Rattle.std.specs.Prelude.{◌==◌}
use Rattle.ec_revise.specs.TurnCounts.{row_at}
use Rattle.ec_revise.proofs.TallyRows.{row_at-put, tallied_at-put}
use Rattle.ec_revise.proofs.tally.Tally.note.Goals as goal

pub returns-clause-kept : goal.returns-clause-kept
returns-clause-kept c =
    tallied_at-put c.args.p c.get-tallied.result c.args.self.now c.insert.new.self
    (λ n. subst (λ rows. row_at n c.insert.new.self ≡ cond (c.args.p.0 == n) (Some c.get-tallied.result) (row_at n rows)) c.self.view_is (c.in_ok-insert.ensures.ok n))
    c.get-tallied.ensures

pub returns-clause-rows : goal.returns-clause-rows
returns-clause-rows c =
    row_at-put c.args.p c.get-tallied.result c.args.self.now c.insert.new.self
    (λ n. subst (λ rows. row_at n c.insert.new.self ≡ cond (c.args.p.0 == n) (Some c.get-tallied.result) (row_at n rows)) c.self.view_is (c.in_ok-insert.ensures.ok n))

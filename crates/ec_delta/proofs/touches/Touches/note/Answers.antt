-- The row is put in its own place.
use Rattle.std.proofs.Common.{◌≡◌, cond, Some, subst, ap, ◌∙◌}
use Rattle.std.specs.Prelude.{◌==◌}
use Rattle.ec_delta.specs.Touched.{touched_at, touched_with}
use Rattle.ec_delta.proofs.TouchRows.{touched_at-put}
use Rattle.ec_delta.proofs.touches.Touches.note.Goals as goal

pub returns-clause-ok : goal.returns-clause-ok
returns-clause-ok g c = λ n.
    touched_at-put c.args.p.0 n c.in_ok-touched.touched (touched_with c.args.touch.now) c.args.self.now c.insert.new.self
    (subst (λ rows. touched_at n c.insert.new.self ≡ cond (c.args.p.0 == n) (Some c.in_ok-touched.touched) (touched_at n rows)) c.self.view_is (c.in_ok-insert.ensures.ok n))
    (c.in_ok-touched.ensures ∙ ap (touched_with c.args.touch.now) c.get.ensures)

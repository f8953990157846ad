-- No record behind it has the identity.
use Rattle.std.proofs.Common.{sym, ap, ◌∙◌, arith}
use Rattle.std.specs.Prelude.{bytes_eq}
use Rattle.ec_axioms.specs.Calculus.{PlainEvent}
use Rattle.ec_past.proofs.RecordLists.{last_of-here}
use Rattle.ec_past.proofs.log_record.last_of.Goals as goal

pub returns-then-eq : goal.returns-then-eq
returns-then-eq g c =
    last_of-here g.T.Moment.rank c.args.id.now c.args.records.now _ c.loop-place.place _ (omega arith) (omega arith) c.index-records-place.is c.loop-place.invariant.behind
    (ap (λ (e : PlainEvent). bytes_eq e.id c.args.id.now) (sym c.event.ensures) ∙ sym c.if-eq.ensures)

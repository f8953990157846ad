-- A property that is due stands in its place; where memory runs out, all stand as before.
use Rattle.std.proofs.Common.{Result, Ok, Err, ap, ◌∙◌, arith}
use Rattle.std.proofs.lemmas.Grind.{common_steps}
use Rattle.std.specs.Prelude.{OnOk, OnErr}
use Rattle.ec_numbered.specs.Due.{are_in_order}
use Rattle.ec_numbered.proofs.DueLemmas.{are_in_order-with_due}
use Rattle.ec_numbered.proofs.agenda.Agenda.add.Goals as goal

-- a fact that follows from either end of a call
either : {X E : Type 0} (r : Result X E) (P A B : Type 0) → OnOk r A → OnErr r B → (A → P) → (B → P) → P
either (Ok x) P A B ok err f g = f ok
either (Err e) P A B ok err f g = g err

pub invariant_of-self : goal.invariant_of-self
invariant_of-self g c =
    either c.insert.result _ _ _ c.insert.ensures.items c.insert.ensures.unchanged
    (λ items. ap (are_in_order g.T.Moment.rank) (items ∙ c.in-Some.ensures.inserted)
    ∙ are_in_order-with_due g.T.Moment.rank (c.args.at, c.args.p) c.self.inside.dues.items c.self.invariant)
    (λ same. ap (are_in_order g.T.Moment.rank) same.0 ∙ c.self.invariant)

pub returns-in_ok-insert-clause-order : goal.returns-in_ok-insert-clause-order
returns-in_ok-insert-clause-order g c =
    ap (are_in_order g.T.Moment.rank) (c.in_ok-insert.ensures.items ∙ c.in-Some.ensures.inserted)
    ∙ are_in_order-with_due g.T.Moment.rank (c.args.at, c.args.p) c.self.inside.dues.items c.self.invariant

pub returns-in_default-clause-ok : goal.returns-in_default-clause-ok
returns-in_default-clause-ok c = grind (arith, common_steps)

pub returns-in_ok-insert-clause-there : goal.returns-in_ok-insert-clause-there
returns-in_ok-insert-clause-there c = grind (arith, common_steps)

pub returns-in_ok-insert-clause-ok : goal.returns-in_ok-insert-clause-ok
returns-in_ok-insert-clause-ok c = grind (arith, common_steps)

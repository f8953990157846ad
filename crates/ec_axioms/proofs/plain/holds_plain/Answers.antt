-- A property holds where it is current and the first break from there on terminates it.
use Rattle.std.proofs.Common.{◌∙◌, ◌&&◌, ap, sym, map}
use Rattle.ec_terms.specs.Term.{ground_of}
use Rattle.ec_axioms.specs.Calculus.{timeline_of}
use Rattle.ec_axioms.specs.Events.{event_of}
use Rattle.ec_axioms.specs.Plain.{ends_well}
use Rattle.ec_axioms.proofs.HoldingLaws.{HoldsWhereCurrent-law}
use Rattle.ec_axioms.proofs.plain.holds_plain.Goals as goal

pub returns-then-is_current : goal.returns-then-is_current
returns-then-is_current g c =
    let events = map (event_of g.T.Moment.rank) c.args.events.now in
    let t = g.T.Moment.rank c.args.at in
    c.ends_well.ensures
    ∙ ap (λ b. b && ends_well (timeline_of c.args.theory.now events (ground_of c.args.p.now)) t) (sym c.if-is_current.true ∙ c.is_current.ensures)
    ∙ sym (HoldsWhereCurrent-law c.args.theory.now events (ground_of c.args.p.now) t c.requires.ordered)

pub returns-else-is_current : goal.returns-else-is_current
returns-else-is_current g c =
    let events = map (event_of g.T.Moment.rank) c.args.events.now in
    let t = g.T.Moment.rank c.args.at in
    c.if-is_current.false
    ∙ ap (λ b. b && ends_well (timeline_of c.args.theory.now events (ground_of c.args.p.now)) t) (sym c.if-is_current.false ∙ c.is_current.ensures)
    ∙ sym (HoldsWhereCurrent-law c.args.theory.now events (ground_of c.args.p.now) t c.requires.ordered)

-- The entries are those of the event, and each of them is looked at.
use Rattle.std.proofs.Common.{refl, ap, ◌∙◌}
use Rattle.std.proofs.lemmas.Result.{on_ok_weaker}
use Rattle.ec_axioms.specs.Events.{event_of}
use Rattle.ec_context.specs.Entries.{shown_entries}
use Rattle.ec_pass.proofs.TakenIn.{IsAt-taken, bits-taken}
use Rattle.ec_pass.proofs.present.Present.take_in.Goals as goal

pub returns-clause-at : goal.returns-clause-at
returns-clause-at g c =
    on_ok_weaker c.look_at.result
    (λ looked events done at.
    IsAt-taken c.args.rules.now events done (event_of g.T.Moment.rank c.args.event.now) c.args.self.now _ c.look_at.new.self at c.as_slice.result.now c.args.cone.now
    c.clear.new.self.items c.look_at.new.bits.items c.in_ok-entries.ensures.widened.kept c.len.ensures.order refl refl refl
    (ap (shown_entries c.entries_of.new.props) c.as_slice.ensures.items ∙ c.in_ok-entries.ensures.entries) looked)
    c.look_at.ensures.looked

pub returns-clause-bits : goal.returns-clause-bits
returns-clause-bits g c =
    on_ok_weaker c.look_at.result
    (λ looked events done p at is.
    bits-taken c.args.rules.now events done (event_of g.T.Moment.rank c.args.event.now) c.args.self.now _ c.look_at.new.self at c.as_slice.result.now c.args.cone.now
    c.clear.new.self.items c.look_at.new.bits.items c.in_ok-entries.ensures.widened.kept c.len.ensures.order refl refl refl
    (ap (shown_entries c.entries_of.new.props) c.as_slice.ensures.items ∙ c.in_ok-entries.ensures.entries) looked p is c.requires.matchable c.clear.ensures.items)
    c.look_at.ensures.looked

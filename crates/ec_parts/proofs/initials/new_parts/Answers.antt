-- What is put together are parts of no event.
use Rattle.std.proofs.Common.{[], ap, refl, subst, sym, arith}
use Rattle.std.proofs.lemmas.Grind.{common_steps}
use Rattle.std.specs.List.{All}
use Rattle.ec_terms.specs.declared.theory.Theory.{Theory}
use Rattle.ec_axioms.specs.Links.{initial_properties}
use Rattle.ec_exclusive.specs.Neighbours.{AreNeighbours}
use Rattle.ec_parts.specs.declared.parts.Parts.{Parts}
use Rattle.ec_parts.specs.Initials.{IsPlainInitial, KeepsOnce}
use Rattle.ec_parts.specs.StandFor.{StandFor, view_of}
use Rattle.ec_parts.proofs.ListedInitials.{lists_initials, plain_initials}
use Rattle.ec_parts.proofs.NoEvents.{StandFor-first}
use Rattle.ec_parts.proofs.initials.new_parts.Goals as goal

pub begin_parts-requires-clause-initials : goal.begin_parts-requires-clause-initials
begin_parts-requires-clause-initials g c =
    subst (λ (theory : Theory). All IsPlainInitial theory.initials) (sym c.theory.ensures.theory) (plain_initials c.args.checked c.theory.ensures.well_formed c.theory.ensures.matchable)

pub returns-clause-stand : goal.returns-clause-stand
returns-clause-stand g c =
    let tables = c.in_ok-made.made.tables.value in
    let made = c.in_ok-made.ensures in
    subst (λ (parts : Parts _ _ _ _). StandFor g.T.Moment.rank c.args.checked [] (view_of parts) (record { mentions = 0; links = 0 })) (sym c.assembled-parts.ensures)
    (StandFor-first g.T.Moment.rank c.args.checked tables.numbers.items _ _
    (record {
      lists = lists_initials c.args.checked c.theory.ensures.well_formed c.theory.ensures.matchable;
      once = subst (λ (theory : Theory). KeepsOnce (initial_properties theory) tables.props) c.theory.ensures.theory made.once;
      numbers_of = made.numbers;
      neighbours = subst (λ (theory : Theory). AreNeighbours theory tables.props tables.neighbours) c.theory.ensures.theory made.neighbours;
      added = made.added;
      initials = made.initials;
      marks = made.marks;
      initiations = made.initiations;
      intervals = made.intervals;
      events = made.events;
      slots = c.new.ensures.slots;
      mentions = refl;
      links = refl;
    }))

pub returns-clause-theory : goal.returns-clause-theory
returns-clause-theory g c = ap (λ (parts : Parts _ _ _ _). parts.checked) c.assembled-parts.ensures

pub begin_parts-requires-clause-matchable : goal.begin_parts-requires-clause-matchable
begin_parts-requires-clause-matchable c = grind (arith, common_steps)

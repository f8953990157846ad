-- What is in the box are the tables that were made.
use Rattle.std.proofs.Common.{◌≡◌, ℕ, is_some, ap, subst, sym, ◌∙◌, arith}
use Rattle.std.proofs.lemmas.Grind.{common_steps}
use Rattle.ec_axioms.specs.Links.{initial_properties}
use Rattle.ec_exclusive.specs.Added.{added_props}
use Rattle.ec_exclusive.specs.Neighbours.{AreNeighbours}
use Rattle.ec_numbered.specs.PropSet.{has_number}
use Rattle.ec_store.specs.Table.{prop_at}
use Rattle.ec_parts.specs.declared.initials.InitialTables.{InitialTables}
use Rattle.ec_parts.specs.Initials.{HaveFirstIntervals, KeepsOnce}
use Rattle.ec_parts.proofs.initials.begin_parts.Goals as goal

pub initial_rows-requires : goal.initial_rows-requires
initial_rows-requires g c =
    let seen : c.deref-kept.result.now ≡ c.in_ok-initial_tables.field-0 = cc (c.in_ok-tables.ensures) in
    subst (λ (k : InitialTables). added_props k.neighbours.rows ≡ k.numbers.items) (sym seen) c.in_ok-initial_tables.ensures.added

pub returns-clause-once : goal.returns-clause-once
returns-clause-once g c =
    subst (λ (k : InitialTables). KeepsOnce (initial_properties c.args.theory.now) k.props) (sym c.in_ok-tables.ensures) c.in_ok-initial_tables.ensures.once

pub returns-clause-numbers : goal.returns-clause-numbers
returns-clause-numbers g c =
    subst (λ (k : InitialTables). (id : ℕ) → has_number id k.numbers.items ≡ is_some (prop_at id k.props)) (sym c.in_ok-tables.ensures) c.in_ok-initial_tables.ensures.numbers

pub returns-clause-neighbours : goal.returns-clause-neighbours
returns-clause-neighbours g c =
    subst (λ (k : InitialTables). AreNeighbours c.args.theory.now k.props k.neighbours) (sym c.in_ok-tables.ensures) c.in_ok-initial_tables.ensures.neighbours

pub returns-clause-added : goal.returns-clause-added
returns-clause-added g c =
    subst (λ (k : InitialTables). added_props k.neighbours.rows ≡ k.numbers.items) (sym c.in_ok-tables.ensures) c.in_ok-initial_tables.ensures.added

pub returns-clause-initials : goal.returns-clause-initials
returns-clause-initials g c =
    let seen : c.deref-kept.result.now ≡ c.in_ok-tables.tables.value = cc in
    c.in_ok-rows.ensures.initials ∙ ap (λ (k : InitialTables). k.numbers.items) seen

pub returns-clause-intervals : goal.returns-clause-intervals
returns-clause-intervals g c =
    let seen : c.deref-kept.result.now ≡ c.in_ok-tables.tables.value = cc in
    subst (λ (k : InitialTables). HaveFirstIntervals g.T.Moment.rank k.neighbours k.numbers.items c.in_ok-rows.rows.intervals.value) seen c.in_ok-rows.ensures.intervals

pub returns-clause-initiations : goal.returns-clause-initiations
returns-clause-initiations c = grind (arith, common_steps)

pub returns-clause-marks : goal.returns-clause-marks
returns-clause-marks c = grind (arith, common_steps)

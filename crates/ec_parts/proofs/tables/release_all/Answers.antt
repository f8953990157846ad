use Rattle.std.proofs.Common.{All, subst, sym, arith}
use Rattle.std.proofs.lemmas.Grind.{common_steps}
use Rattle.ec_context.specs.Entries.{IsKeptEntry}
use Rattle.ec_parts.specs.Mentions.{HasReleased, AreSomeTables, list_props}
use Rattle.ec_parts.specs.StandFor.{view_of}
use Rattle.ec_parts.proofs.CachesKept.{StandForBoth-counted}
use Rattle.ec_parts.proofs.LinksByNumber.{IsOneToOne}
use Rattle.ec_parts.proofs.ListedInitials.{lists_initials, few_initials}
use Rattle.ec_parts.proofs.TablesOfEvents.{AreTables-without_event, AreSomeTables-with_event}
use Rattle.ec_parts.proofs.tables.release_all.Goals as goal

pub release_entries-requires-clause-tables : goal.release_entries-requires-clause-tables
release_entries-requires-clause-tables g c =
    let r = c.requires.tables in
    subst (λ list. AreSomeTables (list_props list) c.args.parts.now.props c.args.parts.now.neighbours c.args.parts.now.points c.args.tally.now) (sym c.as_slice.ensures.items)
    (AreSomeTables-with_event r.events r.event c.args.list.now (lists_initials c.args.parts.now.checked c.theory.ensures.well_formed c.theory.ensures.matchable)
    (few_initials c.args.parts.now.checked c.theory.ensures.well_formed) r.shown r.history r.there r.tables)

pub returns-clause-tables : goal.returns-clause-tables
returns-clause-tables g c events event shown history there tables =
    AreTables-without_event events event c.args.list.now (lists_initials c.args.parts.now.checked c.theory.ensures.well_formed c.theory.ensures.matchable) shown
    (subst (λ list. HasReleased c.args.parts.now.neighbours c.args.parts.now.points (list_props list) c.args.parts.now.props c.args.tally.now c.release_entries.new.props c.release_entries.new.tally)
    c.as_slice.ensures.items c.release_entries.ensures)
    history there tables

pub returns-clause-both : goal.returns-clause-both
returns-clause-both g c now soon event shown history there stand =
    let one : IsOneToOne c.args.parts.now.props = record { in_order = c.len.ensures.order; numbers = c.len.ensures.numbers } in
    let step = subst (λ list. HasReleased c.args.parts.now.neighbours c.args.parts.now.points (list_props list) c.args.parts.now.props c.args.tally.now c.release_entries.new.props c.release_entries.new.tally)
    c.as_slice.ensures.items c.release_entries.ensures in
    StandForBoth-counted g.T.Moment.rank c.args.parts.now.checked now soon _ (view_of c.args.parts.now) c.args.tally.now c.release_entries.new.tally c.release_entries.new.props one step.terms
    (AreTables-without_event soon event c.args.list.now (lists_initials c.args.parts.now.checked c.theory.ensures.well_formed c.theory.ensures.matchable) shown step history there stand.tables)
    stand

pub returns-clause-released : goal.returns-clause-released
returns-clause-released c = grind (arith, common_steps)

pub release_entries-requires-clause-kept : goal.release_entries-requires-clause-kept
release_entries-requires-clause-kept g c = subst (All (IsKeptEntry c.args.parts.now.props)) (sym c.as_slice.ensures.items) c.requires.kept

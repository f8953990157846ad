use Rattle.std.proofs.Common.{All, sym, subst, arith}
use Rattle.std.proofs.lemmas.Grind.{common_steps}
use Rattle.ec_context.specs.Entries.{IsKeptEntry}
use Rattle.ec_parts.specs.Mentions.{HasMentioned, list_props}
use Rattle.ec_parts.specs.StandFor.{view_of}
use Rattle.ec_parts.proofs.CachesKept.{StandForBoth-counted}
use Rattle.ec_parts.proofs.LinksByNumber.{IsOneToOne}
use Rattle.ec_parts.proofs.ListedInitials.{lists_initials, few_initials}
use Rattle.ec_parts.proofs.TablesOfEvents.{AreTables-with_event, AreSomeTables-events}
use Rattle.ec_parts.proofs.tables.mention_all.Goals as goal

pub mention_entries-requires-clause-tables : goal.mention_entries-requires-clause-tables
mention_entries-requires-clause-tables g c =
    AreSomeTables-events c.requires.tables.events (lists_initials c.args.parts.now.checked c.theory.ensures.well_formed c.theory.ensures.matchable) (few_initials c.args.parts.now.checked c.theory.ensures.well_formed) c.requires.tables.tables

pub returns-clause-tables : goal.returns-clause-tables
returns-clause-tables g c events event shown tables =
    AreTables-with_event events event c.args.list.now (lists_initials c.args.parts.now.checked c.theory.ensures.well_formed c.theory.ensures.matchable) shown
    (subst (λ list. HasMentioned c.args.parts.now.neighbours c.args.parts.now.points (list_props list) c.args.parts.now.props c.args.tally.now c.mention_entries.new.props c.mention_entries.new.tally)
    c.as_slice.ensures.items c.mention_entries.ensures)
    tables

pub returns-clause-both : goal.returns-clause-both
returns-clause-both g c now soon event shown stand =
    let one : IsOneToOne c.args.parts.now.props = record { in_order = c.len.ensures.order; numbers = c.len.ensures.numbers } in
    let step = subst (λ list. HasMentioned c.args.parts.now.neighbours c.args.parts.now.points (list_props list) c.args.parts.now.props c.args.tally.now c.mention_entries.new.props c.mention_entries.new.tally)
    c.as_slice.ensures.items c.mention_entries.ensures in
    StandForBoth-counted g.T.Moment.rank c.args.parts.now.checked now soon _ (view_of c.args.parts.now) c.args.tally.now c.mention_entries.new.tally c.mention_entries.new.props one step.terms
    (AreTables-with_event soon event c.args.list.now (lists_initials c.args.parts.now.checked c.theory.ensures.well_formed c.theory.ensures.matchable) shown step stand.tables)
    stand

pub mention_entries-requires-clause-few : goal.mention_entries-requires-clause-few
mention_entries-requires-clause-few c = grind (arith, common_steps)

pub returns-clause-mentioned : goal.returns-clause-mentioned
returns-clause-mentioned c = grind (arith, common_steps)

pub mention_entries-requires-clause-kept : goal.mention_entries-requires-clause-kept
mention_entries-requires-clause-kept g c = subst (All (IsKeptEntry c.args.parts.now.props)) (sym c.as_slice.ensures.items) c.requires.kept

-- The entries in the slot are released as any others.
use Rattle.std.proofs.Common.{All, sym, subst, arith}
use Rattle.std.proofs.lemmas.Grind.{common_steps}
use Rattle.ec_context.specs.Entries.{IsKeptEntry}
use Rattle.ec_numbered.specs.ByNumber.{kept_at}
use Rattle.ec_parts.specs.Mentions.{AreOfEventsWith, AreSomeTables, HasReleased, TakeEventOut, list_props}
use Rattle.ec_parts.specs.StandFor.{view_of}
use Rattle.ec_parts.proofs.CachesKept.{StandForBoth-counted}
use Rattle.ec_parts.proofs.InSlots.{in_slot, from_slot}
use Rattle.ec_parts.proofs.LinksByNumber.{IsOneToOne}
use Rattle.ec_parts.proofs.ListedInitials.{lists_initials, few_initials}
use Rattle.ec_parts.proofs.TablesOfEvents.{AreTables-without_event, AreSomeTables-with_event}
use Rattle.ec_parts.proofs.slots.release_slot.Goals as goal

pub release_entries-requires-clause-kept : goal.release_entries-requires-clause-kept
release_entries-requires-clause-kept g c =
    subst (λ l. All (IsKeptEntry c.args.parts.now.props) l) (sym c.as_slice.ensures.items)
    (from_slot (kept_at c.args.slot.0 c.args.parts.now.entries.slots) _ (λ l. All (IsKeptEntry c.args.parts.now.props) l) c.list-list.ensures.list c.requires.kept)

pub release_entries-requires-clause-tables : goal.release_entries-requires-clause-tables
release_entries-requires-clause-tables g c =
    let r = from_slot (kept_at c.args.slot.0 c.args.parts.now.entries.slots) _
    (λ list. AreOfEventsWith c.args.parts.now.checked list c.args.parts.now.props c.args.parts.now.neighbours c.args.parts.now.points c.args.tally.now) c.list-list.ensures.list c.requires.tables in
    subst (λ list. AreSomeTables (list_props list) c.args.parts.now.props c.args.parts.now.neighbours c.args.parts.now.points c.args.tally.now) (sym c.as_slice.ensures.items)
    (AreSomeTables-with_event r.events r.event c.list-list.result.now (lists_initials c.args.parts.now.checked c.theory.ensures.well_formed c.theory.ensures.matchable)
    (few_initials c.args.parts.now.checked c.theory.ensures.well_formed) r.shown r.history r.there r.tables)

pub returns-clause-both : goal.returns-clause-both
returns-clause-both g c =
    let step = subst (λ list. HasReleased c.args.parts.now.neighbours c.args.parts.now.points (list_props list) c.args.parts.now.props c.args.tally.now c.release_entries.new.props c.release_entries.new.tally)
    c.as_slice.ensures.items c.release_entries.ensures in
    in_slot (kept_at c.args.slot.0 c.args.parts.now.entries.slots) c.list-list.result.now
    (λ list. TakeEventOut g.T.Moment.rank c.args.parts.now.checked list (view_of c.args.parts.now) c.args.tally.now _ c.release_entries.new.tally) c.list-list.ensures.list
    (λ now soon event shown history there stand.
    let one : IsOneToOne c.args.parts.now.props = record { in_order = c.len.ensures.order; numbers = c.len.ensures.numbers } in
    StandForBoth-counted g.T.Moment.rank c.args.parts.now.checked now soon _ (view_of c.args.parts.now) c.args.tally.now c.release_entries.new.tally c.release_entries.new.props one step.terms
    (AreTables-without_event soon event c.list-list.result.now (lists_initials c.args.parts.now.checked c.theory.ensures.well_formed c.theory.ensures.matchable) shown step history there stand.tables)
    stand)

pub returns-clause-steps : goal.returns-clause-steps
returns-clause-steps c = grind (arith, common_steps)

pub returns-clause-terms : goal.returns-clause-terms
returns-clause-terms c = grind (arith, common_steps)

pub returns-clause-more : goal.returns-clause-more
returns-clause-more c = grind (arith, common_steps)

pub returns-in_err-note_props-clause-more : goal.returns-in_err-note_props-clause-more
returns-in_err-note_props-clause-more c = grind (arith, common_steps)

pub returns-clause-noted : goal.returns-clause-noted
returns-clause-noted c = grind (arith, common_steps)

pub returns-clause-rest : goal.returns-clause-rest
returns-clause-rest c = grind (arith, common_steps)

pub returns-in_err-note_props-clause-steps : goal.returns-in_err-note_props-clause-steps
returns-in_err-note_props-clause-steps c = grind (arith, common_steps)

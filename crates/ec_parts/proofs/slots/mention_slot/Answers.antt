-- The entries in the slot are mentioned as any others.
use Rattle.std.proofs.Common.{◌+◌, ◌≤◌, ◌^◌, All, length, sym, subst, arith}
use Rattle.std.proofs.lemmas.Grind.{common_steps}
use Rattle.ec_context.specs.Entries.{IsKeptEntry}
use Rattle.ec_numbered.specs.ByNumber.{kept_at}
use Rattle.ec_parts.specs.Mentions.{HasMentioned, TakeEventIn, list_props}
use Rattle.ec_parts.specs.StandFor.{view_of}
use Rattle.ec_parts.proofs.CachesKept.{StandForBoth-counted}
use Rattle.ec_parts.proofs.InSlots.{in_slot, from_slot}
use Rattle.ec_parts.proofs.LinksByNumber.{IsOneToOne}
use Rattle.ec_parts.proofs.ListedInitials.{lists_initials, few_initials}
use Rattle.ec_parts.proofs.TablesOfEvents.{AreTables-with_event, AreSomeTables-events}
use Rattle.ec_parts.proofs.slots.mention_slot.Goals as goal

pub mention_entries-requires-clause-kept : goal.mention_entries-requires-clause-kept
mention_entries-requires-clause-kept g c =
    subst (λ l. All (IsKeptEntry c.args.parts.now.props) l) (sym c.as_slice.ensures.items)
    (from_slot (kept_at c.args.slot.0 c.args.parts.now.entries.slots) _ (λ l. All (IsKeptEntry c.args.parts.now.props) l) c.list-list.ensures.list c.requires.kept)

pub mention_entries-requires-clause-few : goal.mention_entries-requires-clause-few
mention_entries-requires-clause-few g c =
    subst (λ l. c.args.tally.now.mentions + length (list_props l) ≤ 2 ^ 21) (sym c.as_slice.ensures.items)
    (from_slot (kept_at c.args.slot.0 c.args.parts.now.entries.slots) _ (λ l. c.args.tally.now.mentions + length (list_props l) ≤ 2 ^ 21) c.list-list.ensures.list c.requires.few)

pub mention_entries-requires-clause-tables : goal.mention_entries-requires-clause-tables
mention_entries-requires-clause-tables g c =
    AreSomeTables-events c.requires.tables.events (lists_initials c.args.parts.now.checked c.theory.ensures.well_formed c.theory.ensures.matchable) (few_initials c.args.parts.now.checked c.theory.ensures.well_formed) c.requires.tables.tables

pub returns-clause-both : goal.returns-clause-both
returns-clause-both g c =
    let step = subst (λ list. HasMentioned c.args.parts.now.neighbours c.args.parts.now.points (list_props list) c.args.parts.now.props c.args.tally.now c.mention_entries.new.props c.mention_entries.new.tally)
    c.as_slice.ensures.items c.mention_entries.ensures in
    in_slot (kept_at c.args.slot.0 c.args.parts.now.entries.slots) c.list-list.result.now
    (λ list. TakeEventIn g.T.Moment.rank c.args.parts.now.checked list (view_of c.args.parts.now) c.args.tally.now _ c.mention_entries.new.tally) c.list-list.ensures.list
    (λ now soon event shown stand.
    let one : IsOneToOne c.args.parts.now.props = record { in_order = c.len.ensures.order; numbers = c.len.ensures.numbers } in
    StandForBoth-counted g.T.Moment.rank c.args.parts.now.checked now soon _ (view_of c.args.parts.now) c.args.tally.now c.mention_entries.new.tally c.mention_entries.new.props one step.terms
    (AreTables-with_event soon event c.list-list.result.now (lists_initials c.args.parts.now.checked c.theory.ensures.well_formed c.theory.ensures.matchable) shown step stand.tables)
    stand)

pub returns-clause-terms : goal.returns-clause-terms
returns-clause-terms c = grind (arith, common_steps)

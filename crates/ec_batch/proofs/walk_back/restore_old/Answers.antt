-- The event of the store comes back; where the store has none, nothing does.
use Rattle.std.proofs.Common.{◌≤◌, ◌+◌, ◌^◌, IfSome, All, is_some, length, sym, ap, subst, ◌∙◌}
use Rattle.ec_axioms.specs.Links.{mentions_of, most_mentions}
use Rattle.ec_context.specs.Entries.{IsKeptEntry}
use Rattle.ec_context.proofs.Shown.{IsKeptEntry-shown}
use Rattle.ec_entries.specs.declared.event_entries.EventEntries.{EventEntries}
use Rattle.ec_store.specs.Store.{history_of}
use Rattle.ec_parts.specs.Mentions.{TakeEventIn, list_props}
use Rattle.ec_parts.specs.StandFor.{StandForBoth, view_of}
use Rattle.ec_batch.specs.Undo.{put_back}
use Rattle.ec_batch.proofs.Counts.{mentions-back}
use Rattle.ec_batch.proofs.LetIn.{length-list_props, length-mentions_with}
use Rattle.ec_batch.proofs.Undoing.{not_stored}
use Rattle.ec_batch.proofs.WalkSteps.{stored_in}
use Rattle.ec_batch.proofs.walk_back.restore_old.Goals as goal

pub mention_slot-requires-clause-there : goal.mention_slot-requires-clause-there
mention_slot-requires-clause-there g c =
    let r = c.requires.restorable in
    let stored = stored_in r.both c.requires.id c.in-Some.slot c.len.ensures.slots (sym r.old ∙ c.in-Some.is) in ap is_some stored.kept_is

pub mention_slot-requires-clause-kept : goal.mention_slot-requires-clause-kept
mention_slot-requires-clause-kept g c =
    let r = c.requires.restorable in
    let stored = stored_in r.both c.requires.id c.in-Some.slot c.len.ensures.slots (sym r.old ∙ c.in-Some.is) in
    let P : EventEntries _ → Type 0 = λ kept. All (IsKeptEntry c.args.parts.now.props) kept.list in
    subst (λ o. IfSome o P) (sym stored.kept_is) (IsKeptEntry-shown c.args.parts.now.props stored.kept.list _ stored.shown)

pub mention_slot-requires-clause-few : goal.mention_slot-requires-clause-few
mention_slot-requires-clause-few g c =
    let r = c.requires.restorable in
    let theory = c.args.parts.now.checked in
    let stored = stored_in r.both c.requires.id c.in-Some.slot c.len.ensures.slots (sym r.old ∙ c.in-Some.is) in
    let P : EventEntries _ → Type 0 = λ kept. c.args.tally.now.mentions + length (list_props kept.list) ≤ 2 ^ 21 in
    let few = subst (λ o. length (mentions_of theory (put_back o c.requires.soon)) ≤ most_mentions) stored.found r.few in
    let made = length-list_props c.args.parts.now.props stored.kept.list _ stored.shown in
    let all = length-mentions_with theory stored.event c.requires.soon in
    let counted = r.both.tables.tally_of.mentions in
    let here : P stored.kept = mentions-back _ _ few all made counted in
    subst (λ o. IfSome o P) (sym stored.kept_is) here

pub returns-in-None-clause-back : goal.returns-in-None-clause-back
returns-in-None-clause-back g c soon id r =
    subst (λ o. StandForBoth g.T.Moment.rank c.args.parts.now.checked (history_of g.T.Moment.rank c.args.parts.now.store.events) (put_back o soon) (view_of c.args.parts.now) c.args.tally.now)
    (sym (not_stored g.T.Moment.rank id c.args.parts.now.store.events (sym r.old ∙ c.in-None.is))) r.both

pub returns-in-Some-clause-back : goal.returns-in-Some-clause-back
returns-in-Some-clause-back g c soon id r =
    let rank = g.T.Moment.rank in
    let theory = c.args.parts.now.checked in
    let hist = history_of rank c.args.parts.now.store.events in
    let stored = stored_in r.both id c.in-Some.slot c.len.ensures.slots (sym r.old ∙ c.in-Some.is) in
    let P : EventEntries _ → Type 0 = λ kept. TakeEventIn rank theory kept.list (view_of c.args.parts.now) c.args.tally.now (view_of c.mention_slot.new.parts) c.mention_slot.new.tally in
    let in_again : P stored.kept = subst (λ o. IfSome o P) stored.kept_is c.mention_slot.ensures.both in
    subst (λ o. StandForBoth rank theory hist (put_back o soon) (view_of c.mention_slot.new.parts) c.mention_slot.new.tally) (sym stored.found) (in_again hist soon stored.event stored.shown r.both)

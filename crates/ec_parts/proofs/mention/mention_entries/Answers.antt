use Rattle.std.proofs.Common.{◌++◌, [], length, take, refl, ap, subst, sym, ◌∙◌, arith}
use Rattle.std.proofs.lemmas.Grind.{common_steps}
use Rattle.ec_parts.specs.Mentions.{entry_props, list_props}
use Rattle.ec_context.specs.Entries.{IsKeptEntry}
use Rattle.ec_parts.proofs.Mentioned.{IsKeptEntry-same, HasMentioned-none, HasMentioned-then, AreSomeTables-mentioned, flat_map-take_more, list_props-room}
use Rattle.ec_parts.proofs.mention.mention_entries.Goals as goal

pub loop-entry-init : goal.loop-entry-init
loop-entry-init g c = HasMentioned-none c.args.props.now c.args.tally.now [] refl

pub mention_entry-requires-clause-kept : goal.mention_entry-requires-clause-kept
mention_entry-requires-clause-kept g c =
    IsKeptEntry-same _ _ c.loop-entry.invariant.terms _ (subst (λ e. IsKeptEntry c.args.props.now e) (sym c.entry-item.is) (c.requires.kept c.loop-entry.entry-index _ c.loop-entry-test.true))

pub mention_entry-requires-clause-tables : goal.mention_entry-requires-clause-tables
mention_entry-requires-clause-tables g c = AreSomeTables-mentioned (list_props (take c.loop-entry.entry-index c.args.entries.now)) c.loop-entry.invariant c.requires.tables

pub mention_entry-requires-clause-few : goal.mention_entry-requires-clause-few
mention_entry-requires-clause-few g c =
    let room = list_props-room c.args.entries.now c.loop-entry.entry-index c.entry-item.result c.loop-entry-test.true in
    let own = ap (λ e. length (entry_props e)) c.entry-item.is in
    omega (arith, room, own, c.loop-entry.invariant.more)

pub loop-entry-preserved : goal.loop-entry-preserved
loop-entry-preserved g c =
    HasMentioned-then (list_props (take c.loop-entry.entry-index c.args.entries.now)) (entry_props c.entry-item.result) _
    (flat_map-take_more entry_props c.args.entries.now c.loop-entry.entry-index c.entry-item.result c.loop-entry-test.true
    ∙ ap (λ e. list_props (take c.loop-entry.entry-index c.args.entries.now) ++ entry_props e) (sym c.entry-item.is)) c.loop-entry.invariant c.mention_entry.ensures

pub returns : goal.returns
returns c = grind (arith, common_steps)

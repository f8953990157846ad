use Rattle.std.proofs.Common.{◌+◌, ◌++◌, take, drop, refl, ap, sym, ◌∙◌, arith}
use Rattle.std.proofs.lemmas.Grind.{common_steps}
use Rattle.ec_parts.specs.Mentions.{entry_props, list_props}
use Rattle.ec_parts.proofs.Mentioned.{HasReleased-then, AreSomeTables-front, AreSomeTables-released, flat_map-take_more, flat_map-cut}
use Rattle.ec_parts.proofs.mention.release_entries.Goals as goal

pub release_entry-requires-clause-tables : goal.release_entry-requires-clause-tables
release_entry-requires-clause-tables g c =
    let rest = list_props (drop (c.loop-entry.entry-index + 1) c.args.entries.now) in
    AreSomeTables-front (entry_props c.entry-item.result) rest (entry_props c.entry-item.result ++ rest) refl
    (AreSomeTables-released (list_props (take c.loop-entry.entry-index c.args.entries.now)) (entry_props c.entry-item.result ++ rest) (list_props c.args.entries.now)
    (flat_map-cut entry_props c.args.entries.now c.loop-entry.entry-index c.entry-item.result c.loop-entry-test.true
    ∙ ap (λ e. list_props (take c.loop-entry.entry-index c.args.entries.now) ++ (entry_props e ++ rest)) (sym c.entry-item.is)) c.loop-entry.invariant c.requires.tables)

pub loop-entry-preserved : goal.loop-entry-preserved
loop-entry-preserved g c =
    HasReleased-then (list_props (take c.loop-entry.entry-index c.args.entries.now)) (entry_props c.entry-item.result) _
    (flat_map-take_more entry_props c.args.entries.now c.loop-entry.entry-index c.entry-item.result c.loop-entry-test.true
    ∙ ap (λ e. list_props (take c.loop-entry.entry-index c.args.entries.now) ++ entry_props e) (sym c.entry-item.is)) c.loop-entry.invariant c.release_entry.ensures

pub release_entry-requires-clause-kept : goal.release_entry-requires-clause-kept
release_entry-requires-clause-kept c = grind (arith, common_steps)

pub loop-entry-init : goal.loop-entry-init
loop-entry-init c = grind (arith, common_steps)

pub returns : goal.returns
returns c = grind (arith, common_steps)

use Rattle.std.proofs.Common.{◌∷◌, [], map, ap, sym, arith}
use Rattle.std.proofs.lemmas.Grind.{common_steps}
use Rattle.ec_context.specs.declared.entry.EntryLiteral.{EntryLiteral}
use Rattle.ec_parts.specs.Mentions.{entry_props}
use Rattle.ec_parts.proofs.Mentioned.{HasMentioned-then, AreSomeTables-mentioned}
use Rattle.ec_parts.proofs.mention.mention_entry.Goals as goal

pub mention_literals-requires-clause-tables : goal.mention_literals-requires-clause-tables
mention_literals-requires-clause-tables g c = AreSomeTables-mentioned (c.args.entry.now.head ∷ []) c.mention.ensures c.requires.tables

pub returns : goal.returns
returns g c =
    HasMentioned-then (c.args.entry.now.head ∷ []) (map (λ (l : EntryLiteral). l.prop) c.as_slice.result.now) (entry_props c.args.entry.now)
    (ap (λ ls. c.args.entry.now.head ∷ map (λ (l : EntryLiteral). l.prop) ls) (sym c.as_slice.ensures.items)) c.mention.ensures c.mention_literals.ensures

pub mention_literals-requires-clause-few : goal.mention_literals-requires-clause-few
mention_literals-requires-clause-few c = grind (arith, common_steps)

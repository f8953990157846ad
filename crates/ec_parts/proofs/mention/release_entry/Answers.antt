use Rattle.std.proofs.Common.{ℕ, ◌<◌, List, IsSome, ◌∷◌, [], map, length, get_or, refl, ap, subst, sym}
use Rattle.ec_context.specs.declared.entry.EntryLiteral.{EntryLiteral}
use Rattle.ec_parts.specs.Mentions.{entry_props}
use Rattle.ec_store.specs.Table.{prop_at}
use Rattle.ec_parts.proofs.Mentioned.{kept-same, HasReleased-then, AreSomeTables-front, AreSomeTables-released}
use Rattle.ec_parts.proofs.mention.release_entry.Goals as goal

pub release-requires-clause-tables : goal.release-requires-clause-tables
release-requires-clause-tables g c = AreSomeTables-front (c.args.entry.now.head ∷ []) (map (λ (l : EntryLiteral). l.prop) c.args.entry.now.literals) _ refl c.requires.tables

pub release_literals-requires-clause-kept : goal.release_literals-requires-clause-kept
release_literals-requires-clause-kept g c k d below =
    kept-same _ _ c.release.ensures.terms _
    (subst (λ (ls : List EntryLiteral). (i : ℕ) (e : EntryLiteral) → i < length ls → IsSome (prop_at (get_or ls i e).prop.0 c.args.props.now)) (sym c.as_slice.ensures.items) c.requires.kept.literals k d below)

pub release_literals-requires-clause-tables : goal.release_literals-requires-clause-tables
release_literals-requires-clause-tables g c =
    AreSomeTables-released (c.args.entry.now.head ∷ []) _ (entry_props c.args.entry.now)
    (ap (λ ls. c.args.entry.now.head ∷ map (λ (l : EntryLiteral). l.prop) ls) (sym c.as_slice.ensures.items)) c.release.ensures c.requires.tables

pub returns : goal.returns
returns g c =
    HasReleased-then (c.args.entry.now.head ∷ []) (map (λ (l : EntryLiteral). l.prop) c.as_slice.result.now) (entry_props c.args.entry.now)
    (ap (λ ls. c.args.entry.now.head ∷ map (λ (l : EntryLiteral). l.prop) ls) (sym c.as_slice.ensures.items)) c.release.ensures c.release_literals.ensures

-- The key of a term finds its number.
use Rattle.std.proofs.Common.{sym, ap, ◌∙◌, is_some}
use Rattle.ec_terms.specs.Term.{ground_of}
use Rattle.ec_store.specs.Table.{prop_at, prop_of, term_at}
use Rattle.ec_store.proofs.FoundLemmas.{kept-found, term_at-found}
use Rattle.ec_store.proofs.prop_table.PropTable.lookup.Goals as goal

pub returns-in-Ok-clause-number : goal.returns-in-Ok-clause-number
returns-in-Ok-clause-number c = sym c.in-Ok.ensures.found ∙ ap (prop_of (ground_of c.args.term.now)) c.self.view_is

pub returns-in-Ok-clause-kept : goal.returns-in-Ok-clause-kept
returns-in-Ok-clause-kept c =
    ap (λ ks. is_some (prop_at c.in-Ok.number ks)) (sym c.self.view_is)
    ∙ kept-found c.self.inside.by_key.items (ground_of c.args.term.now) c.in-Ok.number c.self.inside.records.items c.self.invariant c.in-Ok.ensures.found

pub returns-in-Ok-clause-term : goal.returns-in-Ok-clause-term
returns-in-Ok-clause-term c =
    ap (term_at c.in-Ok.number) (sym c.self.view_is)
    ∙ term_at-found c.self.inside.by_key.items (ground_of c.args.term.now) c.in-Ok.number c.self.inside.records.items c.self.invariant c.in-Ok.ensures.found

pub returns-in-Err-clause-number : goal.returns-in-Err-clause-number
returns-in-Err-clause-number c = sym c.in-Err.ensures.absent ∙ ap (prop_of (ground_of c.args.term.now)) c.self.view_is

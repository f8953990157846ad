-- The search by a key finds the number of the term.
use Rattle.std.proofs.Common.{Some, None, IfOk, OnErr, ◌≡◌, ℕ, Option, subst}
use Rattle.ec_terms.specs.Term.{ground_of}
use Rattle.ec_store.proofs.FoundLemmas.{IsInOrder-terms, slot_of-terms}
use Rattle.ec_store.proofs.prop_keys.search.Goals as goal

pub search-requires : goal.search-requires
search-requires c = IsInOrder-terms c.args.by_key.now.items c.args.records.now.items c.requires.found c.args.key (ground_of c.args.term.now) c.requires.key

pub returns-clause-found : goal.returns-clause-found
returns-clause-found c =
    subst (λ (o : Option ℕ). IfOk c.search.result (λ number. o ≡ Some number)) (slot_of-terms c.args.by_key.now.items c.args.records.now.items c.requires.found c.args.key (ground_of c.args.term.now) c.requires.key)
    c.search.ensures.found

pub returns-clause-absent : goal.returns-clause-absent
returns-clause-absent c =
    subst (λ (o : Option ℕ). OnErr c.search.result (o ≡ None)) (slot_of-terms c.args.by_key.now.items c.args.records.now.items c.requires.found c.args.key (ground_of c.args.term.now) c.requires.key)
    c.search.ensures.absent

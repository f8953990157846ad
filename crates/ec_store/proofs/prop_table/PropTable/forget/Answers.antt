-- A property less leaves the others under their numbers, and their keys find them.
use Rattle.std.proofs.Common.{ap, ◌∙◌}
use Rattle.ec_terms.specs.Term.{ground_of}
use Rattle.ec_store.specs.Table.{prop_at}
use Rattle.ec_store.proofs.PropLemmas.{prop_at-without_itself, prop_at-without_other}
use Rattle.ec_store.proofs.FoundLemmas.{IsInOrder-terms, IsCutAt-key, number-within, IsFoundByKey-less, if_term}
use Rattle.ec_store.proofs.prop_table.PropTable.forget.Goals as goal

pub place_of-place-requires : goal.place_of-place-requires
place_of-place-requires c = IsInOrder-terms c.self.inside.by_key.items c.self.inside.records.items c.self.invariant c.key_of.result (ground_of c.ground-term.result) c.key_of.ensures

pub remove-requires : goal.remove-requires
remove-requires c =
    number-within c.self.inside.by_key.items c.self.inside.records.items c.self.invariant c.args.p.0 (ground_of c.ground-term.result) c.place_of-place.result c.place_of-place.ensures.within
    (IsCutAt-key c.self.inside.by_key.items c.self.inside.records.items c.key_of.result (ground_of c.ground-term.result) c.place_of-place.result c.key_of.ensures c.place_of-place.ensures.cut)
    c.ground-term.ensures.number

pub invariant_of-self : goal.invariant_of-self
invariant_of-self c =
    IsFoundByKey-less c.self.inside.by_key.items c.remove.new.self.items c.self.inside.records.items c.take_out.new.self.items c.self.invariant c.take_out.ensures.numbers
    c.args.p.0 (ground_of c.ground-term.result) c.place_of-place.result c.place_of-place.ensures.within
    (IsCutAt-key c.self.inside.by_key.items c.self.inside.records.items c.key_of.result (ground_of c.ground-term.result) c.place_of-place.result c.key_of.ensures c.place_of-place.ensures.cut)
    c.ground-term.ensures.term c.ground-term.ensures.number c.take_out.ensures.props
    (λ q other. ap (prop_at q) c.take_out.ensures.props ∙ prop_at-without_other c.args.p.0 q c.self.inside.records.items other)
    (if_term _ _ (ground_of c.ground-term.result) c.ground-term.ensures.term c.take_out.ensures.lookups) c.remove.ensures.items

pub returns-clause-gone : goal.returns-clause-gone
returns-clause-gone c =
    ap (prop_at c.args.p.0) c.take_out.ensures.props ∙ prop_at-without_itself c.args.p.0 c.self.inside.records.items

pub returns-clause-others : goal.returns-clause-others
returns-clause-others c = λ q other.
    ap (prop_at q) c.take_out.ensures.props ∙ prop_at-without_other c.args.p.0 q c.self.inside.records.items other
    ∙ ap (prop_at q) c.self.view_is

-- A term that is found is kept; one that is not found is new, and its key finds it from then on.
use Rattle.std.proofs.Common.{◌≡◌, ◌≤◌, List, Some, None, IsTrue, sym, ap, ap₂, subst, ◌∙◌, is_some, length, arith}
use Rattle.std.proofs.lemmas.Grind.{common_steps}
use Rattle.std.specs.List.{insert}
use Rattle.std.proofs.lemmas.Bool.{false≢true}
use Rattle.ec_terms.specs.Term.{ground_of, names_are_names}
use Rattle.ec_store.specs.declared.slots.KeyedSlot.{KeyedSlot}
use Rattle.ec_store.specs.PropKeys.{key_of}
use Rattle.ec_store.specs.Table.{KeptProp, prop_at, prop_of, term_at}
use Rattle.ec_store.proofs.FoundLemmas.{IsCutAt, IsCutAt-key, kept-found, term_at-found, IsFoundByKey-same, IsFoundByKey-more}
use Rattle.ec_store.proofs.prop_table.PropTable.intern.Goals as goal
use Rattle.ec_store.proofs.prop_table.PropTable.intern.Goals.{In-Ok, In-Err}

-- the number that is found is that of the term
found : (c : In-Ok) → prop_of (ground_of c.args.term.now) c.self.inside.records.items ≡ Some c.in-Ok.number
found c = c.in-Ok.ensures.found

-- the term is new
new : (c : In-Err) → prop_of (ground_of c.args.term.now) c.args.self.now ≡ None
new c = ap (prop_of (ground_of c.args.term.now)) (sym c.self.view_is) ∙ c.in-Err.ensures.absent

pub returns-in-Ok-clause-number : goal.returns-in-Ok-clause-number
returns-in-Ok-clause-number c = ap (prop_of (ground_of c.args.term.now)) (sym c.self.view_is) ∙ found (goal.at.returns-in-Ok-clause-number c).In-Ok

pub returns-in-Ok-clause-kept : goal.returns-in-Ok-clause-kept
returns-in-Ok-clause-kept c =
    ap (λ ks. is_some (prop_at c.in-Ok.number ks)) (sym c.self.view_is)
    ∙ kept-found c.self.inside.by_key.items (ground_of c.args.term.now) c.in-Ok.number c.self.inside.records.items c.self.invariant (found (goal.at.returns-in-Ok-clause-kept c).In-Ok)

pub returns-in-Ok-clause-term : goal.returns-in-Ok-clause-term
returns-in-Ok-clause-term c =
    ap (term_at c.in-Ok.number) (sym c.self.view_is)
    ∙ term_at-found c.self.inside.by_key.items (ground_of c.args.term.now) c.in-Ok.number c.self.inside.records.items c.self.invariant (found (goal.at.returns-in-Ok-clause-term c).In-Ok)

pub returns-in-Ok-clause-free : goal.returns-in-Ok-clause-free
returns-in-Ok-clause-free c = λ none.
    let both : Some c.in-Ok.number ≡ None = sym (ap (prop_of (ground_of c.args.term.now)) (sym c.self.view_is) ∙ found (goal.at.returns-in-Ok-clause-free c).In-Ok) ∙ none in cc

pub returns-in-Ok-clause-props : goal.returns-in-Ok-clause-props
returns-in-Ok-clause-props c = λ none.
    let both : Some c.in-Ok.number ≡ None = sym (ap (prop_of (ground_of c.args.term.now)) (sym c.self.view_is) ∙ found (goal.at.returns-in-Ok-clause-props c).In-Ok) ∙ none in cc

pub returns-in_err-kept-clause-known : goal.returns-in_err-kept-clause-known
returns-in_err-kept-clause-known c = λ known. absurd (false≢true (sym (ap is_some (new (goal.at.returns-in_err-kept-clause-known c).In-Err)) ∙ known))

pub returns-in_err-reserve-clause-known : goal.returns-in_err-reserve-clause-known
returns-in_err-reserve-clause-known c = λ known. absurd (false≢true (sym (ap is_some (new (goal.at.returns-in_err-reserve-clause-known c).In-Err)) ∙ known))

pub returns-in_err-reserve-2-clause-known : goal.returns-in_err-reserve-2-clause-known
returns-in_err-reserve-2-clause-known c = λ known. absurd (false≢true (sym (ap is_some (new (goal.at.returns-in_err-reserve-2-clause-known c).In-Err)) ∙ known))

pub returns-clause-same : goal.returns-clause-same
returns-clause-same c = λ known. absurd (false≢true (sym (ap is_some (new (goal.at.returns-clause-same c).In-Err)) ∙ known))

-- another number than the new one
pub returns-clause-others : goal.returns-clause-others
returns-clause-others c = λ q kept.
    let old = ap (prop_at q) (c.reserve.ensures.same ∙ c.self.view_is) in
    c.put-p.ensures.others q (λ is. false≢true (sym (ap (λ n. is_some (prop_at n c.reserve.new.self.items)) is ∙ ap is_some c.put-p.ensures.free) ∙ ap is_some old ∙ kept)) ∙ old

pub invariant_of-self-in_err-reserve-2 : goal.invariant_of-self-in_err-reserve-2
invariant_of-self-in_err-reserve-2 c =
    IsFoundByKey-same c.self.inside.by_key.items c.reserve-2.new.self.items c.self.inside.records.items c.reserve.new.self.items c.reserve.ensures.same c.reserve-2.ensures.same c.self.invariant

pub invariant_of-self-2 : goal.invariant_of-self-2
invariant_of-self-2 c =
    let was = IsFoundByKey-same c.self.inside.by_key.items c.reserve-2.new.self.items c.self.inside.records.items c.reserve.new.self.items c.reserve.ensures.same c.reserve-2.ensures.same c.self.invariant in
    let at = IsCutAt-key c.self.inside.by_key.items c.self.inside.records.items c.key_of-key.result (ground_of c.args.term.now) c.in-Err.place c.key_of-key.ensures c.in-Err.ensures.cut in
    let cut = subst (λ (ms : List KeyedSlot). IsCutAt ms c.reserve.new.self.items (ground_of c.args.term.now) c.in-Err.place) (sym c.reserve-2.ensures.same)
    (subst (λ (ks : List KeptProp). IsCutAt c.self.inside.by_key.items ks (ground_of c.args.term.now) c.in-Err.place) (sym c.reserve.ensures.same) at) in
    let is = c.in_ok-kept.ensures in
    IsFoundByKey-more c.reserve-2.new.self.items c.insert.new.self.items c.reserve.new.self.items c.put-p.new.self.items was c.put-p.ensures.numbers
    c.put-p.result.0 c.in_ok-kept.kept c.in-Err.place (subst (λ (ms : List KeyedSlot). c.in-Err.place ≤ length ms) (sym c.reserve-2.ensures.same) c.in-Err.ensures.within)
    (subst (λ t. IsCutAt c.reserve-2.new.self.items c.reserve.new.self.items t c.in-Err.place) (sym is) cut)
    (subst (λ t. IsTrue (names_are_names t)) (sym is) c.requires)
    (ap₂ (λ t ks. prop_of t ks) is (c.reserve.ensures.same ∙ c.self.view_is) ∙ new (goal.at.invariant_of-self-2 c).In-Err)
    c.put-p.ensures.free c.put-p.ensures.props c.put-p.ensures.others c.put-p.ensures.term c.put-p.ensures.lookups
    (c.insert.ensures.items ∙ ap (λ n. insert c.reserve-2.new.self.items c.in-Err.place (record { key = n; slot = c.put-p.result.0 })) (c.key_of-key.ensures ∙ ap key_of (sym is)))

pub insert-requires-clause-within : goal.insert-requires-clause-within
insert-requires-clause-within c = grind (arith, common_steps)

pub put-p-requires-clause-room : goal.put-p-requires-clause-room
put-p-requires-clause-room c = grind (arith, common_steps)

pub insert-requires-clause-room : goal.insert-requires-clause-room
insert-requires-clause-room c = grind (arith, common_steps)

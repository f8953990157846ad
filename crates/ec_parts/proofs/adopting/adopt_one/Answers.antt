-- A property that is added and dropped again leaves the others as they were.
use Rattle.std.proofs.Common.{◌≡◌, ◌≢◌, Bool, true, false, not, ◌&&◌, ◌||◌, sym, ap, subst, ◌∙◌, ⊎_elim, arith}
use Rattle.std.proofs.lemmas.Grind.{common_steps}
use Rattle.std.specs.Prelude.{◌==◌}
use Rattle.std.proofs.lemmas.Bool.{cases_Bool, false≢true, eqb-true, eq-eqb}
use Rattle.ec_lists.proofs.Numbers.{eqb-turned}
use Rattle.ec_terms.specs.declared.ids.PropId.{PropId}
use Rattle.ec_terms.specs.declared.theory.Theory.{Theory}
use Rattle.ec_numbered.specs.PropSet.{has_number}
use Rattle.ec_numbered.proofs.Numbers.{has_number-filter, has_number-with_number}
use Rattle.ec_exclusive.specs.Added.{added_props, is_added}
use Rattle.ec_exclusive.specs.Neighbours.{AreNeighbours}
use Rattle.ec_exclusive.proofs.Leaving.{added_props-less}
use Rattle.ec_points.specs.Table.{marks_at, marks_in}
use Rattle.ec_parts.proofs.adopting.adopt_one.Goals as goal

-- with a number that was absent and without it again
with_without : (p q : PropId) (there : Bool) → ((q.0 == p.0) ≡ true → there ≡ false) → (not (q.0 == p.0) && ((p.0 == q.0) || there)) ≡ there
with_without p q there absent =
    ⊎_elim (λ same. let none = absent same in grind arith) (λ other. let back : (p.0 == q.0) ≡ false = eqb-turned q.0 p.0 other in grind arith) (cases_Bool (q.0 == p.0))

pub returns-in-Err-clause-stayed : goal.returns-in-Err-clause-stayed
returns-in-Err-clause-stayed g c = record {
  added = λ q.
      ap (is_added q) c.drop_prop.ensures.rows
      ∙ ap (has_number q.0) (added_props-less c.args.p c.add.new.self.rows)
      ∙ has_number-filter q (λ (r : PropId). not (r.0 == c.args.p.0)) (added_props c.add.new.self.rows)
      ∙ ap (λ b. not (q.0 == c.args.p.0) && b) (ap (has_number q.0) c.in_ok-add.ensures.added ∙ has_number-with_number q c.args.p (added_props c.args.parts.now.neighbours.rows))
      ∙ with_without c.args.p q (is_added q c.args.parts.now.neighbours.rows) (λ same. ap (λ n. has_number n (added_props c.args.parts.now.neighbours.rows)) (eqb-true q.0 c.args.p.0 same) ∙ c.requires.may.absent);
  neighbours = c.drop_prop.ensures.neighbours c.args.parts.now.checked c.args.parts.now.props
      (subst (λ (theory : Theory). AreNeighbours theory c.args.parts.now.props c.add.new.self) c.theory.ensures.theory c.in_ok-add.ensures.neighbours);
  initials = c.clear.ensures.initials ∙ c.gather.ensures.initials;
  marks = λ n.
      ⊎_elim
      (λ same. let number = eqb-true n c.args.p.0 same in ap (λ m. marks_at m c.clear.new.self) number ∙ c.clear.ensures.marks ∙ sym (ap (λ m. marks_at m c.args.parts.now.points) number ∙ c.requires.may.none))
      (λ other. let apart : n ≢ c.args.p.0 = (λ same. false≢true (sym other ∙ eq-eqb n c.args.p.0 same)) in ap marks_in (c.clear.ensures.others n apart ∙ c.gather.ensures.others n apart))
      (cases_Bool (n == c.args.p.0));
}

pub returns-in_err-reserve-clause-stayed : goal.returns-in_err-reserve-clause-stayed
returns-in_err-reserve-clause-stayed c = grind (arith, common_steps)

pub gather-requires-clause-few : goal.gather-requires-clause-few
gather-requires-clause-few c = grind (arith, common_steps)

pub add-requires-clause-absent : goal.add-requires-clause-absent
add-requires-clause-absent c = grind (arith, common_steps)

pub returns-in-Err-clause-rest : goal.returns-in-Err-clause-rest
returns-in-Err-clause-rest c = grind (arith, common_steps)

pub gather-requires-clause-counted : goal.gather-requires-clause-counted
gather-requires-clause-counted c = grind (arith, common_steps)

pub returns-in_err-add-clause-rest : goal.returns-in_err-add-clause-rest
returns-in_err-add-clause-rest c = grind (arith, common_steps)

pub add-requires-clause-kept : goal.add-requires-clause-kept
add-requires-clause-kept c = grind (arith, common_steps)

pub returns-clause-fresh : goal.returns-clause-fresh
returns-clause-fresh c = grind (arith, common_steps)

pub drop_prop-requires : goal.drop_prop-requires
drop_prop-requires c = grind (arith, common_steps)

pub gather-requires-clause-none : goal.gather-requires-clause-none
gather-requires-clause-none c = grind (arith, common_steps)

pub returns-clause-joined : goal.returns-clause-joined
returns-clause-joined c = grind (arith, common_steps)

pub add-requires-clause-matchable : goal.add-requires-clause-matchable
add-requires-clause-matchable c = grind (arith, common_steps)

pub of-list-requires : goal.of-list-requires
of-list-requires c = grind (arith, common_steps)

pub add-requires-clause-neighbours : goal.add-requires-clause-neighbours
add-requires-clause-neighbours c = grind (arith, common_steps)

pub returns-clause-rest : goal.returns-clause-rest
returns-clause-rest c = grind (arith, common_steps)

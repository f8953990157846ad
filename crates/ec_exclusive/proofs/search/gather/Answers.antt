-- The next is found where it is exclusive to the term.
use Rattle.std.proofs.Common.{◌≡◌, Bool, true, false, not, ◌&&◌, ◌||◌, refl, take, sym, ap, subst, ◌∙◌, arith}
use Rattle.std.proofs.lemmas.Grind.{common_steps}
use Rattle.std.specs.Prelude.{◌==◌}
use Rattle.ec_terms.specs.declared.ids.PropId.{PropId}
use Rattle.ec_terms.specs.Term.{ground_of}
use Rattle.ec_lists.specs.Reserved.{Reserved}
use Rattle.ec_numbered.specs.PropSet.{has_number}
use Rattle.ec_numbered.proofs.Numbers.{same_prop, has_number-with_number}
use Rattle.ec_exclusive.specs.Neighbours.{excludes_at}
use Rattle.ec_exclusive.proofs.InTurn.{prop_at_place, read_at_place, has_number-more}
use Rattle.ec_exclusive.proofs.search.gather.Goals as goal
use Rattle.ec_exclusive.proofs.search.gather.Goals.{then-is_sought+in_ok-reserve, else-is_sought}

-- one member more that is found, and one that is not
found : (first so_far here excludes has : Bool) → has ≡ (first || (excludes && so_far)) → (here ≡ true → (not has && excludes) ≡ true) →
    (here || has) ≡ (first || (excludes && (so_far || here)))
found first so_far true excludes has is step = let sought = step refl in grind arith
found first so_far false excludes has is step = grind arith

passed : (first so_far here excludes has : Bool) → has ≡ (first || (excludes && so_far)) → (here ≡ true → (not has && excludes) ≡ false) →
    has ≡ (first || (excludes && (so_far || here)))
passed first so_far true excludes has is step = let sought = step refl in grind arith
passed first so_far false excludes has is step = grind arith

pub loop-q-preserved : goal.loop-q-preserved
loop-q-preserved c = λ r.
    let at = prop_at_place c.args.candidates.now c.loop-q.q-index in
    let test = excludes_at c.args.theory.now c.args.props.now (ground_of c.args.term.now) in
    let more = has_number-more r c.args.candidates.now c.loop-q.q-index at c.loop-q-test.true
    ∙ ap (λ (s : PropId). has_number r.0 (take c.loop-q.q-index c.args.candidates.now) || (s.0 == r.0)) (sym (read_at_place c.args.candidates.now c.loop-q.q-index c.loop-q-test.true)) in
    let sought : PropId → Bool = λ s. not (has_number s.0 c.loop-q.found.items) && test s in
    elim c.if-is_sought.branch [
      | then-is_sought+in_ok-reserve w ↦
          ap (λ (set : Reserved PropId). has_number r.0 set.items) w.found-is ∙ ap (has_number r.0) w.insert.ensures.items ∙ has_number-with_number r at w.reserve.new.self.items
          ∙ ap (λ ps. (at.0 == r.0) || has_number r.0 ps) w.reserve.ensures.same
          ∙ found (has_number r.0 c.args.found.now.items) (has_number r.0 (take c.loop-q.q-index c.args.candidates.now)) (at.0 == r.0) (test r) (has_number r.0 c.loop-q.found.items)
          (c.loop-q.invariant r) (λ e. subst (λ s. sought s ≡ true) (same_prop at r e) (sym c.is_sought.ensures ∙ w.if-is_sought.true))
          ∙ ap (λ b. has_number r.0 c.args.found.now.items || (test r && b)) (sym more)
      | else-is_sought w ↦
          ap (λ (set : Reserved PropId). has_number r.0 set.items) w.found-is
          ∙ passed (has_number r.0 c.args.found.now.items) (has_number r.0 (take c.loop-q.q-index c.args.candidates.now)) (at.0 == r.0) (test r) (has_number r.0 c.loop-q.found.items)
          (c.loop-q.invariant r) (λ e. subst (λ s. sought s ≡ false) (same_prop at r e) (sym c.is_sought.ensures ∙ w.if-is_sought.false))
          ∙ ap (λ b. has_number r.0 c.args.found.now.items || (test r && b)) (sym more)
    ]

pub is_sought-requires-clause-kept : goal.is_sought-requires-clause-kept
is_sought-requires-clause-kept c = grind (arith, common_steps)

pub insert-requires : goal.insert-requires
insert-requires c = grind (arith, common_steps)

pub returns : goal.returns
returns c = grind (arith, common_steps)

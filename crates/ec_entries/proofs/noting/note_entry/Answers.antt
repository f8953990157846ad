-- A literal notes the entry where no earlier one is on its property.
use Rattle.std.proofs.Common.{sym, ◌∙◌, take, arith}
use Rattle.std.proofs.lemmas.Grind.{common_steps}
use Rattle.ec_entries.specs.Dependents.{any_on}
use Rattle.ec_entries.proofs.NotedLiterals.{IsNoted-again, IsNoted-first}
use Rattle.ec_entries.proofs.Wanting.{any_on-more}
use Rattle.ec_entries.proofs.noting.note_entry.Goals as goal
use Rattle.ec_entries.proofs.noting.note_entry.Goals.{then-not-is_any_on, else-not-is_any_on}

pub loop-k-preserved : goal.loop-k-preserved
loop-k-preserved g c =
    let ls = c.args.literals.now in
    let k = c.loop-k.k in
    elim c.if-not-is_any_on.branch [
      | then-not-is_any_on w ↦ rw w.rows-is
          (IsNoted-first g.T.Moment.rank c.args.dependent.now (λ q. any_on q (take k ls)) _ _ (λ q. any_on-more q ls k _ c.loop-k-test.true) c.args.rows.now c.loop-k.rows
          c.loop-k.invariant (sym c.is_any_on.ensures ∙ w.if-not-is_any_on.true) w.note.new.rows w.note.ensures.order w.note.ensures.exact w.note.ensures.others w.note.ensures.spare)
      | else-not-is_any_on w ↦ rw w.rows-is
          (IsNoted-again g.T.Moment.rank c.args.dependent.now (λ q. any_on q (take k ls)) _ _ (λ q. any_on-more q ls k _ c.loop-k-test.true) c.args.rows.now c.loop-k.rows
          c.loop-k.invariant (sym c.is_any_on.ensures ∙ w.if-not-is_any_on.false))
    ]

pub loop-k-init : goal.loop-k-init
loop-k-init c = grind (arith, common_steps)

pub note-requires-clause-absent : goal.note-requires-clause-absent
note-requires-clause-absent c = grind (arith, common_steps)

pub note-requires-clause-room : goal.note-requires-clause-room
note-requires-clause-room c = grind (arith, common_steps)

pub returns : goal.returns
returns c = grind (arith, common_steps)

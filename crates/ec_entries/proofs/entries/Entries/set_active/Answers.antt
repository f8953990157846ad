-- The bits change under the slot alone.
use Rattle.std.proofs.Common.{◌≡◌, IsSome, ap, sym, subst, ◌∙◌, arith}
use Rattle.std.proofs.lemmas.Grind.{common_steps}
use Rattle.ec_entries.specs.Dependents.{Entered, dependents_of}
use Rattle.ec_entries.proofs.States.{AreDependents-active, IsSome-apart, kept_at-read, kept_at-set_other}
use Rattle.ec_numbered.specs.ByNumber.{kept_at}
use Rattle.ec_entries.proofs.entries.Entries.set_active.Goals as goal
use Rattle.ec_entries.proofs.entries.Entries.set_active.Goals.{in-Some, in_default}

pub invariant_of-self : goal.invariant_of-self
invariant_of-self g c =
    let slots = c.self.inside.slots.items in
    let some : IsSome (kept_at c.args.slot.0 slots) = subst (λ (e : Entered g.row.T.Denot). IsSome (kept_at c.args.slot.0 e.slots)) (sym c.self.view_is) c.requires in
    let read : kept_at c.args.slot.0 slots ≡ c.index_mut.result.now = kept_at-read slots c.args.slot.0 c.index_mut.result.now c.index_mut.ensures.value some in
    elim c.match-index_mut.branch [
      | in-Some w ↦ rw w.self-inside-is
          (λ q. AreDependents-active g.T.Moment.rank slots c.args.slot.0 w.in-Some.kept c.args.active (read ∙ w.in-Some.is) q (dependents_of q c.self.inside.rows) (c.self.invariant q))
      | in_default w ↦ absurd (IsSome-apart c.index_mut.result.now (subst IsSome read some) w.in_default.not-Some)
    ]

pub returns-clause-active : goal.returns-clause-active
returns-clause-active g c = grind (arith, common_steps)

pub returns-clause-others : goal.returns-clause-others
returns-clause-others g c =
    elim c.match-index_mut.branch [
      | in-Some w ↦ rw w.self-inside-is
          (λ other apart. kept_at-set_other c.self.inside.slots.items c.args.slot.0 other _ apart ∙ ap (λ (e : Entered g.row.T.Denot). kept_at other e.slots) c.self.view_is)
      | in_default w ↦ rw w.self-inside-is
          (λ other apart. kept_at-set_other c.self.inside.slots.items c.args.slot.0 other _ apart ∙ ap (λ (e : Entered g.row.T.Denot). kept_at other e.slots) c.self.view_is)
    ]

pub index_mut-requires : goal.index_mut-requires
index_mut-requires c = grind (arith, common_steps)

pub returns-clause-rows : goal.returns-clause-rows
returns-clause-rows c = grind (arith, common_steps)

pub returns-clause-places : goal.returns-clause-places
returns-clause-places c = grind (arith, common_steps)

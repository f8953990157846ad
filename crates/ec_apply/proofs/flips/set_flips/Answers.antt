use Rattle.std.proofs.Common.{[], ◌∷◌, ◌++◌, ◌≡◌, IsSome, get_or, subst, ◌∙◌}
use Rattle.std.specs.List.{All}
use Rattle.ec_numbered.specs.ByNumber.{kept_at}
use Rattle.ec_delta.specs.declared.flips.Flip.{Flip}
use Rattle.ec_apply.proofs.Flipped.{live-last, with_flips-last}
use Rattle.ec_apply.proofs.LastMembers.{live-parts}
use Rattle.ec_apply.specs.Events.{with_flips}
use Rattle.ec_apply.proofs.flips.set_flips.Goals as goal

pub loop-flip-preserved : goal.loop-flip-preserved
loop-flip-preserved g c =
    let before = c.loop-flip.entries.slots in
    let after = c.set_active.new.self.slots in
    let live : All (λ (f : Flip). IsSome (kept_at f.slot.0 before)) (c.pop.new.self ++ c.in-Some.flip ∷ []) =
    subst (All (λ (f : Flip). IsSome (kept_at f.slot.0 before))) c.in-Some.ensures.last c.loop-flip.invariant.live in
    let parts = live-parts (λ (f : Flip). IsSome (kept_at f.slot.0 before)) c.pop.new.self c.in-Some.flip live in
    record {
      live = λ k d within. live-last c.pop.new.self c.in-Some.flip before after c.set_active.ensures.active c.set_active.ensures.others parts.1 (get_or c.pop.new.self k d).slot.0 (parts.0 k d within);
      slots = λ slot.
          with_flips-last c.pop.new.self c.in-Some.flip before after c.set_active.ensures.active c.set_active.ensures.others parts.1 slot
          ∙ subst (λ flips. with_flips slot flips (kept_at slot.0 before) ≡ with_flips slot c.args.flips (kept_at slot.0 c.args.entries.now.slots)) c.in-Some.ensures.last (c.loop-flip.invariant.slots slot);
      places = c.set_active.ensures.places ∙ c.loop-flip.invariant.places;
      rows = c.set_active.ensures.rows ∙ c.loop-flip.invariant.rows;
    }

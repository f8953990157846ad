-- A block more at the end.
use Rattle.std.proofs.Common.{[], ◌∷◌, length-append, ◌-◌, ◌++◌, length, Some, refl, sym, ap, ◌∙◌, arith, map, ap₂, subst, ◌≤◌}
use Rattle.std.specs.Vec.{vec_capacity}
use Rattle.std.proofs.lemmas.Option.{slice_get_read}
use Rattle.std.proofs.lemmas.List.{map_push}
use Rattle.ec_blocks.proofs.ChainLemmas.{starts-count, lasts-count, is_block-some, is_block-most}
use Rattle.ec_blocks.proofs.EditLemmas.{rooms-more, appended}
use Rattle.ec_blocks.proofs.CountLemmas.{counted-small, owed-small, counted-push}
use Rattle.ec_blocks.proofs.chain.Chain.append.Goals as goal

pub take_spare-block-requires-clause-some : goal.take_spare-block-requires-clause-some
take_spare-block-requires-clause-some g c = omega (arith, ap (λ v. v.spares) c.self.view_is)

pub take_spare-block-requires-clause-spare : goal.take_spare-block-requires-clause-spare
take_spare-block-requires-clause-spare g c = c.self.invariant.0.spare

pub fill-requires : goal.fill-requires
fill-requires g c =
    omega (arith, ap length c.take_spare-block.ensures.empty, is_block-most c.args.members.now c.requires.block)

pub overflow_sub-members : goal.overflow_sub-members
overflow_sub-members g c = omega (arith, is_block-some c.args.members.now c.requires.block)

pub bounds-members-members : goal.bounds-members-members
bounds-members-members g c = omega (arith, is_block-some c.args.members.now c.requires.block)

pub push-requires-3 : goal.push-requires-3
push-requires-3 g c = let rooms = c.self.invariant.1 in omega (arith, ap (λ v. v.spares) c.self.view_is)

pub returns-clause-blocks : goal.returns-clause-blocks
returns-clause-blocks g c =
    ap (map (λ b. b.items)) c.push-3.ensures.items ∙ map_push (λ b. b.items) c.self.inside.blocks.items c.fill.new.block
    ∙ ap₂ (λ us members. us ++ members ∷ []) (ap (λ v. v.blocks) c.self.view_is) (c.fill.ensures.items ∙ ap (λ xs. xs ++ c.args.members.now) c.take_spare-block.ensures.empty)

pub returns-clause-spares : goal.returns-clause-spares
returns-clause-spares g c = c.take_spare-block.ensures.len ∙ ap (λ v. v.spares) c.self.view_is

pub push-requires : goal.push-requires
push-requires g c = let rooms = c.self.invariant.1 in omega (arith, ap (λ v. v.spares) c.self.view_is, starts-count (λ b. b.items) (λ b. vec_capacity b) _ _ _ _ c.self.invariant.0)

pub push-requires-2 : goal.push-requires-2
push-requires-2 g c = let rooms = c.self.invariant.1 in omega (arith, ap (λ v. v.spares) c.self.view_is, lasts-count (λ b. b.items) (λ b. vec_capacity b) _ _ _ _ c.self.invariant.0)

pub change-requires-clause-fits : goal.change-requires-clause-fits
change-requires-clause-fits g c = omega (arith, is_block-most c.args.members.now c.requires.block, counted-small (λ b. b.items) (λ b. vec_capacity b) _ _ _ c.self.invariant.0.kept (let few = c.self.invariant.1.few in omega arith) c.self.invariant.2)

pub change-requires-clause-owed_fits : goal.change-requires-clause-owed_fits
change-requires-clause-owed_fits g c = omega (arith, is_block-most c.args.members.now c.requires.block, owed-small (λ b. b.items) (λ b. vec_capacity b) _ _ _ c.self.invariant.0.kept (let few = c.self.invariant.1.few in omega arith) c.self.invariant.2)

pub invariant_of-self : goal.invariant_of-self
invariant_of-self g c =
    let there = c.push-3.ensures.items in
    let more = ap length there ∙ length-append c.self.inside.blocks.items (c.fill.new.block ∷ []) in
    let some = is_block-some c.args.members.now c.requires.block in
    let filled = c.fill.ensures.items ∙ ap (λ xs. xs ++ c.args.members.now) c.take_spare-block.ensures.empty in (
      appended (λ b. b.items) (λ b. vec_capacity b) c.self.inside.blocks.items c.self.inside.starts.items c.self.inside.lasts.items c.self.inside.spares.items c.self.invariant.0 c.args.self.now.blocks (ap (λ v. v.blocks) c.self.view_is) _ _ _ _ c.fill.new.block c.total-start.result c.copied.result c.args.members.now
          there c.push.ensures.items c.push-2.ensures.items
          filled c.requires.block (subst (λ n. 128 ≤ n) (sym c.fill.ensures.capacity) c.take_spare-block.ensures.room) c.total-start.ensures
          (ap (λ x. Some x) c.copied.ensures
          ∙ sym (slice_get_read c.args.members.now (length c.args.members.now) (length c.args.members.now - 1) c.index-members-members.result refl (omega arith) c.index-members-members.is))
          c.take_spare-block.ensures.spare,
      rooms-more _ _ _ _ _ _ _ _ _ _ _ _ c.self.invariant.1 more c.take_spare-block.ensures.len c.push-3.ensures.room c.push.ensures.room c.push-2.ensures.room c.take_spare-block.ensures.capacity,
      counted-push (λ b. b.items) c.self.inside.blocks.items _ c.fill.new.block c.args.members.now c.self.inside.counts.total c.self.inside.counts.owed _ _ c.self.invariant.2 there filled
          c.change.ensures.total c.change.ensures.owed,
    )

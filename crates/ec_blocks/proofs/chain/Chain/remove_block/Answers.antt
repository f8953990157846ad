-- A block goes, and is a spare one.
use Rattle.std.proofs.Common.{◌+◌, ◌-◌, ◌≤◌, length, map, ap, ◌∙◌, arith, sym}
use Rattle.std.specs.List.{remove}
use Rattle.std.specs.Vec.{vec_capacity}
use Rattle.std.proofs.lemmas.List.Edits.{length-remove}
use Rattle.std.specs.Prelude.{slice_get}
use Rattle.ec_blocks.proofs.ChainLemmas.{starts-count, starts-some, place-within, map-remove, lasts-count}
use Rattle.ec_blocks.proofs.EditLemmas.{rooms-less, old-list, old-room, gone, is_spare-emptied}
use Rattle.ec_blocks.proofs.NumberLemmas.{behind-length}
use Rattle.ec_blocks.proofs.CountLemmas.{counted-same, counted-small, owed-small, counted-part, counted-remove}
use Rattle.ec_blocks.proofs.chain.Chain.remove_block.Goals as goal

pub remove-requires-2 : goal.remove-requires-2
remove-requires-2 g c =
    omega (arith, lasts-count (λ b. b.items) (λ b. vec_capacity b) _ _ _ _ c.self.invariant.0, place-within (λ b. b.items) (λ b. vec_capacity b) c.self.inside.blocks.items _ c.args.k (ap (λ v. v.blocks) c.self.view_is) c.requires.block)

pub remove-block-requires : goal.remove-block-requires
remove-block-requires g c =
    place-within (λ b. b.items) (λ b. vec_capacity b) c.self.inside.blocks.items _ c.args.k (ap (λ v. v.blocks) c.self.view_is) c.requires.block

pub remove_within-x-requires : goal.remove_within-x-requires
remove_within-x-requires g c =
    omega (arith, c.requires.alone, ap length (old-list (λ b. b.items) (λ b. vec_capacity b) c.self.inside.blocks.items c.self.inside.starts.items c.self.inside.lasts.items c.self.inside.spares.items c.self.invariant.0 c.args.self.now.blocks (ap (λ v. v.blocks) c.self.view_is) c.args.k c.requires.block c.remove-block.result c.remove-block.ensures.member))

pub push_reserved-requires : goal.push_reserved-requires
push_reserved-requires g c =
    let rooms = c.self.invariant.1 in omega (arith, place-within (λ b. b.items) (λ b. vec_capacity b) c.self.inside.blocks.items _ c.args.k (ap (λ v. v.blocks) c.self.view_is) c.requires.block)

pub returns-clause-member : goal.returns-clause-member
returns-clause-member g c =
    ap (λ xs. slice_get xs 0) (sym (old-list (λ b. b.items) (λ b. vec_capacity b) c.self.inside.blocks.items c.self.inside.starts.items c.self.inside.lasts.items c.self.inside.spares.items c.self.invariant.0 c.args.self.now.blocks (ap (λ v. v.blocks) c.self.view_is) c.args.k c.requires.block c.remove-block.result c.remove-block.ensures.member)) ∙ c.remove_within-x.ensures.member

pub lower_behind-requires-clause-within : goal.lower_behind-requires-clause-within
lower_behind-requires-clause-within g c = omega (arith, starts-count (λ b. b.items) (λ b. vec_capacity b) _ _ _ _ c.self.invariant.0, place-within (λ b. b.items) (λ b. vec_capacity b) c.self.inside.blocks.items _ c.args.k (ap (λ v. v.blocks) c.self.view_is) c.requires.block)

pub lower_behind-requires-clause-some : goal.lower_behind-requires-clause-some
lower_behind-requires-clause-some g c = starts-some (λ b. b.items) (λ b. vec_capacity b) _ _ _ _ c.self.invariant.0 c.args.k

pub remove-requires : goal.remove-requires
remove-requires g c =
    let upto : c.args.k + 1 ≤ length c.self.inside.starts.items =
    omega (arith, starts-count (λ b. b.items) (λ b. vec_capacity b) _ _ _ _ c.self.invariant.0, place-within (λ b. b.items) (λ b. vec_capacity b) c.self.inside.blocks.items _ c.args.k (ap (λ v. v.blocks) c.self.view_is) c.requires.block) in
    omega (arith, ap length c.lower_behind.ensures.items, behind-length (λ start. start - 1) c.self.inside.starts.items (c.args.k + 1) upto)

pub returns-clause-blocks : goal.returns-clause-blocks
returns-clause-blocks g c =
    ap (map (λ b. b.items)) c.remove-block.ensures.items ∙ map-remove (λ b. b.items) c.self.inside.blocks.items c.args.k ∙ ap (λ us. remove us c.args.k) (ap (λ v. v.blocks) c.self.view_is)

pub change-requires-clause-counted : goal.change-requires-clause-counted
change-requires-clause-counted g c = omega (arith, c.requires.alone, counted-part c.args.self.now.blocks c.args.k c.self.inside.counts.total c.self.inside.counts.owed (counted-same _ _ _ _ (ap (λ v. v.blocks) c.self.view_is) c.self.invariant.2) c.requires.block)

pub change-requires-clause-fits : goal.change-requires-clause-fits
change-requires-clause-fits g c = omega (arith, counted-small (λ b. b.items) (λ b. vec_capacity b) _ _ _ c.self.invariant.0.kept (let few = c.self.invariant.1.few in omega arith) c.self.invariant.2)

pub change-requires-clause-owed_fits : goal.change-requires-clause-owed_fits
change-requires-clause-owed_fits g c = omega (arith, owed-small (λ b. b.items) (λ b. vec_capacity b) _ _ _ c.self.invariant.0.kept (let few = c.self.invariant.1.few in omega arith) c.self.invariant.2)

pub invariant_of-self : goal.invariant_of-self
invariant_of-self g c =
    let within = place-within (λ b. b.items) (λ b. vec_capacity b) c.self.inside.blocks.items _ c.args.k (ap (λ v. v.blocks) c.self.view_is) c.requires.block in
    let less = ap length c.remove-block.ensures.items in
    let fewer = length-remove c.self.inside.blocks.items c.args.k within in
    let list = old-list (λ b. b.items) (λ b. vec_capacity b) c.self.inside.blocks.items c.self.inside.starts.items c.self.inside.lasts.items c.self.inside.spares.items c.self.invariant.0 c.args.self.now.blocks (ap (λ v. v.blocks) c.self.view_is) c.args.k c.requires.block c.remove-block.result c.remove-block.ensures.member in
    let wide = old-room (λ b. b.items) (λ b. vec_capacity b) c.self.inside.blocks.items c.self.inside.starts.items c.self.inside.lasts.items c.self.inside.spares.items c.self.invariant.0 c.args.self.now.blocks (ap (λ v. v.blocks) c.self.view_is) c.args.k c.requires.block c.remove-block.result c.remove-block.ensures.member in (
      gone (λ b. b.items) (λ b. vec_capacity b) c.self.inside.blocks.items c.self.inside.starts.items c.self.inside.lasts.items c.self.inside.spares.items c.self.invariant.0 c.args.self.now.blocks (ap (λ v. v.blocks) c.self.view_is) c.args.k c.requires.block c.requires.alone _ _ _ _ _ c.remove_within-x.new.block c.remove-block.ensures.items c.lower_behind.ensures.items c.remove.ensures.items c.remove-2.ensures.items
          c.push_reserved.ensures.items (is_spare-emptied (λ b. b.items) (λ b. vec_capacity b) c.remove-block.result c.remove_within-x.new.block c.remove-block.result.len c.remove_within-x.new.block.len c.remove_within-x.ensures.len c.remove-block.result.ok.0 c.remove_within-x.new.block.ok.0 (ap length list ∙ c.requires.alone) wide c.remove_within-x.ensures.capacity),
      rooms-less _ _ _ _ _ _ _ _ _ _ _ _ c.self.invariant.1 (ap (λ n. n + 1) less ∙ fewer) c.push_reserved.ensures.len c.remove-block.ensures.room (c.remove.ensures.room ∙ c.lower_behind.ensures.room) c.remove-2.ensures.room c.push_reserved.ensures.capacity,
      counted-remove c.args.self.now.blocks _ c.args.k 1 c.self.inside.counts.total c.self.inside.counts.owed _ _ (counted-same _ _ _ _ (ap (λ v. v.blocks) c.self.view_is) c.self.invariant.2) c.requires.block (returns-clause-blocks g c)
          (sym c.requires.alone) c.change.ensures.total c.change.ensures.owed,
    )

pub returns-clause-spares : goal.returns-clause-spares
returns-clause-spares g c = c.push_reserved.ensures.len ∙ ap (λ v. v.spares + 1) c.self.view_is

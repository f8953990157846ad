-- A full block becomes two.
use Rattle.std.proofs.Common.{◌≡◌, ◌+◌, true, length, take, drop, map, sym, ap, ap₂, ◌∙◌, arith, refl, set, length-set, ◌≤◌, subst}
use Rattle.std.specs.List.{insert, list_all}
use Rattle.std.specs.Vec.{vec_capacity}
use Rattle.std.proofs.lemmas.List.{length-map, length-take-le}
use Rattle.std.proofs.lemmas.List.Edits.{length-insert}
use Rattle.ec_blocks.proofs.StartLemmas.{start_of-le, start_of-all}
use Rattle.ec_blocks.proofs.ChainLemmas.{starts-count, place-within, start-is, kept-blocks, joined-most, map-insert, lasts-count}
use Rattle.ec_blocks.proofs.EditLemmas.{behind-within, rooms-more, old-list, edited, halved}
use Rattle.ec_blocks.proofs.CountLemmas.{counted-same, counted-small, owed-small, counted-part, owed-part, counted-edit, counted-insert}
use Rattle.ec_blocks.proofs.SplitLemmas.{half-front, half-back}
use Rattle.ec_blocks.specs.Chain.{block_at, is_block}
use Rattle.ec_blocks.proofs.chain.Chain.split.Goals as goal

pub take_spare-behind-requires-clause-some : goal.take_spare-behind-requires-clause-some
take_spare-behind-requires-clause-some g c = omega (arith, ap (λ v. v.spares) c.self.view_is)

pub take_spare-behind-requires-clause-spare : goal.take_spare-behind-requires-clause-spare
take_spare-behind-requires-clause-spare g c = c.self.invariant.0.spare

pub get_mut-block-requires : goal.get_mut-block-requires
get_mut-block-requires g c =
    place-within (λ b. b.items) (λ b. vec_capacity b) c.self.inside.blocks.items _ c.args.k (ap (λ v. v.blocks) c.self.view_is) c.requires.block

pub move_half-requires-clause-full : goal.move_half-requires-clause-full
move_half-requires-clause-full g c =
    omega (arith, c.requires.full, ap length (old-list (λ b. b.items) (λ b. vec_capacity b) c.self.inside.blocks.items c.self.inside.starts.items c.self.inside.lasts.items c.self.inside.spares.items c.self.invariant.0 c.args.self.now.blocks (ap (λ v. v.blocks) c.self.view_is) c.args.k c.requires.block c.get_mut-block.result.now c.get_mut-block.ensures.member))

pub move_half-requires-clause-empty : goal.move_half-requires-clause-empty
move_half-requires-clause-empty g c = c.take_spare-behind.ensures.empty

pub move_half-requires-clause-room : goal.move_half-requires-clause-room
move_half-requires-clause-room g c = c.take_spare-behind.ensures.room

pub insert_last-requires-clause-some : goal.insert_last-requires-clause-some
insert_last-requires-clause-some g c =
    let list = ap length (old-list (λ b. b.items) (λ b. vec_capacity b) c.self.inside.blocks.items c.self.inside.starts.items c.self.inside.lasts.items c.self.inside.spares.items c.self.invariant.0 c.args.self.now.blocks (ap (λ v. v.blocks) c.self.view_is) c.args.k c.requires.block c.get_mut-block.result.now c.get_mut-block.ensures.member) in
    let half = length-take-le 64 c.get_mut-block.result.now.items (omega (arith, list, c.requires.full)) in
    omega (arith, half, ap length c.deref.ensures.value, ap length c.move_half.ensures.front)

pub insert_last-requires-clause-within : goal.insert_last-requires-clause-within
insert_last-requires-clause-within g c =
    omega (arith, lasts-count (λ b. b.items) (λ b. vec_capacity b) _ _ _ _ c.self.invariant.0, place-within (λ b. b.items) (λ b. vec_capacity b) c.self.inside.blocks.items _ c.args.k (ap (λ v. v.blocks) c.self.view_is) c.requires.block)

pub insert_last-requires-clause-room : goal.insert_last-requires-clause-room
insert_last-requires-clause-room g c =
    let rooms = c.self.invariant.1 in omega (arith, ap (λ v. v.spares) c.self.view_is, lasts-count (λ b. b.items) (λ b. vec_capacity b) _ _ _ _ c.self.invariant.0)

pub overflow_add-k : goal.overflow_add-k
overflow_add-k g c =
    let few = c.self.invariant.1.few in omega (arith, place-within (λ b. b.items) (λ b. vec_capacity b) c.self.inside.blocks.items _ c.args.k (ap (λ v. v.blocks) c.self.view_is) c.requires.block)

pub overflow_add-k-2 : goal.overflow_add-k-2
overflow_add-k-2 g c =
    let few = c.self.invariant.1.few in omega (arith, place-within (λ b. b.items) (λ b. vec_capacity b) c.self.inside.blocks.items _ c.args.k (ap (λ v. v.blocks) c.self.view_is) c.requires.block)

pub insert-requires-2-clause-within : goal.insert-requires-2-clause-within
insert-requires-2-clause-within g c =
    behind-within c.self.inside.blocks.items c.args.k c.move_half.new.block (place-within (λ b. b.items) (λ b. vec_capacity b) c.self.inside.blocks.items _ c.args.k (ap (λ v. v.blocks) c.self.view_is) c.requires.block)

pub insert-requires-2-clause-room : goal.insert-requires-2-clause-room
insert-requires-2-clause-room g c =
    let rooms = c.self.invariant.1 in omega (arith, ap (λ v. v.spares) c.self.view_is, length-set c.self.inside.blocks.items c.args.k c.move_half.new.block)

pub returns-clause-spares : goal.returns-clause-spares
returns-clause-spares g c = c.take_spare-behind.ensures.len ∙ ap (λ v. v.spares) c.self.view_is

pub get-start-requires : goal.get-start-requires
get-start-requires g c = omega (arith, starts-count (λ b. b.items) (λ b. vec_capacity b) _ _ _ _ c.self.invariant.0, place-within (λ b. b.items) (λ b. vec_capacity b) c.self.inside.blocks.items _ c.args.k (ap (λ v. v.blocks) c.self.view_is) c.requires.block)

pub overflow_add-start : goal.overflow_add-start
overflow_add-start g c =
    let all : list_all is_block c.args.self.now.blocks ≡ true =
    ap (λ v. list_all is_block v.blocks) (sym c.self.view_is) ∙ kept-blocks (λ b. b.items) (λ b. vec_capacity b) c.self.inside.blocks.items c.self.invariant.0.kept in
    let few = c.self.invariant.1.few in
    omega (
      arith,
      start-is (λ b. b.items) (λ b. vec_capacity b) _ _ _ _ c.self.invariant.0 c.args.self.now.blocks c.args.k c.get-start.result (ap (λ v. v.blocks) c.self.view_is) c.requires.block c.get-start.ensures,
      start_of-le c.args.self.now.blocks c.args.k (length c.args.self.now.blocks) (omega arith),
      start_of-all c.args.self.now.blocks,
      joined-most c.args.self.now.blocks all,
      ap (λ v. length v.blocks) (sym c.self.view_is),
      length-map c.self.inside.blocks.items (λ b. b.items),
    )

pub insert-requires-clause-within : goal.insert-requires-clause-within
insert-requires-clause-within g c = omega (arith, starts-count (λ b. b.items) (λ b. vec_capacity b) _ _ _ _ c.self.invariant.0, place-within (λ b. b.items) (λ b. vec_capacity b) c.self.inside.blocks.items _ c.args.k (ap (λ v. v.blocks) c.self.view_is) c.requires.block)

pub insert-requires-clause-room : goal.insert-requires-clause-room
insert-requires-clause-room g c = let rooms = c.self.invariant.1 in omega (arith, ap (λ v. v.spares) c.self.view_is, starts-count (λ b. b.items) (λ b. vec_capacity b) _ _ _ _ c.self.invariant.0)

pub returns-clause-blocks : goal.returns-clause-blocks
returns-clause-blocks g c =
    ap (map (λ b. b.items)) c.insert-2.ensures.items ∙ map-insert (λ b. b.items) _ (c.args.k + 1) c.move_half.new.behind
    ∙ ap₂ (λ us v. insert us (c.args.k + 1) v) (edited (λ b. b.items) (λ b. vec_capacity b) c.self.inside.blocks.items c.self.inside.starts.items c.self.inside.lasts.items c.self.inside.spares.items c.self.invariant.0 c.args.self.now.blocks (ap (λ v. v.blocks) c.self.view_is) c.args.k c.requires.block c.get_mut-block.result.now c.get_mut-block.ensures.member (take 64) c.move_half.new.block c.move_half.ensures.front)
    (c.move_half.ensures.back ∙ ap (drop 64) (old-list (λ b. b.items) (λ b. vec_capacity b) c.self.inside.blocks.items c.self.inside.starts.items c.self.inside.lasts.items c.self.inside.spares.items c.self.invariant.0 c.args.self.now.blocks (ap (λ v. v.blocks) c.self.view_is) c.args.k c.requires.block c.get_mut-block.result.now c.get_mut-block.ensures.member))

pub change-requires-clause-counted : goal.change-requires-clause-counted
change-requires-clause-counted g c = omega (arith, c.requires.full, counted-part c.args.self.now.blocks c.args.k c.self.inside.counts.total c.self.inside.counts.owed (counted-same _ _ _ _ (ap (λ v. v.blocks) c.self.view_is) c.self.invariant.2) c.requires.block)

pub change-requires-clause-owing : goal.change-requires-clause-owing
change-requires-clause-owing g c = omega (arith, c.requires.full, owed-part c.args.self.now.blocks c.args.k c.self.inside.counts.total c.self.inside.counts.owed (counted-same _ _ _ _ (ap (λ v. v.blocks) c.self.view_is) c.self.invariant.2) c.requires.block)

pub change-requires-clause-fits : goal.change-requires-clause-fits
change-requires-clause-fits g c = omega (arith, counted-small (λ b. b.items) (λ b. vec_capacity b) _ _ _ c.self.invariant.0.kept (let few = c.self.invariant.1.few in omega arith) c.self.invariant.2)

pub change-requires-clause-owed_fits : goal.change-requires-clause-owed_fits
change-requires-clause-owed_fits g c = omega (arith, owed-small (λ b. b.items) (λ b. vec_capacity b) _ _ _ c.self.invariant.0.kept (let few = c.self.invariant.1.few in omega arith) c.self.invariant.2)

pub change-requires-2-clause-fits : goal.change-requires-2-clause-fits
change-requires-2-clause-fits g c = omega (arith, c.change.ensures.total, counted-small (λ b. b.items) (λ b. vec_capacity b) _ _ _ c.self.invariant.0.kept (let few = c.self.invariant.1.few in omega arith) c.self.invariant.2)

pub change-requires-2-clause-owed_fits : goal.change-requires-2-clause-owed_fits
change-requires-2-clause-owed_fits g c = omega (arith, c.change.ensures.owed, owed-small (λ b. b.items) (λ b. vec_capacity b) _ _ _ c.self.invariant.0.kept (let few = c.self.invariant.1.few in omega arith) c.self.invariant.2)

pub invariant_of-self : goal.invariant_of-self
invariant_of-self g c =
    let same = length-set c.self.inside.blocks.items c.args.k c.move_half.new.block in
    let within = place-within (λ b. b.items) (λ b. vec_capacity b) c.self.inside.blocks.items _ c.args.k (ap (λ v. v.blocks) c.self.view_is) c.requires.block in
    let more = ap length c.insert-2.ensures.items ∙ length-insert (set c.self.inside.blocks.items c.args.k c.move_half.new.block) (c.args.k + 1) c.move_half.new.behind (behind-within c.self.inside.blocks.items c.args.k c.move_half.new.block within) in (
      halved (λ b. b.items) (λ b. vec_capacity b) c.self.inside.blocks.items c.self.inside.starts.items c.self.inside.lasts.items c.self.inside.spares.items c.self.invariant.0 c.args.self.now.blocks (ap (λ v. v.blocks) c.self.view_is) c.args.k c.requires.block c.get_mut-block.result.now c.get_mut-block.ensures.member c.move_half.new.block c.move_half.new.behind c.deref.result.now c.get-start.result _ _ _ _ c.requires.full
          c.move_half.ensures.front c.move_half.ensures.back c.move_half.ensures.capacity (subst (λ n. 128 ≤ n) (sym c.move_half.ensures.back_capacity) c.take_spare-behind.ensures.room)
          c.deref.ensures.value c.get-start.ensures c.insert-2.ensures.items c.insert.ensures.items c.insert_last.ensures.lasts c.take_spare-behind.ensures.spare,
      rooms-more _ _ _ _ _ _ _ _ _ _ _ _ c.self.invariant.1 (more ∙ ap (λ n. n + 1) same) c.take_spare-behind.ensures.len c.insert-2.ensures.room c.insert.ensures.room c.insert_last.ensures.room c.take_spare-behind.ensures.capacity,
      counted-insert (set c.args.self.now.blocks c.args.k (take 64 (block_at c.args.k c.args.self.now.blocks))) _ (c.args.k + 1) (drop 64 (block_at c.args.k c.args.self.now.blocks)) 64 c.change.new.self.total c.change.new.self.owed _ _
          (counted-edit c.args.self.now.blocks _ c.args.k (take 64 (block_at c.args.k c.args.self.now.blocks)) 128 64 c.self.inside.counts.total c.self.inside.counts.owed _ _ (counted-same _ _ _ _ (ap (λ v. v.blocks) c.self.view_is) c.self.invariant.2) c.requires.block refl
          (sym c.requires.full) (sym (half-front (block_at c.args.k c.args.self.now.blocks) c.requires.full)) c.change.ensures.total c.change.ensures.owed)
          (returns-clause-blocks g c) (sym (half-back (block_at c.args.k c.args.self.now.blocks) c.requires.full)) c.change-2.ensures.total c.change-2.ensures.owed,
    )
